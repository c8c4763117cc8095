-- Any two results that a public function's contract allows are equal. Assumes nothing.
use mathlib.Core.Path.{refl, sym, ◌∙◌}
use Rattle.contracts.specs.One.{One}
use Rattle.steps.proofs.next_node.Kinds as next-node·k
use Rattle.steps.proofs.next_node.Reads as next-node
use Rattle.steps.proofs.raised.Kinds as raised·k
use Rattle.steps.proofs.raised.Reads as raised
use Rattle.steps.proofs.lowered.Kinds as lowered·k
use Rattle.steps.proofs.lowered.Reads as lowered
use Rattle.steps.proofs.l1_step.Kinds as l1-step·k
use Rattle.steps.proofs.l1_step.Reads as l1-step
use Rattle.steps.proofs.l2_step.Kinds as l2-step·k
use Rattle.steps.proofs.l2_step.Reads as l2-step
use Rattle.steps.proofs.l3_step.Kinds as l3-step·k
use Rattle.steps.proofs.l3_step.Reads as l3-step
use Rattle.steps.proofs.l4_step.Kinds as l4-step·k
use Rattle.steps.proofs.l4_step.Reads as l4-step
use Rattle.steps.proofs.l5_step.Kinds as l5-step·k
use Rattle.steps.proofs.l5_step.Reads as l5-step
use Rattle.steps.proofs.s1_step.Kinds as s1-step·k
use Rattle.steps.proofs.s1_step.Reads as s1-step
use Rattle.steps.proofs.s2_step.Kinds as s2-step·k
use Rattle.steps.proofs.s2_step.Reads as s2-step
use Rattle.steps.proofs.s3_step.Kinds as s3-step·k
use Rattle.steps.proofs.s3_step.Reads as s3-step
use Rattle.steps.proofs.s5_step.Kinds as s5-step·k
use Rattle.steps.proofs.s5_step.Reads as s5-step
use Rattle.steps.proofs.s6_step.Kinds as s6-step·k
use Rattle.steps.proofs.s6_step.Reads as s6-step
use Rattle.steps.proofs.s7_step.Kinds as s7-step·k
use Rattle.steps.proofs.s7_step.Reads as s7-step
use Rattle.steps.proofs.r1_step.Kinds as r1-step·k
use Rattle.steps.proofs.r1_step.Reads as r1-step
use Rattle.steps.proofs.v1_step.Kinds as v1-step·k
use Rattle.steps.proofs.v1_step.Reads as v1-step
use Rattle.steps.proofs.step.Kinds as step·k
use Rattle.steps.proofs.step.Reads as step

pub next_node_one : One next-node·k.ps next-node·k.r next-node.Pre next-node.Post
next_node_one κs a z z' ws ws' p q q' = (q ∙ sym q', refl)

pub raised_one : One raised·k.ps raised·k.r raised.Pre raised.Post
raised_one κs a z z' ws ws' p q q' = (q ∙ sym q', refl)

pub lowered_one : One lowered·k.ps lowered·k.r lowered.Pre lowered.Post
lowered_one κs a z z' ws ws' p q q' = (q ∙ sym q', refl)

pub l1_step_one : One l1-step·k.ps l1-step·k.r l1-step.Pre l1-step.Post
l1_step_one κs a z z' ws ws' p q q' = (q ∙ sym q', refl)

pub l2_step_one : One l2-step·k.ps l2-step·k.r l2-step.Pre l2-step.Post
l2_step_one κs a z z' ws ws' p q q' = (q ∙ sym q', refl)

pub l3_step_one : One l3-step·k.ps l3-step·k.r l3-step.Pre l3-step.Post
l3_step_one κs a z z' ws ws' p q q' = (q ∙ sym q', refl)

pub l4_step_one : One l4-step·k.ps l4-step·k.r l4-step.Pre l4-step.Post
l4_step_one κs a z z' ws ws' p q q' = (q ∙ sym q', refl)

pub l5_step_one : One l5-step·k.ps l5-step·k.r l5-step.Pre l5-step.Post
l5_step_one κs a z z' ws ws' p q q' = (q ∙ sym q', refl)

pub s1_step_one : One s1-step·k.ps s1-step·k.r s1-step.Pre s1-step.Post
s1_step_one κs a z z' ws ws' p q q' = (q ∙ sym q', refl)

pub s2_step_one : One s2-step·k.ps s2-step·k.r s2-step.Pre s2-step.Post
s2_step_one κs a z z' ws ws' p q q' = (q ∙ sym q', refl)

pub s3_step_one : One s3-step·k.ps s3-step·k.r s3-step.Pre s3-step.Post
s3_step_one κs a z z' ws ws' p q q' = (q ∙ sym q', refl)

pub s5_step_one : One s5-step·k.ps s5-step·k.r s5-step.Pre s5-step.Post
s5_step_one κs a z z' ws ws' p q q' = (q ∙ sym q', refl)

pub s6_step_one : One s6-step·k.ps s6-step·k.r s6-step.Pre s6-step.Post
s6_step_one κs a z z' ws ws' p q q' = (q ∙ sym q', refl)

pub s7_step_one : One s7-step·k.ps s7-step·k.r s7-step.Pre s7-step.Post
s7_step_one κs a z z' ws ws' p q q' = (q ∙ sym q', refl)

pub r1_step_one : One r1-step·k.ps r1-step·k.r r1-step.Pre r1-step.Post
r1_step_one κs a z z' ws ws' p q q' = (q ∙ sym q', refl)

pub v1_step_one : One v1-step·k.ps v1-step·k.r v1-step.Pre v1-step.Post
v1_step_one κs a z z' ws ws' p q q' = (q ∙ sym q', refl)

pub step_one : One step·k.ps step·k.r step.Pre step.Post
step_one κs a z z' ws ws' p q q' = (q ∙ sym q', refl)
