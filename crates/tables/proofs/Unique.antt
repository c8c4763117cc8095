-- Any two results that a public function's contract allows are equal, and so is what a lent place holds when the function returns. Assumes nothing.
use mathlib.Core.Path.{refl, sym, ◌∙◌}
use Rattle.contracts.specs.One.{One}
use Rattle.tables.proofs.node_at.Kinds as node-at·k
use Rattle.tables.proofs.node_at.Reads as node-at
use Rattle.tables.proofs.count_at.Kinds as count-at·k
use Rattle.tables.proofs.count_at.Reads as count-at
use Rattle.tables.proofs.value_at.Kinds as value-at·k
use Rattle.tables.proofs.value_at.Reads as value-at
use Rattle.tables.proofs.task_at.Kinds as task-at·k
use Rattle.tables.proofs.task_at.Reads as task-at
use Rattle.tables.proofs.put_node.Kinds as put-node·k
use Rattle.tables.proofs.put_node.Reads as put-node
use Rattle.tables.proofs.put_count.Kinds as put-count·k
use Rattle.tables.proofs.put_count.Reads as put-count
use Rattle.tables.proofs.put_value.Kinds as put-value·k
use Rattle.tables.proofs.put_value.Reads as put-value
use Rattle.tables.proofs.slot.Kinds as slot·k
use Rattle.tables.proofs.slot.Reads as slot
use Rattle.tables.proofs.sizes_ok.Kinds as sizes-ok·k
use Rattle.tables.proofs.sizes_ok.Reads as sizes-ok
use Rattle.tables.proofs.cells_ok.Kinds as cells-ok·k
use Rattle.tables.proofs.cells_ok.Reads as cells-ok
use Rattle.tables.proofs.counts_ok.Kinds as counts-ok·k
use Rattle.tables.proofs.counts_ok.Reads as counts-ok
use Rattle.tables.proofs.tasks_ok.Kinds as tasks-ok·k
use Rattle.tables.proofs.tasks_ok.Reads as tasks-ok
use Rattle.tables.proofs.point_cells.Kinds as point-cells·k
use Rattle.tables.proofs.point_cells.Reads as point-cells
use Rattle.tables.proofs.give_values.Kinds as give-values·k
use Rattle.tables.proofs.give_values.Reads as give-values
use Rattle.tables.proofs.count_ones.Kinds as count-ones·k
use Rattle.tables.proofs.count_ones.Reads as count-ones

pub node_at_one : One node-at·k.ps node-at·k.r node-at.Pre node-at.Post
node_at_one κs a z z' ws ws' p q q' = (q ∙ sym q', refl)

pub count_at_one : One count-at·k.ps count-at·k.r count-at.Pre count-at.Post
count_at_one κs a z z' ws ws' p q q' = (q ∙ sym q', refl)

pub value_at_one : One value-at·k.ps value-at·k.r value-at.Pre value-at.Post
value_at_one κs a z z' ws ws' p q q' = (q ∙ sym q', refl)

pub task_at_one : One task-at·k.ps task-at·k.r task-at.Pre task-at.Post
task_at_one κs a z z' ws ws' p q q' = (q ∙ sym q', refl)

pub put_node_one : One put-node·k.ps put-node·k.r put-node.Pre put-node.Post
put_node_one κs a z z' ws ws' p q q' = (refl, λ i. ((q ∙ sym q') i, ws.1))

pub put_count_one : One put-count·k.ps put-count·k.r put-count.Pre put-count.Post
put_count_one κs a z z' ws ws' p q q' = (refl, λ i. ((q ∙ sym q') i, ws.1))

pub put_value_one : One put-value·k.ps put-value·k.r put-value.Pre put-value.Post
put_value_one κs a z z' ws ws' p q q' = (refl, λ i. ((q ∙ sym q') i, ws.1))

pub slot_one : One slot·k.ps slot·k.r slot.Pre slot.Post
slot_one κs a z z' ws ws' p q q' = (q ∙ sym q', refl)

pub sizes_ok_one : One sizes-ok·k.ps sizes-ok·k.r sizes-ok.Pre sizes-ok.Post
sizes_ok_one κs a z z' ws ws' p q q' = (q ∙ sym q', refl)

pub cells_ok_one : One cells-ok·k.ps cells-ok·k.r cells-ok.Pre cells-ok.Post
cells_ok_one κs a z z' ws ws' p q q' = (q ∙ sym q', refl)

pub counts_ok_one : One counts-ok·k.ps counts-ok·k.r counts-ok.Pre counts-ok.Post
counts_ok_one κs a z z' ws ws' p q q' = (q ∙ sym q', refl)

pub tasks_ok_one : One tasks-ok·k.ps tasks-ok·k.r tasks-ok.Pre tasks-ok.Post
tasks_ok_one κs a z z' ws ws' p q q' = (q ∙ sym q', refl)

pub point_cells_one : One point-cells·k.ps point-cells·k.r point-cells.Pre point-cells.Post
point_cells_one κs a z z' ws ws' p q q' = (refl, λ i. ((q ∙ sym q') i, ws.1))

pub give_values_one : One give-values·k.ps give-values·k.r give-values.Pre give-values.Post
give_values_one κs a z z' ws ws' p q q' = (refl, λ i. ((q ∙ sym q') i, ws.1))

pub count_ones_one : One count-ones·k.ps count-ones·k.r count-ones.Pre count-ones.Post
count_ones_one κs a z z' ws ws' p q q' = (refl, λ i. ((q ∙ sym q') i, ws.1))
