-- Any two results that a public function's contract allows are equal, and so is what a lent place holds when the function returns. Assumes nothing.
use Rattle.std.specs.Prelude.{Option}
use mathlib.Core.Path.{◌≡◌, refl, sym, ◌∙◌}
use mathlib.Core.List.{List}
use seplogic.Ra.Ura.{Ura}
use prog.Memory.{Memory}
use prog.Routine.{Routine}
use base.Logic.{SProp}
use types.Logic.{Logic}
use contract.Monad.{Fun}
use contract.Lifetimes.{Lfts}
use contract.Notation.{connectives}
use denote.Triple.Entry.{Args, Res}
use denote.Triple.Clauses.{Lasts, at_exit}
use Rattle.contracts.specs.One.{One}
use Rattle.tasks.specs.Types.{NodeNo, Task, Call}
use Rattle.tasks.specs.Calls.{begun_of}
use Rattle.tasks.specs.Holders.{holders_of}
use Rattle.tasks.specs.contracts.begin as begin
use Rattle.tasks.specs.contracts.holders as holders
use Rattle.tasks.proofs.idle_owning.Kinds as idle-owning·k
use Rattle.tasks.proofs.idle_owning.Reads as idle-owning
use Rattle.tasks.proofs.Task.onward.Kinds as onward·k
use Rattle.tasks.proofs.Task.onward.Reads as onward
use Rattle.tasks.proofs.Task.holding.Kinds as holding·k
use Rattle.tasks.proofs.Task.holding.Reads as holding
use Rattle.tasks.proofs.Task.owning.Kinds as owning·k
use Rattle.tasks.proofs.Task.owning.Reads as owning
use Rattle.tasks.proofs.Task.probing.Kinds as probing·k
use Rattle.tasks.proofs.Task.probing.Reads as probing
use Rattle.tasks.proofs.Task.copied.Kinds as copied·k
use Rattle.tasks.proofs.Task.copied.Reads as copied
use Rattle.tasks.proofs.Task.in_range.Kinds as in-range·k
use Rattle.tasks.proofs.Task.in_range.Reads as in-range
use Rattle.tasks.proofs.begun.Kinds as begun·k
use Rattle.tasks.proofs.begun.Reads as begun
use Rattle.tasks.proofs.lent_begin.Kinds as lent-begin·k
use Rattle.tasks.proofs.lent_begin.Reads as lent-begin
use Rattle.tasks.proofs.holds_one.Kinds as holds-one·k
use Rattle.tasks.proofs.holds_one.Reads as holds-one
use Rattle.tasks.proofs.beyond.Kinds as beyond·k
use Rattle.tasks.proofs.beyond.Reads as beyond
use Rattle.tasks.proofs.held_among.Kinds as held-among·k
use Rattle.tasks.proofs.held_among.Reads as held-among
use Rattle.tasks.proofs.holders_number.Kinds as holders-number·k
use Rattle.tasks.proofs.holders_number.Reads as holders-number
use Rattle.tasks.proofs.holders_value.Kinds as holders-value·k
use Rattle.tasks.proofs.holders_value.Reads as holders-value
use Rattle.std.specs.Prelude.{ℕ}

pub idle_owning_one : One idle-owning·k.ps idle-owning·k.r idle-owning.Pre idle-owning.Post
idle_owning_one κs a z z' ws ws' p q q' = (q ∙ sym q', refl)

pub onward_one : One onward·k.ps onward·k.r onward.Pre onward.Post
onward_one κs a z z' ws ws' p q q' = (q ∙ sym q', refl)

pub holding_one : One holding·k.ps holding·k.r holding.Pre holding.Post
holding_one κs a z z' ws ws' p q q' = (q ∙ sym q', refl)

pub owning_one : One owning·k.ps owning·k.r owning.Pre owning.Post
owning_one κs a z z' ws ws' p q q' = (q ∙ sym q', refl)

pub probing_one : One probing·k.ps probing·k.r probing.Pre probing.Post
probing_one κs a z z' ws ws' p q q' = (q ∙ sym q', refl)

pub copied_one : One copied·k.ps copied·k.r copied.Pre copied.Post
copied_one κs a z z' ws ws' p q q' = (q ∙ sym q', refl)

pub in_range_one : One in-range·k.ps in-range·k.r in-range.Pre in-range.Post
in_range_one κs a z z' ws ws' p q q' = (q ∙ sym q', refl)

pub begun_one : One begun·k.ps begun·k.r begun.Pre begun.Post
begun_one κs a z z' ws ws' p q q' = (q ∙ sym q', refl)

pub lent_begin_one : One lent-begin·k.ps lent-begin·k.r lent-begin.Pre lent-begin.Post
lent_begin_one κs a z z' ws ws' p q q' = (q ∙ sym q', refl)

pub holds_one_one : One holds-one·k.ps holds-one·k.r holds-one.Pre holds-one.Post
holds_one_one κs a z z' ws ws' p q q' = (q ∙ sym q', refl)

pub beyond_one : One beyond·k.ps beyond·k.r beyond.Pre beyond.Post
beyond_one κs a z z' ws ws' p q q' = (q ∙ sym q', refl)

pub held_among_one : One held-among·k.ps held-among·k.r held-among.Pre held-among.Post
held_among_one κs a z z' ws ws' p q q' = (q ∙ sym q', refl)

pub holders_number_one : One holders-number·k.ps holders-number·k.r holders-number.Pre holders-number.Post
holders_number_one κs a z z' ws ws' p q q' = (q ∙ sym q', refl)

pub holders_value_one : One holders-value·k.ps holders-value·k.r holders-value.Pre holders-value.Post
holders_value_one κs a z z' ws ws' p q q' = (q ∙ sym q', refl)

-- `begin` and `holders`, by the clause as the source has it: NAME_says ties a fact to that clause, and NAME_one is about the fact.
-- what the lent record is when `begin` returns
abbrev pub Began : Task → Call → Task → Type 0
Began t c u = u ≡ begun_of t c

-- what `holders` answers
abbrev pub Answered : List Task → NodeNo → Option ℕ → Type 0
Answered ts v r = r ≡ holders_of ts v

module _ {M : Type 1} {𝓤 : Ura M} (𝓛 : Logic 𝓤) (mem : Memory → SProp 𝓤) (run : Routine → Fun 𝓤) (κs : Lfts 1) where
  module _ (a : Args begin.signature κs) where
    pub begin_says : (r : Res begin.signature κs) (ws : Lasts begin.ended κs a)
        → (begin.clauses 𝓛 mem run κs a).ensures tt r (at_exit begin.ended κs a ws) ≡ (connectives 𝓤).⌜◌⌝ (Began a.0.now a.1.0 ws.0)
    begin_says r ws = refl

    pub begin_one : (r r' : Res begin.signature κs) (ws ws' : Lasts begin.ended κs a)
        → Began a.0.now a.1.0 ws.0 → Began a.0.now a.1.0 ws'.0 → (r ≡ r') × (ws ≡ ws')
    begin_one r r' ws ws' q q' = (refl, λ i. ((q ∙ sym q') i, ws.1))

  module _ (a : Args holders.signature κs) where
    pub holders_says : (r : Res holders.signature κs) (ws : Lasts holders.ended κs a)
        → (holders.clauses 𝓛 mem run κs a).ensures tt r (at_exit holders.ended κs a ws) ≡ (connectives 𝓤).⌜◌⌝ (Answered a.0.now a.1.0 r)
    holders_says r ws = refl

    pub holders_one : (r r' : Res holders.signature κs) (ws ws' : Lasts holders.ended κs a)
        → Answered a.0.now a.1.0 r → Answered a.0.now a.1.0 r' → (r ≡ r') × (ws ≡ ws')
    holders_one r r' ws ws' q q' = (q ∙ sym q', refl)
