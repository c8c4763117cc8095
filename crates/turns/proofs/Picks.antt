-- An arm of `row` asks the row that the table has for its phase; what an entry is found to ask, done, is what it comes to. Assumes nothing.
use Rattle.std.specs.Prelude.{Result}
use Prim.Native.Nat.{ℕ}
use mathlib.Core.Path.{◌≡◌, sym, ap, ◌∙◌}
use lib.ListN.{get_or}
use Rattle.steps.specs.declared.Seen.{Seen}
use Rattle.steps.specs.Table.{rows, no_phase, effect_of}
use Rattle.steps.proofs.Rows.{effect_at}
use Rattle.answers.specs.declared.Refusal.{Refusal}
use Rattle.tasks.specs.declared.Task.{Task}
use Rattle.tables.specs.Tables.{task_in}
use Rattle.entries.specs.declared.Asked.{Asked}
use Rattle.entries.specs.Order.{order_of}
use Rattle.entries.specs.Asking.{asked_of, obeyed}
use Rattle.entries.proofs.Asking.{asked_done}
use Rattle.cells.specs.Machine.{seen_of, placed}
use Rattle.turns.specs.Types.{Machine, Entry, Effect}
use Rattle.turns.specs.Turned.{ordered_of}

-- e is what the row of phase f gives for the numbers s that were seen, which are those of o
pub picks : (f : ℕ) (t : Task) (o s : Seen) (e : Effect) → t.phase ≡ f → s ≡ o → e ≡ get_or rows f no_phase t s → e ≡ effect_of t o
picks f t o s e p q r = r ∙ ap (get_or rows f no_phase t) q ∙ sym (effect_at t o f p)

-- t is the record of its task, a is what it asks, and b what that was found to be
module _ (m : Machine) (e : Entry) (t : Task) (here : t ≡ task_in m.tasks (placed e.task)) (a : Result Asked Refusal) (asked : a ≡ asked_of m.n m.p e) (b : Result Asked Refusal) (is : a ≡ b) where
  pub ordered : obeyed b t (seen_of m t) ≡ ordered_of m e
  ordered = asked_done m.n m.p e t (seen_of m t) a asked b is ∙ ap (λ (u : Task). order_of m.n m.p e u (seen_of m u)) here
