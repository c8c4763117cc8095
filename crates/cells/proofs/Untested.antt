-- An entry of a record that is in range, said without the range test: so a run that tests once may leave it out. Assumes nothing.
use Rattle.std.specs.Prelude.{Ok, Err}
use Prim.Native.Nat.{ℕ, ◌≤◌, min}
use mathlib.Core.Path.{◌≡◌, sym, ap, ◌∙◌}
use mathlib.Core.Bool.{true}
use mathlib.Core.List.{List}
use native.Mathlib.Omega.{arith}
use Rattle.steps.specs.Table.{answer_of}
use Rattle.tables.specs.Tables.{task_in}
use Rattle.entries.specs.Entry.{entry_of}
use Rattle.entries.specs.Order.{order_of}
use Rattle.cells.specs.Types.{Machine, Deed, Effect, Entry, Refusal}
use Rattle.cells.specs.Machine.{seen_of, placed, left_by, refused_by, carried_of, in_range}
use Rattle.cells.specs.Apply.{judged_of, decision_of, apply_of}
use Rattle.cells.proofs.Decide.{few_in_range, order_same, order_does, left_placed}

module _ (m : Machine) (ok : in_range m ≡ true) where
  -- bytes that are no entry
  pub unread_applied : (x : List ℕ) (y : Refusal) → entry_of x ≡ Err y → apply_of m x ≡ refused_by m 0 y
  unfolding apply_of decision_of judged_of carried_of
  unread_applied x y h = rw (ok, h)

  -- an entry e: what is ordered
  module _ (e : Entry) where
    abbrev pub ordered : Effect
    ordered = order_of m.n m.p e (task_in m.tasks (placed e.task)) (seen_of m (task_in m.tasks (placed e.task)))

    -- if it is accepted, e has such a task
    small : (d : Deed) → ordered ≡ Ok d → e.task.0 ≤ 15
    small d h = let below = order_does m.n m.p e (task_in m.tasks (placed e.task)) (seen_of m (task_in m.tasks (placed e.task))) d h in let few = few_in_range m ok in omega (arith, below, few)

    pub its_own : (d : Deed) → ordered ≡ Ok d → min e.task.0 15 ≡ e.task.0
    its_own d h = let fits = small d h in omega arith

    -- it is carried out
    pub order_applied : (x : List ℕ) → entry_of x ≡ Ok e → apply_of m x ≡ record { machine = left_by m (placed e.task) ordered; answer = answer_of ordered; task = e.task.0 }
    unfolding apply_of decision_of judged_of carried_of
    order_applied x h =
        rw (ok, h)
        (ap (carried_of m e.task) (sym (order_same m e (task_in m.tasks (placed e.task)) (few_in_range m ok) (λ i. task_in m.tasks (placed e.task))))
        ∙ ap (λ (z : Machine). record { machine = z; answer = answer_of ordered; task = e.task.0 }) (sym (left_placed m e.task ordered small)))
