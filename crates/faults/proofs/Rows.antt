-- A bench by rows has no fault of its own: by the true rows it is the true one, on every record and all bytes. Assumes nothing.
use Rattle.std.specs.Prelude.{Result, Ok, Err}
use Prim.Native.Nat.{ℕ}
use mathlib.Core.Path.{◌≡◌, refl, sym, ◌∙◌}
use mathlib.Core.Bool.{true}
use mathlib.Core.List.{List}
use lib.Dec.{eqb, ltb}
use lib.ListN.{get_or-map}
use borrow.Author.Tests.{lt-leb, ltb-true, eqb-true, not-true}
use Rattle.tallies.proofs.Lists.{both, by_test}
use Rattle.steps.specs.Table.{rows, no_phase, effect_of}
use Rattle.entries.specs.declared.Entry.{Entry}
use Rattle.entries.specs.Entry.{entry_of, nonzero, outside}
use Rattle.entries.specs.Order.{call_of, order_of}
use Rattle.tables.specs.Tables.{task_in}
use Rattle.cells.specs.declared.Machine.{Machine}
use Rattle.cells.specs.declared.Applied.{Applied}
use Rattle.cells.specs.Machine.{seen_of, carried_of, in_range}
use Rattle.cells.specs.Apply.{judged_of, decision_of, apply_of}
use Rattle.faults.specs.Benches.{as_written, table, step_by, goes, read_by, apply_by}
use Rattle.answers.specs.declared.Refusal.{Refusal}

-- what the order of refusals makes of an entry
abbrev obeyed : Machine → Entry → Applied
obeyed m e = let t = task_in m.tasks e.task in carried_of m e.task (order_of m.n m.p e t (seen_of m t))

-- a go by the true rows is that
step_own : (m : Machine) (e : Entry) → goes m e ≡ true → step_by table m e ≡ obeyed m e
unfolding table order_of call_of effect_of outside
step_own m e h =
    let h₁ = both (ltb e.task.0 m.p) _ h in
    let h₂ = both (eqb e.kind 0) _ h₁.1 in
    rw (
      lt-leb m.p e.task.0 (ltb-true _ _ h₁.0),
      not-true (nonzero e) h₂.1,
      eqb-true e.kind 0 h₂.0,
      get_or-map as_written rows (task_in m.tasks e.task).phase no_phase,
    )

-- bytes that are read as an entry, on a record in range
whole : (m : Machine) (s : List ℕ) (e : Entry) → in_range m ≡ true → entry_of s ≡ Ok e → apply_of m s ≡ obeyed m e
unfolding apply_of decision_of judged_of
whole m s e h k = rw (h, k)

read_own : (m : Machine) (s : List ℕ) (r : Result Entry Refusal) → in_range m ≡ true → entry_of s ≡ r → read_by table m s r ≡ apply_of m s
read_own m s (Err r) h k = refl
read_own m s (Ok e) h k = by_test (λ a. a ≡ apply_of m s) (goes m e) _ _ (λ g. step_own m e g ∙ sym (whole m s e h k)) (λ g. refl)

pub own-rows : (m : Machine) (s : List ℕ) → apply_by table m s ≡ apply_of m s
unfolding apply_by
own-rows m s = by_test (λ a. a ≡ apply_of m s) (in_range m) _ _ (λ h. read_own m s (entry_of s) h refl) (λ h. refl)
