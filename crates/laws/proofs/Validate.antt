-- A validate's step is answered as figure 1 and source 004 have it: the record matches the sets, and on the sets the two agree. Assumes nothing.
use Rattle.std.specs.Prelude.{Ok}
use Prim.Native.Nat.{ℕ, suc}
use native.Mathlib.Omega.{arith}
use mathlib.Core.Path.{◌≡◌, refl, sym, ap, subst, ◌∙◌}
use mathlib.Core.Bool.{true, false≢true}
use mathlib.Core.List.{List}
use lib.Dec.{eqb}
use lib.ListN.{get_or}
use borrow.Author.Tests.{eq-eqb, ne_eqb, eqb-true, eqb-false}
use Rattle.tallies.proofs.Lists.{by_test}
use Rattle.tables.specs.Tables.{value_given}
use Rattle.steps.specs.Table.{rows, answer_of}
use Rattle.steps.proofs.Rows.{effect_at}
use Rattle.cells.specs.Machine.{seen_of}
use Rattle.cells.specs.Apply.{apply_of}
use Rattle.cells.specs.Setup.{setup_of}
use Rattle.runs.specs.Counts.{accepted, kind_of, task_of}
use Rattle.figure1.specs.Histories.{State, Event, after_all, start}
use Rattle.figure1.specs.Engine.{history}
use Rattle.figure1.proofs.Validate.{in_set_lem, unwritten_in}
use Rattle.laws.specs.Types.{Answer, Task, Machine, Deed}
use Rattle.laws.specs.Outcomes.{Asks, Steps}
use Rattle.laws.specs.Schedules.{applied}
use Rattle.laws.specs.Validate.{Validated, good, gone}
use Rattle.laws.proofs.Entries.{by_entry}
use Rattle.laws.proofs.Start.{setup_kept}
use Rattle.laws.proofs.Reached.{schedule-keeps}
use Rattle.laws.proofs.Engine.{pool, matches}

module _ (s : List ℕ) (used : ℕ) (ok : (setup_of s).answer ≡ Ok used) (es : List (List ℕ)) (e : List ℕ) where
  abbrev m : Machine
  m = applied (setup_of s).machine es

  abbrev t : Task
  t = task_of m e

  abbrev x : ℕ
  x = t.cell.0

  -- the node that x points at, and the one that the task holds
  abbrev here : ℕ
  here = get_or m.cells x 0

  abbrev held : ℕ
  held = t.held.0

  abbrev first : State
  first = start (value_given s)

  abbrev past : List Event
  past = history pool (setup_of s).machine es

  abbrev Told : Answer → Type 0
  Told = Validated x (get_or e 2 0) first past

  module _ (a : Asks m e 0 15) where
    -- the task is in S of its cell where the cell is at the node that it holds
    member : (after_all first past).cells.member x (get_or e 2 0) ≡ eqb here held
    member =
        let hx = ((schedule-keeps es (setup_of s).machine (setup_kept s used ok)).sound.each (get_or e 2 0) a.task).cell in
        sym ((matches s used ok es).sets x (get_or e 2 0) hx a.task) ∙ rw (a.phase, eq-eqb x x refl)

    row : (d : Deed) → Steps m e d → Told (Ok d.reply)
    unfolding rows
    row d w = subst Told (ap answer_of (sym (effect_at t (seen_of m t) 15 a.phase) ∙ w.does))
        (by_test (λ y. Told (answer_of y)) (eqb held here) _ _
        (λ q. let inside = member ∙ eq-eqb here held (sym (eqb-true held here q)) in good inside (in_set_lem x (get_or e 2 0) (value_given s) past inside))
        (λ q. let outside = member ∙ ne_eqb here held (λ k. eqb-false held here q (sym k)) in
        gone outside (λ u. false≢true (sym outside ∙ unwritten_in x (get_or e 2 0) first past u))))

  pub validate_tells : accepted (apply_of m e).answer ≡ true → Asks m e 0 15 → Told (apply_of m e).answer
  validate_tells =
      by_entry m e (λ b. accepted b.answer ≡ true → Asks m e 0 15 → Told b.answer) (λ i r w h. absurd (false≢true h))
      (λ b l h a. other 0 b.kind a) (λ b l h a. other 1 b.kind a) (λ b h a. other 1 b.kind a) (λ b h a. other 2 b.kind a) (λ b h a. other 3 b.kind a)
      (λ d w h a. row a d w)
    where
      other : {A : Type 0} (k : ℕ) → kind_of e ≡ suc k → Asks m e 0 15 → A
      other k q a = absurd (omega (arith, q, a.kind))
