-- What a store is answered, by its cell, its task's phase and link; and that one without a link is figure 1's false, at its own entry. Assumes nothing.
use Rattle.std.specs.Prelude.{Ok, Err}
use Prim.Native.Nat.{ℕ, ◌<◌}
use native.Mathlib.Omega.{arith}
use mathlib.Core.Path.{◌≡◌, refl, sym, ◌∙◌}
use mathlib.Core.Bool.{true, false, cond, false≢true}
use mathlib.Core.List.{List, ◌++◌}
use lib.Dec.{leb}
use lib.ListN.{length, get_or}
use borrow.Author.Tests.{le-ltb, lt-leb, leb-true, leb-false, eq-eqb}
use Rattle.tallies.proofs.Lists.{by_test}
use Rattle.wire.specs.Bytes.{word_at}
use Rattle.tasks.specs.Records.{cell_no}
use Rattle.tasks.specs.Phases.{resting}
use Rattle.entries.specs.Entry.{entry_of, nonzero, outside}
use Rattle.entries.specs.Order.{store_of, call_of, order_of}
use Rattle.tables.specs.Tables.{value_given}
use Rattle.cells.specs.Machine.{carried_of}
use Rattle.cells.specs.Apply.{judged_of, decision_of, apply_of}
use Rattle.cells.specs.Setup.{setup_of}
use Rattle.runs.specs.Counts.{kind_of, task_of}
use Rattle.figure1.specs.Figure1.{Cells, store, lost, figure1}
use Rattle.figure1.specs.Histories.{State, Event, after_all, given, start}
use Rattle.figure1.specs.Engine.{history}
use Rattle.figure1.proofs.Lift.{after-append}
use Rattle.laws.specs.Types.{Task, NoCell, Machine}
use Rattle.laws.specs.Kept.{Kept}
use Rattle.laws.specs.Acts.{acts_from, events_of}
use Rattle.laws.specs.Accepts.{Formed, StoreAnswered, no_cell, not_now, unlinked, linked}
use Rattle.laws.specs.Schedules.{applied}
use Rattle.laws.proofs.Entries.{task_no, Unlinked, idle, elsewhere, Loses, lost_by, by_store}
use Rattle.laws.proofs.Ranges.{in_range_lem}
use Rattle.laws.proofs.Start.{setup_kept}
use Rattle.laws.proofs.Reached.{schedule-keeps}
use Rattle.laws.proofs.Follows.{whole, events-whole, no_part}
use Rattle.laws.proofs.Engine.{pool, matches}

-- a task without a link on x is at rest, and not linked to x
rests : (t : Task) (x : ℕ) → Unlinked t x → resting t.phase ≡ true
rests t x (idle q) = rw q
rests t x (elsewhere q n) = rw q

not_there : (t : Task) (x : ℕ) → Unlinked t x → t.phase ≡ 6 → x ≡ t.cell.0 → ⊥
not_there t x (idle q) h k = omega (arith, q, h)
not_there t x (elsewhere q n) h k = n (sym k)

module _ (m : Machine) (K : Kept m) (e : List ℕ) (f : Formed m e) (k : kind_of e ≡ 2) where
  abbrev t : Task
  t = task_of m e

  abbrev cell : ℕ
  cell = get_or e 4 0

  -- no earlier refusal is due
  in_order : apply_of m e ≡ carried_of m (task_no e) (cond (leb m.n cell) (Err NoCell) (store_of t (cell_no cell) (word_at e 6)))
  unfolding apply_of decision_of judged_of order_of call_of entry_of nonzero outside
  in_order = rw (in_range_lem m K, le-ltb (length e) 10 f.whole, f.mark, lt-leb m.p (get_or e 2 0) f.task, k, f.zero)

  pub store-answered : StoreAnswered m e (apply_of m e)
  unfolding carried_of
  store-answered =
      rw in_order (by_test (λ x. StoreAnswered m e (carried_of m (task_no e) x)) (leb m.n cell) _ _ (λ q. no_cell (leb-true _ _ q))
      (λ q. let h = leb-false m.n cell q in by_store m e (StoreAnswered m e) (not_now h) (unlinked h) (linked h)))

  lost_at_once : cell < m.n → Unlinked t cell → apply_of m e ≡ lost_by m e
  lost_at_once h u =
      rw (in_order, lt-leb m.n cell h)
      (by_store m e (λ a. a ≡ lost_by m e) (λ w. absurd (false≢true (sym w ∙ rests t cell u))) (λ v. refl) (λ h c. absurd (not_there t cell u h c)))

-- outside S[x] figure 1 gives false, and the call changes no cell and no set
gives_false : (p x y : ℕ) (c : Cells) → c.member x p ≡ false → (figure1 c p (store x y)).result ≡ lost
gives_false p x y c h = rw h

leaves : (p x y : ℕ) (a : State) → a.cells.member x p ≡ false → (after_all a (whole p x y)).cells ≡ a.cells
leaves p x y a h = rw (eq-eqb p p refl, h) refl

events_are : (m : Machine) (e : List ℕ) → apply_of m e ≡ lost_by m e → kind_of e ≡ 2 → events_of m e ≡ whole (get_or e 2 0) (get_or e 4 0) (word_at e 6)
unfolding events_of
events_are m e q k = rw q (events-whole acts_from m m e k)

-- over every schedule from an accepted setup
module _ (s : List ℕ) (used : ℕ) (ok : (setup_of s).answer ≡ Ok used) (es : List (List ℕ)) (e : List ℕ) where
  abbrev present : Machine
  present = applied (setup_of s).machine es

  abbrev first : State
  first = start (value_given s)

  abbrev past : List Event
  past = history pool (setup_of s).machine es

  pub store-unlinked : Formed present e → Loses present e
      → (apply_of present e ≡ lost_by present e)
      × (events_of present e ≡ whole (get_or e 2 0) (get_or e 4 0) (word_at e 6))
      × ((after_all first past).cells.member (get_or e 4 0) (get_or e 2 0) ≡ false)
      × (given first past (get_or e 2 0) (store (get_or e 4 0) (word_at e 6)) ≡ lost)
      × ((after_all first (past ++ events_of present e)).cells ≡ (after_all first past).cells)
  store-unlinked f l =
      let K = schedule-keeps es (setup_of s).machine (setup_kept s used ok) in
      let leave = lost_at_once present K e f l.kind l.cell l.link in
      let events = events_are present e leave l.kind in
      let out = sym ((matches s used ok es).sets (get_or e 4 0) (get_or e 2 0) l.cell l.task) ∙ no_part _ (get_or e 4 0) (task_of present e) l.link in
      (leave, events, out, gives_false (get_or e 2 0) (get_or e 4 0) (word_at e 6) (after_all first past).cells out, rw (events, after-append first past) (leaves (get_or e 2 0) (get_or e 4 0) (word_at e 6) (after_all first past) out))
