-- The steps spent in loads: two sums over the tasks pay for them (Sums), whatever the entries and whichever cells are counted. Assumes nothing.
use Rattle.std.specs.Prelude.{Ok}
use Prim.Native.Nat.{ℕ, ◌+◌, ◌≤◌, ◌<◌}
use native.Mathlib.Omega.{arith}
use native.Mathlib.Decide.{ℕ_discrete}
use mathlib.Core.Path.{◌≡◌, refl, sym, ap, ◌∙◌}
use mathlib.Core.Bool.{Bool, true, false, not, ◌&&◌, ◌||◌}
use mathlib.Core.List.{List, [], ◌∷◌}
use lib.Dec.{eqb}
use lib.ListN.{length, get_or, set, replicate, length-set, length-replicate}
use lib.Seq.{get_or-set_same, get_or-set_other}
use borrow.Author.Tests.{eq-eqb, ne_eqb}
use Rattle.tallies.specs.Lists.{fill_to}
use Rattle.tallies.specs.Tally.{tally}
use Rattle.tallies.proofs.Lists.{fill_length}
use Rattle.tallies.proofs.Tally.{tally-set, tally-same, tally_fill, total-same, total-zero}
use Rattle.tallies.proofs.Bounds.{bit_and, both_le, tally_short}
use Rattle.tasks.specs.Records.{cell_no, node_no, no_task, idle_owning, onward}
use Rattle.tasks.specs.Calls.{begun_of}
use Rattle.wire.specs.Bytes.{word_at}
use Rattle.cells.specs.Machine.{seen_of, cells_after}
use Rattle.cells.specs.Apply.{apply_of}
use Rattle.cells.specs.Setup.{fresh_of, setup_of}
use Rattle.runs.specs.Counts.{kind_of, task_of}
use Rattle.laws.specs.Types.{Task, Call, Load, Store, Release, Validate, Moved, Nothing, Deed, Machine}
use Rattle.laws.specs.Schedules.{applied, over}
use Rattle.laws.proofs.Entries.{Asks, begun_by, stepped_by, by_entry}
use Rattle.laws.proofs.Start.{by_setup}
use Rattle.laws.proofs.Rows.{Moves, l1, l2, l3_passed, l3_turned, l4, l5, s1, s2_swapped, s2_missed, s3_took, s3_shared, s5, s6_took, s6_busy, s7, r1, v1_good, v1_gone, moves}
use Rattle.laws.proofs.Sums.{left, stale, Pays, Settles, Swings, Paid, Bounded, TurnedBound, LoadBound}

module _ (on : ℕ → Bool) where
  module _ (m : Machine) (e : List ℕ) (h : m.p ≤ length m.tasks) (hp : get_or e 2 0 < m.p) where
    abbrev t : Task
    t = task_of m e

    abbrev at : ℕ → Task
    at f = onward t f

    in_list : get_or e 2 0 < length m.tasks
    in_list = omega arith

    now : (t' : Task) → get_or (set m.tasks (get_or e 2 0) t') (get_or e 2 0) no_task ≡ t'
    now t' = get_or-set_same m.tasks (get_or e 2 0) t' no_task in_list

    moved : (w : Task → ℕ) (f : ℕ) (t' : Task) → t.phase ≡ f → tally w m.p (set m.tasks (get_or e 2 0) t') + w (at f) ≡ tally w m.p m.tasks + w t'
    moved w f t' q = rw (ap (onward t) q) at (tally-set w m.p m.tasks (get_or e 2 0) t' no_task hp in_list)

    -- an entry that leaves the pointers
    quiet : (κ f : ℕ) (d : Deed) → kind_of e ≡ κ → t.phase ≡ f → cells_after m d.write ≡ m.cells → Settles on m.cells κ (at f) d.task → Pays on m e (stepped_by m e d)
    quiet κ f d k q c a = simp (bit_and, k, q, now d.task, c) (omega (arith, moved (left on) f d.task q), omega (arith, moved (stale on m.cells) f d.task q))

    -- a swap on a cell that is not counted leaves every weight as it was; one on a counted cell makes at most P - 1 loads stale
    abbrev swung : List ℕ
    swung = set m.cells t.cell.0 t.own.0

    swing : (b : Bool) → on t.cell.0 ≡ b → t.phase ≡ 8 → Swings on m swung (set m.tasks (get_or e 2 0) (at 9)) b
    swing true o q =
        omega (
          arith,
          tally_short (stale on swung) 1 m.p (set m.tasks (get_or e 2 0) (at 9)) (get_or e 2 0) no_task
              (λ y. both_le (on y.cell.0) ((eqb y.phase 2 || eqb y.phase 3) && not (eqb (get_or swung y.cell.0 0) y.held.0))) hp (rw length-set in_list),
          ap (stale on swung) (now (at 9)),
        )
    swing false o q = omega (arith, tally-same (stale on swung) (stale on m.cells) m.p (set m.tasks (get_or e 2 0) (at 9)) same, moved (stale on m.cells) 8 (at 9) q)
      where
        same : (y : Task) → stale on swung y ≡ stale on m.cells y
        same y =
            elim (ℕ_discrete y.cell.0 t.cell.0) [
              | yes w ↦ rw (ap on w ∙ o) (omega arith)
              | no w ↦ rw (get_or-set_other m.cells t.cell.0 y.cell.0 t.own.0 0 w)
            ]

    row : (f : ℕ) (d : Deed) → kind_of e ≡ 0 → t.phase ≡ f → Moves t (seen_of m t) f d → Pays on m e (stepped_by m e d)
    row f d k q l1 = quiet 0 f d k q refl (rw (eq-eqb (get_or m.cells t.cell.0 0) (get_or m.cells t.cell.0 0) refl) (omega arith))
    row f d k q (l2 c) = quiet 0 f d k q refl (omega arith)
    row f d k q (l3_passed c) = quiet 0 f d k q refl (omega arith)
    row f d k q (l3_turned c) = quiet 0 f d k q refl (rw (ne_eqb _ _ (λ w. c (sym w))) (omega arith))
    row f d k q l4 = quiet 0 f d k q refl (omega arith)
    row f d k q (l5 c) = quiet 0 f d k q refl (omega arith)
    row f d k q s1 = quiet 0 f d k q refl (omega arith)
    row f d k q (s2_swapped c) = simp (bit_and, k, q, now (at 9)) (omega (arith, moved (left on) 8 (at 9) q), omega (arith, swing (on t.cell.0) refl q))
    row f d k q (s2_missed c) = quiet 0 f d k q refl (omega arith)
    row f d k q (s3_took c) = quiet 0 f d k q refl (omega arith)
    row f d k q (s3_shared h c) = quiet 0 f d k q refl (omega arith)
    row f d k q (s5 c) = quiet 0 f d k q refl (omega arith)
    row f d k q (s6_took c) = quiet 0 f d k q refl (omega arith)
    row f d k q (s6_busy c) = quiet 0 f d k q refl (omega arith)
    row f d k q (s7 c) = quiet 0 f d k q refl (omega arith)
    row f d k q (r1 c) = quiet 0 f d k q refl (omega arith)
    row f d k q (v1_good c) = quiet 0 f d k q refl (omega arith)
    row f d k q (v1_gone c) = quiet 0 f d k q refl (omega arith)

  -- every entry pays, and leaves P and the table's length
  entry_pays : (m : Machine) (e : List ℕ) → m.p ≤ length m.tasks → Pays on m e (apply_of m e)
  entry_pays m e h =
      by_entry m e (Pays on m e) (λ i r w. omega arith) (λ a l. begun 1 0 (Load (cell_no (get_or e 4 0))) a (omega arith))
      (λ a l. begun 2 6 (Store (word_at e 6)) a (omega arith)) (λ a. rw a.kind (omega arith)) (λ a. begun 3 6 Release a (omega arith)) (λ a. begun 4 6 Validate a (omega arith))
      (λ d s. row m e h s.task (task_of m e).phase d s.kind refl (moves (task_of m e) (seen_of m (task_of m e)) d s.does))
    where
      begun : (κ f : ℕ) (c : Call) → Asks m e κ f → Settles on m.cells κ (onward (task_of m e) f) (begun_of (task_of m e) c) → Pays on m e (begun_by m e c)
      begun κ f c a = quiet m e h a.task κ f (record { task = begun_of (task_of m e) c; write = Nothing; reply = Moved }) a.kind a.phase refl

  stays : (m : Machine) (e : List ℕ) → ((apply_of m e).machine.p ≡ m.p) × (length (apply_of m e).machine.tasks ≡ length m.tasks)
  stays m e =
      by_entry m e (λ a. (a.machine.p ≡ m.p) × (length a.machine.tasks ≡ length m.tasks)) (λ i r w. (refl, refl))
      (λ a l. (refl, simp length-set)) (λ a l. (refl, simp length-set)) (λ a. (refl, refl)) (λ a. (refl, simp length-set)) (λ a. (refl, simp length-set)) (λ d s. (refl, simp length-set))

  -- and so does every schedule
  pub run_pays : (es : List (List ℕ)) (m : Machine) → m.p ≤ length m.tasks → Paid on m es
  unfolding over applied
  run_pays [] m h = omega arith
  run_pays (e ∷ es) m h =
      let s = stays m e in
      let i = rw s.0 at (run_pays es (apply_of m e).machine (omega arith)) in
      omega (arith, i, entry_pays m e h)

  -- and from a fresh record, where no task is in a load, what is paid back is nothing
  fresh-none : (w : Task → ℕ) (n p : ℕ) → p ≤ 16 → ((i : ℕ) → w (idle_owning (node_no i)) ≡ 0) → tally w p (fill_to (λ i. idle_owning (node_no (n + i))) p (replicate 16 no_task)) ≡ 0
  fresh-none w n p h z =
      tally_fill w (λ i. idle_owning (node_no (n + i))) p (replicate 16 no_task) (rw length-replicate h)
      ∙ total-same (λ i. w (idle_owning (node_no (n + i)))) (λ i. 0) p (λ i l. z (n + i)) ∙ total-zero p

  fresh_bound : (n p k : ℕ) (s : List ℕ) → p ≤ 16 → (es : List (List ℕ)) → Bounded on (fresh_of n p k s) es
  unfolding fresh_of
  fresh_bound n p k s h es =
      let tasks = replicate 16 no_task in
      omega (
        arith,
        run_pays es (fresh_of n p k s) (rw (fill_length (λ i. idle_owning (node_no (n + i))) p tasks, length-replicate) h),
        fresh-none (left on) n p h (λ i. omega arith),
        fresh-none (stale on (fill_to (λ i. i) n (replicate 64 0))) n p h (λ i. omega arith),
      )

  module _ (s : List ℕ) (used : ℕ) (ready : (setup_of s).answer ≡ Ok used) (es : List (List ℕ)) where
    abbrev m : Machine
    m = (setup_of s).machine

    bounded : Bounded on m es
    bounded = by_setup s used (λ z. Bounded on z es) (λ n p k z. fresh_bound n p k s z.tasks es) ready

    -- each swap that took turns back at most P - 1 checks
    pub turned_bound : TurnedBound on m es
    turned_bound = bounded.1

    pub load_bound : LoadBound on m es
    load_bound = omega (arith, bounded)
