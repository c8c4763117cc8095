-- At most N + 2P - 1 nodes are in use. Some task, the one that swapped last, has read no pointer that changed since: the node that it holds is
-- one that a cell points at. Assumes nothing.
use Prim.Native.Nat.{ℕ, ◌+◌, ◌≤◌, ◌<◌}
use native.Mathlib.Omega.{arith}
use native.Mathlib.Decide.{ℕ_discrete}
use mathlib.Core.Path.{◌≡◌, refl, sym}
use mathlib.Core.Bool.{Bool, true, false, ◌&&◌, ◌||◌, true≢false}
use mathlib.Core.List.{List, [], ◌∷◌}
use lib.Dec.{T, eqb, ltb}
use lib.ListN.{get_or, replicate, length-replicate}
use lib.Seq.{get_or-set_other}
use Rattle.tallies.specs.Lists.{within}
use Rattle.tallies.specs.Tally.{bit}
use Rattle.tallies.proofs.Lists.{fill_at, both, either}
use Rattle.tallies.proofs.Tally.{tally-at, tally_most, bit_le, bit_eq, total-add, total_mono}
use Rattle.tallies.proofs.Bounds.{tally_short, total_part}
use Rattle.tasks.specs.Records.{cell_no, node_no, no_task, idle_owning}
use Rattle.tasks.specs.Phases.{live, holds}
use Rattle.tasks.specs.Holders.{keeps}
use Rattle.tasks.specs.Calls.{begun_of}
use Rattle.wire.specs.Bytes.{word_at}
use Rattle.cells.specs.Machine.{seen_of, cells_after, written}
use Rattle.cells.specs.Apply.{apply_of}
use Rattle.cells.specs.Setup.{fresh_of}
use Rattle.runs.specs.Counts.{task_of}
use Rattle.entries.specs.Schedule.{entries_of}
use Rattle.laws.specs.Types.{Task, Load, Store, Release, Validate, Deed, Write, Nothing, Machine}
use Rattle.laws.specs.Meaning.{points, owns, used}
use Rattle.laws.specs.Kept.{InRange, Kept}
use Rattle.laws.specs.Schedules.{applied, tried, Reached, set_up, entered, ran}
use Rattle.laws.proofs.Phases.{phase-gives}
use Rattle.laws.proofs.Entries.{task_no, by_entry}
use Rattle.laws.proofs.Rows.{Moves, l1, l2, l3_passed, l3_turned, l4, l5, s1, s2_swapped, s2_missed, s3_took, s3_shared, s5, s6_took, s6_busy, s7, r1, v1_good, v1_gone, moves}
use Rattle.laws.proofs.Keeps.{task, in_list, put_here, in_cells}
use Rattle.laws.proofs.Table.{entry-keeps}
use Rattle.laws.proofs.Start.{by_setup}
use Rattle.laws.proofs.Runs.{by_run}
use Rattle.laws.proofs.Reached.{reached_kept}
use Rattle.laws.proofs.Room.{weighs, takes_up, two, per_node, in_use, shares, used_up, Spared}

-- the phases of a task whose m is the node that it read
abbrev has_read : ℕ → Bool
has_read f = within 2 8 f || within 13 15 f

-- the cell is still at m
abbrev Current : List ℕ → Task → Type 0
Current cells t = T (has_read t.phase) → t.held.0 ≡ get_or cells t.cell.0 0

abbrev pub Some : Machine → Type 0
Some m = (q : ℕ) × (q < m.p) × Current m.cells (task m q)

module _ (m : Machine) (K : Kept m) (e : List ℕ) (hp : get_or e 2 0 < m.p) where
  abbrev t : Task
  t = task_of m e

  carried : (t' : Task) (w : Write) → cells_after m w ≡ m.cells → (Current m.cells t → Current m.cells t') → Some m → Some (written m (task_no e) t' w)
  carried t' w c f s =
      elim (ℕ_discrete s.0 (get_or e 2 0)) [
        | yes x ↦ (get_or e 2 0, hp, rw (c, put_here m K t' hp) (f (rw x at s.2)))
        | no ne ↦ (s.0, s.1, rw (c, get_or-set_other m.tasks (get_or e 2 0) s.0 t' no_task ne) s.2)
      ]

  row : (f : ℕ) (d : Deed) → t.phase ≡ f → Moves t (seen_of m t) f d → Some m → Some (written m (task_no e) d.task d.write)
  row f d q l1 = carried d.task d.write refl (λ h k. refl)
  row f d q (l2 c) = carried d.task d.write refl (λ h k. h (rw q tt))
  row f d q (l3_passed c) = carried d.task d.write refl (λ h k. h (rw q tt))
  row f d q (l3_turned c) = carried d.task d.write refl (λ h k. absurd (c (h (rw q tt))))
  row f d q l4 = carried d.task d.write refl (λ h k. h (rw q tt))
  row f d q (l5 c) = carried d.task d.write refl (λ h k. absurd k)
  row f d q s1 = carried d.task d.write refl (λ h k. h (rw q tt))
  row f d q (s2_swapped c) = λ s. (get_or e 2 0, hp, rw (put_here m K d.task hp) (λ k. absurd k))
  row f d q (s2_missed c) = carried d.task d.write refl (λ h k. absurd (c (h (rw q tt))))
  row f d q (s3_took c) = carried d.task d.write refl (λ h k. absurd k)
  row f d q (s3_shared l c) = carried d.task d.write refl (λ h k. absurd k)
  row f d q (s5 c) = carried d.task d.write refl (λ h k. absurd k)
  row f d q (s6_took c) = carried d.task d.write refl (λ h k. absurd k)
  row f d q (s6_busy c) = carried d.task d.write refl (λ h k. absurd k)
  row f d q (s7 c) = carried d.task d.write refl (λ h k. absurd k)
  row f d q (r1 c) = carried d.task d.write refl (λ h k. absurd k)
  row f d q (v1_good c) = carried d.task d.write refl (λ h k. h (rw q tt))
  row f d q (v1_gone c) = carried d.task d.write refl (λ h k. h (rw q tt))

entry_some : (m : Machine) (e : List ℕ) → Kept m → Some m → Some (apply_of m e).machine
entry_some m e K =
    let t = task_of m e in
    by_entry m e (λ a. Some m → Some a.machine) (λ i r w s. s)
    (λ a l. carried m K e a.task (begun_of t (Load (cell_no (get_or e 4 0)))) Nothing refl (λ h k. absurd k))
    (λ a l. carried m K e a.task (begun_of t (Store (word_at e 6))) Nothing refl (λ h k. h (rw a.phase tt)))
    (λ a s. s)
    (λ a. carried m K e a.task (begun_of t Release) Nothing refl (λ h k. h (rw a.phase tt)))
    (λ a. carried m K e a.task (begun_of t Validate) Nothing refl (λ h k. h (rw a.phase tt)))
    (λ d s. row m K e s.task t.phase d refl (moves t (seen_of m t) d s.does))

schedule_some : (es : List (List ℕ)) (m : Machine) → Kept m → Some m → Some (applied m es)
unfolding applied
schedule_some [] m K s = s
schedule_some (e ∷ es) m K s = schedule_some es (apply_of m e).machine (entry-keeps m e K) (entry_some m e K s)

fresh_some : (n p k : ℕ) (s : List ℕ) → 0 < p → p ≤ 16 → Some (fresh_of n p k s)
unfolding fresh_of
fresh_some n p k s a h =
    (0, a, rw (fill_at (λ i. idle_owning (node_no (n + i))) p (replicate 16 no_task) 0 no_task a (rw length-replicate h)) (λ k. absurd k))

reached_some : {m : Machine} → Reached m → Some m
reached_some (set_up s used q) = by_setup s used Some (λ n p k z. fresh_some n p k s z.a_task z.tasks) q
reached_some (entered m e r) = entry_some m e (reached_kept r) (reached_some r)
reached_some (ran m s room r) = by_run Some m s room (reached_some r) (schedule_some (tried m (entries_of s)) m (reached_kept r) (reached_some r))

one_of : (a b : Bool) → (a && b) ≡ false → bit a + bit b ≤ 1
one_of true true q = absurd (true≢false q)
one_of true false q = omega arith
one_of false b q = omega (arith, bit_le b)

gate : (a b : Bool) → bit (a && b) ≤ bit b
gate true b = omega arith
gate false b = omega arith

module _ (m : Machine) (K : Kept m) (s : Some m) where
  abbrev mine : Task
  mine = task m s.0

  in_mine : InRange m.n m.k mine
  in_mine = K.sound.each s.0 s.1

  -- a cell points at what the task holds: that node is counted twice
  twice : mine.held.0 ≡ get_or m.cells mine.cell.0 0 → (i : ℕ) → i < m.k → bit (ltb 0 (get_or m.counts i 0)) + keeps i mine ≤ per_node m K i
  twice c i h =
      let pointing = rw (sym c) at (tally-at (points i) m.n m.cells mine.cell.0 0 in_mine.cell (in_cells m K in_mine.cell)) in
      let holding = tally-at (λ t. owns i t + keeps i t) m.p m.tasks s.0 no_task s.1 (in_list m K s.1) in
      elim (ℕ_discrete (keeps i mine) 0) [
        | yes z ↦ omega (arith, in_use m K i h)
        | no z ↦ omega (
          arith,
          pointing,
          holding,
          gate (holds mine.phase) (eqb mine.held.0 i),
          bit_le (eqb mine.held.0 i),
          bit_le (ltb 0 (get_or m.counts i 0)),
        )
      ]

  crowded : (live mine.phase && holds mine.phase) ≡ true → Spared m
  crowded b =
      let v = mine.held.0 in
      let c = s.2 (phase-gives (λ f. live f && holds f) has_read tt mine.phase in_mine.phase (rw b tt)) in
      let one : keeps v mine ≡ 1 = rw (both (live mine.phase) (holds mine.phase) b).1 (bit_eq v v refl) in
      let f : ℕ → ℕ = λ i. bit (ltb 0 (get_or m.counts i 0)) in
      omega (
        arith,
        total_mono (λ i. f i + keeps i mine) (per_node m K) m.k (twice c),
        total-add f (λ i. keeps i mine) m.k,
        total_part (λ i. keeps i mine) m.k v in_mine.held,
        shares m K,
        tally_most (weighs m.k) 2 m.p m.tasks (two m.k),
      )

  one_less : Spared m
  one_less =
      either (λ b. Spared m) (live mine.phase && holds mine.phase) crowded
      (λ b. omega (
        arith,
        used_up m K,
        tally_short (weighs m.k) 2 m.p m.tasks s.0 no_task (two m.k) s.1 (in_list m K s.1),
        takes_up m.k mine,
        one_of (live mine.phase) (holds mine.phase) b,
      ))

pub busy_most : {m : Machine} → Reached m → Spared m
busy_most {m} r = one_less m (reached_kept r) (reached_some r)
