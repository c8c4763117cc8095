-- Refusal 22 is never met by a record that is `Kept`: not by its ranges, not by a step, not in a run. Assumes nothing.
use Rattle.std.specs.Prelude.{Ok, Err}
use Prim.Native.Nat.{ℕ, ◌+◌, ◌-◌, ◌≤◌, ◌<◌}
use native.Mathlib.Omega.{arith}
use mathlib.Core.Path.{◌≡◌, refl, sym, ◌∙◌}
use mathlib.Core.Bool.{false≢true}
use mathlib.Core.List.{List}
use mathlib.Core.Logic.{◌≢◌}
use lib.Dec.{T, eqb}
use lib.ListN.{get_or, set}
use borrow.Author.Tests.{le-ltb, ne_eqb, eqb-true}
use Rattle.tallies.proofs.Lists.{by_test}
use Rattle.tallies.specs.Tally.{bit}
use Rattle.tallies.proofs.Bounds.{total_part}
use Rattle.answers.proofs.Numbers.{only_22}
use Rattle.tasks.specs.Records.{onward, probing}
use Rattle.tasks.specs.Phases.{resting, holds}
use Rattle.steps.specs.Table.{after, free_after, recounted_of, raised_of, lowered_of, counting, leaving, s6, rows, no_phase, effect_of}
use Rattle.cells.specs.Machine.{seen_of}
use Rattle.cells.specs.Apply.{apply_of}
use Rattle.runs.specs.Run.{ran_of}
use Rattle.laws.specs.Types.{Reply, Moved, Lost, Released, NoStep, Damaged, NodeNo, Task, Seen, Count, Effect, Machine}
use Rattle.laws.specs.Kept.{Kept}
use Rattle.laws.proofs.Phases.{by_phase}
use Rattle.laws.proofs.Entries.{Damage, by_range, by_step, by_entry}
use Rattle.laws.proofs.Keeps.{task, freed}
use Rattle.laws.proofs.Table.{entry-keeps}
use Rattle.laws.proofs.Room.{shared_out, can_lower, can_raise}
use Rattle.laws.proofs.Ranges.{in_range_lem}
use Rattle.laws.proofs.Runs.{run-never}

module _ (m : Machine) (K : Kept m) where
  -- a step is made, or the task is idle or linked
  abbrev pub Steady : ℕ → Effect → Type 0
  Steady f (Ok d) = Unit {0}
  Steady f (Err r) = (r ≡ NoStep) × T (resting f)

  module _ (q : ℕ) (hq : q < m.p) where
    abbrev t : Task
    t = task m q

    abbrev s : Seen
    s = seen_of m t

    abbrev c : ℕ
    c = get_or m.counts t.held.0 0

    -- the count of a node below K can go anywhere, as far as the number of free nodes is concerned
    recounts : (v : NodeNo) (c d : ℕ) → v.0 < m.k → get_or m.counts v.0 0 ≡ c → recounted_of s v c d ≡ Ok (Count v d (free_after m.free c d), d)
    unfolding recounted_of
    recounts v c d h e =
        let after = rw e at (freed m K v.0 d h) in
        let was = rw e at (total_part (λ i. bit (eqb (get_or m.counts i 0) 0)) m.k v.0 h) in
        let most = shared_out (set m.counts v.0 d) m.k in
        rw (
          le-ltb (m.free + bit (eqb d 0)) (bit (eqb c 0)) (omega (arith, was, K.free_counted)),
          le-ltb m.k (free_after m.free c d) (omega (arith, after, most)),
        )

    lowers_well : (f : ℕ) (t' : Task) (r : Reply) → t.phase ≡ f → T (holds f) → Steady f (counting (lowered_of s t.held c) t' r)
    unfolding lowered_of
    lowers_well f t' r w h = rw (ne_eqb c 0 (omega (arith, can_lower m K q hq (rw w h))), recounts t.held c (c - 1) (K.sound.each q hq).held refl) tt

    leaves_well : t.phase ≡ 9 → Steady 9 (leaving (lowered_of s t.held c) t)
    unfolding lowered_of
    leaves_well w =
        rw (ne_eqb c 0 (omega (arith, can_lower m K q hq (rw w tt))), recounts t.held c (c - 1) (K.sound.each q hq).held refl)
        (by_test (Steady 9) (eqb (c - 1) 1) _ _ (λ y. tt) (λ y. tt))

    raises_well : (t' : Task) (r : Reply) → t.phase ≡ 2 → Steady 2 (counting (raised_of s t.held c) t' r)
    unfolding raised_of
    raises_well t' r w =
        let h : c ≤ m.p = can_raise m K q t.held.0 hq (K.sound.each q hq).held w in
        rw (le-ltb m.p c h, ne_eqb c 255 (omega (arith, K.sound.tasks)), recounts t.held c (c + 1) (K.sound.each q hq).held refl) tt

    seeks_well : t.phase ≡ 12 → Steady 12 (s6 t s)
    seeks_well w =
        by_test (Steady 12) (eqb (get_or m.counts t.cursor.0 0) 0) _ _
        (λ y. rw (recounts t.cursor 0 1 (K.sound.each q hq).cursor (eqb-true _ 0 y)) tt) (λ y. tt)

    pub steady : Steady t.phase (effect_of t (seen_of m t))
    unfolding effect_of rows
    steady = by_phase (λ f. t.phase ≡ f → Steady f (get_or rows f no_phase t (seen_of m t)))
        (λ w. (refl, tt)) (λ w. tt) (raises_well (onward t 3) Moved) (λ w. by_test (Steady 3) (eqb t.held.0 (get_or m.cells t.cell.0 0)) _ _ (λ y. tt) (λ y. tt))
        (λ w. tt) (λ w. lowers_well 5 (onward t 1) Moved w tt) (λ w. (refl, tt)) (λ w. tt)
        (λ w. by_test (Steady 8) (eqb t.held.0 (get_or m.cells t.cell.0 0)) _ _ (λ y. tt) (λ y. tt)) leaves_well
        (λ w. lowers_well 11 (onward (probing t (after m.k t.held)) 12) Moved w tt)
        seeks_well
        (λ w. lowers_well 13 (onward t 0) Lost w tt) (λ w. lowers_well 14 (onward t 0) Released w tt)
        (λ w. by_test (Steady 15) (eqb t.held.0 (get_or m.cells t.cell.0 0)) _ _ (λ y. tt) (λ y. tt))
        t.phase (K.sound.each q hq).phase refl

  -- no entry is answered with 22, neither by the ranges nor by the step
  pub entry_undamaged : (e : List ℕ) → (apply_of m e).answer ≢ Err Damaged
  entry_undamaged e = by_entry m e (λ a. a.answer ≢ Err Damaged) (λ i r w q. neither (w (cc)))
      (λ a h. clash Moved) (λ a h. clash Moved) (λ a. clash Lost) (λ a. clash Moved) (λ a. clash Moved) (λ d s. clash d.reply)
    where
      clash : (r : Reply) → Ok r ≢ Err Damaged
      clash r q = let z : ◌≡◌ {A = ℕ} 0 1 = cc in omega arith

      neither : Damage m e → ⊥
      neither (by_range q) = false≢true (sym q ∙ in_range_lem m K)
      neither (by_step h q) =
          let w : Damaged ≡ NoStep = (rw q at (steady (get_or e 2 0) h)).0 in
          let z : ◌≡◌ {A = ℕ} 0 1 = cc in omega arith

-- no run reports 22
pub run_undamaged : (m : Machine) (s : List ℕ) (room : ℕ) → Kept m → (ran_of m s room).report.refusal ≢ 22
run_undamaged m s room K =
    run-never 22 Kept entry-keeps (λ m e K. only_22 (apply_of m e).answer (entry_undamaged m K e)) m s room K
    (λ q. absurd (false≢true (sym q ∙ in_range_lem m K))) (omega arith) (omega arith) (omega arith)
