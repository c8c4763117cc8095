-- A step that is made is one of the rows of specs/Moves. Nothing after this looks at a test or at a refused step again. Assumes nothing.
use Rattle.std.specs.Prelude.{Ok, Err}
use Prim.Native.Nat.{ℕ, ◌+◌, ◌-◌, ◌≤◌, ◌<◌}
use native.Mathlib.Omega.{arith}
use native.Mathlib.Decide.{ℕ_discrete, dec_le}
use mathlib.Core.Path.{◌≡◌}
use mathlib.Core.Logic.{inl, inr}
use lib.Dec.{eqb, ltb}
use lib.ListN.{get_or}
use borrow.Author.Tests.{le-leb, ne_eqb, ltb-false, eqb-true, eqb-false}
use Rattle.tallies.proofs.Lists.{by_test}
use Rattle.tallies.specs.Tally.{bit}
use Rattle.tasks.specs.Records.{onward, owning, probing}
use Rattle.steps.specs.Table.{after, free_after, recounted_of, raised_of, lowered_of, counting, leaving, rows, no_phase, effect_of}
use Rattle.steps.proofs.Rows.{effect_no_phase}
use Rattle.laws.specs.Types.{Reply, Moved, Took, Lost, Released, NodeNo, Task, Seen, Count, Deed, Effect}
pub use Rattle.laws.specs.Moves.{deed, raised, lowered, Moves, l1, l2, l3_passed, l3_turned, l4, l5, s1, s2_swapped, s2_missed, s3_took, s3_shared, s5, s6_took, s6_busy, s7, r1, v1_good, v1_gone}
use Rattle.laws.proofs.Phases.{by_phase}
use Rattle.answers.specs.declared.Refusal.TheVariants.{Damaged}
use Rattle.steps.specs.Types.{Counted}

-- a step that counts is refused, or the count and the number of free nodes are as they must be
abbrev to_number : Seen → NodeNo → ℕ → ℕ → Counted
to_number s v c d = Ok (Count v d (free_after s.free c d), d)

pub by_recounted : (R : Counted → Type 0) (s : Seen) (v : NodeNo) (c d : ℕ) → R (Err Damaged) → R (to_number s v c d) → R (recounted_of s v c d)
unfolding recounted_of
by_recounted R s v c d b f = by_test R (ltb (s.free + bit (eqb d 0)) (bit (eqb c 0))) _ _ (λ q. b) (λ q. by_test R (ltb s.nodes (free_after s.free c d)) _ _ (λ w. b) (λ w. f))

pub by_lowered : (R : Counted → Type 0) (s : Seen) (v : NodeNo) (c : ℕ) → R (Err Damaged) → (0 < c → R (to_number s v c (c - 1))) → R (lowered_of s v c)
unfolding lowered_of
by_lowered R s v c b f = by_test R (eqb c 0) _ _ (λ q. b) (λ q. by_recounted R s v c (c - 1) b (f (omega (arith, eqb-false c 0 q))))

pub by_raised : (R : Counted → Type 0) (s : Seen) (v : NodeNo) (c : ℕ) → R (Err Damaged) → (c ≤ s.tasks → R (to_number s v c (c + 1))) → R (raised_of s v c)
unfolding raised_of
by_raised R s v c b f =
    by_test R (ltb s.tasks c) _ _ (λ q. b) (λ q. by_test R (eqb c 255) _ _ (λ w. b) (λ w. by_recounted R s v c (c + 1) b (f (ltb-false s.tasks c q))))

module _ (t : Task) (s : Seen) where
  abbrev Reads : ℕ → Effect → Type 0
  Reads n (Ok d) = Moves t s n d
  Reads n (Err r) = Unit {0}

  lowering_reads : (n : ℕ) (t' : Task) (r : Reply) → (0 < s.held_count → Moves t s n (lowered t s t' r)) → Reads n (counting (lowered_of s t.held s.held_count) t' r)
  lowering_reads n t' r f = by_lowered (λ c. Reads n (counting c t' r)) s t.held s.held_count tt f

  leaving_reads : Reads 9 (leaving (lowered_of s t.held s.held_count) t)
  leaving_reads =
      by_lowered (λ c. Reads 9 (leaving c t)) s t.held s.held_count tt
      (λ h. by_test (Reads 9) (eqb (s.held_count - 1) 1) _ _ (λ q. s3_took (eqb-true _ _ q)) (λ q. s3_shared h (eqb-false _ _ q)))

  reads : Reads t.phase (effect_of t s)
  unfolding effect_of rows
  reads =
      elim (dec_le t.phase 15) [
        | no h ↦ rw (effect_no_phase t s (inr (omega arith))) tt
        | yes h ↦ elim (ℕ_discrete t.phase 10) [
          | yes e ↦ rw (effect_no_phase t s (inl e)) tt
          | no ne ↦ by_phase (λ n. Reads n (get_or rows n no_phase t s))
              tt l1 (by_raised (λ c. Reads 2 (counting c (onward t 3) Moved)) s t.held s.held_count tt l2)
              (by_test (Reads 3) (eqb t.held.0 s.here.0) _ _ (λ q. l3_passed (eqb-true _ _ q)) (λ q. l3_turned (eqb-false _ _ q)))
              l4 (lowering_reads 5 (onward t 1) Moved l5) tt s1
              (by_test (Reads 8) (eqb t.held.0 s.here.0) _ _ (λ q. s2_swapped (eqb-true _ _ q)) (λ q. s2_missed (eqb-false _ _ q)))
              leaving_reads
              (lowering_reads 11 (onward (probing t (after s.nodes t.held)) 12) Moved s5)
              (by_test (Reads 12) (eqb s.cursor_count 0) _ _ (λ q. by_recounted (λ c. Reads 12 (counting c (onward (owning t t.cursor) 0) Took)) s t.cursor 0 1 tt (s6_took (eqb-true _ _ q))) (λ q. s6_busy (eqb-false _ _ q)))
              (lowering_reads 13 (onward t 0) Lost s7) (lowering_reads 14 (onward t 0) Released r1)
              (by_test (Reads 15) (eqb t.held.0 s.here.0) _ _ (λ q. v1_good (eqb-true _ _ q)) (λ q. v1_gone (eqb-false _ _ q)))
              t.phase (rw (le-leb t.phase 15 h, ne_eqb t.phase 10 ne) tt)
        ]
      ]

  -- a step that is made is a row's
  pub moves : (d : Deed) → effect_of t s ≡ Ok d → Moves t s t.phase d
  moves d q = rw q at reads
