-- By phase. Assumes nothing.
use Prim.Native.Nat.{ℕ, zero, suc, ◌≤◌, ◌<◌}
use native.Mathlib.Omega.{arith}
use native.Mathlib.Decide.{ℕ_discrete}
use mathlib.Core.Path.{subst, sym}
use mathlib.Core.Bool.{Bool, true, false, not, ◌&&◌, ◌||◌}
use mathlib.Core.Logic.{◌≢◌}
use lib.Dec.{T, eqb, leb}
use borrow.Author.Tests.{leb-true, eqb-false, not-true}
use Rattle.tallies.proofs.Lists.{each}
use Rattle.tallies.proofs.Tally.{T→true}
use Rattle.tasks.specs.Phases.{is_phase}

-- the numbers of phases
pub phase_is : (f : ℕ) → T (is_phase f) → (f ≤ 15) × (f ≢ 10)
phase_is f h =
    let w = each (leb f 15) (not (eqb f 10)) h in
    (leb-true f 15 (T→true (leb f 15) w.0), eqb-false f 10 (not-true _ (T→true (not (eqb f 10)) w.1)))

-- by the number of a phase that there is
pub by_phase : (R : ℕ → Type 0) → R 0 → R 1 → R 2 → R 3 → R 4 → R 5 → R 6 → R 7 → R 8 → R 9 → R 11 → R 12 → R 13 → R 14 → R 15 → (n : ℕ) → T (is_phase n) → R n
by_phase R r0 r1 r2 r3 r4 r5 r6 r7 r8 r9 r11 r12 r13 r14 r15 zero h = r0
by_phase R r0 r1 r2 r3 r4 r5 r6 r7 r8 r9 r11 r12 r13 r14 r15 (suc zero) h = r1
by_phase R r0 r1 r2 r3 r4 r5 r6 r7 r8 r9 r11 r12 r13 r14 r15 (suc (suc zero)) h = r2
by_phase R r0 r1 r2 r3 r4 r5 r6 r7 r8 r9 r11 r12 r13 r14 r15 (suc (suc (suc zero))) h = r3
by_phase R r0 r1 r2 r3 r4 r5 r6 r7 r8 r9 r11 r12 r13 r14 r15 (suc (suc (suc (suc zero)))) h = r4
by_phase R r0 r1 r2 r3 r4 r5 r6 r7 r8 r9 r11 r12 r13 r14 r15 (suc (suc (suc (suc (suc zero))))) h = r5
by_phase R r0 r1 r2 r3 r4 r5 r6 r7 r8 r9 r11 r12 r13 r14 r15 (suc (suc (suc (suc (suc (suc zero)))))) h = r6
by_phase R r0 r1 r2 r3 r4 r5 r6 r7 r8 r9 r11 r12 r13 r14 r15 (suc (suc (suc (suc (suc (suc (suc zero))))))) h = r7
by_phase R r0 r1 r2 r3 r4 r5 r6 r7 r8 r9 r11 r12 r13 r14 r15 (suc (suc (suc (suc (suc (suc (suc (suc zero)))))))) h = r8
by_phase R r0 r1 r2 r3 r4 r5 r6 r7 r8 r9 r11 r12 r13 r14 r15 (suc (suc (suc (suc (suc (suc (suc (suc (suc zero))))))))) h = r9
by_phase R r0 r1 r2 r3 r4 r5 r6 r7 r8 r9 r11 r12 r13 r14 r15 (suc (suc (suc (suc (suc (suc (suc (suc (suc (suc zero)))))))))) h = absurd h
by_phase R r0 r1 r2 r3 r4 r5 r6 r7 r8 r9 r11 r12 r13 r14 r15 (suc (suc (suc (suc (suc (suc (suc (suc (suc (suc (suc zero))))))))))) h = r11
by_phase R r0 r1 r2 r3 r4 r5 r6 r7 r8 r9 r11 r12 r13 r14 r15 (suc (suc (suc (suc (suc (suc (suc (suc (suc (suc (suc (suc zero)))))))))))) h = r12
by_phase R r0 r1 r2 r3 r4 r5 r6 r7 r8 r9 r11 r12 r13 r14 r15 (suc (suc (suc (suc (suc (suc (suc (suc (suc (suc (suc (suc (suc zero))))))))))))) h = r13
by_phase R r0 r1 r2 r3 r4 r5 r6 r7 r8 r9 r11 r12 r13 r14 r15 (suc (suc (suc (suc (suc (suc (suc (suc (suc (suc (suc (suc (suc (suc zero)))))))))))))) h = r14
by_phase R r0 r1 r2 r3 r4 r5 r6 r7 r8 r9 r11 r12 r13 r14 r15 (suc (suc (suc (suc (suc (suc (suc (suc (suc (suc (suc (suc (suc (suc (suc zero))))))))))))))) h = r15
by_phase R r0 r1 r2 r3 r4 r5 r6 r7 r8 r9 r11 r12 r13 r14 r15 (suc (suc (suc (suc (suc (suc (suc (suc (suc (suc (suc (suc (suc (suc (suc (suc n)))))))))))))))) h =
    absurd (omega (arith, phase_is (suc (suc (suc (suc (suc (suc (suc (suc (suc (suc (suc (suc (suc (suc (suc (suc n)))))))))))))))) h))

-- a test that passes at each number below n, computed
abbrev pub below : ℕ → (ℕ → Bool) → Bool
below zero f = true
below (suc n) f = f n && below n f

-- such a test passes at each of them
pub each_below : (f : ℕ → Bool) (n : ℕ) → T (below n f) → (i : ℕ) → i < n → T (f i)
each_below f zero t i h = absurd (omega arith)
each_below f (suc n) t i h =
    elim (ℕ_discrete i n) [
      | yes e ↦ subst (λ (j : ℕ). T (f j)) (sym e) (each (f n) (below n f) t).0
      | no ne ↦ each_below f n (each (f n) (below n f) t).1 i (omega arith)
    ]

pub implied : (a b : Bool) → T (not a || b) → T a → T b
implied true b t k = t
implied false b t k = absurd k

-- one test of a phase gives another, where the checker finds so at the numbers 0 to 15
pub phase-gives : (a b : ℕ → Bool) → T (below 16 (λ n. not (a n) || b n)) → (n : ℕ) → T (is_phase n) → T (a n) → T (b n)
phase-gives a b t n h = implied (a n) (b n) (each_below (λ k. not (a k) || b k) 16 t n (omega (arith, phase_is n h)))
