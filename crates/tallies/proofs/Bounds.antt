-- More laws of `bit`, `tally` and `total`, for bounds, and of going round k places. Assumes nothing.
use Prim.Native.Nat.{ℕ, zero, suc, ◌+◌, ◌-◌, ◌*◌, ◌%◌, ◌≤◌, ◌<◌}
use mathlib.Core.Path.{◌≡◌, ap, ◌∙◌}
use mathlib.Core.Bool.{Bool, true, false, ◌&&◌}
use mathlib.Core.List.{List, [], ◌∷◌}
use native.Mathlib.Nat.{le_of_suc-le-suc, not-suc-le-zero, mod-eq_of_lt, mod-add-mod, add-mod_right}
use native.Mathlib.Omega.{arith}
use native.Mathlib.Decide.{ℕ_discrete}
use lib.ListN.{length, get_or}
use Rattle.tallies.specs.Tally.{bit, tally, total}
use Rattle.tallies.proofs.Tally.{tally_most}

pub bit_and : (a b : Bool) → bit (a && b) ≡ bit a * bit b
bit_and true b = omega arith
bit_and false b = omega arith

pub both_le : (a b : Bool) → bit a * bit b ≤ 1
both_le true true = omega arith
both_le true false = omega arith
both_le false b = omega arith

-- weights of at most c: what one place weighs less than c is missing
pub tally_short : {A : Type 0} (w : A → ℕ) (c n : ℕ) (l : List A) (j : ℕ) (d : A) → ((a : A) → w a ≤ c) → j < n → j < length l → tally w n l + c ≤ n * c + w (get_or l j d)
unfolding tally
tally_short w c zero l j d h hj k = absurd (not-suc-le-zero hj)
tally_short w c (suc n) [] j d h hj k = absurd (not-suc-le-zero k)
tally_short w c (suc n) (x ∷ l) zero d h hj k = omega (arith, tally_most w c n l h)
tally_short w c (suc n) (x ∷ l) (suc j) d h hj k = omega (arith, h x, tally_short w c n l j d h (le_of_suc-le-suc hj) (le_of_suc-le-suc k))

-- one part of a sum, and the last
pub total_part : (f : ℕ → ℕ) (n j : ℕ) → j < n → f j ≤ total f n
unfolding total
total_part f zero j h = absurd (omega arith)
total_part f (suc n) j h = elim (ℕ_discrete j n) [ yes e ↦ rw e (omega arith) | no ne ↦ omega (arith, total_part f n j (omega arith)) ]

pub total_last : (f : ℕ → ℕ) (n : ℕ) → 0 < n → total f n ≡ total f (n - 1) + f (n - 1)
unfolding total
total_last f zero h = absurd (omega arith)
total_last f (suc n) h = let e : suc n - 1 ≡ n = omega arith in rw e (omega arith)

-- round k places: from the one after v it is k - 1 places on to v, and v is the one after a place
pub round_back : (v k : ℕ) → v < k → ((v + 1) % k + (k - 1)) % k ≡ v
round_back v k h = mod-add-mod (v + 1) k (k - 1) ∙ ap (λ (x : ℕ). x % k) (omega arith) ∙ add-mod_right v k ∙ mod-eq_of_lt h

pub round_on : (v k : ℕ) → v < k → ((v + (k - 1)) % k + 1) % k ≡ v
round_on v k h = mod-add-mod (v + (k - 1)) k 1 ∙ ap (λ (x : ℕ). x % k) (omega arith) ∙ add-mod_right v k ∙ mod-eq_of_lt h
