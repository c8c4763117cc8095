-- Writing the digits of a number from its last one on: what is left to write gives the whole. Assumes nothing.
use Prim.Native.Nat.{ℕ, zero, suc, max, ◌+◌, ◌-◌, ◌*◌, ◌/◌, ◌%◌, ◌^◌, ◌≤◌, ◌<◌}
use native.Mathlib.Omega.{arith}
use native.Mathlib.Decide.{dec_lt}
use mathlib.Core.Path.{◌≡◌, refl, sym, ap, ◌∙◌}
use mathlib.Core.List.{List, [], ◌∷◌, ◌++◌}
use lib.ListN.{length, set, length-append, length-set}
use lib.Dec.{leb}
use lib.Seq.{sets-eq}
use borrow.Author.Tests.{le-leb, leb-true}
use Rattle.std.proofs.Math.Nat.{one-le-pow, pow-succ'}
use Rattle.tallies.proofs.Lists.{by_test}
use Rattle.wire.specs.Bytes.{overlaid, fitted}
use Rattle.wire.proofs.Laws.{over_last}
use Rattle.digits.specs.Decimal.{decimal, number_end}
use Rattle.digits.proofs.Laws.{before_small, before_more, before-append}

-- one digit, or those of a tenth and one more
pub decimal_one : (n : ℕ) → n < 10 → decimal n ≡ (0x30 + n) ∷ []
decimal_one n h = before_small n [] h

pub decimal_last : (n : ℕ) → 10 ≤ n → decimal n ≡ decimal (n / 10) ++ (0x30 + n % 10) ∷ []
decimal_last n h = before_more n [] h ∙ before-append (n / 10) [] ((0x30 + n % 10) ∷ [])

pub length_last : (n : ℕ) → 10 ≤ n → length (decimal n) ≡ length (decimal (n / 10)) + 1
length_last n h = ap length (decimal_last n h) ∙ length-append (decimal (n / 10)) ((0x30 + n % 10) ∷ [])

pub length_one : (n : ℕ) → n < 10 → length (decimal n) ≡ 1
length_one n h = ap length (decimal_one n h)

-- how many digits, by a power of ten
pub length_power : (k n : ℕ) → 10 ^ k ≤ max n 1 → max n 1 < 10 * 10 ^ k → length (decimal n) ≡ k + 1
length_power zero n h l = length_one n (omega arith)
length_power (suc k) n h l =
    let p : 1 ≤ 10 ^ k = one-le-pow k 10 (omega arith) in
    let e : 10 ^ suc k ≡ 10 * 10 ^ k = pow-succ' 10 k in
    length_last n (omega arith) ∙ ap (λ (m : ℕ). m + 1) (length_power k (n / 10) (omega arith) (omega arith)) ∙ omega arith

-- the same of a number that is not 0
pub length_log : (k n : ℕ) → 1 ≤ n → 10 ^ k ≤ n → n < 10 * 10 ^ k → length (decimal n) ≡ k + 1
length_log k n some h l = length_power k n (omega arith) (omega arith)

-- at least one, and two from ten on
pub length_some : (n : ℕ) → 1 ≤ length (decimal n)
length_some n =
    elim (dec_lt n 10) [
      | yes l ↦ omega (arith, length_one n l)
      | no l ↦ omega (arith, length_last n (omega arith))
    ]

length_two : (n : ℕ) → 2 ≤ length (decimal n) → 10 ≤ n
length_two n h =
    elim (dec_lt n 10) [
      | yes l ↦ absurd (omega (arith, length_one n l))
      | no l ↦ omega arith
    ]

length_under_two : (n : ℕ) → length (decimal n) ≤ 1 → n < 10
length_under_two n h =
    elim (dec_lt n 10) [
      | yes l ↦ l
      | no l ↦ (let more = length_some (n / 10) in absurd (omega (arith, length_last n (omega arith))))
    ]

-- the digits of n are written but for some in front, which are those of `rest`, and i is the place behind them
pub record Writing (o₀ : List ℕ) (at n : ℕ) (o : List ℕ) (i rest : ℕ) : Type 0 where
  pub place : i ≡ at + length (decimal rest)
  pub within : i ≤ length o
  pub long : length o ≡ length o₀
  pub whole : overlaid o at (decimal rest) ≡ overlaid o₀ at (decimal n)

pub writing_starts : (o : List ℕ) (at n end : ℕ) → end ≡ at + length (decimal n) → end ≤ length o → Writing o at n o end n
writing_starts o at n end e h = record { place = e; within = h; long = refl; whole = refl }

-- the last of those digits is written, in front of i: it is not the first
pub writing_on : (o₀ : List ℕ) (at n : ℕ) (o : List ℕ) (i rest : ℕ) → Writing o₀ at n o i rest → at + 1 < i
    → Writing o₀ at n (set o (i - 1) (0x30 + rest % 10)) (i - 1) (rest / 10)
writing_on o₀ at n o i rest w h =
    let big : 10 ≤ rest = length_two rest (omega (arith, w.place)) in
    let e : i - 1 ≡ at + length (decimal (rest / 10)) = omega (arith, w.place, length_last rest big) in
    record {
      place = e;
      within = rw (length-set o (i - 1) (0x30 + rest % 10)) (omega (arith, w.within));
      long = length-set o (i - 1) (0x30 + rest % 10) ∙ w.long;
      whole = rw e (over_last o at (decimal (rest / 10)) (0x30 + rest % 10) (omega (arith, w.place, w.within, length_last rest big)))
          ∙ ap (overlaid o at) (sym (decimal_last rest big)) ∙ w.whole;
    }

-- one digit is left, and goes to the first place
module _ (o₀ : List ℕ) (at n : ℕ) (o : List ℕ) (rest : ℕ) (w : Writing o₀ at n o (at + 1) rest) where
  pub one_left : rest < 10
  one_left = length_under_two rest (omega (arith, w.place))

  pub writing_ends : set o at (0x30 + rest) ≡ overlaid o₀ at (decimal n)
  writing_ends = sets-eq ((0x30 + rest) ∷ []) o at (omega (arith, w.within)) ∙ ap (overlaid o at) (sym (decimal_one rest one_left)) ∙ w.whole

-- a number of one digit, with room for it
module _ (o : List ℕ) (at n : ℕ) (small : n < 10) (room : at < length o) where
  pub digit_end : number_end o at n ≡ at + 1
  unfolding number_end
  digit_end = rw (decimal_one n small, le-leb (at + 1) (length o) (omega arith)) refl

  pub digit_put : set o at (0x30 + n) ≡ fitted o at (decimal n)
  unfolding fitted
  digit_put = rw (decimal_one n small, le-leb (at + 1) (length o) (omega arith)) (sets-eq ((0x30 + n) ∷ []) o at (omega arith))

-- a number that has room ends behind its digits
pub end_fits : (o : List ℕ) (at n : ℕ) → at + length (decimal n) ≤ length o → number_end o at n ≡ at + length (decimal n)
unfolding number_end
end_fits o at n h = rw (le-leb (at + length (decimal n)) (length o) h)

pub end_within : (o : List ℕ) (at n : ℕ) → at ≤ length o → number_end o at n ≤ length o
unfolding number_end
end_within o at n h = by_test (λ (k : ℕ). k ≤ length o) (leb (at + length (decimal n)) (length o)) _ _ (λ q. leb-true (at + length (decimal n)) (length o) q) (λ q. h)
