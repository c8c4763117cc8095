-- Reading on from a place: what is left gives the whole, and a value that is cut off at 2 ^ 32 stays there. Assumes nothing.
use Rattle.std.specs.Prelude.{Some, None}
use Prim.Native.Nat.{ℕ, suc, ◌+◌, ◌*◌, ◌-◌, ◌≤◌, ◌<◌}
use native.Mathlib.Nat.{le_refl, min-eq_left, min-eq_right, add-zero, not-suc-le-zero}
use native.Mathlib.Omega.{arith}
use native.Mathlib.Decide.{dec_le}
use mathlib.Core.Path.{◌≡◌, refl, sym, ap, ◌∙◌}
use mathlib.Core.Logic.{◌≢◌}
use mathlib.Core.Bool.{true, false, cond, and-false, or-true}
use mathlib.Core.List.{List, [], ◌∷◌}
use lib.ListN.{length, get_or, drop, drop_of_length-le}
use lib.Seq.{drop-cons, get_or-drop}
use borrow.Author.Tests.{le-leb, ne_eqb}
use Rattle.tallies.proofs.Lists.{either}
use Rattle.digits.specs.Types.{Digits}
use Rattle.digits.specs.Decimal.{is_digit, all_digits, is_number, onward, value_of, lead, capped, digits_at, number_at}

onward_grows : (w : List ℕ) (v : ℕ) → v ≤ onward v w
unfolding onward
onward_grows [] v = le_refl v
onward_grows (b ∷ w) v = omega (arith, onward_grows w (10 * v + (b - 0x30)))

capped_small : (v : ℕ) → v ≤ 4294967296 → capped v ≡ v
capped_small v h = min-eq_left h

capped_large : (v : ℕ) → 4294967296 ≤ v → capped v ≡ 4294967296
capped_large v h = min-eq_right h

-- digits behind a value that is cut off
pub capped-onward : (v : ℕ) (w : List ℕ) → capped (onward (capped v) w) ≡ capped (onward v w)
capped-onward v w =
    elim (dec_le v 4294967296) [
      | yes h ↦ rw (capped_small v h)
      | no h ↦ rw (capped_large v (omega arith), capped_large (onward 4294967296 w) (onward_grows w 4294967296), capped_large (onward v w) (omega (arith, onward_grows w v)))
    ]

-- the digits at a place: one more, or none
pub lead-more : (s : List ℕ) (i : ℕ) → i < length s → is_digit (get_or s i 0) ≡ true → lead (drop i s) ≡ get_or s i 0 ∷ lead (drop (i + 1) s)
unfolding lead
lead-more s i h d = let e : i + 1 ≡ suc i = omega arith in rw (drop-cons s i 0 h, d, e)

pub lead_stops : (s : List ℕ) (i : ℕ) → i < length s → is_digit (get_or s i 0) ≡ false → lead (drop i s) ≡ []
unfolding lead
lead_stops s i h d = rw (drop-cons s i 0 h, d)

pub lead-ends : (s : List ℕ) (i : ℕ) → length s ≤ i → lead (drop i s) ≡ []
unfolding lead
lead-ends s i h = rw (drop_of_length-le s h)

-- the digits from `at` on are read up to `end`, with this value
pub record Reading (s : List ℕ) (at value end : ℕ) : Type 0 where
  pub within : end ≤ length s
  pub small : value ≤ 4294967296
  pub whole : capped (onward value (lead (drop end s))) ≡ capped (value_of (lead (drop at s)))
  pub place : end + length (lead (drop end s)) ≡ at + length (lead (drop at s))

pub reading_starts : (s : List ℕ) (at : ℕ) → at ≤ length s → Reading s at 0 at
reading_starts s at h = record { within = h; small = omega arith; whole = refl; place = refl }

pub reading_on : (s : List ℕ) (at v end : ℕ) → Reading s at v end → end < length s → is_digit (get_or s end 0) ≡ true
    → Reading s at (capped (10 * v + (get_or s end 0 - 0x30))) (end + 1)
unfolding onward
reading_on s at v end r h d =
    let more = lead-more s end h d in
    record {
      within = omega arith;
      small = omega arith;
      whole = capped-onward (10 * v + (get_or s end 0 - 0x30)) (lead (drop (end + 1) s)) ∙ (rw more at r.whole);
      place = let p = rw more at r.place in omega (arith, p);
    }

pub reading_ends : (s : List ℕ) (at v end : ℕ) → Reading s at v end → lead (drop end s) ≡ [] → record { value = v; end = end } ≡ digits_at s at
unfolding onward
reading_ends s at v end r none =
    let value : v ≡ capped (value_of (lead (drop at s))) = sym (capped_small v r.small) ∙ (rw none at r.whole) in
    let place : end ≡ at + length (lead (drop at s)) = let p = rw none at r.place in omega (arith, p) in
    rw (← value, ← place)

-- a byte that is no digit ends them, and so does the end of the text
pub stops_before : (s : List ℕ) (at v end : ℕ) → Reading s at v end → end < length s → is_digit (get_or s end 0) ≡ false → record { value = v; end = end } ≡ digits_at s at
stops_before s at v end r l h = reading_ends s at v end r (lead_stops s end l h)

pub stops_at_end : (s : List ℕ) (at v end n : ℕ) → Reading s at v end → length s ≤ end → n ≡ length s → record { value = v; end = n } ≡ digits_at s at
stops_at_end s at v end n r h e = let same : n ≡ end = omega (arith, r.within) in rw same (reading_ends s at v end r (lead-ends s end h))

-- the digits that a text starts with are digits, and its first bytes
pub lead_digits : (s : List ℕ) → all_digits (lead s) ≡ true
unfolding lead all_digits
lead_digits [] = refl
lead_digits (b ∷ s) = either (λ d. all_digits (cond d (b ∷ lead s) []) ≡ true) (is_digit b) (λ d. rw (d, lead_digits s)) (λ d. refl)

first_digit : (t : List ℕ) → 1 ≤ length (lead t) → get_or (lead t) 0 0 ≡ get_or t 0 0
unfolding lead
first_digit [] h = refl
first_digit (b ∷ t) h = either (λ d. 1 ≤ length (cond d (b ∷ lead t) []) → get_or (cond d (b ∷ lead t) []) 0 0 ≡ b) (is_digit b) (λ d h. refl) (λ d h. absurd (not-suc-le-zero h)) h

pub lead_first : (s : List ℕ) (at : ℕ) → 1 ≤ length (lead (drop at s)) → get_or (lead (drop at s)) 0 0 ≡ get_or s at 0
lead_first s at h = first_digit (drop at s) h ∙ get_or-drop at s 0 0 ∙ ap (λ (k : ℕ). get_or s k 0) (add-zero at)

-- whether the digits at a place are a number: by where they end, and by the first one
module _ (s : List ℕ) (at : ℕ) where
  abbrev w : List ℕ
  w = lead (drop at s)

  number-none : length w ≡ 0 → None ≡ number_at s at
  unfolding number_at is_number
  number-none h = rw (h, and-false)

  pub no_number : length s ≤ at → None ≡ number_at s at
  no_number h = number-none (ap length (lead-ends s at h))

  module _ (d : Digits) (read : d ≡ digits_at s at) where
    end_is : d.end ≡ at + length w
    end_is = ap (λ (r : Digits). r.end) read

    found : is_number w ≡ true → Some (d.value, d.end) ≡ number_at s at
    unfolding number_at
    found h = rw (h, read)

    pub no_digit : d.end ≡ at → None ≡ number_at s at
    no_digit h = number-none (omega (arith, end_is))

    pub zero_in_front : get_or s at 0 ≡ 0x30 → at + 1 < d.end → None ≡ number_at s at
    unfolding number_at is_number
    zero_in_front z h = rw (ne_eqb (length w) 1 (λ e. omega (arith, h, e, end_is)), lead_first s at (omega (arith, end_is)), z, and-false)

    pub one_digit : d.end ≢ at → d.end ≤ at + 1 → Some (d.value, d.end) ≡ number_at s at
    unfolding is_number
    one_digit ne h = let one : length w ≡ 1 = omega (arith, end_is) in found (rw (lead_digits (drop at s), one))

    pub no_zero : d.end ≢ at → get_or s at 0 ≢ 0x30 → Some (d.value, d.end) ≡ number_at s at
    unfolding is_number
    no_zero ne z =
        found (rw (lead_digits (drop at s), le-leb 1 (length w) (omega (arith, end_is)), lead_first s at (omega (arith, end_is)), ne_eqb (get_or s at 0) 0x30 z, or-true))
