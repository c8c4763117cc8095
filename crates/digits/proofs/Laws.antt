-- Numbers as text and back: a value's text is a number of that value, a number is its value's text, and how long it is. Assumes nothing.
use Prim.Native.Nat.{ℕ, zero, suc, ◌+◌, ◌*◌, ◌-◌, ◌/◌, ◌%◌, ◌≤◌, ◌<◌}
use native.Mathlib.Omega.{arith}
use native.Mathlib.Decide.{dec_lt}
use mathlib.Core.Path.{◌≡◌, refl, ap, ◌∙◌}
use mathlib.Core.Bool.{true, not, or-true, false≢true, ◌&&◌, ◌||◌}
use mathlib.Core.List.{List, [], ◌∷◌, ◌++◌, append-nil}
use lib.ListN.{length, get_or}
use lib.Dec.{eqb, leb}
use borrow.Author.Tests.{lt-ltb, le-ltb, le-leb, ne_eqb, leb-true, eqb-false, not-true}
use Rattle.tallies.proofs.Lists.{both}
use Rattle.digits.specs.Decimal.{is_digit, all_digits, is_number, onward, value_of, before, decimal}

-- any two numbers of turns that are enough give the same
turns : (t u n : ℕ) (w : List ℕ) → n ≤ t → n ≤ u → before t n w ≡ before u n w
unfolding before
turns zero zero n w h k = refl
turns zero (suc u) n w h k = rw (lt-ltb n 10 (omega arith))
turns (suc t) zero n w h k = rw (lt-ltb n 10 (omega arith))
turns (suc t) (suc u) n w h k =
    elim (dec_lt n 10) [
      | yes l ↦ rw (lt-ltb n 10 l)
      | no l ↦ rw (le-ltb n 10 (omega arith)) (turns t u (n / 10) ((0x30 + n % 10) ∷ w) (omega arith) (omega arith))
    ]

-- one digit
pub before_small : (n : ℕ) (w : List ℕ) → n < 10 → before n n w ≡ (0x30 + n) ∷ w
unfolding before
before_small n w h = turns n (suc n) n w (omega arith) (omega arith) ∙ rw (lt-ltb n 10 h)

-- more digits: the last one, and before it those of a tenth
pub before_more : (n : ℕ) (w : List ℕ) → 10 ≤ n → before n n w ≡ before (n / 10) (n / 10) ((0x30 + n % 10) ∷ w)
unfolding before
before_more n w h =
    turns n (suc n) n w (omega arith) (omega arith) ∙ rw (le-ltb n 10 h) (turns n (n / 10) (n / 10) ((0x30 + n % 10) ∷ w) (omega arith) (omega arith))

-- induction along the digits
pub by_tenths : (R : ℕ → Type 0) → ((n : ℕ) → n < 10 → R n) → ((n : ℕ) → 10 ≤ n → R (n / 10) → R n) → (n : ℕ) → R n
by_tenths R small more n = go n n (omega arith)
  where
    go : (t m : ℕ) → m ≤ t → R m
    go zero m h = small m (omega arith)
    go (suc t) m h = elim (dec_lt m 10) [ yes l ↦ small m l | no l ↦ more m (omega arith) (go t (m / 10) (omega arith)) ]

pub before-append : (n : ℕ) (v w : List ℕ) → before n n (v ++ w) ≡ before n n v ++ w
before-append n v w =
    by_tenths (λ m. (v : List ℕ) → before m m (v ++ w) ≡ before m m v ++ w)
    (λ m h v. rw (before_small m (v ++ w) h, before_small m v h))
    (λ m h ih v. rw (before_more m (v ++ w) h, before_more m v h) (ih ((0x30 + m % 10) ∷ v))) n v

-- the digits of a value are digits
before_digits : (n : ℕ) (w : List ℕ) → all_digits w ≡ true → all_digits (before n n w) ≡ true
unfolding all_digits
before_digits n w =
    by_tenths (λ m. (w : List ℕ) → all_digits w ≡ true → all_digits (before m m w) ≡ true)
    (λ m h w d. rw (before_small m w h, le-leb 0x30 (0x30 + m) (omega arith), le-leb (0x30 + m) 0x39 (omega arith)) d)
    (λ m h ih w d. rw (before_more m w h) (ih ((0x30 + m % 10) ∷ w) (rw (le-leb 0x30 (0x30 + m % 10) (omega arith), le-leb (0x30 + m % 10) 0x39 (omega arith)) d))) n w

-- the first of them, and that there is one
before_first : (n : ℕ) (w : List ℕ) → 1 ≤ n → (length w < length (before n n w)) × (0x30 < get_or (before n n w) 0 0)
before_first n w =
    by_tenths (λ m. (w : List ℕ) → 1 ≤ m → (length w < length (before m m w)) × (0x30 < get_or (before m m w) 0 0))
    (λ m h w k. rw (before_small m w h) (omega arith, omega arith))
    (λ m h ih w k. rw (before_more m w h) (let r = ih ((0x30 + m % 10) ∷ w) (omega arith) in (omega (arith, r.0), r.1))) n w

-- the text of a value is a number
pub decimal-number : (n : ℕ) → is_number (decimal n) ≡ true
unfolding is_number all_digits
decimal-number n =
    elim (dec_lt n 10) [
      | yes l ↦ rw (before_small n [] l, le-leb 0x30 (0x30 + n) (omega arith), le-leb (0x30 + n) 0x39 (omega arith))
      | no l ↦ (let f = before_first n [] (omega arith) in
          rw (before_digits n [] refl, le-leb 1 (length (before n n [])) f.0, ne_eqb (get_or (before n n []) 0 0) 0x30 (λ e. omega (arith, f.1, e)), or-true))
    ]

-- and of that value
onward-before : (n : ℕ) (w : List ℕ) → onward 0 (before n n w) ≡ onward n w
unfolding onward
onward-before n w =
    by_tenths (λ m. (w : List ℕ) → onward 0 (before m m w) ≡ onward m w)
    (λ m h w. rw (before_small m w h) (ap (λ k. onward k w) (omega arith)))
    (λ m h ih w. rw (before_more m w h) (ih ((0x30 + m % 10) ∷ w) ∙ ap (λ k. onward k w) (omega arith))) n w

pub decimal-value : (n : ℕ) → value_of (decimal n) ≡ n
unfolding onward
decimal-value n = onward-before n []

-- a digit's bytes
pub digit_range : (b : ℕ) → is_digit b ≡ true → (0x30 ≤ b) × (b ≤ 0x39)
digit_range b h = let p = both (leb 0x30 b) (leb b 0x39) h in (leb-true 0x30 b p.0, leb-true b 0x39 p.1)

-- a number is of digits
pub number_digits : (w : List ℕ) → is_number w ≡ true → all_digits w ≡ true
unfolding is_number
number_digits w h = (both (all_digits w) (leb 1 (length w)) (both (all_digits w && leb 1 (length w)) (eqb (length w) 1 || not (eqb (get_or w 0 0) 0x30)) h).0).0

-- at least one
pub number-long : (w : List ℕ) → is_number w ≡ true → 1 ≤ length w
unfolding is_number all_digits
number-long [] h = absurd (false≢true h)
number-long (b ∷ w) h = omega arith

-- a value that is not 0, with digits behind its own
before-onward : (ds : List ℕ) (v : ℕ) (w : List ℕ) → all_digits ds ≡ true → 1 ≤ v → before (onward v ds) (onward v ds) w ≡ before v v (ds ++ w)
unfolding onward all_digits
before-onward [] v w d h = refl
before-onward (b ∷ ds) v w d h =
    let p = both (is_digit b) (all_digits ds) d in
    let r = digit_range b p.0 in
    let tenth : (10 * v + (b - 0x30)) / 10 ≡ v = omega (arith, r.0, r.1) in
    let last : 0x30 + (10 * v + (b - 0x30)) % 10 ≡ b = omega (arith, r.0, r.1) in
    before-onward ds (10 * v + (b - 0x30)) w p.1 (omega arith) ∙ before_more (10 * v + (b - 0x30)) (ds ++ w) (omega arith) ∙ rw (tenth, last)

-- a number is the text of its value
pub value-decimal : (w : List ℕ) → is_number w ≡ true → decimal (value_of w) ≡ w
unfolding is_number all_digits onward
value-decimal [] h = absurd (false≢true h)
value-decimal (b ∷ []) h =
    let r = digit_range b (both (is_digit b) true (both (is_digit b && true) true (both (is_digit b && true && true) true h).0).0).0 in
    let e : 0x30 + (10 * 0 + (b - 0x30)) ≡ b = omega (arith, r.0) in
    before_small (10 * 0 + (b - 0x30)) [] (omega (arith, r.1)) ∙ rw e
value-decimal (b ∷ c ∷ w) h =
    let p = both (all_digits (b ∷ c ∷ w) && leb 1 (length (b ∷ c ∷ w))) (eqb (length (b ∷ c ∷ w)) 1 || not (eqb b 0x30)) h in
    let d = both (is_digit b) (all_digits (c ∷ w)) (both (all_digits (b ∷ c ∷ w)) (leb 1 (length (b ∷ c ∷ w))) p.0).0 in
    let ne = eqb-false b 0x30 (not-true (eqb b 0x30) (rw (ne_eqb (length (b ∷ c ∷ w)) 1 (λ e. omega arith)) at p.1)) in
    let r = digit_range b d.0 in
    let e : 0x30 + (10 * 0 + (b - 0x30)) ≡ b = omega (arith, r.0) in
    before-onward (c ∷ w) (10 * 0 + (b - 0x30)) [] d.1 (omega (arith, r.0)) ∙ before_small (10 * 0 + (b - 0x30)) (c ∷ w ++ []) (omega (arith, r.1)) ∙ rw (e, append-nil w)

-- ten to the k
abbrev tens : ℕ → ℕ
tens zero = 1
tens (suc k) = 10 * tens k

-- below it, k digits are enough
before-length : (k n : ℕ) (w : List ℕ) → n < tens (suc k) → length (before n n w) ≤ suc k + length w
before-length zero n w h = rw (before_small n w h) (omega arith)
before-length (suc k) n w h =
    elim (dec_lt n 10) [
      | yes l ↦ rw (before_small n w l) (omega arith)
      | no l ↦ rw (before_more n w (omega arith)) (omega (arith, before-length k (n / 10) ((0x30 + n % 10) ∷ w) (omega arith)))
    ]

-- a byte's text has at most 3 bytes, that of a number of 32 bits at most 10
pub byte_length : (n : ℕ) → n ≤ 255 → length (decimal n) ≤ 3
byte_length n h = omega (arith, before-length 2 n [] (omega arith))

pub word-length : (n : ℕ) → n < 4294967296 → length (decimal n) ≤ 10
word-length n h = omega (arith, before-length 9 n [] (omega arith))
