-- Decimal numbers in text: which texts are one and of what value, the text of a value, and a number read from or written into a longer text.
use Rattle.std.specs.Prelude.{ℕ, zero, suc, ◌+◌, ◌*◌, ◌-◌, ◌/◌, ◌%◌, min, Bool, true, cond, not, ◌&&◌, ◌||◌, List, [], ◌∷◌, eqb, leb, ltb, length, get_or, drop, Option, Some, None}
use Rattle.digits.specs.Types.{Digits}

-- the digits 0 to 9, as bytes
abbrev pub is_digit : ℕ → Bool
is_digit b = leb 0x30 b && leb b 0x39

-- digits and nothing else
unfoldable pub all_digits : List ℕ → Bool
all_digits [] = true
all_digits (b ∷ w) = is_digit b && all_digits w

-- a number: at least one digit and nothing else, and no zero in front of another digit
unfoldable pub is_number : List ℕ → Bool
is_number w = all_digits w && leb 1 (length w) && (eqb (length w) 1 || not (eqb (get_or w 0 0) 0x30))

-- v, and behind its last digit those of w
unfoldable pub onward : ℕ → List ℕ → ℕ
onward v [] = v
onward v (b ∷ w) = onward (10 * v + (b - 0x30)) w

-- the value of a number
abbrev pub value_of : List ℕ → ℕ
value_of w = onward 0 w

-- the digits of n in front of w, the last one first; n turns are enough, as a tenth of n is less than n from 1 on
unfoldable pub before : ℕ → ℕ → List ℕ → List ℕ
before zero n w = (0x30 + n) ∷ w
before (suc turns) n w = cond (ltb n 10) ((0x30 + n) ∷ w) (before turns (n / 10) ((0x30 + n % 10) ∷ w))

-- the text of n
abbrev pub decimal : ℕ → List ℕ
decimal n = before n n []

-- the digits that a text starts with
unfoldable pub lead : List ℕ → List ℕ
lead [] = []
lead (b ∷ s) = cond (is_digit b) (b ∷ lead s) []

-- a value, or 2 ^ 32 for a greater one
abbrev pub capped : ℕ → ℕ
capped v = min v 4294967296

-- the digits of s from place `at` on: their value, and where they end
abbrev pub digits_at : List ℕ → ℕ → Digits
digits_at s at = record { value = capped (value_of (lead (drop at s))); end = at + length (lead (drop at s)) }

-- the same where they are a number
unfoldable pub number_at : List ℕ → ℕ → Option (ℕ × ℕ)
number_at s at = cond (is_number (lead (drop at s))) (Some ((digits_at s at).value, (digits_at s at).end)) None

-- where the text of n ends that is written into o from place `at` on; `at` where there is no room for it
unfoldable pub number_end : List ℕ → ℕ → ℕ → ℕ
number_end o at n = cond (leb (at + length (decimal n)) (length o)) (at + length (decimal n)) at
