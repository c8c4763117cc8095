-- What the private functions answer: a number and its closing byte, a line at a place, how many bytes are made.
use Rattle.std.specs.Prelude.{ℕ, ◌+◌, Bool, true, false, cond, ◌&&◌, List, eqb, ltb, length, get_or, drop, Option, Some, None, Result, Ok, Err}
use Rattle.digits.specs.Decimal.{number_at}
use Rattle.texts.specs.Types.{Entry, Refusal, NotALine, TooLarge}
use Rattle.texts.specs.Line.{newline, up_to, is_line, small, fits, entry_with, entry_in}
use Rattle.texts.specs.Made.{Made, good, bad}

-- a number that the byte `close` follows: its value, and the place behind that byte
abbrev pub closed_by : ℕ → List ℕ → Option (ℕ × ℕ) → Option (ℕ × ℕ)
closed_by close s None = None
closed_by close s (Some (v, end)) = cond (ltb end (length s) && eqb (get_or s end 0) close) (Some (v, end + 1)) None

unfoldable pub field_at : ℕ → List ℕ → ℕ → Option (ℕ × ℕ)
field_at close s at = closed_by close s (number_at s at)

-- the entry of four values, where they fit, and the place behind its line
unfoldable pub sized : ℕ → ℕ → ℕ → ℕ → ℕ → Result (Entry × ℕ) Refusal
sized task kind cell value next =
    cond (small task kind cell value) (Ok (entry_with task kind cell value, next))
    (Err TooLarge)

-- t has a newline
unfoldable pub is_closed : List ℕ → Bool
is_closed t = ltb (length (up_to newline t)) (length t)

-- what a line's text w is answered with, and the place behind the line
unfoldable pub line_in : List ℕ → ℕ → Result (Entry × ℕ) Refusal
line_in w next = cond (fits w) (Ok (entry_in w, next)) (Err TooLarge)

-- the line of s from place `at` on
unfoldable pub line_at : List ℕ → ℕ → Result (Entry × ℕ) Refusal
line_at s at =
    cond (is_closed (drop at s) && is_line (up_to newline (drop at s))) (line_in (up_to newline (drop at s)) (at + length (up_to newline (drop at s)) + 1))
    (Err NotALine)

-- how many bytes are made
abbrev pub length_of : Made → Result ℕ Refusal
length_of (good b) = Ok (length b)
length_of (bad r) = Err r

-- no piece is bad
abbrev pub is_good : Made → Bool
is_good (good b) = true
is_good (bad r) = false
