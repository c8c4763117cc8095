-- Bytes as document 01 has them: each record starts with a two-byte mark, and numbers are little endian.
use Rattle.std.specs.Prelude.{ℕ, ◌+◌, ◌*◌, ◌/◌, ◌%◌, ◌<◌, Bool, cond, ◌&&◌, List, [], ◌∷◌, ◌++◌, eqb, leb, length, get_or, take, drop}

-- each element is a byte
abbrev pub Bytes : List ℕ → Type 0
Bytes s = (i : ℕ) → get_or s i 0 < 256

abbrev pub setup_mark : List ℕ
setup_mark = 0x53 ∷ 0x55 ∷ []

abbrev pub entry_mark : List ℕ
entry_mark = 0x45 ∷ 0x4E ∷ []

abbrev pub reply_mark : List ℕ
reply_mark = 0x41 ∷ 0x4E ∷ []

-- the bytes start with the mark
unfoldable pub marked : List ℕ → List ℕ → Bool
marked mark s = eqb (get_or s 0 0) (get_or mark 0 0) && eqb (get_or s 1 0) (get_or mark 1 0)

-- four bytes, the lowest first
abbrev pub word : ℕ → ℕ → ℕ → ℕ → ℕ
word a b c d = a + 256 * b + 65536 * c + 16777216 * d

-- the number in the four bytes from `at` on
unfoldable pub word_at : List ℕ → ℕ → ℕ
word_at s at = word (get_or s at 0) (get_or s (at + 1) 0) (get_or s (at + 2) 0) (get_or s (at + 3) 0)

-- a number below 2 ^ 32 in four bytes
abbrev pub little_endian : ℕ → List ℕ
little_endian y = y % 256 ∷ y / 256 % 256 ∷ y / 65536 % 256 ∷ y / 16777216 ∷ []

-- a reply's 8 bytes: the mark, number, task, value (4)
abbrev pub reply_of : ℕ → ℕ → ℕ → List ℕ
reply_of n t y = reply_mark ++ n ∷ t ∷ little_endian y

-- o with the bytes bs from place `at` on, and every other byte as it was
abbrev pub overlaid : List ℕ → ℕ → List ℕ → List ℕ
overlaid o at bs = take at o ++ bs ++ drop (at + length bs) o

-- the same where o has room for all of them, else o as it was
unfoldable pub fitted : List ℕ → ℕ → List ℕ → List ℕ
fitted o at bs = cond (leb (at + length bs) (length o)) (overlaid o at bs) o
