-- The entries of a schedule, from its bytes.
use Rattle.std.specs.Prelude.{ℕ, zero, suc, ◌+◌, ◌/◌, List, [], ◌∷◌, length, take, drop}

-- how many entries the bytes are, a cut one included
abbrev pub entries_in : List ℕ → ℕ
entries_in s = (length s + 9) / 10

-- n entries from the front: ten bytes each, or what is left
unfoldable pub cut : ℕ → List ℕ → List (List ℕ)
cut zero s = []
cut (suc n) s = take 10 s ∷ cut n (drop 10 s)

abbrev pub entries_of : List ℕ → List (List ℕ)
entries_of s = cut (entries_in s) s
