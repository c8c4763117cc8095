-- A schedule as text, and as entry bytes: each made from the other.
use Rattle.std.specs.Prelude.{ℕ, zero, suc, ◌+◌, cond, not, List, [], ◌∷◌, ◌++◌, map, eqb, ltb, length, Result, Ok, Err}
use Rattle.tallies.specs.Tally.{bit}
use Rattle.entries.specs.Entry.{entry_of, entry_bytes}
use Rattle.entries.specs.Schedule.{entries_of}
use Rattle.texts.specs.Types.{Entry, Refusal, NotZero, TooLong, NotALine, TooLarge}
use Rattle.texts.specs.Line.{newline, up_to, past, is_line, fits, entry_in, line_of}
use Rattle.texts.specs.Made.{Made, good, bad, gathered}

-- Import.

-- how many newlines
unfoldable pub newlines : List ℕ → ℕ
newlines [] = 0
newlines (c ∷ t) = bit (eqb c newline) + newlines t

-- what n newlines close, line by line and without them
unfoldable pub closed : ℕ → List ℕ → List (List ℕ)
closed zero t = []
closed (suc n) t = up_to newline t ∷ closed n (past newline t)

-- what follows n newlines
unfoldable pub following : ℕ → List ℕ → List ℕ
following zero t = t
following (suc n) t = following n (past newline t)

-- an entry's bytes from a line; form before size
unfoldable pub line_made : List ℕ → Made
line_made w =
    cond (not (is_line w)) (bad NotALine)  -- 30
    (cond (not (fits w)) (bad TooLarge)  -- 31
    (good (entry_bytes (entry_in w))))

-- what follows the last newline is a line that is not closed, unless it is nothing
abbrev pub unclosed : List ℕ → List Made
unclosed [] = []
unclosed (c ∷ t) = bad NotALine ∷ []  -- 30

-- line by line
abbrev pub lines_made : List ℕ → List Made
lines_made t = map line_made (closed (newlines t) t) ++ unclosed (following (newlines t) t)

-- entry bytes from all lines
abbrev pub bytes_made : List ℕ → Made
bytes_made t = gathered (lines_made t)

-- all newlines are counted first
unfoldable pub imported : List ℕ → Made
imported t = cond (ltb 6553 (newlines t)) (bad TooLong) (bytes_made t)  -- 23

-- Export.

-- an entry whose sixth byte is zero; nothing else is tested beside 20 and 19
abbrev pub plain_of : Result Entry Refusal → Result Entry Refusal
plain_of (Err r) = Err r
plain_of (Ok e) = cond (eqb e.spare 0) (Ok e) (Err NotZero)  -- 15

-- a line from an entry's bytes
abbrev pub plain_made : Result Entry Refusal → Made
plain_made (Err r) = bad r
plain_made (Ok e) = good (line_of e)

abbrev pub entry_made : List ℕ → Made
entry_made b = plain_made (plain_of (entry_of b))

-- text from all entries
abbrev pub text_made : List ℕ → Made
text_made s = gathered (map entry_made (entries_of s))

-- the length is tested first
unfoldable pub exported : List ℕ → Made
exported s = cond (ltb 65530 (length s)) (bad TooLong) (text_made s)  -- 23
