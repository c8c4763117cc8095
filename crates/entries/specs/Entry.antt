-- An entry's ten bytes: the mark, task, kind, cell, a zero byte, value (4); which of them must be zero (15), and which cells there are (14).
use Rattle.std.specs.Prelude.{ℕ, Bool, cond, not, ◌&&◌, ◌||◌, List, ◌∷◌, ◌++◌, eqb, leb, ltb, length, get_or, Result, Ok, Err}
use Rattle.wire.specs.Bytes.{entry_mark, marked, word_at, little_endian}
use Rattle.entries.specs.Types.{WrongMark, TooShort, Entry}
use Rattle.answers.specs.declared.Refusal.{Refusal}

-- the entry that the first ten bytes of s are
abbrev pub entry_at : List ℕ → Entry
entry_at s =
    record {
      task = record { 0 = get_or s 2 0 };
      kind = get_or s 3 0;
      cell = record { 0 = get_or s 4 0 };
      spare = get_or s 5 0;
      value = word_at s 6;
    }

-- the entry at the front of s, or why there is none
unfoldable pub entry_of : List ℕ → Result Entry Refusal
entry_of s =
    cond (ltb (length s) 10) (Err TooShort)  -- 20
    (cond (not (marked entry_mark s)) (Err WrongMark)  -- 19
    (Ok (entry_at s)))

-- an entry's ten bytes
abbrev pub entry_bytes : Entry → List ℕ
entry_bytes e = entry_mark ++ e.task.0 ∷ e.kind ∷ e.cell.0 ∷ e.spare ∷ little_endian e.value

-- kinds 1 and 2, load and store, name a cell
abbrev pub names : ℕ → Bool
names kind = eqb kind 1 || eqb kind 2

-- a byte that must be zero isn't: the spare byte; the cell of go, release and validate; the value of all but store
unfoldable pub nonzero : Entry → Bool
nonzero e =
    not (eqb e.spare 0)
    || (not (names e.kind) && not (eqb e.cell.0 0))
    || (not (eqb e.kind 2) && not (eqb e.value 0))

-- a load or a store of a cell n or more
unfoldable pub outside : ℕ → Entry → Bool
outside n e = names e.kind && leb n e.cell.0
