-- What texts and schedules there are, by what stands in them and without a reader: lines that fit, with the bytes of the entries that they stand for, or such lines and the first bad one.
use Rattle.std.specs.Prelude.{ℕ, suc, ◌≤◌, ◌<◌, ◌≡◌, ◌≢◌, true, false, List, [], ◌∷◌, ◌++◌, length, get_or}
use Rattle.wire.specs.Bytes.{entry_mark, marked}
use Rattle.digits.specs.Decimal.{value_of}
use Rattle.entries.specs.Entry.{entry_bytes}
use Rattle.texts.specs.Types.{Entry, NotZero, WrongMark, TooShort, NotALine, TooLarge}
use Rattle.texts.specs.Line.{newline, Line, entry_with}
use Rattle.texts.specs.Made.{Made, good, bad}
use Rattle.texts.specs.Text.{newlines}

-- the first three are bytes, and the value has 32 bits
pub record Fits (task kind cell value : List ℕ) : Type 0 where
  pub task_byte : value_of task ≤ 255
  pub kind_byte : value_of kind ≤ 255
  pub cell_byte : value_of cell ≤ 255
  pub value_word : value_of value < 4294967296

abbrev pub Fitting : {w : List ℕ} → Line w → Type 0
Fitting l = Fits l.task l.kind l.cell l.value

-- the entry that a line stands for
abbrev pub entry_from : {w : List ℕ} → Line w → Entry
entry_from l = entry_with (value_of l.task) (value_of l.kind) (value_of l.cell) (value_of l.value)

-- t is n lines that fit, one after the other, and s is their entries' bytes
pub data Lines : ℕ → List ℕ → List ℕ → Type 0 where
  none : Lines 0 [] []
  more : (w t s : List ℕ) (n : ℕ) (l : Line w) → Fitting l → Lines n t s → Lines (suc n) (w ++ t) (entry_bytes (entry_from l) ++ s)

-- a text of few enough newlines and what import makes of it: lines that fit and nothing else, or lines that fit, the first bad one, and anything
pub data Imports : List ℕ → Made → Type 0 where
  all_fit : {n : ℕ} {t s : List ℕ} → Lines n t s → Imports t (good s)
  not_closed : {n : ℕ} {t s : List ℕ} → Lines n t s → (u : List ℕ) → 1 ≤ length u → newlines u ≡ 0 → Imports (t ++ u) (bad NotALine)
  no_line : {n : ℕ} {t s : List ℕ} → Lines n t s → (v u : List ℕ) → newlines v ≡ 0 → (Line (v ++ newline ∷ []) → ⊥) → Imports (t ++ (v ++ newline ∷ u)) (bad NotALine)
  too_large : {n : ℕ} {t s : List ℕ} → Lines n t s → (v u : List ℕ) (l : Line (v ++ newline ∷ [])) → (Fitting l → ⊥) → Imports (t ++ (v ++ newline ∷ u)) (bad TooLarge)

-- bytes, few enough of them, and what export makes of them: entries of lines and nothing else, or such entries, the first bad one, and anything
pub data Exports : List ℕ → Made → Type 0 where
  all_whole : {n : ℕ} {t s : List ℕ} → Lines n t s → Exports s (good t)
  cut_off : {n : ℕ} {t s : List ℕ} → Lines n t s → (u : List ℕ) → 1 ≤ length u → length u < 10 → Exports (s ++ u) (bad TooShort)
  no_mark : {n : ℕ} {t s : List ℕ} → Lines n t s → (b u : List ℕ) → length b ≡ 10 → marked entry_mark b ≡ false → Exports (s ++ (b ++ u)) (bad WrongMark)
  not_zero : {n : ℕ} {t s : List ℕ} → Lines n t s → (b u : List ℕ) → length b ≡ 10 → marked entry_mark b ≡ true → get_or b 5 0 ≢ 0 → Exports (s ++ (b ++ u)) (bad NotZero)
