-- A line of text: which texts are one, and the entry that it stands for.
use Rattle.std.specs.Prelude.{ℕ, Bool, true, cond, ◌&&◌, ◌≡◌, List, [], ◌∷◌, ◌++◌, eqb, leb}
use Rattle.digits.specs.Decimal.{is_number, value_of, decimal}
use Rattle.texts.specs.Types.{Entry}

abbrev pub comma : ℕ
comma = 0x2C

abbrev pub newline : ℕ
newline = 0x0A

-- four texts with single commas between them
abbrev pub bare : List ℕ → List ℕ → List ℕ → List ℕ → List ℕ
bare task kind cell value = task ++ comma ∷ kind ++ comma ∷ cell ++ comma ∷ value

-- and closed by one newline
abbrev pub joined : List ℕ → List ℕ → List ℕ → List ℕ → List ℕ
joined task kind cell value = bare task kind cell value ++ newline ∷ []

-- the form: which texts are a line
pub record Line (w : List ℕ) : Type 0 where
  pub task : List ℕ
  pub kind : List ℕ
  pub cell : List ℕ
  pub value : List ℕ
  pub task_number : is_number task ≡ true
  pub kind_number : is_number kind ≡ true
  pub cell_number : is_number cell ≡ true
  pub value_number : is_number value ≡ true
  pub line : w ≡ joined task kind cell value

-- the line of an entry
abbrev pub line_of : Entry → List ℕ
line_of e = joined (decimal e.task.0) (decimal e.kind) (decimal e.cell.0) (decimal e.value)

-- s up to the first byte b, and what follows that byte
unfoldable pub up_to : ℕ → List ℕ → List ℕ
up_to b [] = []
up_to b (c ∷ s) = cond (eqb c b) [] (c ∷ up_to b s)

unfoldable pub past : ℕ → List ℕ → List ℕ
past b [] = []
past b (c ∷ s) = cond (eqb c b) s (past b s)

-- the four texts that commas part; w is a line without its newline
abbrev pub task_text : List ℕ → List ℕ
task_text w = up_to comma w

abbrev pub kind_text : List ℕ → List ℕ
kind_text w = up_to comma (past comma w)

abbrev pub cell_text : List ℕ → List ℕ
cell_text w = up_to comma (past comma (past comma w))

abbrev pub value_text : List ℕ → List ℕ
value_text w = past comma (past comma (past comma w))

-- all four are numbers
unfoldable pub is_line : List ℕ → Bool
is_line w = is_number (task_text w) && is_number (kind_text w) && is_number (cell_text w) && is_number (value_text w)

-- the first three are bytes, and the value has 32 bits
abbrev pub small : ℕ → ℕ → ℕ → ℕ → Bool
small task kind cell value = leb task 255 && leb kind 255 && leb cell 255 && leb value 4294967295

unfoldable pub fits : List ℕ → Bool
fits w = small (value_of (task_text w)) (value_of (kind_text w)) (value_of (cell_text w)) (value_of (value_text w))

-- the entry of four numbers, with a zero byte; and that of a line that fits
abbrev pub entry_with : ℕ → ℕ → ℕ → ℕ → Entry
entry_with task kind cell value = record { task = record { 0 = task }; kind = kind; cell = record { 0 = cell }; spare = 0; value = value }

abbrev pub entry_in : List ℕ → Entry
entry_in w = entry_with (value_of (task_text w)) (value_of (kind_text w)) (value_of (cell_text w)) (value_of (value_text w))
