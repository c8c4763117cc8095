-- The holders question: how many task records in a lent list hold a given node.
use Rattle.std.specs.Prelude.{ℕ, Bool, cond, ◌&&◌, ◌||◌, List, eqb, ltb, length, take, Option, Some, None}
use Rattle.tallies.specs.Tally.{bit, tally}
use Rattle.tasks.specs.Types.{NodeNo, Task}
use Rattle.tasks.specs.Phases.{holds}

-- 1 where the task holds node i, by its m
abbrev pub keeps : ℕ → Task → ℕ
keeps i t = bit (holds t.phase && eqb t.held.0 i)

-- refused: a list above 16 records, or a node above 127
abbrev pub beyond_of : ℕ → NodeNo → Bool
beyond_of n v = ltb 16 n || ltb 127 v.0

unfoldable pub holders_of : List Task → NodeNo → Option ℕ
holders_of ts v = cond (beyond_of (length ts) v) None (Some (tally (keeps v.0) (length ts) ts))

-- asked of the first p records of a table of 16
unfoldable pub held_among : List Task → ℕ → NodeNo → Option ℕ
held_among ts p v = cond (ltb 16 p) None (holders_of (take p ts) v)

abbrev pub holders_number : Option ℕ → ℕ
holders_number (Some n) = 0
holders_number None = 24

-- a refused question gives no count
abbrev pub holders_value : Option ℕ → ℕ
holders_value (Some n) = n
holders_value None = 0
