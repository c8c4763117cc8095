-- The free-nodes question, answered from the number that the record keeps.
use Rattle.std.specs.Prelude.{ℕ, cond, Result, Ok, Err}
use Rattle.answers.specs.Numbers.{refusal_or_0}
use Rattle.cells.specs.Types.{Machine, Damaged}
use Rattle.cells.specs.Machine.{pool_ok}
use Rattle.answers.specs.declared.Refusal.{Refusal}

-- 22 where the sizes or the number are out of range, else the number; no table is looked at
unfoldable pub free_of : ℕ → ℕ → ℕ → ℕ → Result ℕ Refusal
free_of n p k free = cond (pool_ok n p k free) (Ok free) (Err Damaged)

-- asked of a record
abbrev pub free_nodes : Machine → Result ℕ Refusal
free_nodes m = free_of m.n m.p m.k m.free

abbrev pub free_number : Result ℕ Refusal → ℕ
free_number f = refusal_or_0 f

-- a refused question gives no number
abbrev pub free_value : Result ℕ Refusal → ℕ
free_value (Ok n) = n
free_value (Err r) = 0
