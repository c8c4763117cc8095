-- One schedule entry: it is decided, and then carried out.
use Rattle.std.specs.Prelude.{ℕ, Bool, cond, not, List, Result, Ok, Err}
use Rattle.tables.specs.Tables.{task_in}
use Rattle.entries.specs.Entry.{entry_of}
use Rattle.entries.specs.Order.{order_of}
use Rattle.cells.specs.Types.{Machine, Applied, Decision, TaskNo, Task, Seen, Damaged}
use Rattle.cells.specs.Machine.{seen_of, carried_of, in_range}
use Rattle.entries.specs.declared.Entry.{Entry}
use Rattle.answers.specs.declared.Refusal.{Refusal}

-- 20, 19: there is no task byte yet; else 12, 13, 15, 14, 16 or 17, 22 (the step) with the entry's task byte, or what the entry does.
-- `at` finds a task's record, and `sees` what a step of it may look at
unfoldable pub judged_of : ℕ → ℕ → (TaskNo → Task) → (Task → Seen) → Result Entry Refusal → Decision
judged_of n p at sees (Err r) = record { task = 0; effect = Err r }
judged_of n p at sees (Ok e) = let t = at e.task in record { task = e.task.0; effect = order_of n p e t (sees t) }

-- 22 (ranges) comes first
abbrev pub guarded : Bool → Decision → Decision
guarded ok d = cond (not ok) (record { task = 0; effect = Err Damaged }) d

-- of a machine
unfoldable pub decision_of : Machine → List ℕ → Decision
decision_of m s = guarded (in_range m) (judged_of m.n m.p (task_in m.tasks) (seen_of m) (entry_of s))

abbrev pub carried_by : Machine → Decision → Applied
carried_by m d = carried_of m (record { 0 = d.task }) d.effect

unfoldable pub apply_of : Machine → List ℕ → Applied
apply_of m s = carried_by m (decision_of m s)
