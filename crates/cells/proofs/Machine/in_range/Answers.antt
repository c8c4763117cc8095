-- `Machine::in_range`: the tables, then the task records.
use Rattle.std.proofs.Common.{sym}
use Rattle.cells.proofs.Decide.{range_tests}
use Rattle.cells.proofs.Machine.in_range.Goals as goal

pub returns-then-tables_ok : goal.returns-then-tables_ok
returns-then-tables_ok c = rw (range_tests, sym (c.if-tables_ok.ensures {u = tt})) c.tasks_ok.ensures

pub returns-else-tables_ok : goal.returns-else-tables_ok
returns-else-tables_ok c = rw (range_tests, sym (c.if-tables_ok.ensures {u = tt})) c.if-tables_ok.false
