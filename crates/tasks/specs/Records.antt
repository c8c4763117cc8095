-- A task's record with one field changed, and the ranges of its fields.
use Rattle.std.specs.Prelude.{ℕ, Bool, ◌&&◌, ltb}
use Rattle.tasks.specs.Types.{CellNo, NodeNo, Task}
use Rattle.tasks.specs.Phases.{is_phase}

abbrev pub cell_no : ℕ → CellNo
cell_no i = record { 0 = i }

abbrev pub node_no : ℕ → NodeNo
node_no i = record { 0 = i }

abbrev pub with_fields : ℕ → CellNo → ℕ → NodeNo → NodeNo → NodeNo → Task
with_fields phase cell value held own cursor = record { phase = phase; cell = cell; value = value; held = held; own = own; cursor = cursor }

-- idle, cursor, link and store value 0
abbrev pub idle_owning : NodeNo → Task
idle_owning v = record { phase = 0; cell = cell_no 0; value = 0; held = node_no 0; own = v; cursor = node_no 0 }

-- all zero: what stands past P
abbrev pub no_task : Task
no_task = idle_owning (node_no 0)

abbrev pub onward : Task → ℕ → Task
onward t f = record { phase = f; cell = t.cell; value = t.value; held = t.held; own = t.own; cursor = t.cursor }

abbrev pub holding : Task → NodeNo → Task
holding t v = record { phase = t.phase; cell = t.cell; value = t.value; held = v; own = t.own; cursor = t.cursor }

abbrev pub owning : Task → NodeNo → Task
owning t v = record { phase = t.phase; cell = t.cell; value = t.value; held = t.held; own = v; cursor = t.cursor }

abbrev pub probing : Task → NodeNo → Task
probing t v = record { phase = t.phase; cell = t.cell; value = t.value; held = t.held; own = t.own; cursor = v }

-- phase one that there is; cell below N; m, own and cursor below K, in every phase
unfoldable pub task_ok : ℕ → ℕ → Task → Bool
task_ok n k t = is_phase t.phase && ltb t.cell.0 n && ltb t.held.0 k && ltb t.own.0 k && ltb t.cursor.0 k
