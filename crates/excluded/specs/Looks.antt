-- One number of an answer that has many, so that a wrong answer can be named by it.
use Rattle.std.specs.Prelude.{ℕ, [], ◌∷◌, get_or, Result, Ok, Err}
use Rattle.answers.specs.Numbers.{refusal_number, refusal_or_0, number_of, value_of}
use Rattle.tasks.specs.declared.Task.{Task}
use Rattle.tasks.specs.Records.{no_task}
use Rattle.steps.specs.Types.{Effect}
use Rattle.steps.specs.Table.{answer_of}
use Rattle.entries.specs.declared.Asked.{Asked}
use Rattle.entries.specs.declared.Asked.TheVariants.{ToGo, ToLoad, ToStore, ToRelease, ToValidate}
use Rattle.cells.specs.declared.Machine.{Machine}
use Rattle.cells.specs.Machine.{left_by}
use Rattle.runs.specs.declared.Report.{Report}
use Rattle.runs.specs.Run.{report_of}
use Rattle.excluded.specs.Records.{made_of, cells, values, counts}
use Rattle.answers.specs.declared.Refusal.{Refusal}

-- what an effect of task 0 leaves of a machine that has these tables, an all-zero record of that task and 2 free nodes
abbrev pub left : Effect → Machine
left e = left_by (made_of 1 2 5 2 cells values counts (no_task ∷ [])) (record { 0 = 0 }) e

-- the task's record; all zero if the effect is a refusal
abbrev pub task_left : Effect → Task
task_left e = get_or (left e).tasks 0 no_task

abbrev pub phase_left : Effect → ℕ
phase_left e = (task_left e).phase

abbrev pub cell_left : Effect → ℕ
cell_left e = (task_left e).cell.0

abbrev pub held_left : Effect → ℕ
held_left e = (task_left e).held.0

abbrev pub own_left : Effect → ℕ
own_left e = (task_left e).own.0

abbrev pub cursor_left : Effect → ℕ
cursor_left e = (task_left e).cursor.0

-- the number and the value of its answer
abbrev pub number_told : Effect → ℕ
number_told e = number_of (answer_of e)

abbrev pub value_told : Effect → ℕ
value_told e = value_of (answer_of e)

-- the cell's node, the value and the count of node v, and how many nodes are free
abbrev pub pointer_left : Effect → ℕ
pointer_left e = get_or (left e).cells 0 0

abbrev pub value_left : ℕ → Effect → ℕ
value_left v e = get_or (left e).values v 0

abbrev pub count_left : ℕ → Effect → ℕ
count_left v e = get_or (left e).counts v 0

abbrev pub free_left : Effect → ℕ
free_left e = (left e).free

-- the refusal that an entry's own numbers give, 0 if none
abbrev pub fault_found : Result Asked Refusal → ℕ
fault_found a = refusal_or_0 a

-- the kind of what it asks for, 5 if it is refused
abbrev pub kind_asked : Result Asked Refusal → ℕ
kind_asked (Ok ToGo) = 0
kind_asked (Ok (ToLoad x)) = 1
kind_asked (Ok (ToStore x y)) = 2
kind_asked (Ok ToRelease) = 3
kind_asked (Ok ToValidate) = 4
kind_asked (Err r) = 5

-- the report of an outcome: of a refused setup its refusal, and no entries
abbrev pub report_told : Result Report Refusal → Report
report_told (Err r) = report_of (refusal_number r)
report_told (Ok x) = x
