-- What the theorems are computed on: the small machine (1 cell at node 0, 2 tasks with nodes 1 and 2, 5 nodes, 2 of them free) with one thing in it
-- replaced, a task's record, and tables.
use Rattle.std.specs.Prelude.{ℕ, List, [], ◌∷◌, ◌++◌, get_or, set, replicate}
use Rattle.tasks.specs.declared.TaskNo.{TaskNo}
use Rattle.tasks.specs.declared.Task.{Task}
use Rattle.tasks.specs.Records.{cell_no, node_no, no_task, with_fields, onward, probing}
use Rattle.steps.specs.declared.Seen.{Seen}
use Rattle.cells.specs.declared.Machine.{Machine}
use Rattle.cells.specs.Machine.{placed}
use Rattle.cells.specs.Free.{free_of}
use Rattle.entries.specs.Schedule.{cut}
use Rattle.runs.specs.Run.{replies_from, notes_from, ran_from, ran_of, replies_of, buffer_of, noted_of}
use Rattle.laws.specs.Small.{fresh}
use Rattle.faults.specs.Benches.{computing}

-- the bytes of some entries, one after the other
abbrev pub bytes : List (List ℕ) → List ℕ
bytes [] = []
bytes (e ∷ es) = e ++ bytes es

-- for `unfolding` lines: all that a run computes with
unfoldable pub running : Unit {0}
unfolding computing free_of cut replies_from notes_from ran_from ran_of replies_of buffer_of noted_of
running = tt

-- the machine of these numbers and tables
abbrev pub made_of : ℕ → ℕ → ℕ → ℕ → List ℕ → List ℕ → List ℕ → List Task → Machine
made_of n p k free cells values counts tasks = record { n = n; p = p; k = k; free = free; cells = cells; values = values; counts = counts; tasks = tasks }

-- m with another number of free nodes, another K, another pointer, count or task record
abbrev pub with_free : Machine → ℕ → Machine
with_free m free = made_of m.n m.p m.k free m.cells m.values m.counts m.tasks

abbrev pub with_pool : Machine → ℕ → Machine
with_pool m k = made_of m.n m.p k m.free m.cells m.values m.counts m.tasks

abbrev pub with_cell : Machine → ℕ → ℕ → Machine
with_cell m x v = made_of m.n m.p m.k m.free (set m.cells x v) m.values m.counts m.tasks

abbrev pub with_count : Machine → ℕ → ℕ → Machine
with_count m v c = made_of m.n m.p m.k m.free m.cells m.values (set m.counts v c) m.tasks

abbrev pub with_task : Machine → ℕ → Task → Machine
with_task m p t = made_of m.n m.p m.k m.free m.cells m.values m.counts (set m.tasks p t)

-- the record of task p
abbrev pub task_at : Machine → ℕ → Task
task_at m p = get_or m.tasks p no_task

-- out of range: the cell at K; a count of P+2; K+1 free nodes; a pool of N+2P-1; task 0 in phase 10; task 1's cursor at K
abbrev pub pointer_at_k : Machine
pointer_at_k = with_cell fresh 0 5

abbrev pub count_past_most : Machine
count_past_most = with_count fresh 0 4

abbrev pub free_past_k : Machine
free_past_k = with_free fresh 6

abbrev pub pool_too_small : Machine
pool_too_small = with_pool fresh 4

abbrev pub phase_ten : Machine
phase_ten = with_task fresh 0 (onward (task_at fresh 0) 10)

abbrev pub cursor_at_k : Machine
cursor_at_k = with_task fresh 1 (probing (task_at fresh 1) (node_no 5))

-- in range: a phase of 10 past P; task 1 at S6, with its cursor at node 3, which is free; task 1 at L5, whose m has count 0, which can't be lowered
abbrev pub phase_ten_past_p : Machine
phase_ten_past_p = with_task fresh 2 (onward (task_at fresh 2) 10)

abbrev pub seeking : Machine
seeking = with_task fresh 1 (with_fields 12 (cell_no 0) 9 (node_no 0) (node_no 2) (node_no 3))

abbrev pub nothing_to_lower : Machine
nothing_to_lower = with_task fresh 1 (with_fields 5 (cell_no 0) 0 (node_no 3) (node_no 2) (node_no 0))

-- in range: task 1 in phase f of a store of 9 to the cell, linked by node 0, at which the cell still is
abbrev pub in_store : ℕ → Machine
in_store f = with_task fresh 1 (with_fields f (cell_no 0) 9 (node_no 0) (node_no 2) (node_no 0))

-- the record of a task in phase f: x is cell 0, Y 9, m node 3, own node 1, cursor node 4
abbrev pub at : ℕ → Task
at f = with_fields f (cell_no 0) 9 (node_no 3) (node_no 1) (node_no 4)

-- tables for it: the cell at node 3, and 5 nodes with their values and counts
abbrev pub cells : List ℕ
cells = 3 ∷ replicate 63 0

abbrev pub values : List ℕ
values = 10 ∷ 11 ∷ 12 ∷ 13 ∷ 14 ∷ replicate 123 0

abbrev pub counts : List ℕ
counts = 1 ∷ 1 ∷ 0 ∷ 2 ∷ 0 ∷ replicate 123 0

-- a machine of 1 cell, 2 tasks and 5 nodes, 2 of them free, with those values and counts, these pointers and these task records
abbrev pub with_tables : List ℕ → List Task → Machine
with_tables cs ts = made_of 1 2 5 2 cs values counts ts

-- the machine of those tables in which task p stands with the record t, and no other task has one
abbrev pub standing : TaskNo → Task → Machine
standing p t = with_tables cells (set (replicate 16 no_task) (placed p).0 t)

-- what its step sees if its cell is at `here`, m has count c and the cursor's node count d, in a machine of 2 tasks and 5 nodes, 2 of them free
abbrev pub sees : ℕ → ℕ → ℕ → Seen
sees here c d = record { here = node_no here; held_count = c; cursor_count = d; held_value = 13; tasks = 2; nodes = 5; free = 2 }
