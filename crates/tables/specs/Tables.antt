-- What the tables hold, the ranges of each (refusals 11 and 22), and where a setup's bytes have a value.
use Rattle.std.specs.Prelude.{ℕ, ◌+◌, ◌*◌, Bool, cond, ◌&&◌, List, leb, ltb, get_or, set}
use Rattle.tallies.specs.Lists.{within}
use Rattle.wire.specs.Bytes.{word_at}
use Rattle.tasks.specs.declared.CellNo.{CellNo}
use Rattle.tasks.specs.declared.NodeNo.{NodeNo}
use Rattle.tasks.specs.declared.TaskNo.{TaskNo}
use Rattle.tasks.specs.declared.Task.{Task}
use Rattle.tasks.specs.Records.{cell_no, node_no, no_task, task_ok}

-- the node that cell x points at; the count and the value of node v; the record of task p
abbrev pub node_in : List ℕ → CellNo → NodeNo
node_in cells x = node_no (get_or cells x.0 0)

abbrev pub count_in : List ℕ → NodeNo → ℕ
count_in counts v = get_or counts v.0 0

abbrev pub value_in : List ℕ → NodeNo → ℕ
value_in values v = get_or values v.0 0

abbrev pub task_in : List Task → TaskNo → Task
task_in tasks p = get_or tasks p.0 no_task

-- l with y at i, where i is below n
unfoldable pub put_in : {A : Type 0} → ℕ → List A → ℕ → A → List A
put_in n l i y = cond (ltb i n) (set l i y) l

-- N cells, 1 to 64; P tasks, 1 to 16; K nodes, at least N+2P, at most 128
unfoldable pub sizes_ok : ℕ → ℕ → ℕ → Bool
sizes_ok n p k = within 1 64 n && within 1 16 p && leb (n + 2 * p) k && leb k 128

-- the pointer of cell i is below K
abbrev pub cell_ok : List ℕ → ℕ → ℕ → Bool
cell_ok cells k i = ltb (node_in cells (cell_no i)).0 k

-- the count of node i is at most P+1
abbrev pub count_ok : List ℕ → ℕ → ℕ → Bool
count_ok counts p i = leb (count_in counts (node_no i)) (p + 1)

-- the record of task i is in range
abbrev pub task_ok_in : List Task → ℕ → ℕ → ℕ → Bool
task_ok_in tasks n k i = task_ok n k (get_or tasks i no_task)

-- the value of cell i in the bytes of a setup
abbrev pub value_given : List ℕ → ℕ → ℕ
value_given s i = word_at s (6 + 4 * i)
