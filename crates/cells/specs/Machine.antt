-- The machine record: what a step sees of it, what a step leaves of it, and its ranges.
use Rattle.std.specs.Prelude.{ℕ, Bool, ◌&&◌, ◌≡◌, List, leb, length, min, set, Ok, Err}
use Rattle.tallies.specs.Lists.{every}
use Rattle.steps.specs.Table.{answer_of}
use Rattle.tables.specs.Tables.{node_in, count_in, value_in, sizes_ok, cell_ok, count_ok, task_ok_in}
use Rattle.cells.specs.Types.{Machine, Applied, TaskNo, Task, Seen, Write, Nothing, Point, Count, Value, Effect, Refusal}

-- what a step of t sees: the node of x, the counts of m and of the cursor's node, the value of m, P, K and how many nodes are free
abbrev pub seen_in : List ℕ → List ℕ → List ℕ → Task → ℕ → ℕ → ℕ → Seen
seen_in cells values counts t p k free =
    record {
      here = node_in cells t.cell;
      held_count = count_in counts t.held;
      cursor_count = count_in counts t.cursor;
      held_value = value_in values t.held;
      tasks = p;
      nodes = k;
      free = free;
    }

abbrev pub seen_of : Machine → Task → Seen
seen_of m t = seen_in m.cells m.values m.counts t m.p m.k m.free

-- what a write leaves of each table, of which one takes it; `put` is how a number is put at a place
abbrev pub cells_by : (List ℕ → ℕ → ℕ → List ℕ) → Write → List ℕ → List ℕ
cells_by put Nothing l = l
cells_by put (Point x v) l = put l x.0 v.0
cells_by put (Count v c f) l = l
cells_by put (Value v y) l = l

abbrev pub values_by : (List ℕ → ℕ → ℕ → List ℕ) → Write → List ℕ → List ℕ
values_by put Nothing l = l
values_by put (Point x v) l = l
values_by put (Count v c f) l = l
values_by put (Value v y) l = put l v.0 y

abbrev pub counts_by : (List ℕ → ℕ → ℕ → List ℕ) → Write → List ℕ → List ℕ
counts_by put Nothing l = l
counts_by put (Point x v) l = l
counts_by put (Count v c f) l = put l v.0 c
counts_by put (Value v y) l = l

-- and how many nodes are free then: a count brings the number with it
abbrev pub free_by : Write → ℕ → ℕ
free_by Nothing free = free
free_by (Point x v) free = free
free_by (Count v c f) free = f
free_by (Value v y) free = free

-- each table of a machine after a write
abbrev pub cells_after : Machine → Write → List ℕ
cells_after m w = cells_by set w m.cells

abbrev pub values_after : Machine → Write → List ℕ
values_after m w = values_by set w m.values

abbrev pub counts_after : Machine → Write → List ℕ
counts_after m w = counts_by set w m.counts

-- task p's record is t, the one place is written, the number of free nodes goes with a count, and nothing else changes
abbrev pub written : Machine → TaskNo → Task → Write → Machine
written m p t w =
    record {
      n = m.n;
      p = m.p;
      k = m.k;
      free = free_by w m.free;
      cells = cells_after m w;
      values = values_after m w;
      counts = counts_after m w;
      tasks = set m.tasks p.0 t;
    }

-- a refusal leaves the record unchanged; i is the task byte of its reply
abbrev pub refused_by : Machine → ℕ → Refusal → Applied
refused_by m i r = record { machine = m; answer = Err r; task = i }

-- where a lent machine has the record of task p: a number past the 16th stands for the last. A machine in range accepts no entry of such a task
abbrev pub placed : TaskNo → TaskNo
placed p = record { 0 = min p.0 15 }

-- an effect of task p leaves the record as it was, or written
abbrev pub left_by : Machine → TaskNo → Effect → Machine
left_by m p (Err r) = m
left_by m p (Ok d) = written m p d.task d.write

-- it is carried out, and answered
unfoldable pub carried_of : Machine → TaskNo → Effect → Applied
carried_of m p e = record { machine = left_by m p e; answer = answer_of e; task = p.0 }

-- N, P, K inside the sizes; no more free nodes than K
abbrev pub pool_ok : ℕ → ℕ → ℕ → ℕ → Bool
pool_ok n p k free = sizes_ok n p k && leb free k

-- and every pointer below K; every count at most P+1
abbrev pub tables_ok : ℕ → ℕ → ℕ → ℕ → List ℕ → List ℕ → Bool
tables_ok n p k free cells counts = pool_ok n p k free && every (cell_ok cells k) n && every (count_ok counts p) k

-- and every task's record in range
unfoldable pub in_range : Machine → Bool
in_range m = tables_ok m.n m.p m.k m.free m.cells m.counts && every (task_ok_in m.tasks m.n m.k) m.p

-- the arrays have the lengths of their types: so has every record of the code, and a list of the logic need not
pub record Long (m : Machine) : Type 0 where
  pub cells : length m.cells ≡ 64
  pub values : length m.values ≡ 128
  pub counts : length m.counts ≡ 128
  pub tasks : length m.tasks ≡ 16
