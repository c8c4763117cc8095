-- What every step keeps, and so what holds of every record that is reached: the counts' meaning, who may claim a node, how many are
-- free, and the ranges.
use Rattle.std.specs.Prelude.{ℕ, ◌+◌, ◌*◌, ◌≤◌, ◌<◌, ◌≡◌, ◌≢◌, List, length, get_or, T}
use Rattle.tasks.specs.Records.{no_task}
use Rattle.tasks.specs.Phases.{is_phase, live, passed}
use Rattle.laws.specs.Types.{Task, Machine}
use Rattle.laws.specs.Meaning.{pointers, claimers, keepers, free}

-- every node's count is what is due to it
abbrev pub Counted : Machine → Type 0
Counted m = (i : ℕ) → i < m.k → get_or m.counts i 0 ≡ pointers m i + claimers m i + keepers m i

-- a node is pointed at or claimed at most once
abbrev pub Sole : Machine → Type 0
Sole m = (i : ℕ) → i < m.k → pointers m i + claimers m i ≤ 1

-- no task owns a node that a passed check holds
abbrev pub Apart : Task → Task → Type 0
Apart x y = T (passed x.phase) → T (live y.phase) → y.own.0 ≢ x.held.0

abbrev pub Held : Machine → Type 0
Held m = (x y : ℕ) → x < m.p → y < m.p → Apart (get_or m.tasks x no_task) (get_or m.tasks y no_task)

-- a task about to swap has written its value
abbrev pub Ready : List ℕ → Task → Type 0
Ready vs t = t.phase ≡ 8 → get_or vs t.own.0 0 ≡ t.value

abbrev pub Written : Machine → Type 0
Written m = (x : ℕ) → x < m.p → Ready m.values (get_or m.tasks x no_task)

-- a task's record is in range for n cells and k nodes
pub record InRange (n k : ℕ) (t : Task) : Type 0 where
  pub phase : T (is_phase t.phase)
  pub cell : t.cell.0 < n
  pub held : t.held.0 < k
  pub own : t.own.0 < k
  pub cursor : t.cursor.0 < k

-- the arrays' lengths and document 01's ranges
pub record Sound (m : Machine) : Type 0 where
  pub cells_length : length m.cells ≡ 64
  pub values_length : length m.values ≡ 128
  pub counts_length : length m.counts ≡ 128
  pub tasks_length : length m.tasks ≡ 16
  pub a_cell : 0 < m.n
  pub cells : m.n ≤ 64
  pub a_task : 0 < m.p
  pub tasks : m.p ≤ 16
  pub room : m.n + 2 * m.p ≤ m.k
  pub nodes : m.k ≤ 128
  pub pointed : (x : ℕ) → x < m.n → get_or m.cells x 0 < m.k
  pub each : (q : ℕ) → q < m.p → InRange m.n m.k (get_or m.tasks q no_task)

-- what every step keeps; the kept number of free nodes is the full count
pub record Kept (m : Machine) : Type 0 where
  pub sound : Sound m
  pub free_counted : m.free ≡ free m
  pub counted : Counted m
  pub sole : Sole m
  pub held : Held m
  pub written : Written m
