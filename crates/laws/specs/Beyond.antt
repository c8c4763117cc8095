-- The places of a record past N, P and K: a record that is zero there, and records that are alike below them.
use Rattle.std.specs.Prelude.{ℕ, ◌≤◌, ◌<◌, ◌≡◌, List, length, get_or}
use Rattle.tasks.specs.Records.{no_task}
use Rattle.laws.specs.Types.{Machine, Applied}

-- no pointer past N, no value and no count past K, no task past P
pub record Bare (m : Machine) : Type 0 where
  pub cells : (x : ℕ) → m.n ≤ x → get_or m.cells x 0 ≡ 0
  pub values : (i : ℕ) → m.k ≤ i → get_or m.values i 0 ≡ 0
  pub counts : (i : ℕ) → m.k ≤ i → get_or m.counts i 0 ≡ 0
  pub tasks : (q : ℕ) → m.p ≤ q → get_or m.tasks q no_task ≡ no_task

-- two lists of one length have the same in every place below k
pub record Agree {A : Type 0} (d : A) (k : ℕ) (l l' : List A) : Type 0 where
  pub long : length l ≡ length l'
  pub below : (i : ℕ) → i < k → get_or l i d ≡ get_or l' i d

-- two records have the same sizes and number of free nodes, and the same in every place below the sizes
pub record Alike (m m' : Machine) : Type 0 where
  pub same_n : m.n ≡ m'.n
  pub same_p : m.p ≡ m'.p
  pub same_k : m.k ≡ m'.k
  pub same_free : m.free ≡ m'.free
  pub cells : Agree 0 m.n m.cells m'.cells
  pub values : Agree 0 m.k m.values m'.values
  pub counts : Agree 0 m.k m.counts m'.counts
  pub tasks : Agree no_task m.p m.tasks m'.tasks

-- two entries are answered the same, and leave records that are alike
pub record Alike-after (a a' : Applied) : Type 0 where
  pub answer : a.answer ≡ a'.answer
  pub task : a.task ≡ a'.task
  pub machine : Alike a.machine a'.machine
