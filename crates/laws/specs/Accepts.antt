-- The entries that a record takes, by their bytes: the mark, task, kind, cell, a zero byte, value; and what a store is answered.
use Rattle.std.specs.Prelude.{ℕ, ◌≤◌, ◌<◌, ◌≡◌, true, false, List, length, get_or}
use Rattle.wire.specs.Bytes.{entry_mark, marked, word_at}
use Rattle.tasks.specs.Phases.{resting}
use Rattle.runs.specs.Counts.{kind_of, task_of}
use Rattle.cells.specs.Machine.{refused_by}
use Rattle.laws.specs.Types.{NoCell, NotNow, Store, Machine, Applied}
use Rattle.laws.specs.Outcomes.{Unlinked, lost_by, begun_by}

-- what a task may be asked: a step while a call runs, a load while it is idle, a store of any cell that there is while no call runs, a release and
-- a validate while it is linked
pub data May (m : Machine) (e : List ℕ) : Type 0 where
  go : kind_of e ≡ 0 → get_or e 4 0 ≡ 0 → word_at e 6 ≡ 0 → resting (task_of m e).phase ≡ false → May m e
  load : kind_of e ≡ 1 → get_or e 4 0 < m.n → word_at e 6 ≡ 0 → (task_of m e).phase ≡ 0 → May m e
  store : kind_of e ≡ 2 → get_or e 4 0 < m.n → resting (task_of m e).phase ≡ true → May m e
  release : kind_of e ≡ 3 → get_or e 4 0 ≡ 0 → word_at e 6 ≡ 0 → (task_of m e).phase ≡ 6 → May m e
  validate : kind_of e ≡ 4 → get_or e 4 0 ≡ 0 → word_at e 6 ≡ 0 → (task_of m e).phase ≡ 6 → May m e

-- ten bytes with the mark, a task below P, the zero byte zero
pub record Formed (m : Machine) (e : List ℕ) : Type 0 where
  pub whole : 10 ≤ length e
  pub mark : marked entry_mark e ≡ true
  pub task : get_or e 2 0 < m.p
  pub zero : get_or e 5 0 ≡ 0

-- and what the task may be asked
pub record Fits (m : Machine) (e : List ℕ) : Type 0 where
  pub formed : Formed m e
  pub asks : May m e

-- what a store is answered, in this order: 14, then 16 while a call runs, then 3 without a link on the cell; with one it begins
pub data StoreAnswered (m : Machine) (e : List ℕ) : Applied → Type 0 where
  no_cell : m.n ≤ get_or e 4 0 → StoreAnswered m e (refused_by m (get_or e 2 0) NoCell)
  not_now : get_or e 4 0 < m.n → resting (task_of m e).phase ≡ false → StoreAnswered m e (refused_by m (get_or e 2 0) NotNow)
  unlinked : get_or e 4 0 < m.n → Unlinked (task_of m e) (get_or e 4 0) → StoreAnswered m e (lost_by m e)
  linked : get_or e 4 0 < m.n → (task_of m e).phase ≡ 6 → get_or e 4 0 ≡ (task_of m e).cell.0 → StoreAnswered m e (begun_by m e (Store (word_at e 6)))
