-- What an entry can do to a record: be refused, begin a call, be a store that is lost at once, or make the step of its task's phase.
use Rattle.std.specs.Prelude.{ℕ, ◌<◌, ◌≡◌, false, List, ◌≢◌, get_or, Ok, Err}
use Rattle.wire.specs.Bytes.{word_at}
use Rattle.tasks.specs.Records.{cell_no}
use Rattle.tasks.specs.Calls.{begun_of}
use Rattle.steps.specs.Table.{effect_of}
use Rattle.cells.specs.Machine.{seen_of, written, refused_by, in_range}
use Rattle.runs.specs.Counts.{kind_of, task_of}
use Rattle.laws.specs.Types.{Refusal, Damaged, Moved, Lost, TaskNo, Task, Call, Load, Store, Release, Validate, Deed, Effect, Nothing, Machine, Applied}

abbrev pub task_no : List ℕ → TaskNo
task_no e = record { 0 = get_or e 2 0 }

-- the effect of the task's step
abbrev pub step_of : Machine → List ℕ → Effect
step_of m e = effect_of (task_of m e) (seen_of m (task_of m e))

-- the entry is of this kind, and its task, below P, is in this phase
pub record Asks (m : Machine) (e : List ℕ) (k f : ℕ) : Type 0 where
  pub kind : kind_of e ≡ k
  pub task : get_or e 2 0 < m.p
  pub phase : (task_of m e).phase ≡ f

-- a task has no link on cell x: it is idle, or linked to another cell
pub data Unlinked (t : Task) (x : ℕ) : Type 0 where
  idle : t.phase ≡ 0 → Unlinked t x
  elsewhere : t.phase ≡ 6 → t.cell.0 ≢ x → Unlinked t x

-- the entry is a store that is lost at once: to a cell that there is, by a task below P that has no link on it
pub record Loses (m : Machine) (e : List ℕ) : Type 0 where
  pub kind : kind_of e ≡ 2
  pub task : get_or e 2 0 < m.p
  pub cell : get_or e 4 0 < m.n
  pub link : Unlinked (task_of m e) (get_or e 4 0)

-- the entry is a go, and the table has this deed for its task
pub record Steps (m : Machine) (e : List ℕ) (d : Deed) : Type 0 where
  pub kind : kind_of e ≡ 0
  pub task : get_or e 2 0 < m.p
  pub does : step_of m e ≡ Ok d

-- refusal 22 comes from the ranges, or from the step
pub data Damage (m : Machine) (e : List ℕ) : Type 0 where
  by_range : in_range m ≡ false → Damage m e
  by_step : get_or e 2 0 < m.p → step_of m e ≡ Err Damaged → Damage m e

abbrev pub begun_by : Machine → List ℕ → Call → Applied
begun_by m e c = record { machine = written m (task_no e) (begun_of (task_of m e) c) Nothing; answer = Ok Moved; task = get_or e 2 0 }

-- the record is the very same
abbrev pub lost_by : Machine → List ℕ → Applied
lost_by m e = record { machine = m; answer = Ok Lost; task = get_or e 2 0 }

abbrev pub stepped_by : Machine → List ℕ → Deed → Applied
stepped_by m e d = record { machine = written m (task_no e) d.task d.write; answer = Ok d.reply; task = get_or e 2 0 }

-- a refusal leaves the record, and so does a store without a link; a load, a store with one, a release and a validate start a call; a go makes a step
pub data Outcome (m : Machine) (e : List ℕ) : Applied → Type 0 where
  refused : (i : ℕ) (r : Refusal) → (r ≡ Damaged → Damage m e) → Outcome m e (refused_by m i r)
  loads : Asks m e 1 0 → get_or e 4 0 < m.n → Outcome m e (begun_by m e (Load (cell_no (get_or e 4 0))))
  stores : Asks m e 2 6 → get_or e 4 0 ≡ (task_of m e).cell.0 → Outcome m e (begun_by m e (Store (word_at e 6)))
  loses : Loses m e → Outcome m e (lost_by m e)
  releases : Asks m e 3 6 → Outcome m e (begun_by m e Release)
  validates : Asks m e 4 6 → Outcome m e (begun_by m e Validate)
  steps : (d : Deed) → Steps m e d → Outcome m e (stepped_by m e d)
