-- What an entry counts for, read off the entry and its task's record before and after. `on` says which cells are counted; a run counts all.
use Rattle.std.specs.Prelude.{ℕ, Bool, true, false, ◌&&◌, List, eqb, get_or, Ok, Err}
use Rattle.tallies.specs.Lists.{within}
use Rattle.tallies.specs.Tally.{bit}
use Rattle.tasks.specs.Records.{no_task}
use Rattle.cells.specs.Apply.{apply_of}
use Rattle.runs.specs.Types.{Task, Machine, Answer}

abbrev pub accepted : Answer → Bool
accepted (Ok r) = true
accepted (Err r) = false

-- an entry's kind, and the record of its task in a machine
abbrev pub kind_of : List ℕ → ℕ
kind_of e = get_or e 3 0

abbrev pub task_of : Machine → List ℕ → Task
task_of m e = get_or m.tasks (get_or e 2 0) no_task

-- the entry is accepted, of this kind, on a cell that is counted
abbrev pub counts : (ℕ → Bool) → ℕ → Machine → List ℕ → Bool
counts on kind m e = accepted (apply_of m e).answer && eqb (kind_of e) kind && on (task_of (apply_of m e).machine e).cell.0

-- loads begun
abbrev pub loads_at : (ℕ → Bool) → Machine → List ℕ → ℕ
loads_at on m e = bit (counts on 1 m e)

-- load steps: accepted go entries in phases 1 to 5
abbrev pub steps_at : (ℕ → Bool) → Machine → List ℕ → ℕ
steps_at on m e = bit (counts on 0 m e && within 1 5 (task_of m e).phase)

-- turned-back checks: phase 3 to 5
abbrev pub turned_at : (ℕ → Bool) → Machine → List ℕ → ℕ
turned_at on m e = bit (counts on 0 m e && eqb (task_of m e).phase 3 && eqb (task_of (apply_of m e).machine e).phase 5)

-- swaps that took: phase 8 to 9
abbrev pub swaps_at : (ℕ → Bool) → Machine → List ℕ → ℕ
swaps_at on m e = bit (counts on 0 m e && eqb (task_of m e).phase 8 && eqb (task_of (apply_of m e).machine e).phase 9)

-- every cell
abbrev pub anywhere : ℕ → Bool
anywhere x = true
