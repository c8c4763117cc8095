-- The six numbers of a run, as sums over the entries that it tried; and the numbers of a chain of runs, added up.
use Rattle.std.specs.Prelude.{ℕ, ◌+◌, ◌*◌, cond, not, List, [], ◌∷◌, ◌++◌, eqb, ltb, length, Ok, Err}
use Rattle.tallies.specs.Tally.{bit}
use Rattle.answers.specs.Numbers.{refusal_number}
use Rattle.cells.specs.Machine.{in_range}
use Rattle.cells.specs.Apply.{apply_of}
use Rattle.runs.specs.Counts.{accepted, anywhere, loads_at, steps_at, turned_at, swaps_at}
use Rattle.entries.specs.Schedule.{entries_in, entries_of}
use Rattle.runs.specs.Run.{ran_of}
use Rattle.laws.specs.Types.{Answer, Machine, Report}
use Rattle.laws.specs.Schedules.{over, tried}

-- entries accepted
abbrev pub accepted_at : Machine → List ℕ → ℕ
accepted_at m e = bit (accepted (apply_of m e).answer)

-- the number of a refusal, or 0
abbrev pub refusal_in : Answer → ℕ
refusal_in (Ok r) = 0
refusal_in (Err r) = refusal_number r

-- that of the last entry; n where there is none
unfoldable pub last_refusal : ℕ → Machine → List (List ℕ) → ℕ
last_refusal n m [] = n
last_refusal n m (e ∷ es) = last_refusal (refusal_in (apply_of m e).answer) (apply_of m e).machine es

-- the six numbers of a schedule; n stands for the refusal where there is no entry
abbrev pub numbers_of : ℕ → Machine → List (List ℕ) → Report
numbers_of n m es =
    record {
      accepted = over accepted_at m es;
      refusal = last_refusal n m es;
      loads = over (loads_at anywhere) m es;
      load_steps = over (steps_at anywhere) m es;
      turned_back = over (turned_at anywhere) m es;
      swaps = over (swaps_at anywhere) m es;
    }

-- what refuses a run before any entry, in document 01's order, or 0
unfoldable pub start_refusal : Machine → List ℕ → ℕ → ℕ
start_refusal m s room = cond (not (in_range m)) 22 (cond (ltb 65530 (length s)) 23 (cond (ltb room (8 * entries_in s)) 21 0))

-- the entries that a run tries
unfoldable pub tried_by : Machine → List ℕ → ℕ → List (List ℕ)
tried_by m s room = cond (eqb (start_refusal m s room) 0) (tried m (entries_of s)) []

-- runs one after the other, each of some bytes with some room, on the record that the one before left: the entries that they try, and one of
-- their numbers added up
unfoldable pub tried_all : Machine → List (List ℕ × ℕ) → List (List ℕ)
tried_all m [] = []
tried_all m (r ∷ rs) = tried_by m r.0 r.1 ++ tried_all (ran_of m r.0 r.1).machine rs

unfoldable pub over_runs : (Report → ℕ) → Machine → List (List ℕ × ℕ) → ℕ
over_runs f m [] = 0
over_runs f m (r ∷ rs) = f (ran_of m r.0 r.1).report + over_runs f (ran_of m r.0 r.1).machine rs
