-- Schedules of entries, each any bytes at all; what is counted over one; and the records that are reached.
use Rattle.std.specs.Prelude.{ℕ, ◌+◌, ◌≡◌, cond, List, [], ◌∷◌, ◌++◌, get_or, take, Ok}
use Rattle.cells.specs.Apply.{apply_of}
use Rattle.cells.specs.Setup.{setup_of}
use Rattle.runs.specs.Counts.{accepted}
use Rattle.entries.specs.Schedule.{entries_of}
use Rattle.runs.specs.Run.{ran_of}
use Rattle.laws.specs.Types.{Machine}

-- the record after a schedule
unfoldable pub applied : Machine → List (List ℕ) → Machine
applied m [] = m
applied m (e ∷ es) = applied (apply_of m e).machine es

-- f of every entry of a schedule, added up
unfoldable pub over : (Machine → List ℕ → ℕ) → Machine → List (List ℕ) → ℕ
over f m [] = 0
over f m (e ∷ es) = f m e + over f (apply_of m e).machine es

-- the entries that a run tries: all up to the first refused one, and that one
unfoldable pub tried : Machine → List (List ℕ) → List (List ℕ)
tried m [] = []
tried m (e ∷ es) = e ∷ cond (accepted (apply_of m e).answer) (tried (apply_of m e).machine es) []

-- the schedule es from the record m, and then a run of the bytes b: all entries before the i-th that the run tries
abbrev pub before : Machine → List (List ℕ) → List ℕ → ℕ → List (List ℕ)
before m es b i = es ++ take i (tried (applied m es) (entries_of b))

-- and that entry
abbrev pub entry : Machine → List (List ℕ) → List ℕ → ℕ → List ℕ
entry m es b i = get_or (tried (applied m es) (entries_of b)) i []

-- the records that come from an accepted setup by entries, accepted or refused, and by runs, in any mixture
pub data Reached : Machine → Type 0 where
  set_up : (s : List ℕ) (used : ℕ) → (setup_of s).answer ≡ Ok used → Reached (setup_of s).machine
  entered : (m : Machine) (e : List ℕ) → Reached m → Reached (apply_of m e).machine
  ran : (m : Machine) (s : List ℕ) (room : ℕ) → Reached m → Reached (ran_of m s room).machine

-- the record after some schedule of entries from an accepted setup
pub record Scheduled (m : Machine) : Type 0 where
  pub setup : List ℕ
  pub used : ℕ
  pub ready : (setup_of setup).answer ≡ Ok used
  pub entries : List (List ℕ)
  pub reaches : applied (setup_of setup).machine entries ≡ m
