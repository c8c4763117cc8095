-- What weighs on a node, and how many nodes are in use and free.
use Rattle.std.specs.Prelude.{ℕ, ◌+◌, ◌&&◌, List, get_or, eqb, ltb}
use Rattle.tallies.specs.Tally.{bit, tally, total}
use Rattle.tasks.specs.Phases.{live}
use Rattle.tasks.specs.Holders.{keeps}
use Rattle.laws.specs.Types.{Task, Machine}

-- what weighs on node i: a cell that points at it; a task that owns it; a task that swapped it out and has not yet lowered it (phase 9)
abbrev pub points : ℕ → ℕ → ℕ
points i v = bit (eqb v i)

abbrev pub owns : ℕ → Task → ℕ
owns i t = bit (live t.phase && eqb t.own.0 i)

abbrev pub swapped : ℕ → Task → ℕ
swapped i t = bit (eqb t.phase 9 && eqb t.held.0 i)

-- a task's claim on node i
abbrev pub claims : ℕ → Task → ℕ
claims i t = owns i t + swapped i t

abbrev pub pointers : Machine → ℕ → ℕ
pointers m i = tally (points i) m.n m.cells

abbrev pub claimers : Machine → ℕ → ℕ
claimers m i = tally (claims i) m.p m.tasks

abbrev pub keepers : Machine → ℕ → ℕ
keepers m i = tally (keeps i) m.p m.tasks

-- of the first k counts, how many are above 0, and how many are 0
abbrev pub used_in : List ℕ → ℕ → ℕ
used_in counts k = total (λ i. bit (ltb 0 (get_or counts i 0))) k

abbrev pub free_in : List ℕ → ℕ → ℕ
free_in counts k = total (λ i. bit (eqb (get_or counts i 0) 0)) k

-- how many nodes below K are in use, and how many are free: the full counts
abbrev pub used : Machine → ℕ
used m = used_in m.counts m.k

abbrev pub free : Machine → ℕ
free m = free_in m.counts m.k
