-- The sets of phases that documents 01 and 02 speak of.
use Rattle.std.specs.Prelude.{ℕ, Bool, not, ◌&&◌, ◌||◌, eqb, leb}
use Rattle.tallies.specs.Lists.{within}

-- the phases that there are: 0 to 15, without 10, which document 02 takes away
abbrev pub is_phase : ℕ → Bool
is_phase f = leb f 15 && not (eqb f 10)

-- no call runs: idle (0) or linked (6)
abbrev pub resting : ℕ → Bool
resting f = eqb f 0 || eqb f 6

-- the task holds its m: phases 3 to 9, 11 and 13 to 15
abbrev pub holds : ℕ → Bool
holds f = within 3 9 f || eqb f 11 || within 13 15 f

-- the swap took and the store has not ended: phases 9, 11 and 12
abbrev pub swung : ℕ → Bool
swung f = eqb f 9 || within 11 12 f

-- the own field is in use: all phases but those
abbrev pub live : ℕ → Bool
live f = not (swung f)

-- a store is running: phases 7 to 9 and 11 to 13
abbrev pub storing : ℕ → Bool
storing f = within 7 9 f || within 11 13 f

-- from a passing check until S2 or R1, the phases in S: 4, 6 to 8, 14 and 15
abbrev pub passed : ℕ → Bool
passed f = eqb f 4 || within 6 8 f || within 14 15 f
