-- What a schedule does in figure 1's terms, under any bench: each call begins with its accepted entry, acts once, ends with its reply.
use Rattle.std.specs.Prelude.{ℕ, List, [], ◌∷◌, ◌++◌}
use Rattle.answers.specs.Types.{Answer}
use Rattle.cells.specs.declared.Machine.{Machine}
use Rattle.figure1.specs.Histories.{Event}
use Rattle.laws.specs.Acts.{acts_where, events_in}
use Rattle.faults.specs.Benches.{Bench}

-- the record after a schedule
unfoldable pub afterwards : Bench → Machine → List (List ℕ) → Machine
afterwards b m [] = m
afterwards b m (e ∷ es) = afterwards b (b.apply m e).machine es

-- the answer to an entry that follows a schedule
unfoldable pub answered : Bench → Machine → List (List ℕ) → List ℕ → Answer
unfolding afterwards
answered b m es e = (b.apply (afterwards b m es) e).answer

-- the events of an entry: a load acts at the check that passes on this bench
abbrev pub events_of : Bench → Machine → List ℕ → List Event
events_of b m e = events_in (acts_where b.passes) (b.apply m e).answer m (b.apply m e).machine e

-- the events of a schedule
unfoldable pub history : Bench → Machine → List (List ℕ) → List Event
history b m [] = []
history b m (e ∷ es) = events_of b m e ++ history b (b.apply m e).machine es
