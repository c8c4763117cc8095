-- How often a task's calls begin, act and end in a history.
use Rattle.std.specs.Prelude.{ℕ, List, eqb, length}
use Rattle.tallies.specs.Tally.{bit, tally}
use Rattle.figure1.specs.Histories.{Status, quiet, asked, acted, Event, begins, acts, ends}

abbrev pub begins_by : ℕ → Event → ℕ
begins_by p (begins q c) = bit (eqb p q)
begins_by p (acts q) = 0
begins_by p (ends q r) = 0

abbrev pub acts_by : ℕ → Event → ℕ
acts_by p (begins q c) = 0
acts_by p (acts q) = bit (eqb p q)
acts_by p (ends q r) = 0

abbrev pub ends_by : ℕ → Event → ℕ
ends_by p (begins q c) = 0
ends_by p (acts q) = 0
ends_by p (ends q r) = bit (eqb p q)

abbrev pub number : (Event → ℕ) → List Event → ℕ
number w h = tally w (length h) h

-- a call runs; a call runs and has acted
abbrev pub running : Status → ℕ
running quiet = 0
running (asked c) = 1
running (acted r) = 1

abbrev pub has_acted : Status → ℕ
has_acted quiet = 0
has_acted (asked c) = 0
has_acted (acted r) = 1
