-- One call in a history: where it began, where it acted, and what figure 1 gave it there.
use Rattle.std.specs.Prelude.{ℕ, ◌≡◌, List, ◌∷◌, ◌++◌}
use Rattle.figure1.specs.Figure1.{Call, Result}
use Rattle.figure1.specs.Histories.{State, Event, begins, acts, after, after_all, given}
use Rattle.figure1.specs.Counts.{acts_by, ends_by, number}

-- in the history h from the state a, task p's call c acted between `before` and `later`, and figure 1 gave it r there
pub record Acted (p : ℕ) (c : Call) (a : State) (h : List Event) (r : Result) : Type 0 where
  pub before : List Event
  pub later : List Event
  pub split : h ≡ before ++ acts p ∷ later
  pub result : r ≡ given a before p c

-- the call of task p that ends with r after the history h: it began in h, has not ended since, acted once since, and was given r there
pub record Called (p : ℕ) (r : Result) (a : State) (h : List Event) : Type 0 where
  pub call : Call
  pub earlier : List Event
  pub since : List Event
  pub begun : h ≡ earlier ++ begins p call ∷ since
  pub unended : number (ends_by p) since ≡ 0
  pub acts_once : number (acts_by p) since ≡ 1
  pub given : Acted p call (after (after_all a earlier) (begins p call)) since r
