-- A history of figure 1: calls that begin, act and end. A call acts once, after it began and before it ends, and ends with what figure 1 gave
-- when it acted: any other history is not legal.
use Rattle.std.specs.Prelude.{ℕ, ◌≡◌, List, [], ◌∷◌}
use Rattle.figure1.specs.Figure1.{put, Cells, Call, Result, figure1, nobody}

-- where a task stands: between calls; in a call that has not acted; in a call that has acted and was given a result
pub data Status : Type 0 where
  quiet : Status
  asked : Call → Status
  acted : Result → Status

pub record State : Type 0 where
  pub cells : Cells
  pub status : ℕ → Status

pub data Event : Type 0 where
  begins : ℕ → Call → Event
  acts : ℕ → Event
  ends : ℕ → Result → Event

-- a task that is in a call that has not acted
abbrev pub Waiting : Status → Type 0
Waiting quiet = ⊥
Waiting (asked c) = Unit {0}
Waiting (acted r) = ⊥

abbrev pub Legal : State → Event → Type 0
Legal a (begins p c) = a.status p ≡ quiet
Legal a (acts p) = Waiting (a.status p)
Legal a (ends p r) = a.status p ≡ acted r

-- the only event that changes the cells is a call's act, and it changes them as figure 1 does
abbrev pub act : State → ℕ → Status → State
act a p quiet = a
act a p (asked c) = record { cells = (figure1 a.cells p c).cells; status = put a.status p (acted (figure1 a.cells p c).result) }
act a p (acted r) = a

abbrev pub after : State → Event → State
after a (begins p c) = record { cells = a.cells; status = put a.status p (asked c) }
after a (acts p) = act a p (a.status p)
after a (ends p r) = record { cells = a.cells; status = put a.status p quiet }

abbrev pub after_all : State → List Event → State
after_all a [] = a
after_all a (e ∷ es) = after_all (after a e) es

-- what the call c gives task p where it acts after the history h
abbrev pub given : State → List Event → ℕ → Call → Result
given a h p c = (figure1 (after_all a h).cells p c).result

-- every event of the history is legal where it stands
abbrev pub Follows : State → List Event → Type 0
Follows a [] = Unit {0}
Follows a (e ∷ es) = Legal a e × Follows (after a e) es

-- before any call: the given values, every S empty, every task quiet
abbrev pub start : (ℕ → ℕ) → State
start vals = record { cells = record { val = vals; member = λ x. nobody }; status = λ p. quiet }
