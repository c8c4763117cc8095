-- What a validate's step is answered, by figure 1's set and by source 004.
use Rattle.std.specs.Prelude.{ℕ, ◌≡◌, true, false, List, Ok}
use Rattle.figure1.specs.Histories.{State, Event, after_all}
use Rattle.figure1.specs.Validate.{Unwritten}
use Rattle.laws.specs.Types.{Answer, Good, Gone}

-- of task p and its cell x, after the history h from the state a: 5 where p is in S[x] and no store to x took since p's load, which is not
-- released; else 6
pub data Validated (x p : ℕ) (a : State) (h : List Event) : Answer → Type 0 where
  good : (after_all a h).cells.member x p ≡ true → Unwritten x p a h → Validated x p a h (Ok Good)
  gone : (after_all a h).cells.member x p ≡ false → (Unwritten x p a h → ⊥) → Validated x p a h (Ok Gone)
