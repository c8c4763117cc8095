-- A machine record in figure 1's terms: its values and sets, where each task's call stands, and the events of an entry.
use Rattle.std.specs.Prelude.{ℕ, ◌<◌, ◌≡◌, Bool, true, false, cond, ◌&&◌, ◌||◌, List, [], ◌∷◌, ◌++◌, eqb, get_or, Ok, Err}
use Rattle.tallies.specs.Lists.{within}
use Rattle.wire.specs.Bytes.{word_at}
use Rattle.tasks.specs.Records.{no_task}
use Rattle.tasks.specs.Phases.{swung, passed}
use Rattle.cells.specs.Apply.{apply_of}
use Rattle.runs.specs.Counts.{kind_of, task_of}
use Rattle.figure1.specs.Figure1.{Call, load, store, release, validate, Result, value, took, lost, released, good, gone}
use Rattle.figure1.specs.Histories.{Status, quiet, asked, acted, State, Event, begins, acts, ends}
use Rattle.laws.specs.Types.{Answer, Reply, Moved, Loaded, Took, Lost, Released, Good, Gone, Task, Machine}

-- the value of cell x is that of the node it points at
abbrev pub value_of_cell : Machine → ℕ → ℕ
value_of_cell m x = get_or m.values (get_or m.cells x 0) 0

-- the phases in which a task is in a set: 4, 6 to 8, 14 and 15
abbrev pub in_set : ℕ → Bool
in_set f = passed f

-- the task is in S[x], where x points at node v: its phase is one of those, its cell is x, and v is its m
abbrev pub linked_at : ℕ → ℕ → Task → Bool
linked_at v x t = in_set t.phase && (eqb t.cell.0 x && eqb v t.held.0)

-- where the call of a task's record stands, in phase f
abbrev pub standing : List ℕ → ℕ → Task → Status
standing values f t =
    cond (eqb f 4) (acted (value (get_or values t.held.0 0)))
    (cond (within 1 5 f) (asked (load t.cell.0))
    (cond (within 7 8 f) (asked (store t.cell.0 t.value))
    (cond (swung f) (acted took)
    (cond (eqb f 13) (acted lost)
    (cond (eqb f 14) (asked (release t.cell.0))
    (cond (eqb f 15) (asked (validate t.cell.0))
    quiet))))))

-- the record is in the state that figure 1 is in
pub record Matches (m : Machine) (a : State) : Type 0 where
  pub vals : (x : ℕ) → x < m.n → value_of_cell m x ≡ a.cells.val x
  pub sets : (x q : ℕ) → x < m.n → q < m.p → linked_at (get_or m.cells x 0) x (get_or m.tasks q no_task) ≡ a.cells.member x q
  pub calls : (q : ℕ) → q < m.p → standing m.values (get_or m.tasks q no_task).phase (get_or m.tasks q no_task) ≡ a.status q

-- the call that an accepted entry of kind 1 to 4 begins: a load names its cell, a store its cell and value, a release and a validate are of the
-- linked cell
abbrev pub beginning : ℕ → List ℕ → Task → List Call
beginning kind e t =
    cond (eqb kind 1) (load (get_or e 4 0) ∷ [])
    (cond (eqb kind 2) (store (get_or e 4 0) (word_at e 6) ∷ [])
    (cond (eqb kind 3) (release t.cell.0 ∷ [])
    (cond (eqb kind 4) (validate t.cell.0 ∷ []) [])))

-- a step from phase f to phase f' acts: a load at its passing check, which `passes` tells, a store at its swap (S2, took or not), a release and
-- a validate at their one step (R1, V1)
abbrev pub acts_where : (ℕ → ℕ → Bool) → ℕ → ℕ → Bool
acts_where passes f f' = passes f f' || (eqb f 8 || within 14 15 f)

-- in document 01's table a check passes from L3 to L4
abbrev pub checked : ℕ → ℕ → Bool
checked f f' = eqb f 3 && eqb f' 4

abbrev pub acts_from : ℕ → ℕ → Bool
acts_from = acts_where checked

-- a call ends with its reply
abbrev pub ending : Reply → List Result
ending Moved = []
ending (Loaded v) = value v ∷ []
ending Took = took ∷ []
ending Lost = lost ∷ []
ending Released = released ∷ []
ending Good = good ∷ []
ending Gone = gone ∷ []

-- what an answer ends a call with: one result, or none
abbrev pub finishes : Answer → List Result
finishes (Ok r) = ending r
finishes (Err r) = []

abbrev pub each : {A B : Type 0} → (A → B) → List A → List B
each f [] = []
each f (x ∷ xs) = f x ∷ each f xs

-- a call that is answered lost at its own entry, a store without a link, acts there and ends
abbrev pub at_once : ℕ → Reply → List Event
at_once p Moved = []
at_once p (Loaded v) = []
at_once p Took = []
at_once p Lost = acts p ∷ ends p lost ∷ []
at_once p Released = []
at_once p Good = []
at_once p Gone = []

-- the events of an accepted entry of task p: go may end a call and, where `acting` says so of the phases before and after it, acts; the other kinds
-- begin a call, which may be lost at once
abbrev pub events_by : (ℕ → ℕ → Bool) → Bool → ℕ → Machine → Machine → List ℕ → Reply → List Event
events_by acting true p m m' e r = cond (acting (task_of m e).phase (task_of m' e).phase) (acts p ∷ []) [] ++ each (ends p) (ending r)
events_by acting false p m m' e r = each (begins p) (beginning (kind_of e) e (task_of m e)) ++ at_once p r

-- a refused entry has none
abbrev pub events_in : (ℕ → ℕ → Bool) → Answer → Machine → Machine → List ℕ → List Event
events_in acting (Err r) m m' e = []
events_in acting (Ok r) m m' e = events_by acting (eqb (kind_of e) 0) (get_or e 2 0) m m' e r

unfoldable pub events_of : Machine → List ℕ → List Event
events_of m e = events_in acts_from (apply_of m e).answer m (apply_of m e).machine e
