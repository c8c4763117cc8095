-- VL as source 004 has it, which asks for no set: a link is good until a store to its cell takes after the load that made it. Release is document
-- 01's addition, and source 004 has none: a task that has released the cell has given that load up.
use Rattle.std.specs.Prelude.{ℕ, ◌+◌, ◌≡◌, Bool, true, false, ◌&&◌, List, [], ◌∷◌, ◌++◌, eqb}
use Rattle.tallies.specs.Tally.{bit}
use Rattle.figure1.specs.Figure1.{Call, load, store, release, validate, Result, value, took, lost, released, good, gone, figure1}
use Rattle.figure1.specs.Histories.{Status, quiet, asked, acted, State, Event, begins, acts, ends, after, after_all}

-- a sort of act: by which task, which call, what figure 1 gives it
abbrev pub Sort : Type 0
Sort = ℕ → Call → Result → Bool

abbrev pub taken : Result → Bool
taken (value v) = false
taken took = true
taken lost = false
taken released = false
taken good = false
taken gone = false

-- a store to x that takes, by any task
abbrev pub writes : ℕ → Sort
writes x q (load y) r = false
writes x q (store y v) r = taken r && eqb y x
writes x q (release y) r = false
writes x q (validate y) r = false

-- a load of x by task p; a release of x by task p
abbrev pub loads : ℕ → ℕ → Sort
loads x p q (load y) r = eqb y x && eqb q p
loads x p q (store y v) r = false
loads x p q (release y) r = false
loads x p q (validate y) r = false

abbrev pub releases : ℕ → ℕ → Sort
releases x p q (load y) r = false
releases x p q (store y v) r = false
releases x p q (release y) r = eqb y x && eqb q p
releases x p q (validate y) r = false

-- whether the act of task q, which stands at s, is of the sort; whether an event is such an act; how many of a history are
abbrev pub is_act : Sort → State → ℕ → Status → Bool
is_act w a q quiet = false
is_act w a q (asked c) = w q c (figure1 a.cells q c).result
is_act w a q (acted r) = false

abbrev pub is_event : Sort → State → Event → Bool
is_event w a (begins q c) = false
is_event w a (acts q) = is_act w a q (a.status q)
is_event w a (ends q r) = false

abbrev pub count_acts : Sort → State → List Event → ℕ
count_acts w a [] = 0
count_acts w a (e ∷ es) = bit (is_event w a e) + count_acts w (after a e) es

-- in the history h from the state a, x is not written, and task p neither loads nor releases it
pub record Still (x p : ℕ) (a : State) (h : List Event) : Type 0 where
  pub unloaded : count_acts (loads x p) a h ≡ 0
  pub unwritten : count_acts (writes x) a h ≡ 0
  pub unreleased : count_acts (releases x p) a h ≡ 0

-- after the history h from the state a: task p's load of x acted after `earlier`, it is p's last, and `since` x was not written and p has not
-- released it
pub record Unwritten (x p : ℕ) (a : State) (h : List Event) : Type 0 where
  pub earlier : List Event
  pub since : List Event
  pub split : h ≡ earlier ++ acts p ∷ since
  pub loaded : (after_all a earlier).status p ≡ asked (load x)
  pub still : Still x p (after (after_all a earlier) (acts p)) since

-- g is r exactly where P holds, and s exactly where it does not
pub record Decides (P : Type 0) (r s g : Result) : Type 0 where
  pub yes : (g ≡ r → P) × (P → g ≡ r)
  pub no : (g ≡ s → P → ⊥) × ((P → ⊥) → g ≡ s)
