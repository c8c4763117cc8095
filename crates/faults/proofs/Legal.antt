-- A computed test of a history, true exactly where the history is legal. Assumes nothing.
use Prim.Native.Nat.{ℕ}
use mathlib.Core.Path.{◌≡◌, refl, sym, ◌∙◌, ap, ap₂}
use mathlib.Core.Bool.{Bool, true, false, cond, ◌&&◌}
use mathlib.Core.List.{List, [], ◌∷◌}
use lib.Dec.{T, eqb, eqb_refl, eqb→eq}
use Rattle.tallies.proofs.Lists.{each}
use Rattle.figure1.specs.Figure1.{Result, value, took, lost, released, good, gone}
use Rattle.figure1.specs.Histories.{Status, quiet, asked, acted, State, Event, begins, acts, ends, Legal, Waiting, after, Follows}

-- two results are the same when their kinds and their values are
abbrev pub kind_of : Result → ℕ
kind_of (value v) = 0
kind_of took = 1
kind_of lost = 2
kind_of released = 3
kind_of good = 4
kind_of gone = 5

abbrev pub value_of : Result → ℕ
value_of (value v) = v
value_of took = 0
value_of lost = 0
value_of released = 0
value_of good = 0
value_of gone = 0

abbrev pub same_result : Result → Result → Bool
same_result r s = eqb (kind_of r) (kind_of s) && eqb (value_of r) (value_of s)

-- the task is between calls; in a call that has not acted; in a call that was given r
abbrev pub is_quiet : Status → Bool
is_quiet quiet = true
is_quiet (asked c) = false
is_quiet (acted r) = false

abbrev pub is_asked : Status → Bool
is_asked quiet = false
is_asked (asked c) = true
is_asked (acted r) = false

abbrev pub is_given : Result → Status → Bool
is_given r quiet = false
is_given r (asked c) = false
is_given r (acted s) = same_result s r

-- one event, and a history
abbrev pub allowed : State → Event → Bool
allowed a (begins p c) = is_quiet (a.status p)
allowed a (acts p) = is_asked (a.status p)
allowed a (ends p r) = is_given r (a.status p)

abbrev pub legal : State → List Event → Bool
legal a [] = true
legal a (e ∷ es) = allowed a e && legal (after a e) es

both : (a b : Bool) → T a → T b → T (a && b)
both true b h k = k
both false b h k = absurd h

-- a result is made of its kind and its value
abbrev result_of : ℕ → ℕ → Result
result_of k v = cond (eqb k 0) (value v) (cond (eqb k 1) took (cond (eqb k 2) lost (cond (eqb k 3) released (cond (eqb k 4) good gone))))

made : (r : Result) → result_of (kind_of r) (value_of r) ≡ r
made (value v) = refl
made took = refl
made lost = refl
made released = refl
made good = refl
made gone = refl

same_self : (r : Result) → T (same_result r r)
same_self r = both (eqb (kind_of r) (kind_of r)) (eqb (value_of r) (value_of r)) (eqb_refl (kind_of r)) (eqb_refl (value_of r))

same_is : (r s : Result) → T (same_result r s) → r ≡ s
same_is r s h =
    let hs = each (eqb (kind_of r) (kind_of s)) (eqb (value_of r) (value_of s)) h in
    sym (made r) ∙ ap₂ result_of (eqb→eq (kind_of r) (kind_of s) hs.0) (eqb→eq (value_of r) (value_of s) hs.1) ∙ made s

quiet_is : (s : Status) → T (is_quiet s) → s ≡ quiet
quiet_is quiet h = refl
quiet_is (asked c) h = absurd h
quiet_is (acted r) h = absurd h

asked_waits : (s : Status) → T (is_asked s) → Waiting s
asked_waits quiet h = absurd h
asked_waits (asked c) h = tt
asked_waits (acted r) h = absurd h

waits_asked : (s : Status) → Waiting s → T (is_asked s)
waits_asked quiet h = absurd h
waits_asked (asked c) h = tt
waits_asked (acted r) h = absurd h

given_is : (r : Result) (s : Status) → T (is_given r s) → s ≡ acted r
given_is r quiet h = absurd h
given_is r (asked c) h = absurd h
given_is r (acted s) h = ap acted (same_is s r h)

legal_allowed : (a : State) (e : Event) → Legal a e → T (allowed a e)
legal_allowed a (begins p c) h = rw h tt
legal_allowed a (acts p) h = waits_asked (a.status p) h
legal_allowed a (ends p r) h = rw h (same_self r)

allowed_legal : (a : State) (e : Event) → T (allowed a e) → Legal a e
allowed_legal a (begins p c) h = quiet_is (a.status p) h
allowed_legal a (acts p) h = asked_waits (a.status p) h
allowed_legal a (ends p r) h = given_is r (a.status p) h

pub follows_legal : (a : State) (es : List Event) → Follows a es → T (legal a es)
follows_legal a [] h = tt
follows_legal a (e ∷ es) h = both (allowed a e) (legal (after a e) es) (legal_allowed a e h.0) (follows_legal (after a e) es h.1)

pub legal_follows : (a : State) (es : List Event) → T (legal a es) → Follows a es
legal_follows a [] h = tt
legal_follows a (e ∷ es) h = let hs = each (allowed a e) (legal (after a e) es) h in (allowed_legal a e hs.0, legal_follows (after a e) es hs.1)
