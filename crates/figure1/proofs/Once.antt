-- In a legal history each call acts once, after its beginning and before its end, and ends with what figure 1 gave at that act; an unfinished
-- call has acted at most once; and the cells change only at acts. Assumes nothing.
use Prim.Native.Nat.{ℕ, ◌+◌, ◌≤◌}
use native.Mathlib.Omega.{arith}
use native.Mathlib.Decide.{ℕ_discrete}
use mathlib.Core.Path.{◌≡◌, refl, ap, ◌∙◌}
use mathlib.Core.Bool.{Bool, true, false}
use mathlib.Core.List.{List, [], ◌∷◌, ◌++◌, append_assoc}
use mathlib.Core.Logic.{◌≢◌, ◌⊎◌, inl, inr}
use lib.Dec.{eqb}
use borrow.Author.Tests.{eq-eqb, ne_eqb}
use Rattle.tallies.specs.Tally.{bit, tally}
use Rattle.figure1.specs.Figure1.{Call, Result, figure1}
use Rattle.figure1.specs.Histories.{Status, quiet, asked, acted, State, Event, begins, acts, ends, Waiting, Legal, act, after, after_all, Follows}
use Rattle.figure1.specs.Counts.{begins_by, acts_by, ends_by, number, running, has_acted}
use Rattle.figure1.specs.Calls.{Acted, Called}
use Rattle.figure1.proofs.Lift.{follows_split}

none : (b : Bool) → bit b ≡ 0 → b ≡ false
none true h = absurd (omega arith)
none false h = refl

-- one event: task p's sums and where p stands
record Balanced (p : ℕ) (a : State) (e : Event) : Type 0 where
  begun : begins_by p e + running (a.status p) ≡ ends_by p e + running ((after a e).status p)
  done : acts_by p e + has_acted (a.status p) ≡ ends_by p e + has_acted ((after a e).status p)

balanced : (p : ℕ) (a : State) (e : Event) → Legal a e → Balanced p a e
balanced p a (begins q c) l =
    elim (ℕ_discrete p q) [
      | yes w ↦ rw w (record { begun = rw (l, eq-eqb q q refl); done = rw (l, eq-eqb q q refl) })
      | no w ↦ record { begun = rw (ne_eqb p q w) (omega arith); done = rw (ne_eqb p q w) }
    ]
balanced p a (acts q) l = go (a.status q) refl l
  where
    go : (s : Status) → a.status q ≡ s → Waiting s → Balanced p a (acts q)
    go quiet w k = absurd k
    go (asked c) w k =
        elim (ℕ_discrete p q) [
          | yes v ↦ rw v (record { begun = rw (w, eq-eqb q q refl); done = rw (w, eq-eqb q q refl) })
          | no v ↦ record { begun = rw (w, ne_eqb p q v); done = rw (w, ne_eqb p q v) }
        ]
    go (acted r) w k = absurd k
balanced p a (ends q r) l =
    elim (ℕ_discrete p q) [
      | yes w ↦ rw w (record { begun = rw (l, eq-eqb q q refl); done = rw (l, eq-eqb q q refl) })
      | no w ↦ record { begun = rw (ne_eqb p q w); done = rw (ne_eqb p q w) }
    ]

-- a history: as many calls begun as ended, and one more while one runs; as many acts as ends, and one more while a call has acted
pub balance : (p : ℕ) (h : List Event) (a : State) → Follows a h
    → (number (begins_by p) h + running (a.status p) ≡ number (ends_by p) h + running ((after_all a h).status p))
    × (number (acts_by p) h + has_acted (a.status p) ≡ number (ends_by p) h + has_acted ((after_all a h).status p))
unfolding tally
balance p [] a f = (refl, refl)
balance p (e ∷ h) a f =
    let one = balanced p a e f.0 in
    let more = balance p h (after a e) f.1 in
    (omega (arith, one.begun, more.0), omega (arith, one.done, more.1))

bounds : (s : Status) → (has_acted s ≤ running s) × (running s ≤ 1)
bounds quiet = (omega arith, omega arith)
bounds (asked c) = (omega arith, omega arith)
bounds (acted r) = (omega arith, omega arith)

-- from where the task is between calls
module _ (p : ℕ) (a : State) (rest : a.status p ≡ quiet) where
  pub once : (h : List Event) → Follows a h
      → (number (begins_by p) h ≡ number (ends_by p) h + running ((after_all a h).status p)) × (number (acts_by p) h ≡ number (ends_by p) h + has_acted ((after_all a h).status p))
  once h f = let b = rw rest at (balance p h a f) in (omega (arith, b.0), omega (arith, b.1))

  -- at every moment of a legal history: no call ends before it acts, none acts before it begins, and one runs at a time
  pub in_order : (xs ys : List Event) → Follows a (xs ++ ys)
      → (number (ends_by p) xs ≤ number (acts_by p) xs) × (number (acts_by p) xs ≤ number (begins_by p) xs) × (number (begins_by p) xs ≤ number (ends_by p) xs + 1)
  in_order xs ys f =
      let o = once xs (follows_split a xs ys f).0 in
      let k = bounds ((after_all a xs).status p) in
      (omega (arith, o.1), omega (arith, o.0, o.1, k.0), omega (arith, o.0, k.1))

-- an event that is no event of task p leaves p where it stands
elsewhere : (p : ℕ) (a : State) (e : Event) → begins_by p e ≡ 0 → acts_by p e ≡ 0 → ends_by p e ≡ 0 → (after a e).status p ≡ a.status p
elsewhere p a (begins q c) h k l = rw (none (eqb p q) h)
elsewhere p a (acts q) h k l = go (a.status q)
  where
    go : (s : Status) → (act a q s).status p ≡ a.status p
    go quiet = refl
    go (asked c) = rw (none (eqb p q) k)
    go (acted r) = refl
elsewhere p a (ends q r) h k l = rw (none (eqb p q) l)

the_act : (p : ℕ) (e : Event) → acts_by p e ≢ 0 → e ≡ acts p
the_act p (begins q c) h = absurd (h refl)
the_act p (acts q) h = elim (ℕ_discrete p q) [ yes w ↦ rw w | no w ↦ absurd (h (rw (ne_eqb p q w))) ]
the_act p (ends q r) h = absurd (h refl)

-- a call that has acted keeps its result until it ends
stays : (p : ℕ) (r : Result) (h : List Event) (a : State) → Follows a h → number (ends_by p) h ≡ 0 → a.status p ≡ acted r → (after_all a h).status p ≡ acted r
unfolding tally
stays p r [] a f n w = w
stays p r (e ∷ h) a f n w =
    let b = balanced p a e f.0 in
    let k = bounds ((after a e).status p) in
    let ends-none : ends_by p e ≡ 0 = omega arith in
    stays p r h (after a e) f.1 (omega arith) (elsewhere p a e (omega (arith, rw w at b.begun)) (omega (arith, rw w at b.done)) ends-none ∙ w)

-- a call that goes on has not acted yet, or has acted
runs_on : (p : ℕ) (c : Call) (h : List Event) (a : State) → Follows a h → number (ends_by p) h ≡ 0 → a.status p ≡ asked c
    → ((after_all a h).status p ≡ asked c) ⊎ ((r : Result) × ((after_all a h).status p ≡ acted r) × Acted p c a h r)
unfolding tally
runs_on p c [] a f n w = inl w
runs_on p c (e ∷ h) a f n w =
    let b = balanced p a e f.0 in
    let k = bounds ((after a e).status p) in
    let ends-none : ends_by p e ≡ 0 = omega arith in
    elim (ℕ_discrete (acts_by p e) 0) [
      | yes z ↦ longer (runs_on p c h (after a e) f.1 (omega arith) (elsewhere p a e (omega (arith, rw w at b.begun)) z ends-none ∙ w))
      | no z ↦ inr (
        (figure1 a.cells p c).result,
        stays p _ h (after a e) f.1 (omega arith) (rw (the_act p e z) (rw (w, eq-eqb p p refl))),
        record { before = []; later = h; split = ap (λ x. x ∷ h) (the_act p e z); result = refl },
      )
    ]
  where
    longer : ((after_all (after a e) h).status p ≡ asked c) ⊎ ((r : Result) × ((after_all (after a e) h).status p ≡ acted r) × Acted p c (after a e) h r)
        → ((after_all (after a e) h).status p ≡ asked c) ⊎ ((r : Result) × ((after_all (after a e) h).status p ≡ acted r) × Acted p c a (e ∷ h) r)
    longer (inl x) = inl x
    longer (inr (r, x, y)) = inr (r, x, record { before = e ∷ y.before; later = y.later; split = ap (λ l. e ∷ l) y.split; result = y.result })

-- a call that begins, and what follows in which it does not end
module _ (p : ℕ) (c : Call) (a : State) (h : List Event) (n : number (ends_by p) h ≡ 0) where
  abbrev begun : State
  begun = after a (begins p c)

  asked_now : begun.status p ≡ asked c
  asked_now = rw (eq-eqb p p refl)

  -- it has acted at most once, and the task begins no other call
  pub unfinished : Follows a (begins p c ∷ h) → (number (acts_by p) h ≤ 1) × (number (begins_by p) h ≡ 0)
  unfinished f =
      let b = rw (eq-eqb p p refl) at (balance p h begun f.1) in
      let k = bounds ((after_all begun h).status p) in
      (omega (arith, b.1, k.0, k.1), omega (arith, b.0, k.1))

  -- once it ends, it has acted exactly once, and its result is what figure 1 gave there
  pub finished : (r : Result) (rest : List Event) → Follows a (begins p c ∷ h ++ ends p r ∷ rest) → (number (acts_by p) h ≡ 1) × Acted p c begun h r
  finished r rest f =
      let g = follows_split begun h (ends p r ∷ rest) f.1 in
      let b = rw (eq-eqb p p refl, g.1.0) at (balance p h begun g.0) in
      (omega (arith, b.1), given g.1.0 (runs_on p c h begun g.0 n asked_now))
    where
      given : (after_all begun h).status p ≡ acted r → ((after_all begun h).status p ≡ asked c) ⊎ ((r' : Result) × ((after_all begun h).status p ≡ acted r') × Acted p c begun h r')
          → Acted p c begun h r
      given q (inl x) = let z : ◌≡◌ {A = ℕ} 0 1 = cc in absurd (omega arith)
      given q (inr (r', x, y)) = let z : r ≡ r' = cc in rw z y

-- a call that runs at the end of a history ran at its start, or began in it and did not end
the_begin : (p : ℕ) (e : Event) → begins_by p e ≢ 0 → (c : Call) × (e ≡ begins p c)
the_begin p (begins q c) h = elim (ℕ_discrete p q) [ yes w ↦ (c, rw w) | no w ↦ absurd (h (rw (ne_eqb p q w))) ]
the_begin p (acts q) h = absurd (h refl)
the_begin p (ends q r) h = absurd (h refl)

abbrev Began : ℕ → List Event → Type 0
Began p h = (c : Call) × (xs : List Event) × (ys : List Event) × (h ≡ xs ++ begins p c ∷ ys) × (number (ends_by p) ys ≡ 0)

began : (p : ℕ) (h : List Event) (a : State) → Follows a h → running ((after_all a h).status p) ≡ 1
    → ((running (a.status p) ≡ 1) × (number (ends_by p) h ≡ 0)) ⊎ Began p h
unfolding tally
began p [] a f w = inl (w, refl)
began p (e ∷ h) a f w = go (began p h (after a e) f.1 w)
  where
    go : ((running ((after a e).status p) ≡ 1) × (number (ends_by p) h ≡ 0)) ⊎ Began p h → ((running (a.status p) ≡ 1) × (number (ends_by p) (e ∷ h) ≡ 0)) ⊎ Began p (e ∷ h)
    go (inr (c, xs, ys, q, n)) = inr (c, e ∷ xs, ys, ap (λ l. e ∷ l) q, n)
    go (inl (v, n)) =
        let b = (balanced p a e f.0).begun in
        let k = bounds (a.status p) in
        elim (ℕ_discrete (begins_by p e) 0) [
          | yes z ↦ inl (omega (arith, b, k.1), omega (arith, b, k.1))
          | no z ↦ let d = the_begin p e z in inr (d.0, [], h, ap (λ x. x ∷ h) d.1, n)
        ]

-- the call that an end ends
pub called : (p : ℕ) (r : Result) (a : State) (h rest : List Event) → a.status p ≡ quiet → Follows a (h ++ ends p r ∷ rest) → Called p r a h
called p r a h rest q f =
    let g = follows_split a h (ends p r ∷ rest) f in
    go (began p h a g.0 (rw g.1.0 refl))
  where
    go : ((running (a.status p) ≡ 1) × (number (ends_by p) h ≡ 0)) ⊎ Began p h → Called p r a h
    go (inl (w, n)) = absurd (omega (arith, rw q at w))
    go (inr (c, xs, ys, w, n)) =
        let g = follows_split a xs (begins p c ∷ ys ++ ends p r ∷ rest) (simp (w, append_assoc) at f) in
        let d = finished p c (after_all a xs) ys n r rest g.1 in
        record { call = c; earlier = xs; since = ys; begun = w; unended = n; acts_once = d.0; given = d.1 }

-- where no task acts the cells stay
pub cells_stay : (h : List Event) (a : State) → ((q : ℕ) → number (acts_by q) h ≡ 0) → (after_all a h).cells ≡ a.cells
unfolding tally
cells_stay [] a n = refl
cells_stay (begins q c ∷ h) a n = cells_stay h (after a (begins q c)) (λ p. omega (arith, n p))
cells_stay (acts q ∷ h) a n = absurd (omega (arith, rw (eq-eqb q q refl) at (n q)))
cells_stay (ends q r ∷ h) a n = cells_stay h (after a (ends q r)) (λ p. omega (arith, n p))
