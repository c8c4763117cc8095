-- The two readings of VL agree: a task is in S of a cell exactly where source 004 has its link good, so figure 1's validate gives good exactly there.
-- Assumes nothing.
use Prim.Native.Nat.{ℕ, ◌+◌, ◌<◌}
use native.Mathlib.Omega.{arith}
use native.Mathlib.Decide.{ℕ_discrete}
use mathlib.Core.Path.{◌≡◌, refl, sym, ap, ◌∙◌}
use mathlib.Core.Bool.{Bool, true, false, cond, and-false, false≢true}
use mathlib.Core.List.{List, [], ◌∷◌}
use mathlib.Core.Logic.{◌≢◌, ◌⊎◌, inl, inr}
use borrow.Author.Tests.{eq-eqb, ne_eqb}
use Rattle.tallies.specs.Tally.{bit}
use Rattle.figure1.specs.Figure1.{load, store, release, validate, Result, took, lost, good, gone}
use Rattle.figure1.specs.Histories.{Status, quiet, asked, acted, State, Event, begins, acts, ends, after, after_all, given, start}
use Rattle.figure1.specs.Validate.{writes, loads, releases, is_event, count_acts, Still, Unwritten, Decides}
use Rattle.figure1.proofs.Lift.{after-append}
use Rattle.figure1.proofs.Sets.{validate_foretells}

module _ (x p : ℕ) where
  abbrev member : State → Bool
  member a = a.cells.member x p

  -- an event is of none of the three sorts, and p is in S[x] after it as before; or it is p's load of x; or x is written or p releases it, and p
  -- is not in S[x] after it
  data Change (a : State) (e : Event) : Type 0 where
    none : is_event (loads x p) a e ≡ false → is_event (writes x) a e ≡ false → is_event (releases x p) a e ≡ false → member (after a e) ≡ member a
        → Change a e
    joins : e ≡ acts p → a.status p ≡ asked (load x) → Change a e
    leaves : 0 < bit (is_event (writes x) a e) + bit (is_event (releases x p) a e) → member (after a e) ≡ false → Change a e

  change_store : (a : State) (q y v : ℕ) → a.status q ≡ asked (store y v) → (b : Bool) → a.cells.member y q ≡ b → Change a (acts q)
  change_store a q y v w true h =
      elim (ℕ_discrete y x) [
        | yes e ↦ leaves (rw (w, h, eq-eqb y x e) (omega arith)) (rw (w, h, eq-eqb x y (sym e)))
        | no n ↦ none (rw w) (rw (w, h, ne_eqb y x n)) (rw w) (rw (w, h, ne_eqb x y (λ e. n (sym e))))
      ]
  change_store a q y v w false h = none (rw w) (rw (w, h)) (rw w) (rw (w, h))

  change_act : (a : State) (q : ℕ) (s : Status) → a.status q ≡ s → Change a (acts q)
  change_act a q quiet w = none (rw w) (rw w) (rw w) (rw w)
  change_act a q (acted r) w = none (rw w) (rw w) (rw w) (rw w)
  change_act a q (asked (load y)) w =
      elim (ℕ_discrete y x) [
        | no n ↦ none (rw (w, ne_eqb y x n)) (rw w) (rw w) (rw (w, ne_eqb x y (λ e. n (sym e))))
        | yes e ↦ elim (ℕ_discrete q p) [
          | no n ↦ none (rw (w, ne_eqb q p n, and-false)) (rw w) (rw w) (rw (w, e, eq-eqb x x refl, ne_eqb p q (λ k. n (sym k))))
          | yes k ↦ joins (ap acts k) (ap a.status (sym k) ∙ w ∙ ap (λ (z : ℕ). asked (load z)) e)
        ]
      ]
  change_act a q (asked (store y v)) w = change_store a q y v w (a.cells.member y q) refl
  change_act a q (asked (release y)) w =
      elim (ℕ_discrete y x) [
        | no n ↦ none (rw w) (rw w) (rw (w, ne_eqb y x n)) (rw (w, ne_eqb x y (λ e. n (sym e))))
        | yes e ↦ elim (ℕ_discrete q p) [
          | no n ↦ none (rw w) (rw w) (rw (w, ne_eqb q p n, and-false)) (rw (w, e, eq-eqb x x refl, ne_eqb p q (λ k. n (sym k))))
          | yes k ↦ leaves (rw (w, eq-eqb y x e, eq-eqb q p k) (omega arith)) (rw (w, eq-eqb x y (sym e), eq-eqb p q (sym k)))
        ]
      ]
  change_act a q (asked (validate y)) w = none (rw w) (rw w) (rw w) (rw w)

  change : (a : State) (e : Event) → Change a e
  change a (begins q c) = none refl refl refl refl
  change a (acts q) = change_act a q (a.status q) refl
  change a (ends q r) = none refl refl refl refl

  -- whoever is in S[x] at the end was in it all along, or joined on the way and stayed
  since : (h : List Event) (a : State) → member (after_all a h) ≡ true → Unwritten x p a h ⊎ ((member a ≡ true) × Still x p a h)
  since [] a w = inr (w, record { unloaded = refl; unwritten = refl; unreleased = refl })
  since (e ∷ h) a w = go (since h (after a e) w) (change a e)
    where
      go : Unwritten x p (after a e) h ⊎ ((member (after a e) ≡ true) × Still x p (after a e) h) → Change a e
          → Unwritten x p a (e ∷ h) ⊎ ((member a ≡ true) × Still x p a (e ∷ h))
      go (inl u) c =
          inl (record {
            earlier = e ∷ u.earlier;
            since = u.since;
            split = ap (λ l. e ∷ l) u.split;
            loaded = u.loaded;
            still = u.still;
          })
      go (inr (k, s)) (none l v r q) = inr (
        sym q ∙ k,
        record {
          unloaded = rw l (omega (arith, s.unloaded));
          unwritten = rw v (omega (arith, s.unwritten));
          unreleased = rw r (omega (arith, s.unreleased));
        },
      )
      go (inr (k, s)) (joins q l) =
          inl (record { earlier = []; since = h; split = ap (λ z. z ∷ h) q; loaded = l; still = rw q at s })
      go (inr (k, s)) (leaves n q) = absurd (false≢true (sym q ∙ k))

  -- whoever is in S[x] stays in it while x is not written and p does not release it
  stays : (h : List Event) (a : State) → count_acts (writes x) a h ≡ 0 → count_acts (releases x p) a h ≡ 0
      → member a ≡ true → member (after_all a h) ≡ true
  stays [] a v r k = k
  stays (e ∷ h) a v r k = stays h (after a e) (omega arith) (omega arith) (go (change a e))
    where
      go : Change a e → member (after a e) ≡ true
      go (none l w u q) = q ∙ k
      go (joins q l) = rw q (rw (l, eq-eqb x x refl, eq-eqb p p refl) refl)
      go (leaves n q) = absurd (omega arith)

  -- p is in S[x] exactly where p loaded x, no store to x took since, and p has not released x
  pub in_set_lem : (vals : ℕ → ℕ) (h : List Event) → member (after_all (start vals) h) ≡ true → Unwritten x p (start vals) h
  in_set_lem vals h w = go (since h (start vals) w)
    where
      go : Unwritten x p (start vals) h ⊎ ((false ≡ true) × Still x p (start vals) h) → Unwritten x p (start vals) h
      go (inl u) = u
      go (inr (k, s)) = absurd (false≢true k)

  pub unwritten_in : (a : State) (h : List Event) → Unwritten x p a h → member (after_all a h) ≡ true
  unwritten_in a h u =
      let b = after (after_all a u.earlier) (acts p) in
      rw (u.split, after-append a u.earlier (acts p ∷ u.since))
      (stays u.since b u.still.unwritten u.still.unreleased (rw (u.loaded, eq-eqb x x refl, eq-eqb p p refl) refl))

module _ (vals : ℕ → ℕ) (h : List Event) (x p : ℕ) where
  abbrev a : State
  a = start vals

  abbrev in-S : Bool
  in-S = (after_all a h).cells.member x p

  -- what is chosen by p's part in S[x] is decided by that
  chosen : (r s : Result) → r ≢ s → Decides (Unwritten x p a h) r s (cond in-S r s)
  chosen r s ne = record {
    yes = (λ q. in_set_lem x p vals h (first in-S q), there);
    no = (λ q u. ne (sym (there u) ∙ q), λ n. second in-S refl n);
  }
    where
      there : Unwritten x p a h → cond in-S r s ≡ r
      there u = rw (unwritten_in x p a h u)

      first : (b : Bool) → cond b r s ≡ r → b ≡ true
      first true q = refl
      first false q = absurd (ne (sym q))

      second : (b : Bool) → in-S ≡ b → (Unwritten x p a h → ⊥) → cond b r s ≡ s
      second true q n = absurd (n (in_set_lem x p vals h q))
      second false q n = refl

  -- so VL(x) of task p gives good, and its SC(x, y) takes, exactly where no store to x took since p's load, which is not released
  pub validate_decided : Decides (Unwritten x p a h) good gone (given a h p (validate x))
  validate_decided = chosen good gone (λ q. let z : ◌≡◌ {A = ℕ} 0 1 = cc in omega arith)

  pub store_decided : (y : ℕ) → Decides (Unwritten x p a h) took lost (given a h p (store x y))
  store_decided y = rw (validate_foretells (after_all a h).cells p x y in-S refl).1 (chosen took lost (λ q. let z : ◌≡◌ {A = ℕ} 0 1 = cc in omega arith))
