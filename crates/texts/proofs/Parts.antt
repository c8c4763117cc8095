-- A text parted at a byte: what stands before it and what follows. Assumes nothing.
use Prim.Native.Nat.{ℕ, ◌+◌, ◌≤◌, ◌<◌}
use native.Mathlib.Omega.{arith}
use native.Mathlib.Decide.{ℕ_discrete}
use mathlib.Core.Path.{◌≡◌, refl, ap}
use mathlib.Core.Logic.{◌≢◌, ◌⊎◌, inl, inr}
use mathlib.Core.Bool.{true}
use Rattle.std.specs.List.{sum_by}
use Rattle.std.proofs.lemmas.List.Recursion.{is_sum_by}
use mathlib.Core.List.{List, [], ◌∷◌, ◌++◌}
use lib.ListN.{length}
use lib.Dec.{eqb}
use borrow.Author.Tests.{eq-eqb, ne_eqb}
use Rattle.tallies.specs.Tally.{bit}
use Rattle.tallies.proofs.Lists.{both}
use Rattle.digits.specs.Decimal.{is_digit, all_digits}
use Rattle.digits.proofs.Laws.{digit_range}
use Rattle.texts.specs.Line.{newline, up_to, past}
use Rattle.texts.specs.Text.{newlines}

-- no byte of w is b
abbrev pub Free : ℕ → List ℕ → Type 0
Free b [] = Unit {0}
Free b (c ∷ w) = (c ≢ b) × Free b w

pub free-append : (b : ℕ) (v w : List ℕ) → Free b v → Free b w → Free b (v ++ w)
free-append b [] w h k = k
free-append b (c ∷ v) w h k = (h.0, free-append b v w h.1 k)

-- digits are neither comma nor newline
pub digits_free : (b : ℕ) (w : List ℕ) → b < 0x30 → all_digits w ≡ true → Free b w
unfolding all_digits
digits_free b [] h d = tt
digits_free b (c ∷ w) h d = let p = both (is_digit c) (all_digits w) d in (λ e. omega (arith, (digit_range c p.0).0), digits_free b w h p.1)

-- the first b parts a text
module _ (b : ℕ) where
  pub up_to_lem : (w s : List ℕ) → Free b w → up_to b (w ++ b ∷ s) ≡ w
  unfolding up_to
  up_to_lem [] s h = rw (eq-eqb b b refl)
  up_to_lem (c ∷ w) s h = rw (ne_eqb c b h.0) (ap (λ (l : List ℕ). c ∷ l) (up_to_lem w s h.1))

  pub past_it : (w s : List ℕ) → Free b w → past b (w ++ b ∷ s) ≡ s
  unfolding past
  past_it [] s h = rw (eq-eqb b b refl)
  past_it (c ∷ w) s h = rw (ne_eqb c b h.0) (past_it w s h.1)

  pub up_to-none : (w : List ℕ) → Free b w → up_to b w ≡ w
  unfolding up_to
  up_to-none [] h = refl
  up_to-none (c ∷ w) h = rw (ne_eqb c b h.0) (ap (λ (l : List ℕ). c ∷ l) (up_to-none w h.1))

  pub past-none : (w : List ℕ) → Free b w → past b w ≡ []
  unfolding past
  past-none [] h = refl
  past-none (c ∷ w) h = rw (ne_eqb c b h.0) (past-none w h.1)

  pub up_to-free : (s : List ℕ) → Free b (up_to b s)
  unfolding up_to
  up_to-free [] = tt
  up_to-free (c ∷ s) = elim (ℕ_discrete c b) [ yes e ↦ rw (eq-eqb c b e) tt | no n ↦ rw (ne_eqb c b n) (n, up_to-free s) ]

  pub past_shorter : (s : List ℕ) → length (past b s) ≤ length s
  unfolding past
  past_shorter [] = omega arith
  past_shorter (c ∷ s) = elim (ℕ_discrete c b) [ yes e ↦ rw (eq-eqb c b e) (omega arith) | no n ↦ rw (ne_eqb c b n) (omega (arith, past_shorter s)) ]

  -- there is none, or the text is parted there
  pub parted : (s : List ℕ) → Free b s ⊎ (s ≡ up_to b s ++ b ∷ past b s)
  unfolding up_to past
  parted [] = inl tt
  parted (c ∷ s) =
      elim (ℕ_discrete c b) [
        | yes e ↦ inr (rw (eq-eqb c b e, e))
        | no n ↦ rw (ne_eqb c b n) (elim (parted s) [ inl f ↦ inl (n, f) | inr p ↦ inr (ap (λ (l : List ℕ). c ∷ l) p) ])
      ]

  pub parted_past : (s : List ℕ) → 1 ≤ length (past b s) → s ≡ up_to b s ++ b ∷ past b s
  parted_past s h = elim (parted s) [ inl f ↦ absurd (omega (arith, ap (length {A = ℕ}) (past-none s f))) | inr p ↦ p ]

-- newlines
pub free-newlines : (w : List ℕ) → Free newline w → newlines w ≡ 0
unfolding newlines
free-newlines [] h = refl
free-newlines (c ∷ w) h = rw (ne_eqb c newline h.0) (omega (arith, free-newlines w h.1))

pub newlines-free : (w : List ℕ) → newlines w ≡ 0 → Free newline w
unfolding newlines
newlines-free [] h = tt
newlines-free (c ∷ w) h =
    elim (ℕ_discrete c newline) [
      | yes e ↦ absurd (omega (arith, rw (eq-eqb c newline e) at h))
      | no n ↦ (n, newlines-free w (omega (arith, rw (ne_eqb c newline n) at h)))
    ]

pub newlines-append : (v w : List ℕ) → newlines (v ++ w) ≡ newlines v + newlines w
unfolding newlines
newlines-append [] w = omega arith
newlines-append (c ∷ v) w = omega (arith, newlines-append v w)

-- they are a sum
pub newlines_sum : (t : List ℕ) → newlines t ≡ sum_by (λ c. bit (eqb c newline)) t
unfolding newlines
newlines_sum = is_sum_by newlines (λ c. bit (eqb c newline)) refl (λ c t. refl)
