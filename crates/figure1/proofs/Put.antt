-- What holds after `put`, and of a list and a function that change at one place together. Assumes nothing.
use Prim.Native.Nat.{ℕ, ◌<◌}
use native.Mathlib.Decide.{ℕ_discrete}
use mathlib.Core.Path.{◌≡◌, refl, sym, subst}
use mathlib.Core.List.{List}
use mathlib.Core.Logic.{◌≢◌}
use lib.ListN.{length, get_or, set}
use borrow.Author.Tests.{eq-eqb, ne_eqb}
use Rattle.tallies.proofs.Tally.{put-each}
use Rattle.figure1.specs.Figure1.{put}

pub put_same : {A : Type 0} (f : ℕ → A) (x : ℕ) (a : A) → put f x a x ≡ a
put_same f x a = rw (eq-eqb x x refl)

pub put_other : {A : Type 0} (f : ℕ → A) (x : ℕ) (a : A) (y : ℕ) → y ≢ x → put f x a y ≡ f y
put_other f x a y ne = rw (ne_eqb y x ne)

pub put_in : {A : Type 0} (R : ℕ → A → Type 0) (f : ℕ → A) (x : ℕ) (a : A) → R x a → (y : ℕ) → (y ≢ x → R y (f y)) → R y (put f x a y)
put_in R f x a ra y rest =
    elim (ℕ_discrete y x) [
      | yes e ↦ rw (eq-eqb y x e) (subst (λ (k : ℕ). R k a) (sym e) ra)
      | no ne ↦ rw (ne_eqb y x ne) (rest ne)
    ]

pub set-put : {A B : Type 0} (R : A → B → Type 0) (l : List A) (j : ℕ) (a d : A) (f : ℕ → B) (b : B) → j < length l → R a b
    → (i : ℕ) → (i ≢ j → R (get_or l i d) (f i)) → R (get_or (set l j a) i d) (put f j b i)
set-put R l j a d f b h r i rest =
    put-each (λ k x. R x (put f j b k)) l j a d h (rw (put_same f j b) r) i (λ ne. rw (put_other f j b i ne) (rest ne))
