-- The answers to the free-nodes question, written one after the other, are those of the run, as far as the buffer goes. Assumes nothing.
use Prim.Native.Nat.{ℕ, suc, ◌+◌}
use mathlib.Core.Path.{◌≡◌, refl, ap, ◌∙◌}
use mathlib.Core.Bool.{true, false}
use mathlib.Core.List.{List, [], ◌∷◌}
use native.Mathlib.Omega.{arith}
use lib.ListN.{set}
use Rattle.cells.specs.Apply.{apply_of}
use Rattle.runs.specs.Types.{Machine}
use Rattle.runs.specs.Counts.{accepted}
use Rattle.runs.specs.Run.{free_now, notes_from, noted_by}

-- numbers written from place i on
unfoldable pub noted_at : List ℕ → ℕ → List ℕ → List ℕ
noted_at l i [] = l
noted_at l i (x ∷ xs) = noted_at (set l i x) (i + 1) xs

noted_nowhere : (i : ℕ) (xs : List ℕ) → noted_at [] i xs ≡ []
unfolding noted_at
noted_nowhere i [] = refl
noted_nowhere i (x ∷ xs) = noted_nowhere (i + 1) xs

noted_behind : (y : ℕ) (l : List ℕ) (i : ℕ) (xs : List ℕ) → noted_at (y ∷ l) (suc i) xs ≡ y ∷ noted_at l i xs
unfolding noted_at
noted_behind y l i [] = refl
noted_behind y l i (x ∷ xs) = let e : suc i + 1 ≡ suc (i + 1) = omega arith in ap (λ (k : ℕ). noted_at (y ∷ set l i x) k xs) e ∙ noted_behind y (set l i x) (i + 1) xs

-- from the front on
pub noted_front : (l xs : List ℕ) → noted_at l 0 xs ≡ noted_by xs l
unfolding noted_at
noted_front [] [] = refl
noted_front (y ∷ l) [] = refl
noted_front [] (x ∷ xs) = noted_nowhere 1 xs
noted_front (y ∷ l) (x ∷ xs) = noted_behind x l 0 xs ∙ ap (λ (k : List ℕ). x ∷ k) (noted_front l xs)

module _ (l : List ℕ) (i : ℕ) (m : Machine) where
  module _ (e : List ℕ) (es : List (List ℕ)) where
    pub noted_on : accepted (apply_of m e).answer ≡ true → noted_at l i (notes_from m (e ∷ es)) ≡ noted_at (set l i (free_now (apply_of m e).machine)) (i + 1) (notes_from (apply_of m e).machine es)
    unfolding notes_from noted_at
    noted_on h = rw h

    pub noted_stops : accepted (apply_of m e).answer ≡ false → noted_at l i (notes_from m (e ∷ es)) ≡ set l i (free_now (apply_of m e).machine)
    unfolding notes_from noted_at
    noted_stops h = rw h

  pub noted_ends : noted_at l i (notes_from m []) ≡ l
  unfolding notes_from noted_at
  noted_ends = refl
