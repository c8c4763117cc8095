-- Figure 1's calls in the words of its text, and validate: who is in which set after a call, and what a store then gives. Nothing but proofs/Validate
-- rests on these theorems: they check the definitions in specs/Figure1, for whoever reads those beside figure 1, and three must-fail edits are
-- refused here. Assumes nothing.
use Prim.Native.Nat.{ℕ}
use mathlib.Core.Path.{◌≡◌, refl, ap}
use mathlib.Core.Bool.{Bool, true, false, cond}
use mathlib.Core.Logic.{◌≢◌}
use borrow.Author.Tests.{eq-eqb, ne_eqb}
use Rattle.figure1.specs.Figure1.{Cells, load, store, release, validate, took, lost, good, gone, nobody, figure1}
use Rattle.figure1.proofs.Put.{put_same}

module _ (c : Cells) (p : ℕ) where
  -- a load joins, a release leaves, and neither changes a value
  pub load_joins : (x : ℕ) → (figure1 c p (load x)).cells.member x p ≡ true
  load_joins x = rw (eq-eqb x x refl, eq-eqb p p refl)

  pub release_leaves : (x : ℕ) → (figure1 c p (release x)).cells.member x p ≡ false
  release_leaves x = rw (eq-eqb x x refl, eq-eqb p p refl)

  pub values_stay : (x y : ℕ) → ((figure1 c p (load x)).cells.val y ≡ c.val y) × ((figure1 c p (release x)).cells.val y ≡ c.val y)
  values_stay x y = (refl, refl)

  -- another task's part, and every part in another cell's set, stay as they were
  pub load-elsewhere : (x y q : ℕ) → y ≢ x → (figure1 c p (load x)).cells.member y q ≡ c.member y q
  load-elsewhere x y q ne = rw (ne_eqb y x ne)

  pub load_others : (x q : ℕ) → q ≢ p → (figure1 c p (load x)).cells.member x q ≡ c.member x q
  load_others x q ne = rw (eq-eqb x x refl, ne_eqb q p ne)

  -- a store by a member takes, sets the value and empties the set: no store takes after it until its task has loaded again
  module _ (x y : ℕ) (h : c.member x p ≡ true) where
    pub store_takes : ((figure1 c p (store x y)).result ≡ took) × ((figure1 c p (store x y)).cells.val x ≡ y)
    store_takes = (rw h, rw (h, eq-eqb x x refl))

    pub store_empties : (q : ℕ) → (figure1 c p (store x y)).cells.member x q ≡ false
    store_empties q = rw h (ap (λ (S : ℕ → Bool). S q) (put_same c.member x nobody))

    pub store_spoils : (q z : ℕ) → (figure1 (figure1 c p (store x y)).cells q (store x z)).result ≡ lost
    store_spoils q z = rw (store_empties q)

  -- a store by a task outside the set is lost and changes nothing
  pub store_misses : (x y : ℕ) → c.member x p ≡ false → ((figure1 c p (store x y)).result ≡ lost) × ((figure1 c p (store x y)).cells ≡ c)
  store_misses x y h = (rw h, rw h)

  -- a validate changes nothing, and tells what a store in its place would give
  pub validate_changes_nothing : (x : ℕ) → (figure1 c p (validate x)).cells ≡ c
  validate_changes_nothing x = refl

  pub validate_foretells : (x y : ℕ) (b : Bool) → c.member x p ≡ b
      → ((figure1 c p (validate x)).result ≡ cond b good gone) × ((figure1 c p (store x y)).result ≡ cond b took lost)
  validate_foretells x y true h = (rw h, rw h)
  validate_foretells x y false h = (rw h, rw h)
