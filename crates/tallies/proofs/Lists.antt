-- Laws of `every`, `fill_to` and `within`, some of them one turn of a loop at a time, and of tests. Assumes nothing.
use Prim.Native.Nat.{ℕ, zero, suc, ◌+◌, ◌-◌, ◌<◌, ◌≤◌}
use mathlib.Core.Path.{◌≡◌, refl, sym, ◌∙◌}
use mathlib.Core.Logic.{◌≢◌, ◌⊎◌, inl, inr}
use mathlib.Core.Bool.{Bool, true, false, cond, ◌&&◌, ◌||◌, false≢true}
use mathlib.Core.List.{List}
use lib.Dec.{T}
use lib.ListN.{length, get_or, set, take, drop, replicate, length-set, length-drop, length-replicate, get_or-replicate, get_or-eq_default}
use lib.Seq.{get_or-set_same, get_or-set_other, take_all}
use native.Mathlib.Numerals.{add-one}
use native.Mathlib.Omega.{arith}
use native.Mathlib.Decide.{dec_le, dec_lt, ℕ_discrete}
use borrow.Author.Tests.{le-leb, lt-leb, leb-true}
use Rattle.tallies.specs.Lists.{within, every, fill_to}

pub every-none : (f : ℕ → Bool) → every f 0 ≡ true
unfolding every
every-none f = refl

pub every_more : (f : ℕ → Bool) (i : ℕ) → every f i ≡ true → f i ≡ true → every f (i + 1) ≡ true
unfolding every
every_more f i h g = rw (add-one, g) h

pub every-next : (f : ℕ → Bool) (i : ℕ) → every f (i + 1) ≡ cond (f i) (every f i) false
unfolding every
every-next f i = rw add-one

pub every_false : (f : ℕ → Bool) (n i : ℕ) → i < n → f i ≡ false → every f n ≡ false
unfolding every
every_false f zero i h g = absurd (omega arith)
every_false f (suc n) i h g = elim (dec_lt i n) [ yes l ↦ rw (every_false f n i l g) (both (f n)) | no l ↦ (let e : i ≡ n = omega arith in rw (← e, g)) ]
  where
    both : (b : Bool) → cond b false false ≡ false
    both true = refl
    both false = refl

pub fill_none {ℓ} : {A : Type ℓ} (f : ℕ → A) (l : List A) → l ≡ fill_to f 0 l
unfolding fill_to
fill_none f l = refl

pub fill_more {ℓ} : {A : Type ℓ} (f : ℕ → A) (i : ℕ) (l : List A) → set (fill_to f i l) i (f i) ≡ fill_to f (i + 1) l
unfolding fill_to
fill_more f i l = rw add-one

pub within_bounds : (a b n : ℕ) → within a b n ≡ true → (a ≤ n) × (n ≤ b)
within_bounds a b n h = elim (dec_le a n) [ yes l ↦ (l, leb-true n b (rw (le-leb a n l) at h)) | no l ↦ absurd (false≢true (rw (lt-leb a n (omega arith)) at h)) ]

pub within_true : (a b n : ℕ) → a ≤ n → n ≤ b → within a b n ≡ true
within_true a b n l r = rw (le-leb a n l, le-leb n b r)

-- one of two tests passes exactly where its bounds hold
pub within_either : (a b c d n : ℕ) → (within a b n || within c d n) ≡ true → ((a ≤ n) × (n ≤ b)) ⊎ ((c ≤ n) × (n ≤ d))
within_either a b c d n h = split (within a b n) refl
  where
    split : (t : Bool) → within a b n ≡ t → ((a ≤ n) × (n ≤ b)) ⊎ ((c ≤ n) × (n ≤ d))
    split true e = inl (within_bounds a b n e)
    split false e = inr (within_bounds c d n (rw e at h))

pub either_within : (a b c d n : ℕ) → ((a ≤ n) × (n ≤ b)) ⊎ ((c ≤ n) × (n ≤ d)) → (within a b n || within c d n) ≡ true
either_within a b c d n (inl h) = rw (within_true a b n h.0 h.1) refl
either_within a b c d n (inr h) = rw (within_true c d n h.0 h.1) (last (within a b n))
  where
    last : (t : Bool) → (t || true) ≡ true
    last true = refl
    last false = refl

-- two tests that hold together hold each
pub both : (a b : Bool) → (a && b) ≡ true → (a ≡ true) × (b ≡ true)
both true b h = (refl, h)
both false b h = absurd (false≢true h)

-- the same of what is claimed of two tests
pub each : (a b : Bool) → T (a && b) → T a × T b
each true b h = (tt, h)
each false b h = absurd h

-- what stands where, and how much, after the filling
pub fill_length {ℓ} : {A : Type ℓ} (f : ℕ → A) (n : ℕ) (l : List A) → length (fill_to f n l) ≡ length l
unfolding fill_to
fill_length f zero l = refl
fill_length f (suc n) l = length-set (fill_to f n l) n (f n) ∙ fill_length f n l

pub fill_past {ℓ} : {A : Type ℓ} (f : ℕ → A) (n : ℕ) (l : List A) (i : ℕ) (d : A) → n ≤ i → get_or (fill_to f n l) i d ≡ get_or l i d
unfolding fill_to
fill_past f zero l i d h = refl
fill_past f (suc n) l i d h = get_or-set_other (fill_to f n l) n i (f n) d (omega arith) ∙ fill_past f n l i d (omega arith)

pub fill_at {ℓ} : {A : Type ℓ} (f : ℕ → A) (n : ℕ) (l : List A) (i : ℕ) (d : A) → i < n → n ≤ length l → get_or (fill_to f n l) i d ≡ f i
unfolding fill_to
fill_at f zero l i d h k = absurd (omega arith)
fill_at f (suc n) l i d h k =
    elim (ℕ_discrete i n) [
      | yes e ↦ rw e (get_or-set_same (fill_to f n l) n (f n) d (omega (arith, fill_length f n l)))
      | no ne ↦ get_or-set_other (fill_to f n l) n i (f n) d ne ∙ fill_at f n l i d (omega arith) (omega arith)
    ]

all_same : {A : Type 0} (n i : ℕ) (a : A) → get_or (replicate n a) i a ≡ a
all_same n i a =
    elim (dec_lt i n) [
      | yes h ↦ get_or-replicate n i a a h
      | no h ↦ get_or-eq_default (replicate n a) a (omega (arith, length-replicate n a))
    ]

-- a table of one value, filled up to a place: from there on it is as it was
pub past_filled : {A : Type 0} (f : ℕ → A) (n len : ℕ) (a : A) (i : ℕ) → n ≤ i → get_or (fill_to f n (replicate len a)) i a ≡ a
past_filled f n len a i h = fill_past f n (replicate len a) i a h ∙ all_same len i a

pub every_true : (f : ℕ → Bool) (n : ℕ) → ((i : ℕ) → i < n → f i ≡ true) → every f n ≡ true
unfolding every
every_true f zero h = refl
every_true f (suc n) h = rw (h n (omega arith)) (every_true f n (λ i l. h i (omega arith)))

pub every-at : (f : ℕ → Bool) (n i : ℕ) → every f n ≡ true → i < n → f i ≡ true
every-at f n i h l = known (f i) (λ g. false≢true (sym (every_false f n i l g) ∙ h))
  where
    known : (b : Bool) → b ≢ false → b ≡ true
    known true h = refl
    known false h = absurd (h refl)

pub every-same : (f g : ℕ → Bool) (n : ℕ) → ((i : ℕ) → i < n → f i ≡ g i) → every f n ≡ every g n
unfolding every
every-same f g zero h = refl
every-same f g (suc n) h = rw (h n (omega arith), every-same f g n (λ i l. h i (omega arith)))

-- by a Bool, with what it is
pub either : (R : Bool → Type 0) (b : Bool) → (b ≡ true → R true) → (b ≡ false → R false) → R b
either R true f g = f refl
either R false f g = g refl

-- what holds either way holds of the choice
pub by_test : {A : Type 0} (R : A → Type 0) (b : Bool) (x y : A) → (b ≡ true → R x) → (b ≡ false → R y) → R (cond b x y)
by_test R b x y f g = either (λ t. R (cond t x y)) b f g

-- the part of a list from a place on, as a function is handed it
pub part : {A : Type 0} (l : List A) (at : ℕ) → take (length l - at) (drop at l) ≡ drop at l
part l at = take_all (length l - at) (drop at l) (omega (arith, length-drop at l))
