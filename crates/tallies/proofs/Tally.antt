-- Laws of `tally` and `total`. Assumes nothing.
use Prim.Native.Nat.{ℕ, zero, suc, ◌+◌, ◌-◌, ◌*◌, ◌%◌, ◌≤◌, ◌<◌, zero-le}
use mathlib.Core.Path.{◌≡◌, refl, sym, ap, ap₂, ◌∙◌, subst}
use mathlib.Core.Bool.{Bool, true, false}
use mathlib.Core.List.{List, [], ◌∷◌}
use mathlib.Core.Logic.{◌≢◌}
use native.Mathlib.Nat.{le_of_suc-le-suc, not-suc-le-zero, add-zero, add-suc, mod-eq_of_lt, add-mod_right}
use native.Mathlib.Numerals.{add-one}
use native.Mathlib.Omega.{arith}
use native.Mathlib.Decide.{dec_lt, ℕ_discrete}
use lib.ListN.{length, get_or, set, take, length-set}
use lib.Dec.{T, eqb, ltb}
use lib.Seq.{get_or-set_same, get_or-set_other}
use borrow.Author.Tests.{lt-ltb, le-ltb, eq-eqb, ne_eqb}
use Rattle.tallies.specs.Lists.{fill_to}
use Rattle.tallies.specs.Tally.{bit, tally, total}
use Rattle.tallies.proofs.Lists.{fill_length}

module _ {A : Type 0} where
  -- one place changes: the sum changes by that place's weight
  pub tally-set : (w : A → ℕ) (n : ℕ) (l : List A) (j : ℕ) (a d : A) → j < n → j < length l
      → tally w n (set l j a) + w (get_or l j d) ≡ tally w n l + w a
  unfolding tally
  tally-set w zero l j a d h k = absurd (not-suc-le-zero h)
  tally-set w (suc n) [] j a d h k = absurd (not-suc-le-zero k)
  tally-set w (suc n) (x ∷ l) zero a d h k = omega arith
  tally-set w (suc n) (x ∷ l) (suc j) a d h k = omega (arith, tally-set w n l j a d (le_of_suc-le-suc h) (le_of_suc-le-suc k))

  -- a place past the front: nothing changes
  pub tally_out : (w : A → ℕ) (n : ℕ) (l : List A) (j : ℕ) (a : A) → n ≤ j → tally w n (set l j a) ≡ tally w n l
  unfolding tally
  tally_out w zero l j a h = refl
  tally_out w (suc n) [] j a h = refl
  tally_out w (suc n) (x ∷ l) zero a h = absurd (not-suc-le-zero h)
  tally_out w (suc n) (x ∷ l) (suc j) a h = omega (arith, tally_out w n l j a (le_of_suc-le-suc h))

  -- one place's weight is in the sum
  pub tally-at : (w : A → ℕ) (n : ℕ) (l : List A) (j : ℕ) (d : A) → j < n → j < length l → w (get_or l j d) ≤ tally w n l
  unfolding tally
  tally-at w zero l j d h k = absurd (not-suc-le-zero h)
  tally-at w (suc n) [] j d h k = absurd (not-suc-le-zero k)
  tally-at w (suc n) (x ∷ l) zero d h k = omega arith
  tally-at w (suc n) (x ∷ l) (suc j) d h k = omega (arith, tally-at w n l j d (le_of_suc-le-suc h) (le_of_suc-le-suc k))

  -- and so are two places' weights
  pub tally-two : (w : A → ℕ) (n : ℕ) (l : List A) (i j : ℕ) (d : A) → i ≢ j → i < n → i < length l → j < n → j < length l
      → w (get_or l i d) + w (get_or l j d) ≤ tally w n l
  unfolding tally
  tally-two w zero l i j d ne hi ki hj kj = absurd (not-suc-le-zero hi)
  tally-two w (suc n) [] i j d ne hi ki hj kj = absurd (not-suc-le-zero ki)
  tally-two w (suc n) (x ∷ l) zero zero d ne hi ki hj kj = absurd (ne refl)
  tally-two w (suc n) (x ∷ l) zero (suc j) d ne hi ki hj kj = omega (arith, tally-at w n l j d (le_of_suc-le-suc hj) (le_of_suc-le-suc kj))
  tally-two w (suc n) (x ∷ l) (suc i) zero d ne hi ki hj kj = omega (arith, tally-at w n l i d (le_of_suc-le-suc hi) (le_of_suc-le-suc ki))
  tally-two w (suc n) (x ∷ l) (suc i) (suc j) d ne hi ki hj kj =
      omega (arith, tally-two w n l i j d (λ e. ne (ap suc e)) (le_of_suc-le-suc hi) (le_of_suc-le-suc ki) (le_of_suc-le-suc hj) (le_of_suc-le-suc kj))

  -- weights that are at most others, place by place
  pub tally_mono : (v w : A → ℕ) (n : ℕ) (l : List A) → ((a : A) → v a ≤ w a) → tally v n l ≤ tally w n l
  unfolding tally
  tally_mono v w zero l h = zero-le
  tally_mono v w (suc n) [] h = zero-le
  tally_mono v w (suc n) (x ∷ l) h = omega (arith, h x, tally_mono v w n l h)

  pub tally-same : (v w : A → ℕ) (n : ℕ) (l : List A) → ((a : A) → v a ≡ w a) → tally v n l ≡ tally w n l
  unfolding tally
  tally-same v w zero l h = refl
  tally-same v w (suc n) [] h = refl
  tally-same v w (suc n) (x ∷ l) h = omega (arith, h x, tally-same v w n l h)

  pub tally-add : (v w : A → ℕ) (n : ℕ) (l : List A) → tally (λ a. v a + w a) n l ≡ tally v n l + tally w n l
  unfolding tally
  tally-add v w zero l = refl
  tally-add v w (suc n) [] = refl
  tally-add v w (suc n) (x ∷ l) = omega (arith, tally-add v w n l)

  -- weights of at most c
  pub tally_most : (w : A → ℕ) (c n : ℕ) (l : List A) → ((a : A) → w a ≤ c) → tally w n l ≤ n * c
  unfolding tally
  tally_most w c zero l h = zero-le
  tally_most w c (suc n) [] h = zero-le
  tally_most w c (suc n) (x ∷ l) h = omega (arith, h x, tally_most w c n l h)

  pub tally-none : (w : A → ℕ) (l : List A) → 0 ≡ tally w 0 l
  unfolding tally
  tally-none w l = refl

  -- the first i elements and the next one
  pub tally-next : (w : A → ℕ) (i : ℕ) (l : List A) (d : A) → i < length l → tally w (i + 1) l ≡ tally w i l + w (get_or l i d)
  unfolding tally
  tally-next w i l d h = ap (λ (n : ℕ). tally w n l) (add-one i) ∙ after w i l d h
    where
      after : (w : A → ℕ) (i : ℕ) (l : List A) (d : A) → i < length l → tally w (suc i) l ≡ tally w i l + w (get_or l i d)
      after w i [] d h = absurd (not-suc-le-zero h)
      after w zero (x ∷ l) d h = omega arith
      after w (suc i) (x ∷ l) d h = omega (arith, after w i l d (le_of_suc-le-suc h))

  -- a sum over the front of a list is one over its places
  pub tally_places : (w : A → ℕ) (n : ℕ) (l : List A) (d : A) → n ≤ length l → tally w n l ≡ total (λ i. w (get_or l i d)) n
  unfolding total
  tally_places w zero l d h = sym (tally-none w l)
  tally_places w (suc n) l d h =
      ap (λ (k : ℕ). tally w k l) (sym (add-one n)) ∙ omega (arith, tally-next w n l d h, tally_places w n l d (omega arith))

  -- nothing stands past the end
  pub tally-past : (w : A → ℕ) (n : ℕ) (l : List A) → length l ≤ n → tally w n l ≡ tally w (length l) l
  unfolding tally
  tally-past w zero [] h = refl
  tally-past w (suc n) [] h = refl
  tally-past w zero (x ∷ l) h = absurd (not-suc-le-zero h)
  tally-past w (suc n) (x ∷ l) h = ap (λ (k : ℕ). w x + k) (tally-past w n l (le_of_suc-le-suc h))

  -- the two sums change places
  pub total-tally : (w : ℕ → A → ℕ) (k n : ℕ) (l : List A) → total (λ i. tally (w i) n l) k ≡ tally (λ a. total (λ i. w i a) k) n l
  unfolding tally total
  total-tally w zero n l = sym (zeros n l)
    where
      zeros : (n : ℕ) (l : List A) → tally (λ a. 0) n l ≡ 0
      zeros zero l = refl
      zeros (suc n) [] = refl
      zeros (suc n) (x ∷ l) = omega (arith, zeros n l)
  total-tally w (suc k) n l =
      ap (λ (x : ℕ). tally (w k) n l + x) (total-tally w k n l) ∙ sym (tally-add (w k) (λ a. total (λ i. w i a) k) n l)

pub total-add : (f g : ℕ → ℕ) (n : ℕ) → total (λ i. f i + g i) n ≡ total f n + total g n
unfolding total
total-add f g zero = refl
total-add f g (suc n) = omega (arith, total-add f g n)

pub total_mono : (f g : ℕ → ℕ) (n : ℕ) → ((i : ℕ) → i < n → f i ≤ g i) → total f n ≤ total g n
unfolding total
total_mono f g zero h = zero-le
total_mono f g (suc n) h = omega (arith, h n (omega arith), total_mono f g n (λ i k. h i (omega arith)))

-- the bit of an equality
pub bit_ne : (m i : ℕ) → m ≢ i → bit (eqb m i) ≡ 0
bit_ne m i h = ap bit (ne_eqb m i h)

pub bit_eq : (m i : ℕ) → m ≡ i → bit (eqb m i) ≡ 1
bit_eq m i e = ap bit (eq-eqb m i e)

pub bit_le : (b : Bool) → bit b ≤ 1
bit_le true = omega arith
bit_le false = omega arith

-- at most one number below n is m
total-none : (m n : ℕ) → n ≤ m → total (λ i. bit (eqb m i)) n ≡ 0
unfolding total
total-none m zero h = refl
total-none m (suc n) h = omega (arith, bit_ne m n (omega arith), total-none m n (omega arith))

pub total_one : (m n : ℕ) → total (λ i. bit (eqb m i)) n ≤ 1
unfolding total
total_one m zero = zero-le
total_one m (suc n) =
    elim (ℕ_discrete m n) [
      | yes e ↦ omega (arith, bit_eq m n e, total-none m n (omega arith))
      | no ne ↦ omega (arith, bit_ne m n ne, total_one m n)
    ]

-- a list of numbers after one of them went up or down by 1
pub up_at : (l : List ℕ) (m i : ℕ) → m < length l → get_or (set l m (get_or l m 0 + 1)) i 0 ≡ get_or l i 0 + bit (eqb m i)
up_at l m i h =
    elim (ℕ_discrete m i) [
      | yes e ↦ subst (λ (j : ℕ). get_or (set l m (get_or l m 0 + 1)) j 0 ≡ get_or l j 0 + bit (eqb m j)) e
          (omega (arith, get_or-set_same l m (get_or l m 0 + 1) 0 h, bit_eq m m refl))
      | no ne ↦ omega (arith, get_or-set_other l m i (get_or l m 0 + 1) 0 (λ e. ne (sym e)), bit_ne m i ne)
    ]

pub down_at : (l : List ℕ) (m i : ℕ) → m < length l → 0 < get_or l m 0 → get_or (set l m (get_or l m 0 - 1)) i 0 + bit (eqb m i) ≡ get_or l i 0
down_at l m i h k =
    elim (ℕ_discrete m i) [
      | yes e ↦ subst (λ (j : ℕ). get_or (set l m (get_or l m 0 - 1)) j 0 + bit (eqb m j) ≡ get_or l j 0) e
          (omega (arith, get_or-set_same l m (get_or l m 0 - 1) 0 h, bit_eq m m refl))
      | no ne ↦ omega (arith, get_or-set_other l m i (get_or l m 0 - 1) 0 (λ e. ne (sym e)), bit_ne m i ne)
    ]

-- a fact of each place, after one place changed
pub put-each : {A : Type 0} (R : ℕ → A → Type 0) (l : List A) (j : ℕ) (a d : A) → j < length l → R j a → (i : ℕ) → (i ≢ j → R i (get_or l i d)) → R i (get_or (set l j a) i d)
put-each R l j a d h ra i rest =
    elim (ℕ_discrete i j) [
      | yes e ↦ subst (λ (k : ℕ). R k (get_or (set l j a) k d)) (sym e) (subst (R j) (sym (get_or-set_same l j a d h)) ra)
      | no ne ↦ subst (R i) (sym (get_or-set_other l j i a d ne)) (rest ne)
    ]

-- the same where the fact does not name the place
pub put-at : {A : Type 0} (R : A → Type 0) (l : List A) (j : ℕ) (a d : A) → j < length l → R a → (i : ℕ) → (i ≢ j → R (get_or l i d)) → R (get_or (set l j a) i d)
put-at R = put-each (λ k. R)

-- what is claimed of a test is the test's outcome
pub T→true : (b : Bool) → T b → b ≡ true
T→true true h = refl
T→true false h = absurd h

-- a test and its opposite share the numbers below n out
pub total-split : (f g : ℕ → ℕ) (n : ℕ) → ((i : ℕ) → i < n → f i + g i ≡ 1) → total f n + total g n ≡ n
unfolding total
total-split f g zero h = refl
total-split f g (suc n) h = omega (arith, h n (omega arith), total-split f g n (λ i k. h i (omega arith)))

-- a sum in two parts, and a sum that goes round
pub total_join : (f : ℕ → ℕ) (a b : ℕ) → total f (a + b) ≡ total f a + total (λ j. f (a + j)) b
unfolding total
total_join f a zero = ap (total f) (add-zero a) ∙ omega arith
total_join f a (suc b) = ap (total f) (add-suc a b) ∙ omega (arith, total_join f a b)

pub total-same : (f g : ℕ → ℕ) (n : ℕ) → ((i : ℕ) → i < n → f i ≡ g i) → total f n ≡ total g n
unfolding total
total-same f g zero h = refl
total-same f g (suc n) h = omega (arith, h n (omega arith), total-same f g n (λ i k. h i (omega arith)))

pub total_front : (f : ℕ → ℕ) (a b : ℕ) → a ≤ b → total f a ≤ total f b
total_front f a b h = let e : b ≡ a + (b - a) = omega arith in rw e (omega (arith, total_join f a (b - a)))

pub total_round : (g : ℕ → ℕ) (c k : ℕ) → c < k → total (λ j. g ((c + j) % k)) k ≡ total g k
total_round g c k h =
    let d = k - c in
    let e : k ≡ d + c = omega arith in
    let e' : k ≡ c + d = omega arith in
    let front = total-same (λ j. g ((c + j) % k)) (λ j. g (c + j)) d (λ j l. ap g (mod-eq_of_lt (omega arith))) in
    let back = total-same (λ j. g ((c + (d + j)) % k)) g c (λ j l. ap g (wrap j l)) in
    ap (total (λ j. g ((c + j) % k))) e ∙ total_join (λ j. g ((c + j) % k)) d c ∙ ap₂ ◌+◌ front back
    ∙ omega arith ∙ sym (total_join g c d) ∙ ap (total g) (sym e')
  where
    wrap : (j : ℕ) → j < c → (c + (k - c + j)) % k ≡ j
    wrap j l = ap (λ (x : ℕ). x % k) (omega arith) ∙ add-mod_right j k ∙ mod-eq_of_lt (omega arith)

-- fewer than n of n: one is missing
pub total_gap : (h : ℕ → ℕ) (n : ℕ) → total (λ j. bit (ltb 0 (h j))) n < n → (j : ℕ) × (j < n) × (h j ≡ 0)
unfolding total
total_gap h zero l = absurd (not-suc-le-zero l)
total_gap h (suc n) l =
    elim (ℕ_discrete (h n) 0) [
      | yes q ↦ (n, omega arith, q)
      | no q ↦ let r = total_gap h n (omega (arith, ap bit (lt-ltb 0 (h n) (omega arith)))) in (r.0, omega (arith, r.1), r.2)
    ]

-- the sum over the places that were filled
pub tally_fill : {A : Type 0} (w : A → ℕ) (f : ℕ → A) (n : ℕ) (l : List A) → n ≤ length l → tally w n (fill_to f n l) ≡ total (λ i. w (f i)) n
unfolding tally total fill_to
tally_fill w f zero l h = refl
tally_fill w f (suc n) l h =
    let put = set (fill_to f n l) n (f n) in
    let long : n < length (fill_to f n l) = omega (arith, fill_length f n l) in
    ap (λ (k : ℕ). tally w k put) (sym (add-one n)) ∙ tally-next w n put (f n) (omega (arith, length-set (fill_to f n l) n (f n)))
    ∙ ap₂ ◌+◌ (tally_out w n (fill_to f n l) n (f n) (omega arith) ∙ tally_fill w f n l (omega arith)) (ap w (get_or-set_same (fill_to f n l) n (f n) (f n) long)) ∙ omega arith

-- i is one of the numbers below n, or none of them
pub total-at : (i n : ℕ) → total (λ j. bit (eqb j i)) n ≡ bit (ltb i n)
unfolding total
total-at i zero = rw (le-ltb i 0 zero-le)
total-at i (suc n) =
    elim (ℕ_discrete n i) [
      | yes e ↦ rw (eq-eqb n i e, total-at i n, le-ltb i n (omega arith), lt-ltb i (suc n) (omega arith))
      | no ne ↦ rw (ne_eqb n i ne, total-at i n, rest ne) (omega arith)
    ]
  where
    rest : n ≢ i → ltb i (suc n) ≡ ltb i n
    rest ne = elim (dec_lt i n) [ yes h ↦ rw (lt-ltb i n h, lt-ltb i (suc n) (omega arith)) | no h ↦ rw (le-ltb i n (omega arith), le-ltb i (suc n) (omega arith)) ]

pub total-zero : (n : ℕ) → total (λ i. 0) n ≡ 0
unfolding total
total-zero zero = refl
total-zero (suc n) = omega (arith, total-zero n)

-- the first n elements are the same in the front of a list
pub tally-take : {A : Type 0} (w : A → ℕ) (n : ℕ) (l : List A) → tally w n (take n l) ≡ tally w n l
unfolding tally
tally-take w zero l = refl
tally-take w (suc n) [] = refl
tally-take w (suc n) (x ∷ l) = ap (λ (k : ℕ). w x + k) (tally-take w n l)
