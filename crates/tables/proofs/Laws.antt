-- Guarded reads and stores are plain ones, and what they leave of a table that is being filled. Assumes nothing.
use Prim.Native.Nat.{ℕ, zero, suc, min, ◌+◌, ◌*◌, ◌≤◌, ◌<◌}
use mathlib.Core.Path.{◌≡◌, refl, sym, ◌∙◌, subst}
use mathlib.Core.Bool.{Bool, true, false, cond, ◌&&◌}
use mathlib.Core.List.{List, map}
use lib.Dec.{leb}
use lib.ListN.{length, take, length-map, get_or, set, get_or-eq_default}
use lib.Seq.{set_out, take_all}
use native.Mathlib.Numerals.{add-one}
use native.Mathlib.Decide.{dec_lt}
use native.Mathlib.Omega.{arith}
use borrow.Author.Tests.{lt-ltb, le-ltb, leb-true}
use Rattle.tallies.specs.Lists.{within, every, fill_to}
use Rattle.tallies.proofs.Lists.{every-none, every-next, fill_more, both, within_bounds}
use Rattle.std.specs.List.{list_all}
use Rattle.std.proofs.lemmas.List.Folds.{list_all_more}
use Rattle.tasks.specs.declared.Task.{Task}
use Rattle.tasks.specs.Records.{no_task, task_ok}
use Rattle.tables.specs.Tables.{put_in, sizes_ok, task_ok_in}

-- what is known of an array of structs stands at a map over its list
pub length_mapped : (X Y : Type 0) (f : X → Y) (l : List X) (n : ℕ) → length (map f l) ≡ n → length l ≡ n
length_mapped X Y f l n e = sym (length-map l f) ∙ e

-- past its end a list of n elements gives the default, and is not changed by a store
pub default_out : {A : Type 0} (l : List A) (d : A) (i n : ℕ) → length l ≡ n → n ≤ i → d ≡ get_or l i d
default_out l d i n e p = sym (get_or-eq_default l d (subst (λ (k : ℕ). k ≤ i) (sym e) p))

pub same_out : {A : Type 0} (l : List A) (a : A) (i n : ℕ) → length l ≡ n → n ≤ i → l ≡ set l i a
same_out l a i n e p = sym (set_out l i a (subst (λ (k : ℕ). k ≤ i) (sym e) p))

-- a guarded store is a store, below n or in a list of n elements
pub put-below : (n : ℕ) (l : List ℕ) (i y : ℕ) → i < n → put_in n l i y ≡ set l i y
unfolding put_in
put-below n l i y h = rw (lt-ltb i n h)

pub put-set : (n : ℕ) (l : List ℕ) (i y : ℕ) → length l ≡ n → put_in n l i y ≡ set l i y
unfolding put_in
put-set n l i y e = elim (dec_lt i n) [ yes h ↦ rw (lt-ltb i n h) | no h ↦ rw (le-ltb i n (omega arith)) (same_out l y i n e (omega arith)) ]

-- one place more of a table of n is filled
pub put_more : (n : ℕ) (f : ℕ → ℕ) (i y : ℕ) (l o : List ℕ) → o ≡ fill_to f i l → y ≡ f i → i < n → put_in n o i y ≡ fill_to f (i + 1) l
put_more n f i y l o p q h = rw (p, q) (put-below n (fill_to f i l) i (f i) h ∙ fill_more f i l)

-- one place more is tested
pub tested_more : (f : ℕ → Bool) (i : ℕ) (ok here : Bool) → ok ≡ every f i → here ≡ f i → (ok && here) ≡ every f (i + 1)
tested_more f i ok here p q = rw (every-next, p, q) (either_way (every f i) (f i))
  where
    either_way : (a b : Bool) → (a && b) ≡ cond b a false
    either_way true true = refl
    either_way true false = refl
    either_way false true = refl
    either_way false false = refl

-- the first records of a table are tested one after the other
tested_front : (ts : List Task) (n k m : ℕ) → m ≤ length ts → list_all (task_ok n k) (take m ts) ≡ every (task_ok_in ts n k) m
tested_front ts n k zero h = sym (every-none (task_ok_in ts n k))
tested_front ts n k (suc m) h =
    rw (← add-one m, list_all_more (task_ok n k) ts m no_task (omega arith), tested_front ts n k m (omega arith))
    (tested_more (task_ok_in ts n k) m _ _ refl refl)

pub tested_records : (ts : List Task) (n k p : ℕ) → length ts ≡ 16 → list_all (task_ok n k) (take p ts) ≡ every (task_ok_in ts n k) (min p 16)
tested_records ts n k p e =
    elim (dec_lt p 16) [
      | yes h ↦ (let q : min p 16 ≡ p = omega arith in rw q (tested_front ts n k p (omega arith)))
      | no h ↦ (let q : min p 16 ≡ 16 = omega arith in let a : take p ts ≡ take 16 ts = take_all p ts (omega arith) ∙ sym (take_all 16 ts (omega arith)) in rw (q, a) (tested_front ts n k 16 (omega arith)))
    ]

-- what the sizes test tells
pub sizes_bounds : (n p k : ℕ) → sizes_ok n p k ≡ true → (0 < n) × (n ≤ 64) × (0 < p) × (p ≤ 16) × (n + 2 * p ≤ k) × (k ≤ 128)
unfolding sizes_ok
sizes_bounds n p k h =
    let a = both (within 1 64 n && within 1 16 p && leb (n + 2 * p) k) (leb k 128) h in
    let b = both (within 1 64 n && within 1 16 p) (leb (n + 2 * p) k) a.0 in
    let c = both (within 1 64 n) (within 1 16 p) b.0 in
    let cells = within_bounds 1 64 n c.0 in
    let tasks = within_bounds 1 16 p c.1 in
    (cells.0, cells.1, tasks.0, tasks.1, leb-true (n + 2 * p) k b.1, leb-true k 128 a.1)
