-- The answer to the holders question, by how the test of refusal 24 came out; and how many tasks hold a node. Assumes nothing.
use Rattle.std.specs.Prelude.{Some, None}
use Rattle.std.specs.List.{count_by}
use Rattle.std.proofs.lemmas.List.Recursion.{is_count_by}
use Prim.Native.Nat.{ℕ, ◌+◌}
use native.Mathlib.Nat.{zero-add}
use mathlib.Core.Path.{◌≡◌, refl, sym}
use mathlib.Core.Bool.{Bool, true, false, not, cond, ◌&&◌}
use mathlib.Core.List.{List}
use lib.Dec.{T, eqb}
use lib.ListN.{length}
use Rattle.tallies.specs.Tally.{bit, tally}
use Rattle.tasks.specs.Types.{NodeNo, Task}
use Rattle.tasks.specs.Phases.{holds}
use Rattle.tasks.specs.Holders.{keeps, beyond_of, holders_of}

-- the tally of those that hold the node is how many they are
pub holders_counted : (ts : List Task) (v : NodeNo) → count_by (λ t. eqb (keeps v.0 t) 1) ts ≡ tally (keeps v.0) (length ts) ts
unfolding tally
holders_counted ts v = sym (is_count_by (λ l. tally (keeps v.0) (length l) l) (λ t. eqb (keeps v.0 t) 1) refl (λ t l. one_more (holds t.phase && eqb t.held.0 v.0) _) ts)
  where
    one_more : (b : Bool) (n : ℕ) → bit b + n ≡ cond (eqb (bit b) 1) (1 + n) n
    one_more true n = refl
    one_more false n = zero-add n

taken : {A : Type 0} (t : Bool) (a b : A) → T t → cond t a b ≡ a
taken true a b h = refl
taken false a b h = absurd h

left : {A : Type 0} (t : Bool) (a b : A) → T (not t) → cond t a b ≡ b
left true a b h = absurd h
left false a b h = refl

module _ (ts : List Task) (v : NodeNo) where
  pub refused : T (beyond_of (length ts) v) → None ≡ holders_of ts v
  unfolding holders_of
  refused h = sym (taken (beyond_of (length ts) v) None (Some (tally (keeps v.0) (length ts) ts)) h)

  pub counted : T (not (beyond_of (length ts) v)) → Some (tally (keeps v.0) (length ts) ts) ≡ holders_of ts v
  unfolding holders_of
  counted h = sym (left (beyond_of (length ts) v) None (Some (tally (keeps v.0) (length ts) ts)) h)
