-- What holds of every setup: its machine is the fresh one of its own sizes, which fit the tables, and it uses no more bytes than there are. Assumes nothing.
use Rattle.std.specs.Prelude.{Ok}
use Prim.Native.Nat.{ℕ, ◌+◌, ◌-◌, ◌*◌, ◌≤◌, min}
use mathlib.Core.Path.{◌≡◌, refl, subst}
use mathlib.Core.Bool.{Bool, true, false, not}
use mathlib.Core.List.{List}
use native.Mathlib.Omega.{arith}
use lib.Dec.{eqb, ltb}
use lib.ListN.{length, get_or, replicate}
use borrow.Author.Tests.{ltb-false, not-false}
use Rattle.tallies.specs.Lists.{fill_to}
use Rattle.tallies.proofs.Lists.{by_test}
use Rattle.wire.specs.Bytes.{setup_mark, marked}
use Rattle.tasks.specs.Records.{node_no, no_task, idle_owning}
use Rattle.tables.specs.Tables.{sizes_ok, value_given}
use Rattle.tables.proofs.Laws.{sizes_bounds}
use Rattle.cells.specs.Types.{Machine, Task, SetUp, Head, Refusal, Sizes, NotZero, WrongMark, TooShort}
use Rattle.cells.specs.Machine.{Long}
use Rattle.cells.specs.Setup.{fresh_of, refused_setup, setup_of, head_of}
use Rattle.cells.proofs.Fresh.{fresh-long}

-- the sizes have room in the tables
abbrev pub Fits : Head → Type 0
Fits h = (h.n ≤ 64) × (h.p ≤ 16) × (h.n + 2 * h.p ≤ h.k)

module _ (s : List ℕ) where
  -- the one setup that is not refused
  abbrev pub accepted : SetUp
  accepted = record { machine = fresh_of (get_or s 2 0) (get_or s 3 0) (get_or s 4 0) s; answer = Ok (6 + 4 * get_or s 2 0) }

  -- the tests in their order, each true if it refuses
  abbrev pub no_head : Bool
  no_head = ltb (length s) 6

  abbrev pub unmarked : Bool
  unmarked = not (marked setup_mark s)

  abbrev pub not_zero : Bool
  not_zero = not (eqb (get_or s 5 0) 0)

  abbrev pub no_sizes : Bool
  no_sizes = not (sizes_ok (get_or s 2 0) (get_or s 3 0) (get_or s 4 0))

  abbrev pub no-values : Bool
  no-values = ltb (length s) (6 + 4 * get_or s 2 0)

  -- what holds after each test holds of the setup
  pub by_tests : (R : SetUp → Type 0)
      → (no_head ≡ true → R (refused_setup TooShort))
      → (no_head ≡ false → unmarked ≡ true → R (refused_setup WrongMark))
      → (no_head ≡ false → unmarked ≡ false → not_zero ≡ true → R (refused_setup NotZero))
      → (no_head ≡ false → unmarked ≡ false → not_zero ≡ false → no_sizes ≡ true → R (refused_setup Sizes))
      → (no_head ≡ false → unmarked ≡ false → not_zero ≡ false → no_sizes ≡ false → no-values ≡ true → R (refused_setup TooShort))
      → (no_head ≡ false → unmarked ≡ false → not_zero ≡ false → no_sizes ≡ false → no-values ≡ false → R accepted)
      → R (setup_of s)
  unfolding setup_of
  by_tests R short mark spare sizes cut ready =
      by_test R no_head _ _ short
      (λ a. by_test R unmarked _ _ (mark a)
      (λ b. by_test R not_zero _ _ (spare a b)
      (λ c. by_test R no_sizes _ _ (sizes a b c)
      (λ d. by_test R no-values _ _ (cut a b c d) (ready a b c d)))))

  -- it is enough to look at a refusal and at the setup that is accepted
  pub refused_or_ready : (R : SetUp → Type 0) → ((r : Refusal) → R (refused_setup r)) → (no_sizes ≡ false → no-values ≡ false → R accepted) → R (setup_of s)
  refused_or_ready R refused ready =
      by_tests R (λ a. refused _) (λ a b. refused _) (λ a b c. refused _) (λ a b c d. refused _) (λ a b c d e. refused _) (λ a b c d e. ready d e)

  abbrev Fresh : Machine → Type 0
  Fresh m = fresh_of m.n m.p m.k s ≡ m

  -- no cells, no tasks and no nodes: all zero
  refused-fresh : (r : Refusal) → Fresh (refused_setup r).machine
  unfolding fresh_of fill_to
  refused-fresh r = refl

  accepted-fresh : Fresh accepted.machine
  unfolding fresh_of
  accepted-fresh = refl

  pub setup-fresh : Fresh (setup_of s).machine
  setup-fresh = refused_or_ready (λ x. Fresh x.machine) refused-fresh (λ d e. accepted-fresh)

  accepted-fits : no_sizes ≡ false → Fits (head_of accepted)
  unfolding fresh_of
  accepted-fits d = let z = sizes_bounds (get_or s 2 0) (get_or s 3 0) (get_or s 4 0) (not-false _ d) in (z.1, z.3, z.4)

  setup-fits : Fits (head_of (setup_of s))
  setup-fits = refused_or_ready (λ x. Fits (head_of x)) (λ r. (omega arith, omega arith, omega arith)) (λ d e. accepted-fits d)

  pub setup-long : Long (setup_of s).machine
  setup-long = rw (← setup-fresh) (fresh-long (setup_of s).machine.n (setup_of s).machine.p (setup_of s).machine.k s)

  -- the head's sizes, and the tables filled by them
  module _ (h : Head) (is : h ≡ head_of (setup_of s)) where
    pub head_fits : Fits h
    head_fits = rw is setup-fits

    pub laid : (cs vs ns : List ℕ) (ts : List Task)
        → cs ≡ fill_to (λ (i : ℕ). i) (min h.n 64) (replicate 64 0)
        → vs ≡ fill_to (value_given s) (min h.n 128) (replicate 128 0)
        → ns ≡ fill_to (λ (i : ℕ). 1) (min (h.n + h.p) 128) (replicate 128 0)
        → ts ≡ fill_to (λ (i : ℕ). idle_owning (node_no (h.n + i))) h.p (replicate 16 no_task)
        → record { n = h.n; p = h.p; k = h.k; free = h.k - h.n - h.p; cells = cs; values = vs; counts = ns; tasks = ts } ≡ (setup_of s).machine
    unfolding fresh_of
    laid cs vs ns ts hc hv hn ht =
        let n64 : min h.n 64 ≡ h.n = omega (arith, head_fits.0) in
        let n128 : min h.n 128 ≡ h.n = omega (arith, head_fits.0) in
        let np : min (h.n + h.p) 128 ≡ h.n + h.p = omega (arith, head_fits.0, head_fits.1) in
        rw (hc, hv, hn, ht, n64, n128, np, is) setup-fresh

  pub setup_uses : (u : ℕ) → (setup_of s).answer ≡ Ok u → u ≤ length s
  setup_uses =
      refused_or_ready (λ x. (u : ℕ) → x.answer ≡ Ok u → u ≤ length s)
      (λ r u h. let z : ◌≡◌ {A = ℕ} 0 1 = cc in absurd (omega arith))
      (λ d e u h. let used : 6 + 4 * get_or s 2 0 ≡ u = cc in subst (λ (k : ℕ). k ≤ length s) used (ltb-false (length s) (6 + 4 * get_or s 2 0) e))
