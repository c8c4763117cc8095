-- An accepted setup's record is fresh: it is `Kept`, and it is in the state in which figure 1 starts with the given values. Assumes nothing.
use Rattle.std.specs.Prelude.{Ok, Err}
use Prim.Native.Nat.{ℕ, ◌+◌, ◌-◌, ◌*◌, ◌≤◌, ◌<◌}
use native.Mathlib.Omega.{arith}
use native.Mathlib.Decide.{dec_lt}
use mathlib.Core.Path.{◌≡◌, refl, sym, ap, ◌∙◌}
use mathlib.Core.Bool.{true}
use mathlib.Core.List.{List}
use lib.Dec.{eqb, leb, ltb}
use lib.ListN.{get_or, replicate}
use borrow.Author.Tests.{le-leb, lt-leb, lt-ltb, le-ltb, not-false}
use Rattle.tallies.specs.Tally.{bit, total}
use Rattle.tallies.proofs.Tally.{bit_le, tally_fill, total-at, total_join, total-same, total-split, total-zero}
use Rattle.tasks.specs.Records.{node_no, no_task, idle_owning}
use Rattle.tasks.specs.Holders.{keeps}
use Rattle.tables.specs.Tables.{sizes_ok, value_given}
use Rattle.tables.proofs.Laws.{sizes_bounds}
use Rattle.cells.specs.Machine.{Long}
use Rattle.cells.specs.Setup.{blank_of, fresh_of, setup_of}
use Rattle.cells.proofs.Fresh.{fresh-long, fresh-cell, fresh-value, fresh_count, fresh_count_past, fresh-task}
use Rattle.cells.proofs.Setups.{refused_or_ready}
use Rattle.figure1.specs.Histories.{start}
use Rattle.laws.specs.Types.{Refusal, Task, Machine}
use Rattle.laws.specs.Meaning.{points, claims, pointers, claimers, keepers, free}
use Rattle.laws.specs.Kept.{Kept}
use Rattle.laws.specs.Acts.{Matches}

-- the sizes that a setup is taken with
pub record Sizes (n p k : ℕ) : Type 0 where
  pub a_cell : 0 < n
  pub cells : n ≤ 64
  pub a_task : 0 < p
  pub tasks : p ≤ 16
  pub room : n + 2 * p ≤ k
  pub nodes : k ≤ 128

sizes : (n p k : ℕ) → sizes_ok n p k ≡ true → Sizes n p k
sizes n p k h = let z = sizes_bounds n p k h in record { a_cell = z.0; cells = z.1; a_task = z.2; tasks = z.3; room = z.4; nodes = z.5 }

module _ (n p k : ℕ) (s : List ℕ) (z : Sizes n p k) where
  abbrev fresh : Machine
  fresh = fresh_of n p k s

  abbrev idle : ℕ → Task
  idle i = idle_owning (node_no (n + i))

  task-at : (q : ℕ) → q < p → get_or fresh.tasks q no_task ≡ idle q
  task-at q = fresh-task n p k s q z.tasks

  long : Long fresh
  long = fresh-long n p k s

  count_at : (i : ℕ) → i < k → get_or fresh.counts i 0 ≡ bit (ltb i (n + p))
  count_at i h =
      elim (dec_lt i (n + p)) [
        | yes l ↦ fresh_count n p k s i (omega (arith, z.room, z.nodes)) l ∙ rw (lt-ltb i (n + p) l)
        | no l ↦ fresh_count_past n p k s i (omega arith) ∙ rw (le-ltb i (n + p) (omega arith))
      ]

  -- cell i points at node i and task i owns node n + i: each node below n + p once
  due : (i : ℕ) → pointers fresh i + claimers fresh i ≡ bit (ltb i (n + p))
  unfolding fresh_of
  due i =
      omega (
        arith,
        tally_fill (points i) (λ (j : ℕ). j) n (replicate 64 0) z.cells,
        tally_fill (claims i) idle p (replicate 16 no_task) z.tasks,
        total-same (λ j. claims i (idle j)) (λ j. bit (eqb (n + j) i)) p (λ j h. omega arith),
        total_join (λ j. bit (eqb j i)) n p,
        total-at i (n + p),
      )

  nobody-keeps : (i : ℕ) → keepers fresh i ≡ 0
  unfolding fresh_of
  nobody-keeps i = tally_fill (keeps i) idle p (replicate 16 no_task) z.tasks ∙ total-zero p

  -- all nodes from n + p on are free, and no other
  free-at : (i : ℕ) → i < k → bit (eqb (get_or fresh.counts i 0) 0) ≡ bit (leb (n + p) i)
  free-at i h =
      elim (dec_lt i (n + p)) [
        | yes l ↦ rw (count_at i h, lt-ltb i (n + p) l, lt-leb (n + p) i l) refl
        | no l ↦ rw (count_at i h, le-ltb i (n + p) (omega arith), le-leb (n + p) i (omega arith)) refl
      ]

  fresh-free : fresh.free ≡ free fresh
  unfolding fresh_of
  fresh-free =
      let a = n + p in
      let f : ℕ → ℕ = λ i. bit (eqb (get_or fresh.counts i 0) 0) in
      let e : k ≡ a + (k - a) = omega (arith, z.room) in
      sym (ap (total f) e ∙ omega (
        arith,
        z.room,
        total_join f a (k - a),
        total-same f (λ i. 0) a (λ i h. free-at i (omega (arith, z.room)) ∙ rw (lt-leb a i h) refl),
        total-zero a,
        total-split (λ j. f (a + j)) (λ j. 0) (k - a) (λ j h. omega (arith, free-at (a + j) (omega arith), ap bit (le-leb a (a + j) (omega arith)))),
        total-zero (k - a),
      ))

  pub fresh_kept : Kept fresh
  unfolding fresh_of
  fresh_kept = record {
    sound = record {
      cells_length = long.cells;
      values_length = long.values;
      counts_length = long.counts;
      tasks_length = long.tasks;
      a_cell = z.a_cell;
      cells = z.cells;
      a_task = z.a_task;
      tasks = z.tasks;
      room = z.room;
      nodes = z.nodes;
      pointed = λ x h. rw (fresh-cell n p k s x z.cells h) (omega (arith, z.room));
      each = λ q h. rw (task-at q h) (record { phase = omega arith; cell = z.a_cell; held = omega (arith, z.room); own = omega (arith, z.room); cursor = omega (arith, z.room) });
    };
    free_counted = fresh-free;
    counted = λ i h. omega (arith, count_at i h, due i, nobody-keeps i);
    sole = λ i h. omega (arith, due i, bit_le (ltb i (n + p)));
    held = λ x y hx hy. rw (task-at x hx) (λ b. absurd b);
    written = λ x hx. rw (task-at x hx) (λ q. absurd (omega arith));
  }

  pub fresh_matches : Matches fresh (start (value_given s))
  unfolding fresh_of
  fresh_matches = record {
    vals = λ x h. rw (fresh-cell n p k s x z.cells h) (fresh-value n p k s x (omega (arith, z.cells)) h);
    sets = λ x q hx hq. rw (task-at q hq) refl;
    calls = λ q hq. rw (task-at q hq) refl;
  }

-- what holds of every fresh record holds of an accepted setup's
module _ (s : List ℕ) (used : ℕ) (R : Machine → Type 0) (f : (n p k : ℕ) → Sizes n p k → R (fresh_of n p k s)) where
  pub by_setup : (setup_of s).answer ≡ Ok used → R (setup_of s).machine
  by_setup =
      refused_or_ready s (λ x. x.answer ≡ Ok used → R x.machine) (λ r q. let z : ◌≡◌ {A = ℕ} 0 1 = cc in absurd (omega arith))
      (λ d e q. f _ _ _ (sizes (get_or s 2 0) (get_or s 3 0) (get_or s 4 0) (not-false _ d)))

pub setup_kept : (s : List ℕ) (used : ℕ) → (setup_of s).answer ≡ Ok used → Kept (setup_of s).machine
setup_kept s used = by_setup s used Kept (λ n p k z. fresh_kept n p k s z)

pub setup_matches : (s : List ℕ) (used : ℕ) → (setup_of s).answer ≡ Ok used → Matches (setup_of s).machine (start (value_given s))
setup_matches s used = by_setup s used (λ m. Matches m (start (value_given s))) (λ n p k z. fresh_matches n p k s z)

-- a refused setup's record is all zeros
pub setup_blank : (s : List ℕ) (r : Refusal) → (setup_of s).answer ≡ Err r → (setup_of s).machine ≡ blank_of
setup_blank s r =
    refused_or_ready s (λ x. x.answer ≡ Err r → x.machine ≡ blank_of) (λ x q. refl) (λ d e q. let z : ◌≡◌ {A = ℕ} 0 1 = cc in absurd (omega arith))
