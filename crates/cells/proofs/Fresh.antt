-- What a fresh machine holds, place by place; past N, P and the nodes in use it is zero. Assumes nothing.
use Prim.Native.Nat.{ℕ, ◌+◌, ◌≤◌, ◌<◌}
use mathlib.Core.Path.{◌≡◌, ◌∙◌}
use mathlib.Core.List.{List}
use native.Mathlib.Omega.{arith}
use lib.ListN.{get_or, replicate, length-replicate}
use Rattle.tallies.proofs.Lists.{fill_length, fill_at, past_filled}
use Rattle.tasks.specs.Records.{node_no, no_task, idle_owning}
use Rattle.tables.specs.Tables.{value_given}
use Rattle.cells.specs.Types.{Machine, Task}
use Rattle.cells.specs.Machine.{Long}
use Rattle.cells.specs.Setup.{fresh_of}

module _ (n p k : ℕ) (s : List ℕ) where
  abbrev fresh : Machine
  fresh = fresh_of n p k s

  abbrev idle : ℕ → Task
  idle i = idle_owning (node_no (n + i))

  -- a table that is filled keeps its length
  pub fresh-long : Long fresh
  unfolding fresh_of
  fresh-long =
      record {
        cells = fill_length (λ (i : ℕ). i) n (replicate 64 0) ∙ length-replicate {A = ℕ} 64 0;
        values = fill_length (value_given s) n (replicate 128 0) ∙ length-replicate {A = ℕ} 128 0;
        counts = fill_length (λ (i : ℕ). 1) (n + p) (replicate 128 0) ∙ length-replicate {A = ℕ} 128 0;
        tasks = fill_length idle p (replicate 16 no_task) ∙ length-replicate 16 no_task;
      }

  module _ (i : ℕ) where
    pub fresh-cell : n ≤ 64 → i < n → get_or fresh.cells i 0 ≡ i
    unfolding fresh_of
    fresh-cell fits h = fill_at (λ (j : ℕ). j) n (replicate 64 0) i 0 h (omega (arith, length-replicate {A = ℕ} 64 0))

    pub fresh_cell_past : n ≤ i → get_or fresh.cells i 0 ≡ 0
    unfolding fresh_of
    fresh_cell_past = past_filled (λ (j : ℕ). j) n 64 0 i

    pub fresh-value : n ≤ 128 → i < n → get_or fresh.values i 0 ≡ value_given s i
    unfolding fresh_of
    fresh-value fits h = fill_at (value_given s) n (replicate 128 0) i 0 h (omega (arith, length-replicate {A = ℕ} 128 0))

    pub fresh_value_past : n ≤ i → get_or fresh.values i 0 ≡ 0
    unfolding fresh_of
    fresh_value_past = past_filled (value_given s) n 128 0 i

    pub fresh_count : n + p ≤ 128 → i < n + p → get_or fresh.counts i 0 ≡ 1
    unfolding fresh_of
    fresh_count fits h = fill_at (λ (j : ℕ). 1) (n + p) (replicate 128 0) i 0 h (omega (arith, length-replicate {A = ℕ} 128 0))

    pub fresh_count_past : n + p ≤ i → get_or fresh.counts i 0 ≡ 0
    unfolding fresh_of
    fresh_count_past = past_filled (λ (j : ℕ). 1) (n + p) 128 0 i

    pub fresh-task : p ≤ 16 → i < p → get_or fresh.tasks i no_task ≡ idle i
    unfolding fresh_of
    fresh-task fits h = fill_at idle p (replicate 16 no_task) i no_task h (omega (arith, length-replicate 16 no_task))

    pub fresh_task_past : p ≤ i → get_or fresh.tasks i no_task ≡ no_task
    unfolding fresh_of
    fresh_task_past = past_filled idle p 16 no_task i
