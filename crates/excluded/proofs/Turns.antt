-- Wrong answers of one entry over a lent machine that the contracts rule out. Assumes nothing.
use Rattle.std.specs.Prelude.{Ok, Err}
use Prim.Native.Nat.{ℕ, ◌<◌}
use native.Mathlib.Omega.{arith}
use native.Mathlib.Nat.{min-le_right}
use mathlib.Core.Path.{◌≡◌, ap, ◌∙◌}
use mathlib.Core.List.{[], ◌∷◌}
use mathlib.Core.Logic.{◌≢◌}
use lib.ListN.{get_or, length, replicate}
use lib.Seq.{get_or-set_same, get_or-set_other, lt-length-set}
use contract.Lifetimes.{Lfts}
use Rattle.answers.specs.Types.{Answer}
use Rattle.answers.specs.declared.Refusal.{Refusal}
use Rattle.answers.specs.declared.Reply.TheVariants.{Moved, Took}
use Rattle.answers.specs.Numbers.{number_of}
use Rattle.tasks.specs.declared.TaskNo.{TaskNo}
use Rattle.tasks.specs.declared.Task.{Task}
use Rattle.tasks.specs.Records.{cell_no, node_no, no_task}
use Rattle.steps.specs.Types.{Effect}
use Rattle.steps.specs.declared.Write.TheVariants.{Count}
use Rattle.steps.specs.Table.{does, answer_of, effect_of}
use Rattle.entries.specs.Asking.{entry_by}
use Rattle.cells.specs.declared.Machine.{Machine}
use Rattle.cells.specs.Machine.{seen_of, placed, left_by}
use Rattle.turns.specs.Turned.{gone_of}
use Rattle.turns.proofs.carry.Reads as carry
use Rattle.turns.proofs.go.Reads as go
use Rattle.turns.proofs.turn.Reads as turn
use Rattle.faults.specs.Benches.{computing}
use Rattle.excluded.specs.Lent.{lent_mut}
use Rattle.excluded.specs.Records.{at, cells, values, counts, standing, task_at}

-- where task p's record stands: a number past the 16th stands for the last
abbrev place : TaskNo → ℕ
place p = (placed p).0

inside : (p : TaskNo) → place p < length (replicate 16 no_task)
inside p = omega (arith, min-le_right p.0 15)

-- the machine has the record of the task that stands in it
stands : (p : TaskNo) (t : Task) → task_at (standing p t) (place p) ≡ t
stands p t = get_or-set_same (replicate 16 no_task) (place p) t no_task (inside p)

-- and a go is of that record
goes_by : (p : TaskNo) (t : Task) → gone_of (standing p t) p ≡ effect_of t (seen_of (standing p t) t)
goes_by p t = ap (λ (u : Task). effect_of u (seen_of (standing p t) u)) (stands p t)

-- the machine m' is left, and the answer is z
module _ (κs : Lfts 1) (m' : Machine) (z : Answer) where
  module _ (p : TaskNo) where
    -- an effect on task p, which stands in phase 12, if 2 nodes are free
    abbrev Carries : Effect → Type 0
    Carries e = carry.Post κs (lent_mut (standing p (at 12)), (p, (e, tt))) z (lent_mut m', (p, (e, tt)))

    -- a refusal that writes a pointer
    pub refusal_writes_cells : (r : Refusal) (i : ℕ) → Carries (Err r) → get_or m'.cells i 0 ≢ get_or cells i 0 → ⊥
    refusal_writes_cells r i q h = h (ap (λ m. get_or m.cells i 0) q.0)

    -- a refusal that writes a value
    pub refusal_writes_values : (r : Refusal) (i : ℕ) → Carries (Err r) → get_or m'.values i 0 ≢ get_or values i 0 → ⊥
    refusal_writes_values r i q h = h (ap (λ m. get_or m.values i 0) q.0)

    -- a refusal that writes a count
    pub refusal_writes_counts : (r : Refusal) (i : ℕ) → Carries (Err r) → get_or m'.counts i 0 ≢ get_or counts i 0 → ⊥
    refusal_writes_counts r i q h = h (ap (λ m. get_or m.counts i 0) q.0)

    -- a refusal that ends the task's call
    pub refusal_ends_call : (r : Refusal) → Carries (Err r) → (task_at m' (place p)).phase ≡ 0 → ⊥
    refusal_ends_call r q h = omega (arith, ap (λ m. (task_at m (place p)).phase) q.0, ap (λ u. u.phase) (stands p (at 12)), h)

    -- a count that is written to another node, here to m in place of the cursor's
    pub count_at_other_node : Carries (does (at 0) (Count (node_no 4) 1 1) Took) → get_or m'.counts 3 0 ≡ 1 → ⊥
    count_at_other_node q h = omega (arith, ap (λ m. get_or m.counts 3 0) q.0, h)

    -- a count that isn't written
    pub count_not_written : Carries (does (at 0) (Count (node_no 4) 1 1) Took) → get_or m'.counts 4 0 ≡ 0 → ⊥
    count_not_written q h = omega (arith, ap (λ m. get_or m.counts 4 0) q.0, h)

    -- a number of free nodes that stays though a count came to 0
    pub free_number_stays : Carries (does (at 1) (Count (node_no 3) 0 3) Moved) → m'.free ≡ 2 → ⊥
    free_number_stays q h = omega (arith, ap (λ m. m.free) q.0, h)

    -- a deed after which the task still has its old record
    pub old_task_handed_back : Carries (does (at 0) (Count (node_no 4) 1 1) Took) → (task_at m' (place p)).phase ≡ 12 → ⊥
    old_task_handed_back q h =
        let l = lt-length-set (replicate 16 no_task) (place p) (at 12) (inside p) in
        let e = get_or-set_same (standing p (at 12)).tasks (place p) (at 0) no_task l in
        omega (arith, ap (λ m. (task_at m (place p)).phase) q.0, ap (λ u. u.phase) e, h)

    -- an effect that writes the record of another task than its own
    pub effect_writes_other_task : (e : Effect) (j : ℕ) → j ≢ place p → Carries e → task_at m' j ≢ task_at (standing p (at 12)) j → ⊥
    effect_writes_other_task (Err r) j n q h = h (ap (λ m. task_at m j) q.0)
    effect_writes_other_task (Ok d) j n q h = h (ap (λ m. task_at m j) q.0 ∙ get_or-set_other (standing p (at 12)).tasks (place p) j d.task no_task n)

    -- an effect that changes N, P or K
    pub effect_changes_sizes : (e : Effect) → Carries e → m'.n ∷ m'.p ∷ m'.k ∷ [] ≢ 1 ∷ 2 ∷ 5 ∷ [] → ⊥
    effect_changes_sizes (Err r) q h = h (ap (λ m. m.n ∷ m.p ∷ m.k ∷ []) q.0)
    effect_changes_sizes (Ok d) q h = h (ap (λ m. m.n ∷ m.p ∷ m.k ∷ []) q.0)

    -- a go of a task, in a machine of 2 tasks and 5 nodes, 2 of them free
    abbrev Goes : Task → Type 0
    Goes t = go.Post κs (lent_mut (standing p t), (p, tt)) z (lent_mut m', (p, tt))

    leaves : (t : Task) → Goes t → m' ≡ left_by (standing p t) (placed p) (effect_of t (seen_of (standing p t) t))
    leaves t q = q.0 ∙ ap (left_by (standing p t) (placed p)) (goes_by p t)

    answers : (t : Task) → Goes t → z ≡ answer_of (effect_of t (seen_of (standing p t) t))
    answers t q = q.1 ∙ ap answer_of (goes_by p t)

    -- a go in phase 6 that moves
    pub linked_go_moves : Goes (at 6) → number_of z ≡ 0 → ⊥
    unfolding computing
    linked_go_moves q h = omega (arith, ap number_of (answers (at 6) q), h)

    -- a go in phase 10 that is answered 17, as if there were such a phase
    pub phase_ten_no_step : Goes (at 10) → number_of z ≡ 17 → ⊥
    unfolding computing
    phase_ten_no_step q h = omega (arith, ap number_of (answers (at 10) q), h)

    -- a go in phase 16 that takes the last row
    pub phase_sixteen_validates : Goes (at 16) → number_of z ≡ 5 → ⊥
    unfolding computing
    phase_sixteen_validates q h = omega (arith, ap number_of (answers (at 16) q), h)

    -- a go in phase 14 that takes the row before its own
    pub release_by_row_before : Goes (at 14) → number_of z ≡ 3 → ⊥
    unfolding computing
    release_by_row_before q h = omega (arith, ap number_of (answers (at 14) q), h)

    -- an L2 whose count doesn't reach the lent machine
    pub go_raises_nothing : Goes (at 2) → get_or m'.counts 3 0 ≡ 2 → ⊥
    unfolding computing
    go_raises_nothing q h = omega (arith, ap (λ m. get_or m.counts 3 0) (leaves (at 2) q), h)

    -- an S2 whose pointer doesn't reach the lent machine
    pub go_swaps_nothing : Goes (at 8) → get_or m'.cells 0 0 ≡ 3 → ⊥
    unfolding computing
    go_swaps_nothing q h = omega (arith, ap (λ m. get_or m.cells 0 0) (leaves (at 8) q), h)

    -- an S6 that takes a node and leaves the number of free nodes
    pub go_free_stays : Goes (at 12) → m'.free ≡ 2 → ⊥
    unfolding computing
    go_free_stays q h = omega (arith, ap (λ m. m.free) (leaves (at 12) q), h)

  -- an entry of task q, a kind, cell x, a spare byte and value y, in that machine, which has 1 cell
  abbrev Turns : Task → ℕ → ℕ → ℕ → ℕ → ℕ → Type 0
  Turns t q kind x spare y =
      let e = entry_by (record { 0 = q }) kind (cell_no x) spare y in
      turn.Post κs (lent_mut (standing (record { 0 = q }) t), (e, tt)) z (lent_mut m', (e, tt))

  -- an entry of kind 5 that is accepted
  pub kind_five_accepted : Turns (at 6) 0 5 0 0 0 → number_of z ≡ 0 → ⊥
  unfolding computing
  kind_five_accepted q h = omega (arith, ap number_of q.1, h)

  -- an entry of task P that is accepted
  pub task_p_accepted : Turns (at 0) 2 1 0 0 0 → number_of z ≡ 0 → ⊥
  unfolding computing
  task_p_accepted q h = omega (arith, ap number_of q.1, h)

  -- a spare byte that isn't looked at
  pub spare_byte_taken : Turns (at 0) 0 1 0 1 0 → number_of z ≡ 0 → ⊥
  unfolding computing
  spare_byte_taken q h = omega (arith, ap number_of q.1, h)

  -- a store that writes its value as it begins
  pub store_writes_at_once : Turns (at 6) 0 2 0 0 8 → get_or m'.values 1 0 ≡ 8 → ⊥
  unfolding computing
  store_writes_at_once q h = omega (arith, ap (λ m. get_or m.values 1 0) q.0, h)

  -- a go that begins a load
  pub go_begins_load : Turns (at 0) 0 0 0 0 0 → (task_at m' 0).phase ≡ 1 → ⊥
  unfolding computing
  go_begins_load q h = omega (arith, ap (λ m. (task_at m 0).phase) q.0, h)

  -- a validate that begins as a release
  pub validate_as_release : Turns (at 6) 0 4 0 0 0 → (task_at m' 0).phase ≡ 14 → ⊥
  unfolding computing
  validate_as_release q h = omega (arith, ap (λ m. (task_at m 0).phase) q.0, h)
