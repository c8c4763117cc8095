-- Wrong answers of what a step sees, of the range tests, of an effect that is written back and of one entry on a record that their contracts rule out. Assumes nothing.
use Rattle.std.specs.Prelude.{Ok, Err}
use Prim.Native.Nat.{ℕ}
use native.Mathlib.Omega.{arith}
use mathlib.Core.Path.{◌≡◌, ap, refl, sym, ◌∙◌}
use mathlib.Core.Bool.{Bool, true, false, true≢false}
use mathlib.Core.List.{List, [], ◌∷◌}
use mathlib.Core.Logic.{◌≢◌}
use lib.ListN.{set, get_or}
use lib.Seq.{get_or-set_other}
use contract.Lifetimes.{Lfts}
use Rattle.answers.specs.Types.{Answer}
use Rattle.answers.specs.declared.Refusal.{Refusal}
use Rattle.answers.specs.declared.Reply.{Reply}
use Rattle.tasks.specs.declared.TaskNo.{TaskNo}
use Rattle.tasks.specs.declared.Task.{Task}
use Rattle.tasks.specs.Records.{no_task}
use Rattle.steps.specs.Types.{Effect}
use Rattle.steps.specs.declared.Deed.{Deed}
use Rattle.steps.specs.declared.Seen.{Seen}
use Rattle.cells.specs.declared.Machine.{Machine}
use Rattle.cells.specs.declared.Applied.{Applied}
use Rattle.cells.specs.Machine.{placed}
use Rattle.cells.specs.Apply.{apply_of}
use Rattle.cells.proofs.Machine.seen.Reads as seen
use Rattle.cells.proofs.Machine.tables_ok.Reads as tables-ok
use Rattle.cells.proofs.Machine.in_range.Reads as sound
use Rattle.cells.proofs.Machine.task.Reads as task
use Rattle.cells.proofs.Machine.carry.Reads as carry
use Rattle.cells.proofs.Machine.apply.Reads as apply
use Rattle.runs.specs.Counts.{accepted}
use Rattle.laws.specs.Small.{fresh}
use Rattle.laws.specs.Bytes.{go, load}
use Rattle.laws.proofs.Entries.{by_entry, refused_leaves}
use Rattle.faults.specs.Benches.{computing}
use Rattle.excluded.specs.Lent.{lent, lent_mut, never}
use Rattle.excluded.specs.Records.{with_cell, with_count, with_task, with_tables, pointer_at_k, count_past_most, free_past_k, pool_too_small, phase_ten, cursor_at_k, phase_ten_past_p, at, cells, task_at, seeking, in_store}

module _ (κs : Lfts 1) (z : Seen) (ts : List Task) where
  -- the task of the tables, in phase 3, with these pointers, whatever records the machine has
  abbrev Sees : List ℕ → Type 0
  Sees cs = seen.Post κs (lent (with_tables cs ts), (at 3, tt)) z (lent (with_tables cs ts), (at 3, tt))

  -- m in place of the cell's node, so that every check passes
  pub sees_m_for_here : Sees (set cells 0 2) → z.here.0 ≡ 3 → ⊥
  sees_m_for_here q h = omega (arith, ap (λ s. s.here.0) q, h)

  -- the own node's count in place of m's
  pub sees_own_count : Sees cells → z.held_count ≡ 1 → ⊥
  sees_own_count q h = omega (arith, ap (λ s. s.held_count) q, h)

  -- m's count in place of the cursor's
  pub sees_m_at_cursor : Sees cells → z.cursor_count ≡ 2 → ⊥
  sees_m_at_cursor q h = omega (arith, ap (λ s. s.cursor_count) q, h)

  -- the own node's value in place of m's
  pub sees_own_value : Sees cells → z.held_value ≡ 11 → ⊥
  sees_own_value q h = omega (arith, ap (λ s. s.held_value) q, h)

module _ (κs : Lfts 1) where
  -- the tables of m are found to be in range, or not
  abbrev Finds : Machine → Bool → Type 0
  Finds m b = tables-ok.Post κs (lent m, tt) b (lent m, tt)

  -- a test that leaves the pointers out
  pub pointer_at_k_passes : Finds pointer_at_k true → ⊥
  unfolding computing
  pointer_at_k_passes q = never cc

  -- a test that leaves the counts out
  pub count_past_most_passes : Finds count_past_most true → ⊥
  unfolding computing
  count_past_most_passes q = never cc

  -- a test that leaves the number of free nodes out
  pub free_past_k_passes : Finds free_past_k true → ⊥
  unfolding computing
  free_past_k_passes q = never cc

  -- a test that leaves the sizes out
  pub pool_too_small_passes : Finds pool_too_small true → ⊥
  unfolding computing
  pool_too_small_passes q = never cc

  -- a test that stops every record
  pub sound_stopped : Finds fresh false → ⊥
  unfolding computing
  sound_stopped q = never cc

  -- a test that stops a count of P+1, which a cell and all P tasks can give
  pub most_count_stopped : Finds (with_count fresh 0 3) false → ⊥
  unfolding computing
  most_count_stopped q = never cc

  -- a test that looks at what stands past N
  pub past_n_stopped : Finds (with_cell fresh 1 5) false → ⊥
  unfolding computing
  past_n_stopped q = never cc

module _ (κs : Lfts 1) where
  -- a lent machine is found to be in range, or not
  abbrev Tests : Machine → Bool → Type 0
  Tests m b = sound.Post κs (lent m, tt) b (lent m, tt)

  -- a test that leaves the task records out
  pub phase_ten_passes : Tests phase_ten true → ⊥
  unfolding computing
  phase_ten_passes q = never cc

  -- a test of the first task's record alone
  pub cursor_at_k_passes : Tests cursor_at_k true → ⊥
  unfolding computing
  cursor_at_k_passes q = never cc

  -- a test that looks at what stands past P
  pub past_p_stopped : Tests phase_ten_past_p false → ⊥
  unfolding computing
  past_p_stopped q = never cc

module _ (κs : Lfts 1) (z : Task) where
  -- the record of task p, asked of a lent machine
  abbrev Gives : Machine → ℕ → Type 0
  Gives m p = task.Post κs (lent m, (record { 0 = p }, tt)) z (lent m, (record { 0 = p }, tt))

  -- task 0's record for task 1
  pub first_for_second : Gives fresh 1 → z.own.0 ≡ 1 → ⊥
  unfolding computing
  first_for_second q h = omega (arith, ap (λ t. t.own.0) q, h)

  -- no task's record for a number past the 16th: it stands for the last
  pub last_not_found : Gives (with_task fresh 15 (at 12)) 200 → z.phase ≡ 0 → ⊥
  unfolding computing
  last_not_found q h = omega (arith, ap (λ t. t.phase) q, h)

-- an effect on task p of the lent machine m leaves m', and is answered z
module _ (κs : Lfts 1) (m m' : Machine) (p : TaskNo) (z : Answer) where
  abbrev Carries : Effect → Type 0
  Carries e = carry.Post κs (lent_mut m, (p, (e, tt))) z (lent_mut m', (p, (e, tt)))

  -- a refusal that changes the machine
  pub refusal_carried_out : (r : Refusal) → Carries (Err r) → m' ≢ m → ⊥
  refusal_carried_out r q h = h q.0

  -- a refusal that is answered as a deed
  pub refusal_answered_done : (r : Refusal) (a : Reply) → Carries (Err r) → z ≡ Ok a → ⊥
  refusal_answered_done r a q h = let e = sym q.1 ∙ h in never cc

  -- a deed that writes the record of another task than its own
  pub deed_writes_other_task : (d : Deed) (j : ℕ) → j ≢ (placed p).0 → Carries (Ok d) → task_at m' j ≢ task_at m j → ⊥
  deed_writes_other_task d j n q h = h (ap (λ x. task_at x j) q.0 ∙ get_or-set_other m.tasks (placed p).0 j d.task no_task n)

module _ (m : Machine) (s : List ℕ) where
  keeps_sizes : (apply_of m s).machine.n ∷ (apply_of m s).machine.p ∷ (apply_of m s).machine.k ∷ [] ≡ m.n ∷ m.p ∷ m.k ∷ []
  keeps_sizes =
      by_entry m s (λ a. a.machine.n ∷ a.machine.p ∷ a.machine.k ∷ [] ≡ m.n ∷ m.p ∷ m.k ∷ []) (λ i r w. refl) (λ a h. refl) (λ a h. refl)
      (λ a. refl) (λ a. refl) (λ a. refl) (λ d t. refl)

  keeps-task : (j : ℕ) → j ≢ get_or s 2 0 → task_at (apply_of m s).machine j ≡ task_at m j
  keeps-task j n =
      by_entry m s (λ a. task_at a.machine j ≡ task_at m j) (λ i r w. refl) (λ a h. other _) (λ a h. other _) (λ a. refl) (λ a. other _) (λ a. other _)
      (λ d t. other _)
    where
      other : (t : Task) → get_or (set m.tasks (get_or s 2 0) t) j no_task ≡ task_at m j
      other t = get_or-set_other m.tasks (get_or s 2 0) j t no_task n

  names-task : accepted (apply_of m s).answer ≡ true → (apply_of m s).task ≡ get_or s 2 0
  names-task =
      by_entry m s (λ a. accepted a.answer ≡ true → a.task ≡ get_or s 2 0) (λ i r w q. absurd (true≢false (sym q))) (λ a h q. refl) (λ a h q. refl)
      (λ a q. refl) (λ a q. refl) (λ a q. refl) (λ d t q. refl)

module _ (κs : Lfts 1) (z : Applied) where
  -- the entry s on the record m
  abbrev Applies : Machine → List ℕ → Type 0
  Applies m s = apply.Post κs (m, (lent s, tt)) z (m, (lent s, tt))

  -- a refusal that changes the record
  pub refusal_changes_record : (m : Machine) (s : List ℕ) (r : Refusal) → Applies m s → z.answer ≡ Err r → z.machine ≢ m → ⊥
  refusal_changes_record m s r q a h = h (ap (λ x. x.machine) q ∙ refused_leaves m s (ap accepted (sym (ap (λ x. x.answer) q) ∙ a)))

  -- an entry that changes N, P or K
  pub entry_changes_sizes : (m : Machine) (s : List ℕ) → Applies m s → z.machine.n ∷ z.machine.p ∷ z.machine.k ∷ [] ≢ m.n ∷ m.p ∷ m.k ∷ [] → ⊥
  entry_changes_sizes m s q h = h (ap (λ x. x.machine.n ∷ x.machine.p ∷ x.machine.k ∷ []) q ∙ keeps_sizes m s)

  -- an entry that writes the record of another task than its own
  pub entry_writes_other_task : (m : Machine) (s : List ℕ) (j : ℕ) → Applies m s → j ≢ get_or s 2 0 → task_at z.machine j ≢ task_at m j → ⊥
  entry_writes_other_task m s j q n h = h (ap (λ x. task_at x.machine j) q ∙ keeps-task m s j n)

  -- an accepted entry whose reply has another task byte than the entry
  pub reply_has_other_task : (m : Machine) (s : List ℕ) (r : Reply) → Applies m s → z.answer ≡ Ok r → z.task ≢ get_or s 2 0 → ⊥
  reply_has_other_task m s r q a h = h (ap (λ x. x.task) q ∙ names-task m s (ap accepted (sym (ap (λ x. x.answer) q) ∙ a)))

  -- a refused entry of task 200 whose reply has the number of the record that was looked at
  pub refusal_has_slot : Applies fresh (load 200 0) → z.task ≡ 15 → ⊥
  unfolding computing
  refusal_has_slot q h = omega (arith, ap (λ x. x.task) q, h)

  -- a load that doesn't reach its task's record
  pub load_not_begun : Applies fresh (load 1 0) → (task_at z.machine 1).phase ≡ 0 → ⊥
  unfolding computing
  load_not_begun q h = omega (arith, ap (λ x. (task_at x.machine 1).phase) q, h)

  -- an S1 whose value doesn't reach the record
  pub value_not_written : Applies (in_store 7) (go 1) → get_or z.machine.values 2 9 ≡ 0 → ⊥
  unfolding computing
  value_not_written q h = omega (arith, ap (λ x. get_or x.machine.values 2 9) q, h)

  -- an S2 whose pointer doesn't reach the record
  pub pointer_not_written : Applies (in_store 8) (go 1) → get_or z.machine.cells 0 9 ≡ 0 → ⊥
  unfolding computing
  pointer_not_written q h = omega (arith, ap (λ x. get_or x.machine.cells 0 9) q, h)

  -- an S6 whose count doesn't reach the record
  pub count_not_put : Applies seeking (go 1) → get_or z.machine.counts 3 9 ≡ 0 → ⊥
  unfolding computing
  count_not_put q h = omega (arith, ap (λ x. get_or x.machine.counts 3 9) q, h)

  -- an S6 that takes a node and leaves the number of free nodes
  pub free_number_not_put : Applies seeking (go 1) → z.machine.free ≡ 2 → ⊥
  unfolding computing
  free_number_not_put q h = omega (arith, ap (λ x. x.machine.free) q, h)
