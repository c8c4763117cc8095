-- Wrong answers of a run that its contract rules out. Assumes nothing.
use Prim.Native.Nat.{ℕ, ◌<◌}
use native.Mathlib.Omega.{arith}
use mathlib.Core.Path.{◌≡◌, ap}
use mathlib.Core.Bool.{false}
use mathlib.Core.List.{List, [], ◌∷◌, ◌++◌}
use lib.ListN.{length, get_or, replicate}
use borrow.Author.Tests.{lt-ltb}
use contract.Lifetimes.{Lfts}
use Rattle.wire.specs.Bytes.{entry_mark}
use Rattle.cells.specs.declared.Machine.{Machine}
use Rattle.cells.specs.Machine.{in_range}
use Rattle.runs.specs.declared.Ran.{Ran}
use Rattle.runs.specs.Run.{ran_of}
use Rattle.runs.proofs.run.Reads as run
use Rattle.runs.proofs.run_free.Reads as run-free
use Rattle.laws.specs.Bytes.{entry, go, load, store}
use Rattle.laws.specs.Small.{fresh, gos, case10, case11}
use Rattle.excluded.specs.Lent.{lent, lent_mut}
use Rattle.excluded.specs.Records.{bytes, running, task_at, pointer_at_k, count_past_most, free_past_k, pool_too_small, phase_ten, cursor_at_k, phase_ten_past_p, seeking, nothing_to_lower}

-- a whole load by task 0, and a whole store after it
abbrev loading : List (List ℕ)
loading = load 0 0 ∷ gos 4 0

abbrev storing : List (List ℕ)
storing = loading ++ store 0 0 9 ∷ gos 3 0

-- z is handed back, and the buffers at exit are out, for the replies, and notes, for the numbers of free nodes
module _ (κs : Lfts 3) (z : Ran) (out notes : List ℕ) where
  -- a run of the bytes s on the record m, with these buffers
  abbrev Allows : Machine → List ℕ → List ℕ → List ℕ → Type 0
  Allows m s was free = run-free.Post κs (m, (lent s, (lent_mut was, (lent_mut free, tt)))) z (m, (lent s, (lent_mut out, (lent_mut notes, tt))))

  -- the same, with so many zeros for its replies and one 9 for a number of free nodes
  abbrev Runs : Machine → List ℕ → ℕ → Type 0
  Runs m s room = Allows m s (replicate room 0) (9 ∷ [])

  -- THE RANGES

  -- a run that starts on some record that is out of range
  pub damaged_run_starts : (m : Machine) (s was free : List ℕ) → in_range m ≡ false → Allows m s was free → z.report.refusal ≡ 0 → ⊥
  unfolding ran_of
  damaged_run_starts m s was free d q h = omega (arith, rw d at (ap (λ r. r.report.refusal) q.0), h)

  -- a run that doesn't test the pointers
  pub pointer_untested : Runs pointer_at_k (load 0 0) 8 → z.report.refusal ≡ 0 → ⊥
  unfolding running
  pointer_untested q h = omega (arith, ap (λ r. r.report.refusal) q.0, h)

  -- a run that doesn't test the counts
  pub count_untested : Runs count_past_most (load 0 0) 8 → z.report.refusal ≡ 0 → ⊥
  unfolding running
  count_untested q h = omega (arith, ap (λ r. r.report.refusal) q.0, h)

  -- a run that doesn't test the number of free nodes
  pub free_untested : Runs free_past_k (load 0 0) 8 → z.report.refusal ≡ 0 → ⊥
  unfolding running
  free_untested q h = omega (arith, ap (λ r. r.report.refusal) q.0, h)

  -- a run that doesn't test the sizes
  pub sizes_untested : Runs pool_too_small (load 0 0) 8 → z.report.refusal ≡ 0 → ⊥
  unfolding running
  sizes_untested q h = omega (arith, ap (λ r. r.report.refusal) q.0, h)

  -- a run that tests the tables but not the task records
  pub tasks_untested : Runs phase_ten (load 0 0) 8 → z.report.refusal ≡ 0 → ⊥
  unfolding running
  tasks_untested q h = omega (arith, ap (λ r. r.report.refusal) q.0, h)

  -- a run that tests the record of the entry's own task only
  pub other_task_untested : Runs cursor_at_k (load 0 0) 8 → z.report.refusal ≡ 0 → ⊥
  unfolding running
  other_task_untested q h = omega (arith, ap (λ r. r.report.refusal) q.0, h)

  -- a run that tests only if there is an entry
  pub no_entry_untested : Runs cursor_at_k [] 0 → z.report.refusal ≡ 0 → ⊥
  unfolding running
  no_entry_untested q h = omega (arith, ap (λ r. r.report.refusal) q.0, h)

  -- a run that tests the ranges after what the entry itself is refused for
  pub kind_before_ranges : Runs cursor_at_k (entry 0 5 0 0) 8 → z.report.refusal ≡ 13 → ⊥
  unfolding running
  kind_before_ranges q h = omega (arith, ap (λ r. r.report.refusal) q.0, h)

  -- a run that finds the damage and has accepted an entry by then
  pub damaged_entry_accepted : Runs cursor_at_k (load 0 0) 8 → z.report.accepted ≡ 1 → ⊥
  unfolding running
  damaged_entry_accepted q h = omega (arith, ap (λ r. r.report.accepted) q.0, h)

  -- a run that finds the damage and has begun a load by then
  pub damaged_load_begun : Runs cursor_at_k (load 0 0) 8 → (task_at z.machine 0).phase ≡ 1 → ⊥
  unfolding running
  damaged_load_begun q h = omega (arith, ap (λ r. (task_at r.machine 0).phase) q.0, h)

  -- a run that writes a reply for a damaged record
  pub damaged_reply_written : Runs cursor_at_k (load 0 0) 8 → get_or out 0 0 ≡ 0x41 → ⊥
  unfolding running
  damaged_reply_written q h = omega (arith, ap (λ l. get_or l 0 0) q.1, h)

  -- a run that notes the free nodes of a damaged record
  pub damaged_free_noted : Runs cursor_at_k (load 0 0) 8 → get_or notes 0 0 ≡ 2 → ⊥
  unfolding running
  damaged_free_noted q h = omega (arith, ap (λ l. get_or l 0 0) q.2, h)

  -- a run that tests what stands past P
  pub past_p_tested : Runs phase_ten_past_p (load 0 0) 8 → z.report.refusal ≡ 22 → ⊥
  unfolding running
  past_p_tested q h = omega (arith, ap (λ r. r.report.refusal) q.0, h)

  -- a run that reports 23 for a damaged record, however long its schedule is
  pub too_long_for_damaged : (s was : List ℕ) → Allows cursor_at_k s was [] → z.report.refusal ≡ 23 → ⊥
  unfolding running
  too_long_for_damaged s was q h = omega (arith, ap (λ r. r.report.refusal) q.0, h)

  -- a run that reports 21 for a damaged record, however short its reply buffer is
  pub no_room_for_damaged : (s was : List ℕ) → Allows cursor_at_k s was [] → z.report.refusal ≡ 21 → ⊥
  unfolding running
  no_room_for_damaged s was q h = omega (arith, ap (λ r. r.report.refusal) q.0, h)

  -- a run that reports 21 for a schedule that is too long
  pub no_room_for_too_long : (s was : List ℕ) → 65530 < length s → Allows fresh s was [] → z.report.refusal ≡ 21 → ⊥
  unfolding running
  no_room_for_too_long s was l q h = omega (arith, rw (lt-ltb 65530 (length s) l) at (ap (λ r. r.report.refusal) q.0), h)

  -- a run that takes a record in range for one that no step can find damaged
  pub step_damage_missed : Runs nothing_to_lower (go 1) 8 → z.report.refusal ≡ 0 → ⊥
  unfolding running
  step_damage_missed q h = omega (arith, ap (λ r. r.report.refusal) q.0, h)

  -- a run that writes no reply if a step finds damage
  pub step_damage_unanswered : Runs nothing_to_lower (go 1) 8 → get_or out 2 9 ≡ 0 → ⊥
  unfolding running
  step_damage_unanswered q h = omega (arith, ap (λ l. get_or l 2 9) q.1, h)

  -- REPLIES: a load of 4 steps, whose fifth reply stands from place 32 on

  -- a last step whose reply is that it moved
  pub load_answered_moved : Runs fresh (bytes loading) 40 → get_or out 34 9 ≡ 0 → ⊥
  unfolding running
  load_answered_moved q h = omega (arith, ap (λ l. get_or l 34 9) q.1, h)

  -- a load that gives no value
  pub load_gives_nothing : Runs fresh (bytes loading) 40 → get_or out 36 9 ≡ 0 → ⊥
  unfolding running
  load_gives_nothing q h = omega (arith, ap (λ l. get_or l 36 9) q.1, h)

  -- a run that writes every reply to the front of its buffer
  pub replies_at_front : Runs fresh (bytes loading) 40 → get_or out 2 9 ≡ 1 → ⊥
  unfolding running
  replies_at_front q h = omega (arith, ap (λ l. get_or l 2 9) q.1, h)

  -- a run that writes behind its last reply
  pub written_behind : Runs fresh (bytes loading) 41 → get_or out 40 9 ≡ 0x41 → ⊥
  unfolding running
  written_behind q h = omega (arith, ap (λ l. get_or l 40 9) q.1, h)

  -- COUNTS

  -- a count of load steps that leaves out the last one
  pub three_load_steps : Runs fresh (bytes loading) 40 → z.report.load_steps ≡ 3 → ⊥
  unfolding running
  three_load_steps q h = omega (arith, ap (λ r. r.report.load_steps) q.0, h)

  -- a count of loads that counts the end too
  pub two-loads : Runs fresh (bytes loading) 40 → z.report.loads ≡ 2 → ⊥
  unfolding running
  two-loads q h = omega (arith, ap (λ r. r.report.loads) q.0, h)

  -- a count of accepted entries that counts steps only
  pub begin_uncounted : Runs fresh (bytes loading) 40 → z.report.accepted ≡ 4 → ⊥
  unfolding running
  begin_uncounted q h = omega (arith, ap (λ r. r.report.accepted) q.0, h)

  -- a count of swaps that never goes up
  pub swap_uncounted : Runs fresh (bytes storing) 72 → z.report.swaps ≡ 0 → ⊥
  unfolding running
  swap_uncounted q h = omega (arith, ap (λ r. r.report.swaps) q.0, h)

  -- a count of turned-back checks that never goes up
  pub turned_back_uncounted : Runs fresh (bytes (case11 ++ gos 2 0)) 104 → z.report.turned_back ≡ 0 → ⊥
  unfolding running
  turned_back_uncounted q h = omega (arith, ap (λ r. r.report.turned_back) q.0, h)

  -- THE RECORD

  -- a run whose swap doesn't reach the record that it hands back
  pub swap_left_behind : Runs fresh (bytes storing) 72 → get_or z.machine.cells 0 9 ≡ 0 → ⊥
  unfolding running
  swap_left_behind q h = omega (arith, ap (λ r. get_or r.machine.cells 0 9) q.0, h)

  -- a run that writes every task's record to slot 0
  pub slot_0_for_1 : Runs fresh (load 1 0) 8 → (task_at z.machine 0).phase ≡ 1 → ⊥
  unfolding running
  slot_0_for_1 q h = omega (arith, ap (λ r. (task_at r.machine 0).phase) q.0, h)

  -- a run that hands back the number of free nodes that it was given
  pub free_number_kept : Runs seeking (go 1) 8 → z.machine.free ≡ 2 → ⊥
  unfolding running
  free_number_kept q h = omega (arith, ap (λ r. r.machine.free) q.0, h)

  -- REFUSALS: a go of an idle task is refused with 17, and ends the run

  -- a run that goes on after a refusal
  pub goes_on_after_refusal : Runs fresh (go 0 ++ load 0 0) 16 → z.report.accepted ≡ 1 → ⊥
  unfolding running
  goes_on_after_refusal q h = omega (arith, ap (λ r. r.report.accepted) q.0, h)

  -- a run that stops at a refusal and doesn't report it
  pub refusal_unreported : Runs fresh (go 0 ++ load 0 0) 16 → z.report.refusal ≡ 0 → ⊥
  unfolding running
  refusal_unreported q h = omega (arith, ap (λ r. r.report.refusal) q.0, h)

  -- a run that replies to the entries after a refused one
  pub reply_after_refusal : Runs fresh (go 0 ++ load 0 0) 16 → get_or out 8 9 ≡ 0x41 → ⊥
  unfolding running
  reply_after_refusal q h = omega (arith, ap (λ l. get_or l 8 9) q.1, h)

  -- a run that counts the refused entry
  pub refused_entry_counted : Runs fresh (load 0 0 ++ load 0 0) 16 → z.report.accepted ≡ 2 → ⊥
  unfolding running
  refused_entry_counted q h = omega (arith, ap (λ r. r.report.accepted) q.0, h)

  -- a run that leaves out an entry that is cut
  pub cut_entry_skipped : Runs fresh (load 0 0 ++ entry_mark) 16 → z.report.refusal ≡ 0 → ⊥
  unfolding running
  cut_entry_skipped q h = omega (arith, ap (λ r. r.report.refusal) q.0, h)

  -- a run whose reply to an entry that is cut has the entry's task byte
  pub cut_entry_has_task : Runs fresh (entry_mark ++ 1 ∷ []) 8 → get_or out 3 9 ≡ 1 → ⊥
  unfolding running
  cut_entry_has_task q h = omega (arith, ap (λ l. get_or l 3 9) q.1, h)

  -- a run whose reply has the number of the slot in place of the entry's task byte
  pub slot_for_task_byte : Runs fresh (load 200 0) 8 → get_or out 3 9 ≡ 15 → ⊥
  unfolding running
  slot_for_task_byte q h = omega (arith, ap (λ l. get_or l 3 9) q.1, h)

  -- a run that needs no room for the reply to an entry that is cut
  pub no_room_for_cut : Runs fresh (load 0 0 ++ entry_mark) 8 → z.report.accepted ≡ 1 → ⊥
  unfolding running
  no_room_for_cut q h = omega (arith, ap (λ r. r.report.accepted) q.0, h)

  -- a run that doesn't look at an entry's mark: here it is a setup's
  pub mark_untested : Runs fresh (0x53 ∷ 0x55 ∷ 0 ∷ 1 ∷ 0 ∷ 0 ∷ 0 ∷ 0 ∷ 0 ∷ 0 ∷ []) 8 → z.report.refusal ≡ 0 → ⊥
  unfolding running
  mark_untested q h = omega (arith, ap (λ r. r.report.refusal) q.0, h)

  -- FREE NODES

  -- a run that notes the number before an entry: here the entry takes a node
  pub noted_one_early : Runs seeking (go 1) 8 → get_or notes 0 0 ≡ 2 → ⊥
  unfolding running
  noted_one_early q h = omega (arith, ap (λ l. get_or l 0 0) q.2, h)

  -- the same in case 10, whose 18th entry takes a node
  pub noted_one_early_18 : Allows fresh (bytes (case10 ++ gos 7 1)) (replicate 144 0) (replicate 18 9) → get_or notes 17 0 ≡ 2 → ⊥
  unfolding running
  noted_one_early_18 q h = omega (arith, ap (λ l. get_or l 17 0) q.2, h)

  -- a run that notes nothing
  pub noted_nothing : Runs fresh (load 0 0) 8 → get_or notes 0 0 ≡ 9 → ⊥
  unfolding running
  noted_nothing q h = omega (arith, ap (λ l. get_or l 0 0) q.2, h)

  -- a run that notes nothing for a refused entry
  pub refused_entry_unnoted : Runs fresh (go 0) 8 → get_or notes 0 0 ≡ 9 → ⊥
  unfolding running
  refused_entry_unnoted q h = omega (arith, ap (λ l. get_or l 0 0) q.2, h)

-- the same of the run whose free nodes nobody asks for
module _ (κs : Lfts 2) (z : Ran) (out : List ℕ) where
  -- a plain run of the bytes s on the record m, with so many zeros for its replies
  abbrev Plainly : Machine → List ℕ → ℕ → Type 0
  Plainly m s room = run.Post κs (m, (lent s, (lent_mut (replicate room 0), tt))) z (m, (lent s, (lent_mut out, tt)))

  -- a plain run that doesn't test the task records
  pub plain_run_untested : Plainly phase_ten (load 0 0) 8 → z.report.refusal ≡ 0 → ⊥
  unfolding running
  plain_run_untested q h = omega (arith, ap (λ r. r.report.refusal) q.0, h)

  -- a plain run whose load gives no value
  pub plain_run_gives_nothing : Plainly fresh (bytes loading) 40 → get_or out 36 9 ≡ 0 → ⊥
  unfolding running
  plain_run_gives_nothing q h = omega (arith, ap (λ l. get_or l 36 9) q.1, h)
