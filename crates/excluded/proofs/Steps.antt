-- Wrong answers of the step table's rows that their contracts rule out. Assumes nothing.
use Prim.Native.Nat.{ℕ}
use native.Mathlib.Omega.{arith}
use mathlib.Core.Path.{◌≡◌, ap}
use Rattle.tasks.specs.declared.Task.{Task}
use Rattle.tasks.specs.Records.{cell_no, node_no, with_fields}
use Rattle.steps.specs.declared.Seen.{Seen}
use Rattle.steps.specs.Types.{Effect}
use Rattle.steps.specs.Table.{after, recounted_of, raised_of, lowered_of}
use Rattle.steps.proofs.l1_step.Reads as l1-step
use Rattle.steps.proofs.l2_step.Reads as l2-step
use Rattle.steps.proofs.l3_step.Reads as l3-step
use Rattle.steps.proofs.l4_step.Reads as l4-step
use Rattle.steps.proofs.l5_step.Reads as l5-step
use Rattle.steps.proofs.s1_step.Reads as s1-step
use Rattle.steps.proofs.s2_step.Reads as s2-step
use Rattle.steps.proofs.s3_step.Reads as s3-step
use Rattle.steps.proofs.s5_step.Reads as s5-step
use Rattle.steps.proofs.s6_step.Reads as s6-step
use Rattle.steps.proofs.s7_step.Reads as s7-step
use Rattle.steps.proofs.r1_step.Reads as r1-step
use Rattle.steps.proofs.v1_step.Reads as v1-step
use Rattle.excluded.specs.Records.{at, sees}
use Rattle.excluded.specs.Looks.{phase_left, held_left, own_left, cursor_left, number_told, value_told, pointer_left, value_left, count_left, free_left}

-- a row's arguments
abbrev Both : Type 0
Both = Task × (Seen × Unit {0})

-- a row's contract allows the effect z, for that record and what it sees
abbrev Allows : (Unit {0} → Both → Effect → Both → Type 0) → Task → Seen → Effect → Type 0
Allows Post t s z = Post tt (t, (s, tt)) z (t, (s, tt))

-- a record whose m is node 4, the last one
abbrev at_last : ℕ → Task
at_last f = with_fields f (cell_no 0) 9 (node_no 4) (node_no 1) (node_no 2)

-- a record whose Y is m's value
abbrev equal : ℕ → Task
equal f = with_fields f (cell_no 0) 13 (node_no 3) (node_no 1) (node_no 4)

module _ (z : Effect) where
  -- an L1 that leaves m as it was
  pub l1_keeps_m : Allows l1-step.Post (at 1) (sees 2 1 0) z → held_left z ≡ 3 → ⊥
  l1_keeps_m q h = omega (arith, ap held_left q, h)

  -- an L1 that goes on to the check, so that no count is raised
  pub l1_skips_l2 : Allows l1-step.Post (at 1) (sees 2 1 0) z → phase_left z ≡ 3 → ⊥
  l1_skips_l2 q h = omega (arith, ap phase_left q, h)

  -- an L2 that raises nothing
  pub l2_raises_nothing : Allows l2-step.Post (at 2) (sees 3 2 0) z → count_left 3 z ≡ 2 → ⊥
  unfolding raised_of recounted_of
  l2_raises_nothing q h = omega (arith, ap (count_left 3) q, h)

  -- an L2 that writes m's new count to the own node
  pub l2_raises_own : Allows l2-step.Post (at 2) (sees 3 2 0) z → count_left 1 z ≡ 3 → ⊥
  unfolding raised_of recounted_of
  l2_raises_own q h = omega (arith, ap (count_left 1) q, h)

  -- an L2 that raises a count of P+1
  pub l2_past_most : Allows l2-step.Post (at 2) (sees 3 3 0) z → number_told z ≡ 0 → ⊥
  unfolding raised_of
  l2_past_most q h = omega (arith, ap number_told q, h)

  -- an L2 that takes a free node into use and leaves the number of free nodes
  pub l2_free_kept : Allows l2-step.Post (at 2) (sees 2 0 0) z → free_left z ≡ 2 → ⊥
  unfolding raised_of recounted_of
  l2_free_kept q h = omega (arith, ap free_left q, h)

  -- an L3 that goes on to the copy though the pointer moved
  pub l3_passes_moved : Allows l3-step.Post (at 3) (sees 2 2 0) z → phase_left z ≡ 4 → ⊥
  l3_passes_moved q h = omega (arith, ap phase_left q, h)

  -- an L3 that turns back though the pointer is as it was
  pub l3_turns_back : Allows l3-step.Post (at 3) (sees 3 2 0) z → phase_left z ≡ 5 → ⊥
  l3_turns_back q h = omega (arith, ap phase_left q, h)

  -- an L4 that gives the task's old Y
  pub l4_gives_y : Allows l4-step.Post (at 4) (sees 3 2 0) z → value_told z ≡ 9 → ⊥
  l4_gives_y q h = omega (arith, ap value_told q, h)

  -- an L4 after which the task is idle, without a link
  pub l4_ends_idle : Allows l4-step.Post (at 4) (sees 3 2 0) z → phase_left z ≡ 0 → ⊥
  l4_ends_idle q h = omega (arith, ap phase_left q, h)

  -- an L5 that goes back to L2 with the old m
  pub l5_to_two : Allows l5-step.Post (at 5) (sees 2 2 0) z → phase_left z ≡ 2 → ⊥
  unfolding lowered_of recounted_of
  l5_to_two q h = omega (arith, ap phase_left q, h)

  -- an L5 that lowers nothing
  pub l5_lowers_nothing : Allows l5-step.Post (at 5) (sees 2 2 0) z → count_left 3 z ≡ 2 → ⊥
  unfolding lowered_of recounted_of
  l5_lowers_nothing q h = omega (arith, ap (count_left 3) q, h)

  -- an L5 that takes a count of 0 for lowered
  pub l5_below_zero : Allows l5-step.Post (at 5) (sees 2 0 0) z → number_told z ≡ 0 → ⊥
  unfolding lowered_of
  l5_below_zero q h = omega (arith, ap number_told q, h)

  -- an S1 that writes Y to m, which others may be reading
  pub s1_writes_m : Allows s1-step.Post (at 7) (sees 3 2 0) z → value_left 3 z ≡ 9 → ⊥
  s1_writes_m q h = omega (arith, ap (value_left 3) q, h)

  -- an S1 that leaves the own node's value
  pub s1_writes_nothing : Allows s1-step.Post (at 7) (sees 3 2 0) z → value_left 1 z ≡ 11 → ⊥
  s1_writes_nothing q h = omega (arith, ap (value_left 1) q, h)

  -- an S2 that compares values: Y is m's value, and the cell is elsewhere
  pub s2_by_values : Allows s2-step.Post (equal 8) (sees 2 2 0) z → phase_left z ≡ 9 → ⊥
  s2_by_values q h = omega (arith, ap phase_left q, h)

  -- an S2 that takes and leaves the cell at m
  pub s2_points_at_m : Allows s2-step.Post (at 8) (sees 3 2 0) z → pointer_left z ≡ 3 → ⊥
  s2_points_at_m q h = omega (arith, ap pointer_left q, h)

  -- an S3 that owns m if 0 is left: the task itself still holds it
  pub s3_owns_at_zero : Allows s3-step.Post (at 9) (sees 1 1 0) z → own_left z ≡ 3 → ⊥
  unfolding lowered_of recounted_of
  s3_owns_at_zero q h = omega (arith, ap own_left q, h)

  -- an S3 that goes on to S5 though 1 is left
  pub s3_seeks_at_one : Allows s3-step.Post (at 9) (sees 1 2 0) z → phase_left z ≡ 11 → ⊥
  unfolding lowered_of recounted_of
  s3_seeks_at_one q h = omega (arith, ap phase_left q, h)

  -- an S3 that ends the store and keeps the node that it swapped in as its own
  pub s3_keeps_own : Allows s3-step.Post (at 9) (sees 1 2 0) z → own_left z ≡ 1 → ⊥
  unfolding lowered_of recounted_of
  s3_keeps_own q h = omega (arith, ap own_left q, h)

  -- an S5 that leaves the cursor at m
  pub s5_cursor_at_m : Allows s5-step.Post (at 11) (sees 1 2 0) z → cursor_left z ≡ 3 → ⊥
  unfolding lowered_of recounted_of after
  s5_cursor_at_m q h = omega (arith, ap cursor_left q, h)

  -- an S5 that goes on past the last node, to K
  pub s5_cursor_at_k : Allows s5-step.Post (at_last 11) (sees 1 2 0) z → cursor_left z ≡ 5 → ⊥
  unfolding lowered_of recounted_of after
  s5_cursor_at_k q h = omega (arith, ap cursor_left q, h)

  -- an S5 that brings a count to 0 and leaves the number of free nodes
  pub s5_free_kept : Allows s5-step.Post (at 11) (sees 1 1 0) z → free_left z ≡ 2 → ⊥
  unfolding lowered_of recounted_of after
  s5_free_kept q h = omega (arith, ap free_left q, h)

  -- an S6 that takes a node and sets no count
  pub s6_sets_no_count : Allows s6-step.Post (at 12) (sees 1 0 0) z → count_left 4 z ≡ 0 → ⊥
  unfolding recounted_of after
  s6_sets_no_count q h = omega (arith, ap (count_left 4) q, h)

  -- an S6 that goes on past the last node, to K
  pub s6_cursor_at_k : Allows s6-step.Post (at 12) (sees 1 0 1) z → cursor_left z ≡ 5 → ⊥
  unfolding recounted_of after
  s6_cursor_at_k q h = omega (arith, ap cursor_left q, h)

  -- an S6 that takes a node in use
  pub s6_takes_busy : Allows s6-step.Post (at 12) (sees 1 0 1) z → own_left z ≡ 4 → ⊥
  unfolding recounted_of after
  s6_takes_busy q h = omega (arith, ap own_left q, h)

  -- an S6 that takes a node and leaves the number of free nodes
  pub s6_free_kept : Allows s6-step.Post (at 12) (sees 1 0 0) z → free_left z ≡ 2 → ⊥
  unfolding recounted_of after
  s6_free_kept q h = omega (arith, ap free_left q, h)

  -- an S7 that answers took
  pub s7_answers_took : Allows s7-step.Post (at 13) (sees 2 2 0) z → number_told z ≡ 2 → ⊥
  unfolding lowered_of recounted_of
  s7_answers_took q h = omega (arith, ap number_told q, h)

  -- an S7 that lowers nothing
  pub s7_lowers_nothing : Allows s7-step.Post (at 13) (sees 2 2 0) z → count_left 3 z ≡ 2 → ⊥
  unfolding lowered_of recounted_of
  s7_lowers_nothing q h = omega (arith, ap (count_left 3) q, h)

  -- an R1 after which the task is still linked
  pub r1_stays_linked : Allows r1-step.Post (at 14) (sees 3 2 0) z → phase_left z ≡ 6 → ⊥
  unfolding lowered_of recounted_of
  r1_stays_linked q h = omega (arith, ap phase_left q, h)

  -- an R1 that answers as a lost store does
  pub r1_answers_lost : Allows r1-step.Post (at 14) (sees 3 2 0) z → number_told z ≡ 3 → ⊥
  unfolding lowered_of recounted_of
  r1_answers_lost q h = omega (arith, ap number_told q, h)

  -- a V1 that drops the link
  pub v1_drops_link : Allows v1-step.Post (at 15) (sees 2 2 0) z → phase_left z ≡ 0 → ⊥
  v1_drops_link q h = omega (arith, ap phase_left q, h)

  -- a V1 that answers good though the pointer moved
  pub v1_good_though_moved : Allows v1-step.Post (at 15) (sees 2 2 0) z → number_told z ≡ 5 → ⊥
  v1_good_though_moved q h = omega (arith, ap number_told q, h)
