-- The bounds are met: document 01's cases 10 and 11, computed from their bytes. Assumes nothing.
use Rattle.std.specs.Prelude.{Ok, Err}
use Prim.Native.Nat.{ℕ, zero, suc, ◌+◌, ◌-◌, ◌*◌}
use native.Mathlib.Omega.{arith}
use mathlib.Core.Path.{◌≡◌, refl}
use mathlib.Core.Bool.{Bool, true, ◌&&◌}
use mathlib.Core.List.{List, [], ◌∷◌, ◌++◌}
use mathlib.Core.Logic.{inl, inr}
use lib.Dec.{eqb}
use lib.ListN.{get_or}
use borrow.Author.Tests.{eqb-true}
use Rattle.tallies.specs.Lists.{every, fill_to}
use Rattle.tallies.specs.Tally.{total}
use Rattle.tallies.proofs.Lists.{both}
use Rattle.wire.specs.Bytes.{marked, word_at}
use Rattle.answers.specs.Numbers.{number_of}
use Rattle.tasks.specs.Records.{task_ok}
use Rattle.steps.specs.Table.{after, recounted_of, raised_of, lowered_of, rows, effect_of}
use Rattle.tables.specs.Tables.{sizes_ok}
use Rattle.entries.specs.Entry.{entry_of, nonzero, outside}
use Rattle.entries.specs.Order.{load_of, store_of, linked_call_of, call_of, order_of}
use Rattle.cells.specs.Machine.{carried_of, in_range}
use Rattle.cells.specs.Apply.{judged_of, decision_of, apply_of}
use Rattle.cells.specs.Setup.{fresh_of, setup_of}
use Rattle.runs.specs.Counts.{anywhere, loads_at, steps_at, swaps_at}
use Rattle.laws.specs.Types.{Answer, Moved, Loaded, Took, Lost, Released, Good, Gone, Machine}
use Rattle.laws.specs.Meaning.{used, free}
use Rattle.laws.specs.Schedules.{applied, over, Reached, set_up, entered}
use Rattle.laws.specs.Bytes.{go}
use Rattle.laws.specs.Small.{small, fresh, gos, case10, case11}
use Rattle.laws.specs.Solo.{Finished, Within}

-- each of the next n steps of task p only moves
abbrev only_moves : ℕ → Machine → ℕ → Bool
only_moves zero m p = true
only_moves (suc n) m p = eqb (number_of (apply_of m (go p)).answer) 0 && only_moves n (apply_of m (go p)).machine p

unfinished : (a : Answer) → number_of a ≡ 0 → Finished a → ⊥
unfinished (Ok Moved) q f = f
unfinished (Ok (Loaded v)) q f = omega arith
unfinished (Ok Took) q f = omega arith
unfinished (Ok Lost) q f = omega arith
unfinished (Ok Released) q f = omega arith
unfinished (Ok Good) q f = omega arith
unfinished (Ok Gone) q f = omega arith
unfinished (Err r) q f = f

late : (n : ℕ) (m : Machine) (p : ℕ) → only_moves n m p ≡ true → Within n m p → ⊥
unfolding Within
late zero m p h w = w
late (suc n) m p h (inl f) = unfinished (apply_of m (go p)).answer (eqb-true _ 0 (both _ _ h).0) f
late (suc n) m p h (inr w) = late n (apply_of m (go p)).machine p (both (eqb (number_of (apply_of m (go p)).answer) 0) _ h).1 w.1

pub ready : (setup_of small).answer ≡ Ok 10
unfolding setup_of marked sizes_ok
ready = refl

-- every record here is reached
pub reached : (es : List (List ℕ)) (m : Machine) → Reached m → Reached (applied m es)
unfolding applied
reached [] m r = r
reached (e ∷ es) m r = reached es (apply_of m e).machine (entered m e r)

pub reached_here : (es : List (List ℕ)) → Reached (applied fresh es)
reached_here es = reached es fresh (set_up small 10 ready)

record Computed : Type 0 where
  steps : over (steps_at anywhere) fresh (case11 ++ gos 7 0) ≡ 12
  most : 4 * over (loads_at anywhere) fresh (case11 ++ gos 7 0) + 4 * ((fresh.p - 1) * over (swaps_at anywhere) fresh (case11 ++ gos 7 0)) ≡ 12
  loads : only_moves 6 (applied fresh case11) 0 ≡ true
  stores : only_moves 6 (applied fresh case10) 1 ≡ true
  count : get_or (applied fresh case10).counts 0 0 ≡ 3
  probing : free (applied fresh (case10 ++ gos 4 1)) ≡ 2
  busy : used (applied fresh (case10 ++ gos 7 1)) ≡ 4

computed : Computed
unfolding total over applied apply_of decision_of judged_of order_of call_of load_of store_of linked_call_of entry_of nonzero outside marked word_at carried_of in_range sizes_ok every task_ok effect_of rows after recounted_of raised_of lowered_of setup_of fresh_of fill_to
computed =
    record { steps = refl; most = refl; loads = refl; stores = refl; count = refl; probing = refl; busy = refl }

-- 12 steps for 2 loads and 1 swap
pub bound_met : (over (steps_at anywhere) fresh (case11 ++ gos 7 0) ≡ 12)
    × (4 * over (loads_at anywhere) fresh (case11 ++ gos 7 0) + 4 * ((fresh.p - 1) * over (swaps_at anywhere) fresh (case11 ++ gos 7 0)) ≡ 12)
bound_met = (computed.steps, computed.most)

-- 6 steps are not enough for task 0's load there, nor N + 2P + 1 = 6 for task 1's store in case 10
pub load_met : Within 6 (applied fresh case11) 0 → ⊥
load_met = late 6 (applied fresh case11) 0 computed.loads

pub store_met : Within 6 (applied fresh case10) 1 → ⊥
store_met = late 6 (applied fresh case10) 1 computed.stores

-- there a count is P + 1 = 3, two nodes are free while task 1 probes, and N + 2P - 1 = 4 are in use after it
pub count_met : get_or (applied fresh case10).counts 0 0 ≡ 3
count_met = computed.count

pub free_met : free (applied fresh (case10 ++ gos 4 1)) ≡ 2
free_met = computed.probing

pub busy_met : used (applied fresh (case10 ++ gos 7 1)) ≡ 4
busy_met = computed.busy
