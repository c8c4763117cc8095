-- Four faults, each with a schedule that breaks figure 1, and the mended table on the same schedule, which obeys it. Demand 2 asks for figure 1's
-- values and figure 1's results, a load acting at its passing check, a store at its swap, a validate at its step. Each first theorem says that the
-- schedule's history isn't one of figure 1's; a later one, that it is until the last entry, and what that entry is answered. Assumes nothing.
use Rattle.std.specs.Prelude.{Ok}
use mathlib.Core.Path.{◌≡◌, refl}
use mathlib.Core.List.{◌++◌}
use lib.ListN.{take}
use Rattle.answers.specs.declared.Reply.TheVariants.{Loaded, Took, Lost, Good, Gone}
use Rattle.figure1.specs.Histories.{Follows}
use Rattle.laws.specs.Bytes.{go}
use Rattle.laws.specs.Small.{fresh}
use Rattle.faults.specs.Benches.{mended, printed, rereading, comparing, validating, computing}
use Rattle.faults.specs.Histories.{afterwards, answered, history}
use Rattle.faults.specs.Schedules.{at_start, cell_after, cell_due, old_copy, its_store, stale_link, same_value, asks_after}
use Rattle.faults.proofs.Legal.{follows_legal, legal_follows}

-- THE PRINTED ORDER. Entry 22 is task 1's check. It passes, so the load acts there and figure 1 gives it 11; the load ends with 7, a copy
-- that is two stores old.
pub printed_breaks : Follows at_start (history printed fresh old_copy) → ⊥
unfolding computing history old_copy
printed_breaks = follows_legal at_start (history printed fresh old_copy)

pub printed-loads : Follows at_start (history printed fresh (take 21 old_copy)) × (answered printed fresh (take 21 old_copy) (go 1) ≡ Ok (Loaded 7))
unfolding computing history answered old_copy
printed-loads = (legal_follows at_start (history printed fresh (take 21 old_copy)) tt, refl)

-- The driver's damage. Three entries later, begun, S1 and S2, the store that rests on the old 7 takes: the cell is 8, and 11 is gone. One
-- more and the task is told that its store took.
pub printed-stores : (cell_after printed (old_copy ++ take 3 its_store) ≡ 8) × (answered printed fresh (old_copy ++ take 3 its_store) (go 1) ≡ Ok Took)
unfolding computing answered old_copy its_store
printed-stores = (refl, refl)

-- The mended table on these entries: task 1 raised the count at entry 18 and its check passed at entry 21, so entry 22 copies what the cell has.
pub mended_copies : Follows at_start (history mended fresh old_copy) × (answered mended fresh (take 21 old_copy) (go 1) ≡ Ok (Loaded 11))
unfolding computing history answered old_copy
mended_copies = (legal_follows at_start (history mended fresh old_copy) tt, refl)

-- REREADING THE POINTER. Entry 16 is task 1's swap. Task 0 swapped since task 1's load, so figure 1 has the store lost and the cell at 9; the
-- swap takes and the cell is 8. Entry 23 ends the store with took.
pub rereading_breaks : Follows at_start (history rereading fresh stale_link) → ⊥
unfolding computing history stale_link
rereading_breaks = follows_legal at_start (history rereading fresh stale_link)

pub rereading-swaps : (cell_after rereading (take 16 stale_link) ≡ 8) × (cell_due rereading (take 16 stale_link) ≡ 9)
unfolding computing history afterwards stale_link
rereading-swaps = (refl, refl)

pub rereading-stores : Follows at_start (history rereading fresh (take 22 stale_link)) × (answered rereading fresh (take 22 stale_link) (go 1) ≡ Ok Took)
unfolding computing history answered stale_link
rereading-stores = (legal_follows at_start (history rereading fresh (take 22 stale_link)) tt, refl)

-- The mended table on these entries: task 1's store is lost at entry 17, and the cell stays 9. (From entry 19 on both tasks are idle, and each go is refused.)
pub mended_remembers : Follows at_start (history mended fresh stale_link)
    × (answered mended fresh (take 16 stale_link) (go 1) ≡ Ok Lost)
    × (cell_after mended stale_link ≡ 9)
unfolding computing history answered stale_link
mended_remembers = (legal_follows at_start (history mended fresh stale_link) tt, refl, refl)

-- COMPARING VALUES. Entry 16 is task 0's swap. Task 1 stored the same 7 since task 0's load, so figure 1 has the store lost and the cell at 7;
-- the swap takes and the cell is 8. Entry 18 ends the store with took.
pub comparing_breaks : Follows at_start (history comparing fresh same_value) → ⊥
unfolding computing history same_value
comparing_breaks = follows_legal at_start (history comparing fresh same_value)

pub comparing-swaps : (cell_after comparing (take 16 same_value) ≡ 8) × (cell_due comparing (take 16 same_value) ≡ 7)
unfolding computing history afterwards same_value
comparing-swaps = (refl, refl)

pub comparing-stores : Follows at_start (history comparing fresh (take 17 same_value)) × (answered comparing fresh (take 17 same_value) (go 0) ≡ Ok Took)
unfolding computing history answered same_value
comparing-stores = (legal_follows at_start (history comparing fresh (take 17 same_value)) tt, refl)

-- The mended table on these entries: task 0's store is lost at entry 18, and the cell stays 7.
pub mended_compares : Follows at_start (history mended fresh same_value)
    × (answered mended fresh (take 17 same_value) (go 0) ≡ Ok Lost)
    × (cell_after mended same_value ≡ 7)
unfolding computing history answered same_value
mended_compares = (legal_follows at_start (history mended fresh same_value) tt, refl, refl)

-- COMPARING VALUES IN A VALIDATE. Entry 15 is the step of task 0's validate. Task 1 stored the same 7 since task 0's load, so figure 1 gives gone;
-- the validate ends with good.
pub validating_breaks : Follows at_start (history validating fresh asks_after) → ⊥
unfolding computing history asks_after
validating_breaks = follows_legal at_start (history validating fresh asks_after)

pub validating_tells : Follows at_start (history validating fresh (take 14 asks_after)) × (answered validating fresh (take 14 asks_after) (go 0) ≡ Ok Good)
unfolding computing history answered asks_after
validating_tells = (legal_follows at_start (history validating fresh (take 14 asks_after)) tt, refl)

-- The mended table on these entries: the step compares nodes, and the validate ends with gone.
pub mended-validates : Follows at_start (history mended fresh asks_after) × (answered mended fresh (take 14 asks_after) (go 0) ≡ Ok Gone)
unfolding computing history answered asks_after
mended-validates = (legal_follows at_start (history mended fresh asks_after) tt, refl)
