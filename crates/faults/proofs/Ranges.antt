-- THE CURSOR PAST THE LAST NODE. A run tests the ranges once, at its start, and is right because an entry keeps them (`keeps_ranges` in `cells`). By a
-- table whose S6 goes on without mod K an entry doesn't, and a run that tests once would not be right over it. Assumes nothing.
use Rattle.std.specs.Prelude.{Ok, Err}
use Prim.Native.Nat.{ℕ}
use mathlib.Core.Path.{◌≡◌, refl}
use mathlib.Core.Bool.{true, false, false≢true}
use mathlib.Core.List.{List}
use lib.ListN.{get_or, take}
use Rattle.answers.specs.declared.Reply.TheVariants.{Took}
use Rattle.answers.specs.declared.Refusal.TheVariants.{Damaged}
use Rattle.tasks.specs.Records.{no_task}
use Rattle.cells.specs.declared.Machine.{Machine}
use Rattle.cells.specs.Machine.{in_range, Long}
use Rattle.cells.specs.Apply.{apply_of}
use Rattle.laws.specs.Bytes.{go}
use Rattle.laws.specs.Schedules.{applied, Reached}
use Rattle.laws.specs.Small.{fresh}
use Rattle.laws.proofs.Sharp.{reached_here}
use Rattle.faults.specs.Benches.{mended, unwrapping, computing}
use Rattle.faults.specs.Histories.{afterwards, answered}
use Rattle.faults.specs.Schedules.{last_node}

-- Entry 47 is task 1's S6 at node 4, which is busy. Before it the record is in range; after it the cursor is K, and the record is out of range.
pub unwrapping_in_range : in_range (afterwards unwrapping fresh (take 46 last_node)) ≡ true
unfolding computing afterwards last_node
unwrapping_in_range = refl

pub unwrapping_leaves : ((get_or (afterwards unwrapping fresh last_node).tasks 1 no_task).cursor.0 ≡ 5) × (in_range (afterwards unwrapping fresh last_node) ≡ false)
unfolding computing afterwards last_node
unwrapping_leaves = (refl, refl)

-- An entry tests the ranges, so the next one is refused with 22, that of the other task too. A run that tests once would go on.
pub unwrapping_damages : ((apply_of (afterwards unwrapping fresh last_node) (go 1)).answer ≡ Err Damaged)
    × ((apply_of (afterwards unwrapping fresh last_node) (go 0)).answer ≡ Err Damaged)
unfolding computing afterwards last_node
unwrapping_damages = (refl, refl)

-- The mended table on these entries: the cursor goes round to node 0, the record stays in range, and the next entry ends the store with took.
pub mended_wraps : ((get_or (afterwards mended fresh last_node).tasks 1 no_task).cursor.0 ≡ 0)
    × (in_range (afterwards mended fresh last_node) ≡ true)
    × (answered mended fresh last_node (go 1) ≡ Ok Took)
unfolding computing afterwards answered last_node
mended_wraps = (refl, refl, refl)

-- So an entry by this table doesn't keep the ranges, not even those of a record that the true table reaches: `keeps_ranges` is false of it.
pub unwrapping_keeps_not : ((m : Machine) → Reached m → Long m → in_range m ≡ true → (e : List ℕ) → in_range (unwrapping.apply m e).machine ≡ true) → ⊥
unfolding computing applied last_node
unwrapping_keeps_not h =
    false≢true (h (applied fresh (take 46 last_node)) (reached_here (take 46 last_node)) (record { cells = refl; values = refl; counts = refl; tasks = refl }) refl (go 1))
