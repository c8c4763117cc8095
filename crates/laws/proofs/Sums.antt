-- The two sums over the tasks that pay for the steps of loads, and what is said of them: of an entry, of its task, of a swap and of a schedule (Bound has
-- the proofs). Assumes nothing.
use Prim.Native.Nat.{ℕ, ◌+◌, ◌-◌, ◌*◌, ◌≤◌}
use mathlib.Core.Path.{◌≡◌}
use mathlib.Core.Bool.{Bool, not, ◌&&◌, ◌||◌}
use mathlib.Core.List.{List, [], ◌∷◌}
use lib.Dec.{eqb}
use lib.ListN.{get_or}
use Rattle.tallies.specs.Lists.{within}
use Rattle.tallies.specs.Tally.{bit, tally}
use Rattle.runs.specs.Counts.{accepted, kind_of, task_of, loads_at, steps_at, turned_at, swaps_at}
use Rattle.laws.specs.Types.{Task, Machine, Applied}
use Rattle.laws.specs.Schedules.{applied, over}

module _ (on : ℕ → Bool) where
  -- the steps that a load still has to make, a check that turns back not counted
  abbrev pub left : Task → ℕ
  left t = bit (on t.cell.0) * get_or (0 ∷ 4 ∷ 3 ∷ 2 ∷ 1 ∷ 5 ∷ []) t.phase 0

  -- a load that has read its pointer, which has changed since
  abbrev pub stale : List ℕ → Task → ℕ
  stale cells t = bit (on t.cell.0) * bit ((eqb t.phase 2 || eqb t.phase 3) && not (eqb (get_or cells t.cell.0 0) t.held.0))

  -- what an entry counts for, by its outcome
  abbrev pub counted : ℕ → List ℕ → Applied → Bool
  counted k e a = accepted a.answer && eqb (kind_of e) k && on (task_of a.machine e).cell.0

  -- an entry pays
  abbrev pub Pays : Machine → List ℕ → Applied → Type 0
  Pays m e a =
      (bit (counted 0 e a && within 1 5 (task_of m e).phase) + tally left m.p a.machine.tasks
      ≡ tally left m.p m.tasks + 4 * (bit (counted 1 e a) + bit (counted 0 e a && eqb (task_of m e).phase 3 && eqb (task_of a.machine e).phase 5)))
      × (bit (counted 0 e a && eqb (task_of m e).phase 3 && eqb (task_of a.machine e).phase 5) + tally (stale a.machine.cells) m.p a.machine.tasks
      ≤ tally (stale m.cells) m.p m.tasks
      + (m.p - 1) * bit (counted 0 e a && eqb (task_of m e).phase 8 && eqb (task_of a.machine e).phase 9))

  -- a task that an entry of kind κ takes from t to t' pays by its own part of the two sums
  abbrev pub turns : ℕ → Task → Task → ℕ
  turns κ t t' = bit (eqb κ 0) * bit (on t'.cell.0) * bit (eqb t.phase 3) * bit (eqb t'.phase 5)

  abbrev pub Settles : List ℕ → ℕ → Task → Task → Type 0
  Settles cells κ t t' =
      (bit (eqb κ 0) * bit (on t'.cell.0) * bit (within 1 5 t.phase) + left t' ≡ left t + 4 * (bit (eqb κ 1) * bit (on t'.cell.0) + turns κ t t'))
      × (turns κ t t' + stale cells t' ≤ stale cells t)

  -- a swap, counted or not, that leaves these pointers and records makes at most P - 1 loads stale
  abbrev pub Swings : Machine → List ℕ → List Task → Bool → Type 0
  Swings m cells tasks b = tally (stale cells) m.p tasks ≤ tally (stale m.cells) m.p m.tasks + (m.p - 1) * bit b

  -- a schedule pays
  abbrev pub Paid : Machine → List (List ℕ) → Type 0
  Paid m es =
      (over (steps_at on) m es + tally left m.p (applied m es).tasks ≡ tally left m.p m.tasks + 4 * (over (loads_at on) m es + over (turned_at on) m es))
      × (over (turned_at on) m es + tally (stale (applied m es).cells) m.p (applied m es).tasks
      ≤ tally (stale m.cells) m.p m.tasks + (m.p - 1) * over (swaps_at on) m es)

  -- so, where no load runs at the start and nothing is paid back
  abbrev pub Bounded : Machine → List (List ℕ) → Type 0
  Bounded m es = (over (steps_at on) m es ≤ 4 * (over (loads_at on) m es + over (turned_at on) m es))
      × (over (turned_at on) m es ≤ (m.p - 1) * over (swaps_at on) m es)

  -- each swap that took turns back at most P - 1 checks
  abbrev pub TurnedBound : Machine → List (List ℕ) → Type 0
  TurnedBound m es = over (turned_at on) m es ≤ (m.p - 1) * over (swaps_at on) m es

  abbrev pub LoadBound : Machine → List (List ℕ) → Type 0
  LoadBound m es = over (steps_at on) m es ≤ 4 * over (loads_at on) m es + 4 * ((m.p - 1) * over (swaps_at on) m es)
