-- What a count is, in a record that is reached: the holders question tied to the counts. Assumes nothing.
use Rattle.std.specs.Prelude.{Some}
use Prim.Native.Nat.{ℕ, ◌+◌, ◌≤◌, ◌<◌}
use mathlib.Core.Path.{◌≡◌, ap}
use mathlib.Core.List.{List}
use native.Mathlib.Omega.{arith}
use lib.ListN.{length, get_or, take}
use lib.Seq.{length-take-le}
use borrow.Author.Tests.{le-ltb}
use Rattle.tallies.specs.Tally.{tally}
use Rattle.tallies.proofs.Tally.{tally-add, tally-take}
use Rattle.tasks.specs.Records.{node_no}
use Rattle.tasks.specs.Holders.{keeps, holders_of, held_among, holders_value}
use Rattle.laws.specs.Types.{Task, Machine}
use Rattle.laws.specs.Meaning.{points, owns, swapped}
use Rattle.laws.specs.Schedules.{Reached}
use Rattle.laws.proofs.Reached.{reached_kept}

-- the holders question of a table's first p records, where neither is refused
pub held_is : (ts : List Task) (p i : ℕ) → p ≤ 16 → p ≤ length ts → i ≤ 127 → held_among ts p (node_no i) ≡ Some (tally (keeps i) p ts)
unfolding held_among holders_of
held_is ts p i few long h =
    let n : length (take p ts) ≡ p = length-take-le p ts long in
    rw (le-ltb 16 p few, n, le-ltb 16 p few, le-ltb 127 i h) (ap Some (tally-take (keeps i) p ts))

module _ {m : Machine} (r : Reached m) where
  -- a count is the cells that point at the node, the tasks whose own field is in use and names it, those that have just swapped it out, and its holders
  pub count_is : (i : ℕ) → i < m.k
      → get_or m.counts i 0
      ≡ tally (points i) m.n m.cells + tally (owns i) m.p m.tasks + tally (swapped i) m.p m.tasks + holders_value (held_among m.tasks m.p (node_no i))
  count_is i h =
      let K = reached_kept r in
      let few : m.p ≤ 16 = K.sound.tasks in
      let long : m.p ≤ length m.tasks = omega (arith, K.sound.tasks_length) in
      let below : i ≤ 127 = omega (arith, K.sound.nodes) in
      rw (held_is m.tasks m.p i few long below) (omega (arith, K.counted i h, tally-add (owns i) (swapped i) m.p m.tasks))
