-- `start::owners`: a task more owns its node.
use Rattle.std.proofs.Common.{◌≡◌, min, arith}
use Rattle.tallies.proofs.Lists.{fill_more}
use Rattle.cells.proofs.start.owners.Goals as goal

pub loop-i-preserved : goal.loop-i-preserved
loop-i-preserved c =
    let own : min c.loop-i.i 15 ≡ c.loop-i.i = omega arith in
    rw (c.slot.ensures, own, c.idle_owning.ensures, c.loop-i.invariant) (fill_more _ _ _)
