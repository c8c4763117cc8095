-- What is known so far is the test of the cells passed.
use Rattle.std.proofs.Common.{◌≡◌}
use Rattle.tallies.specs.Lists.{every}
use Rattle.tables.specs.Tables.{cell_ok}
use Rattle.tables.proofs.cells_ok.Given as goal

abbrev pub invariant-loop-i : goal.invariant-loop-i
invariant-loop-i l = l.ok ≡ every (cell_ok l.cells l.k) l.i
