-- What is known so far is the test of the counts passed.
use Rattle.std.proofs.Common.{◌≡◌}
use Rattle.tallies.specs.Lists.{every}
use Rattle.tables.specs.Tables.{count_ok}
use Rattle.tables.proofs.counts_ok.Given as goal

abbrev pub invariant-loop-i : goal.invariant-loop-i
invariant-loop-i l = l.ok ≡ every (count_ok l.counts l.p) l.i
