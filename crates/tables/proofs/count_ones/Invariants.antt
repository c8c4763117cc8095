-- The nodes passed have a count of 1.
use Rattle.std.proofs.Common.{◌≡◌, ℕ}
use Rattle.tallies.specs.Lists.{fill_to}
use Rattle.tables.proofs.count_ones.Given as goal

abbrev pub invariant-loop-i : goal.invariant-loop-i
invariant-loop-i l = l.counts ≡ fill_to (λ (j : ℕ). 1) l.i l.fn.counts
