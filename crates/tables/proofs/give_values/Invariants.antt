-- The nodes passed hold their cells' values.
use Rattle.std.proofs.Common.{◌≡◌}
use Rattle.tallies.specs.Lists.{fill_to}
use Rattle.tables.specs.Tables.{value_given}
use Rattle.tables.proofs.give_values.Given as goal

abbrev pub invariant-loop-i : goal.invariant-loop-i
invariant-loop-i l = l.values ≡ fill_to (value_given l.s) l.i l.fn.values
