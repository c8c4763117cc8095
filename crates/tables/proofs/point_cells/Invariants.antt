-- The cells passed point at their nodes.
use Rattle.std.proofs.Common.{◌≡◌, ℕ}
use Rattle.tallies.specs.Lists.{fill_to}
use Rattle.tables.proofs.point_cells.Given as goal

abbrev pub invariant-loop-i : goal.invariant-loop-i
invariant-loop-i l = l.cells ≡ fill_to (λ (j : ℕ). j) l.i l.fn.cells
