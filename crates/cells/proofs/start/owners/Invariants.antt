use Rattle.std.proofs.Common.{◌≡◌, ℕ, ◌+◌, replicate}
use Rattle.tallies.specs.Lists.{fill_to}
use Rattle.tasks.specs.Records.{node_no, no_task, idle_owning}
use Rattle.cells.proofs.start.owners.Given as goal

-- the tasks passed own their nodes
abbrev pub invariant-loop-i : goal.invariant-loop-i
invariant-loop-i l = l.ts ≡ fill_to (λ (j : ℕ). idle_owning (node_no (l.n + j))) l.i (replicate 16 no_task)
