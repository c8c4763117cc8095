use Rattle.std.proofs.Common.{◌-◌, drop, length}
use Rattle.texts.specs.Text.{bytes_made}
use Rattle.texts.proofs.Going.{Writing}
use Rattle.texts.proofs.write_entries.Given as goal

-- what is left to write gives the whole
abbrev pub invariant-loop-at : goal.invariant-loop-at
invariant-loop-at l = Writing bytes_made l.text l.initial.entries (drop l.at l.text) l.to l.entries

abbrev pub decreases-loop-at : goal.decreases-loop-at
decreases-loop-at l = length l.text - l.at
