use Rattle.std.proofs.Common.{◌+◌, ◌*◌, ◌-◌, ◌≤◌, drop, length}
use Rattle.texts.specs.Text.{newlines, bytes_made}
use Rattle.texts.proofs.Going.{Checking}
use Rattle.texts.proofs.check_lines.Given as goal

-- what is left of the text gives the whole, and has room for the bytes of its lines
abbrev pub invariant-loop-at : goal.invariant-loop-at
invariant-loop-at l = Checking bytes_made l.text (drop l.at l.text) l.made × (l.made + 10 * newlines (drop l.at l.text) ≤ 65530)

abbrev pub decreases-loop-at : goal.decreases-loop-at
decreases-loop-at l = length l.text - l.at
