use Rattle.digits.proofs.Reading.{Reading}
use Rattle.digits.proofs.digits_at.Given as goal

abbrev pub invariant-loop-end : goal.invariant-loop-end
invariant-loop-end l = Reading l.s l.at l.value l.end
