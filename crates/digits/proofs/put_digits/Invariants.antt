use Rattle.digits.proofs.Writing.{Writing}
use Rattle.digits.proofs.put_digits.Given as goal

abbrev pub invariant-loop-i : goal.invariant-loop-i
invariant-loop-i l = Writing l.fn.out l.at l.n l.out l.i l.rest
