-- `put_digits`: what is left to write gives the whole.
use Rattle.digits.proofs.Writing.{writing_on}
use Rattle.digits.proofs.put_digits.Goals as goal

pub loop-i-preserved : goal.loop-i-preserved
loop-i-preserved c = writing_on c.args.out.now c.args.at c.args.n c.loop-i.out c.loop-i.i c.loop-i.rest c.loop-i.invariant c.loop-i-test.true
