-- `Machine::apply`: what is decided is carried out.
use Rattle.std.proofs.Common.{ap, ◌∙◌}
use Rattle.cells.specs.Apply.{carried_by, apply_of}
use Rattle.cells.specs.Machine.{carried_of}
use Rattle.cells.proofs.Decide.{left_named}
use Rattle.cells.proofs.Machine.apply.Goals as goal

pub returns : goal.returns
unfolding apply_of carried_of
returns c =
    let m = c.args.self in
    let named = rw (← c.decided-d.ensures, ← c.byte_at.ensures) at (left_named m c.args.s.now) in
    rw (c.carry-answer.ensures.0 ∙ named, c.carry-answer.ensures.1) (ap (carried_by m) c.decided-d.ensures)
