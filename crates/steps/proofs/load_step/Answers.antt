use Rattle.std.proofs.Common.{◌≡◌, arith}
use Rattle.tallies.proofs.Lists.{within_bounds}
use Rattle.steps.specs.Table.{rows}
use Rattle.steps.proofs.Rows.{effect_at}
use Rattle.steps.proofs.load_step.Goals as goal

pub returns-in-2 : goal.returns-in-2
unfolding rows
returns-in-2 c = rw (effect_at c.args.t c.args.s 2 c.in-2.is) c.l2_step.ensures

-- no arm before took the phase, and it is 1 to 5
pub returns-in_default : goal.returns-in_default
unfolding rows
returns-in_default c =
    let b = within_bounds 1 5 c.args.t.phase c.requires in
    let e : c.args.t.phase ≡ 5 = omega arith in
    rw (effect_at c.args.t c.args.s 5 e) c.l5_step.ensures
