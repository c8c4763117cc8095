use Rattle.std.proofs.Common.{◌≡◌, arith}
use Rattle.std.proofs.Math.Logic.{⊎_elim}
use Rattle.tallies.proofs.Lists.{within_either}
use Rattle.steps.specs.Table.{rows}
use Rattle.steps.proofs.Rows.{effect_at}
use Rattle.steps.proofs.store_step.Goals as goal

-- no arm before took the phase, and it is 7 to 9 or 11 to 13
pub returns-in_default : goal.returns-in_default
unfolding rows
returns-in_default c =
    let e : c.args.t.phase ≡ 13 = ⊎_elim (λ w. omega arith) (λ w. omega arith) (within_either 7 9 11 13 c.args.t.phase c.requires) in
    rw (effect_at c.args.t c.args.s 13 e) c.s7_step.ensures
