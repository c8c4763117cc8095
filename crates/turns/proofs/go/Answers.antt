-- `go`: the row of the phase, or the refusal of a phase that has none.
use Rattle.std.proofs.Common.{refl, arith}
use mathlib.Core.Logic.{inl, inr}
use Rattle.steps.specs.Table.{rows}
use Rattle.steps.proofs.Rows.{effect_at, effect_no_phase}
use Rattle.cells.specs.Machine.{seen_of}
use Rattle.turns.proofs.go.Goals as goal

pub returns-in-0 : goal.returns-in-0
unfolding rows
returns-in-0 c = rw (← c.task-t.ensures, effect_at c.task-t.result (seen_of c.args.m.now c.task-t.result) 0 c.in-0.is) (refl, refl)

pub returns-in-6 : goal.returns-in-6
unfolding rows
returns-in-6 c = rw (← c.task-t.ensures, effect_at c.task-t.result (seen_of c.args.m.now c.task-t.result) 6 c.in-6.is) (refl, refl)

pub returns-in_default : goal.returns-in_default
returns-in_default c = rw (← c.task-t.ensures, effect_no_phase c.task-t.result (seen_of c.args.m.now c.task-t.result) (inl (omega arith))) (refl, refl)

pub returns-in_default-2 : goal.returns-in_default-2
returns-in_default-2 c = rw (← c.task-t.ensures, effect_no_phase c.task-t.result (seen_of c.args.m.now c.task-t.result) (inr (omega arith))) (refl, refl)
