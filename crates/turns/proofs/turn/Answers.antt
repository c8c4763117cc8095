-- `turn`: what is asked, done.
use Rattle.std.proofs.Common.{◌∙◌, refl, ap, Ok}
use Rattle.std.proofs.lemmas.Result.{err_from_is_err_and}
use Rattle.turns.proofs.Picks.{ordered}
use Rattle.turns.proofs.turn.Goals as goal

pub returns-in_err-asks : goal.returns-in_err-asks
returns-in_err-asks c =
    let p = err_from_is_err_and c.from_residual.result c.from_residual.ensures.1 in
    rw (p.1, p.2, ← ordered c.args.m.now c.args.e c.task-t.result c.task-t.ensures _ c.asks.ensures _ c.in_err-asks.was) (refl, refl)

pub returns-in-ToGo : goal.returns-in-ToGo
returns-in-ToGo c =
    rw (← ordered c.args.m.now c.args.e c.task-t.result c.task-t.ensures _ c.asks.ensures _ (c.in_ok-asks.was ∙ ap Ok c.in-ToGo.is), c.task-t.ensures) c.go.ensures

pub returns-in-ToLoad : goal.returns-in-ToLoad
returns-in-ToLoad c =
    rw (← ordered c.args.m.now c.args.e c.task-t.result c.task-t.ensures _ c.asks.ensures _ (c.in_ok-asks.was ∙ ap Ok c.in-ToLoad.is), ← c.load.ensures) c.carry.ensures

pub returns-in-ToStore : goal.returns-in-ToStore
returns-in-ToStore c =
    rw (← ordered c.args.m.now c.args.e c.task-t.result c.task-t.ensures _ c.asks.ensures _ (c.in_ok-asks.was ∙ ap Ok c.in-ToStore.is), ← c.store.ensures) c.carry-in-ToStore.ensures

pub returns-in-ToRelease : goal.returns-in-ToRelease
returns-in-ToRelease c =
    rw (← ordered c.args.m.now c.args.e c.task-t.result c.task-t.ensures _ c.asks.ensures _ (c.in_ok-asks.was ∙ ap Ok c.in-ToRelease.is), ← c.linked_call.ensures) c.carry-in-ToRelease.ensures

pub returns-in-ToValidate : goal.returns-in-ToValidate
returns-in-ToValidate c =
    rw (← ordered c.args.m.now c.args.e c.task-t.result c.task-t.ensures _ c.asks.ensures _ (c.in_ok-asks.was ∙ ap Ok c.in-ToValidate.is), ← c.linked_call-in-ToValidate.ensures) c.carry-in-ToValidate.ensures
