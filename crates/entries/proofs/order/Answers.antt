-- `order`: what is asked, done.
use Rattle.std.proofs.Common.{◌∙◌, ap}
use Rattle.std.specs.Prelude.{Ok}
use Rattle.std.proofs.lemmas.Result.{err_from_is_err_and}
use Rattle.entries.proofs.Asking.{asked_done}
use Rattle.entries.proofs.order.Goals as goal

pub returns-in_err-asks : goal.returns-in_err-asks
returns-in_err-asks c =
    let a = c.args in
    let p = err_from_is_err_and c.from_residual.result c.from_residual.ensures.1 in
    rw (p.1, p.2) (asked_done a.n a.p a.e a.t a.s _ c.asks.ensures _ c.in_err-asks.was)

pub returns-in-ToGo : goal.returns-in-ToGo
returns-in-ToGo c = let a = c.args in c.step.ensures ∙ asked_done a.n a.p a.e a.t a.s _ c.asks.ensures _ (c.in_ok-asks.was ∙ ap Ok c.in-ToGo.is)

pub returns-in-ToLoad : goal.returns-in-ToLoad
returns-in-ToLoad c = let a = c.args in c.load.ensures ∙ asked_done a.n a.p a.e a.t a.s _ c.asks.ensures _ (c.in_ok-asks.was ∙ ap Ok c.in-ToLoad.is)

pub returns-in-ToStore : goal.returns-in-ToStore
returns-in-ToStore c = let a = c.args in c.store.ensures ∙ asked_done a.n a.p a.e a.t a.s _ c.asks.ensures _ (c.in_ok-asks.was ∙ ap Ok c.in-ToStore.is)

pub returns-in-ToRelease : goal.returns-in-ToRelease
returns-in-ToRelease c = let a = c.args in c.linked_call.ensures ∙ asked_done a.n a.p a.e a.t a.s _ c.asks.ensures _ (c.in_ok-asks.was ∙ ap Ok c.in-ToRelease.is)

pub returns-in-ToValidate : goal.returns-in-ToValidate
returns-in-ToValidate c = let a = c.args in c.linked_call-in-ToValidate.ensures ∙ asked_done a.n a.p a.e a.t a.s _ c.asks.ensures _ (c.in_ok-asks.was ∙ ap Ok c.in-ToValidate.is)
