-- `line_at`: where the last field is missing there is no line.
use Rattle.std.proofs.Common.{sym, ◌∙◌}
use Rattle.std.proofs.lemmas.Result.{err_from_is_err_and}
use Rattle.texts.proofs.Scan.{no_fourth}
use Rattle.texts.proofs.line_at.Goals as goal

pub returns-in_err-value : goal.returns-in_err-value
returns-in_err-value c =
    let a = c.args in
    let p = err_from_is_err_and c.from_residual-in_err-value.result c.from_residual-in_err-value.ensures.1 in
    let e = no_fourth a.s.now a.at _ _ (sym c.field_at.ensures ∙ c.in_ok-task.ensures.ok_part) _ _ (sym c.field_at-2.ensures ∙ c.in_ok-kind.ensures.ok_part) _ _
    (sym c.field_at-3.ensures ∙ c.in_ok-cell.ensures.ok_part) (sym c.field_at-4.ensures ∙ c.in_err-value.ensures.ok_part) in
    rw (p.1, p.2, e) (cc (rw c.in_err-value.ensures.ok_part at c.in_err-value.ensures.value))
