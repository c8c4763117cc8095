-- `check_lines`: what is left of the text gives the whole.
use Rattle.std.specs.Prelude.{Ok, Err}
use Rattle.std.proofs.Common.{ℕ, drop, length-drop, arith}
use Rattle.std.proofs.lemmas.Result.{err_from_is_err_and}
use Rattle.entries.specs.Entry.{entry_bytes}
use Rattle.texts.specs.Text.{bytes_made}
use Rattle.texts.proofs.Going.{check_on, check_stops, check_ends}
use Rattle.texts.proofs.Pieces.{line_tells}
use Rattle.texts.proofs.Importing.{nothing_made}
use Rattle.texts.proofs.check_lines.Goals as goal

pub returns-in_err-next : goal.returns-in_err-next
returns-in_err-next c =
    let l = c.loop-at in
    let p = err_from_is_err_and c.from_residual.result c.from_residual.ensures.1 in
    rw (p.1, p.2) (check_stops bytes_made c.args.text.now _ _ _ l.invariant.0 (line_tells c.args.text.now l.at (Err _) (omega arith) c.in_err-next.ensures))

pub loop-at-smaller : goal.loop-at-smaller
loop-at-smaller c =
    let t = line_tells c.args.text.now c.loop-at.at (Ok (c.in_ok-next.field-0-0, c.in_ok-next.next)) (omega arith) c.in_ok-next.ensures in
    omega (arith, t.1)

pub loop-at-preserved : goal.loop-at-preserved
loop-at-preserved c =
    let l = c.loop-at in
    let x = c.in_ok-next in
    let t = line_tells c.args.text.now l.at (Ok (x.field-0-0, x.next)) (omega arith) x.ensures in
    (check_on bytes_made c.args.text.now _ _ (entry_bytes x.field-0-0) _ l.invariant.0 t.0, omega (arith, l.invariant.1, t.3))

pub returns : goal.returns
returns c = check_ends bytes_made c.args.text.now (drop c.loop-at.at c.args.text.now) _ c.loop-at.invariant.0 (omega (arith, length-drop {A = ℕ})) nothing_made
