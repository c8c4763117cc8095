-- `check_entries`: what is left of the entries gives the whole.
use Rattle.std.proofs.Common.{ℕ, length, ap, length-append, rules, arith}
use Rattle.std.proofs.lemmas.Result.{err_from_is_err_and}
use Rattle.std.specs.Slice.Iter.{chunks_rest}
use Rattle.texts.specs.Line.{line_of}
use Rattle.texts.specs.Text.{text_made}
use Rattle.texts.proofs.Going.{check_on, check_stops, check_ends}
use Rattle.texts.proofs.Pieces.{entry_stops, entry_goes}
use Rattle.texts.proofs.Exporting.{nothing_from}
use Rattle.texts.proofs.check_entries.Goals as goal

pub returns-in_err-e : goal.returns-in_err-e
returns-in_err-e c =
    let p = err_from_is_err_and c.from_residual.result c.from_residual.ensures.1 in
    let i = c.loop-piece.invariant in
    let t = c.in-Some.ensures.steps in
    rw (p.1, p.2) (check_stops text_made c.args.entries.now _ _ _ i.1 (entry_stops _ c.in-Some.piece.now (chunks_rest c.next.new.self) t.1.0 (rw i.0 at t.1.1) t.1.2 _ c.in_err-e.ensures))

pub loop-piece-preserved : goal.loop-piece-preserved
loop-piece-preserved c =
    let i = c.loop-piece.invariant in
    let t = c.in-Some.ensures.steps in
    let size = rw i.0 at t.1.1 in
    let i2 = i.2 in
    let e = entry_goes _ c.in-Some.piece.now (chunks_rest c.next.new.self) t.1.0 size t.1.2 _ c.in_ok-e.ensures in
    let long = c.line_length-made.ensures in
    (search rules, rw long.0 (check_on text_made c.args.entries.now _ _ (line_of c.in_ok-e.e) _ i.1 e), let some = t.1.2 in omega (arith, ap (length {A = ℕ}) t.1.0, length-append c.in-Some.piece.now (chunks_rest c.next.new.self)))

pub returns : goal.returns
returns c = check_ends text_made c.args.entries.now _ _ c.loop-piece.invariant.1 c.in-None.ensures.steps.1.0 nothing_from
