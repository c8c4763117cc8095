-- `write_lines`: what is left to write gives the whole.
use Rattle.std.proofs.Common.{rules}
use Rattle.std.specs.Slice.Iter.{chunks_rest}
use Rattle.texts.specs.Line.{line_of}
use Rattle.texts.specs.Text.{text_made}
use Rattle.texts.proofs.Going.{write_room, write_on, write_stops, write_ends}
use Rattle.texts.proofs.Pieces.{entry_stops, entry_goes}
use Rattle.texts.proofs.Exporting.{nothing_from}
use Rattle.texts.proofs.write_lines.Goals as goal

pub returns-in_default : goal.returns-in_default
returns-in_default c =
    let l = c.loop-piece in
    let t = c.in-Some.ensures.steps in
    let e = entry_stops _ c.in-Some.piece.now (chunks_rest c.next.new.self) t.1.0 (rw l.invariant.0 at t.1.1) t.1.2 _ c.in_default.ensures in
    absurd (write_stops text_made c.args.entries.now c.args.text.now _ _ _ l.invariant.1 _ e)

pub put_line-to-requires : goal.put_line-to-requires
put_line-to-requires c =
    let l = c.loop-piece in
    let t = c.in-Some.ensures.steps in
    let e = entry_goes _ c.in-Some.piece.now (chunks_rest c.next.new.self) t.1.0 (rw l.invariant.0 at t.1.1) t.1.2 _ c.in-Ok.ensures in
    write_room text_made c.args.entries.now c.args.text.now _ _ _ l.invariant.1 _ (line_of c.in-Ok.e) e

pub loop-piece-preserved : goal.loop-piece-preserved
loop-piece-preserved c =
    let l = c.loop-piece in
    let t = c.in-Some.ensures.steps in
    let e = entry_goes _ c.in-Some.piece.now (chunks_rest c.next.new.self) t.1.0 (rw l.invariant.0 at t.1.1) t.1.2 _ c.in-Ok.ensures in
    (search rules, rw (c.put_line-to.ensures.0, c.put_line-to.ensures.1) (write_on text_made c.args.entries.now c.args.text.now _ _ _ l.invariant.1 _ (line_of c.in-Ok.e) e))

pub returns : goal.returns
returns c = write_ends text_made c.args.entries.now c.args.text.now _ _ _ c.loop-piece.invariant.1 c.in-None.ensures.steps.1.0 nothing_from
