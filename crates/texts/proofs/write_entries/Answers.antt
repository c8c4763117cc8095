-- `write_entries`: what is left to write gives the whole.
use Rattle.std.specs.Prelude.{Ok, Err}
use Rattle.std.proofs.Common.{◌≡◌, ℕ, drop, length-drop, ◌∙◌, arith}
use Rattle.wire.specs.Bytes.{overlaid}
use Rattle.wire.proofs.Laws.{has_room}
use Rattle.entries.specs.Entry.{entry_bytes}
use Rattle.texts.specs.Text.{bytes_made}
use Rattle.texts.proofs.Going.{write_room, write_on, write_stops, write_ends}
use Rattle.texts.proofs.Pieces.{line_tells}
use Rattle.texts.proofs.Importing.{nothing_made}
use Rattle.texts.proofs.write_entries.Goals as goal

pub returns-in_default : goal.returns-in_default
returns-in_default c =
    let l = c.loop-at in
    let t = line_tells c.args.text.now l.at (Err c.in_default.field-0) (omega arith) c.in_default.ensures in
    absurd (write_stops bytes_made c.args.text.now c.args.entries.now _ _ _ l.invariant _ t)

pub loop-at-smaller : goal.loop-at-smaller
loop-at-smaller c =
    let t = line_tells c.args.text.now c.loop-at.at (Ok (c.in-Ok.e, c.in-Ok.next)) (omega arith) c.in-Ok.ensures in
    omega (arith, t.1)

pub loop-at-preserved : goal.loop-at-preserved
loop-at-preserved c =
    let l = c.loop-at in
    let s = c.args.text.now in
    let b = entry_bytes c.in-Ok.e in
    let t = line_tells s l.at (Ok (c.in-Ok.e, c.in-Ok.next)) (omega arith) c.in-Ok.ensures in
    let room = write_room bytes_made s c.args.entries.now _ _ _ l.invariant _ b t.0 in
    let put : c.put_entry.new.out ≡ overlaid l.entries l.to b = c.put_entry.ensures ∙ has_room l.entries l.to b room in
    rw put (write_on bytes_made s c.args.entries.now _ _ _ l.invariant _ b t.0)

pub returns : goal.returns
returns c = write_ends bytes_made c.args.text.now c.args.entries.now (drop c.loop-at.at c.args.text.now) _ _ c.loop-at.invariant (omega (arith, length-drop {A = ℕ})) nothing_made
