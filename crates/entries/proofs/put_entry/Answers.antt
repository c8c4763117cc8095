-- `put_entry`: the mark, four bytes and the value behind each other.
use Rattle.std.proofs.Common.{◌≡◌, ℕ, ◌+◌, ◌≤◌, List, [], ◌∷◌, length, refl, sym, ap, ◌∙◌, arith}
use Rattle.std.proofs.Math.ListN.{set}
use borrow.Author.Tests.{leb-true}
use Rattle.wire.specs.Bytes.{entry_mark, little_endian, overlaid, fitted}
use Rattle.wire.proofs.Laws.{four, framed, fitted-length}
use Rattle.entries.proofs.put_entry.Goals as goal

pub returns : goal.returns
returns c =
    let a = c.args in
    let x = a.e in
    let room : a.at + 10 ≤ length a.out.now = leb-true _ _ (sym (c.if-not-has_room.ensures {u = tt})) in
    let m = c.put_mark.new.out in
    let long : length m ≡ length a.out.now = ap length c.put_mark.ensures ∙ fitted-length a.out.now a.at _ in
    let t : set (set (set (set m (a.at + 2) x.task.0) (a.at + 3) x.kind) (a.at + 4) x.cell.0) (a.at + 5) x.spare ≡ overlaid m (a.at + 2) (x.task.0 ∷ x.kind ∷ x.cell.0 ∷ x.spare ∷ []) =
    four m (a.at + 2) (a.at + 3) (a.at + 4) (a.at + 5) _ _ _ _ (omega arith) (omega arith) (omega arith) (rw long (omega (arith, room))) in
    c.put_word.ensures ∙ ap (λ (o : List ℕ). fitted o (a.at + 6) (little_endian x.value)) t
    ∙ rw c.put_mark.ensures (framed a.out.now a.at (a.at + 2) (a.at + 6) entry_mark (x.task.0 ∷ x.kind ∷ x.cell.0 ∷ x.spare ∷ []) (little_endian x.value) refl (omega arith) (omega (arith, room)))
