-- `reply`: the eight places that are handed over take the reply, and all others stay.
use Prim.Native.Nat.{ℕ, ◌+◌, ◌*◌, ◌-◌, ◌≤◌}
use mathlib.Core.Path.{◌≡◌, sym, ap, ◌∙◌}
use mathlib.Core.List.{List, ◌++◌, append_assoc, append-nil}
use native.Mathlib.Omega.{arith}
use lib.ListN.{length, take, drop, length-drop, drop_of_length-le}
use lib.Seq.{length-take-le, drop-drop}
use borrow.Rule.Slice.PartMut.{mid_of, post_of, put_mid}
use Rattle.wire.specs.Bytes.{reply_of, overlaid, fitted}
use Rattle.wire.proofs.Laws.{has_room, over_front}
use Rattle.runs.proofs.reply.Goals as goal

-- bytes that fill a part of o, put back into o, are bytes laid over o
part_over : (o : List ℕ) (at n : ℕ) (b : List ℕ) → length b ≡ n → at + n ≤ length o → put_mid at n o (fitted (mid_of at n o) 0 b) ≡ overlaid o at b
part_over o at n b h room =
    let long : length (mid_of at n o) ≡ n = length-take-le n (drop at o) (omega (arith, length-drop at o)) in
    let full : fitted (mid_of at n o) 0 b ≡ b =
    has_room (mid_of at n o) 0 b (omega arith) ∙ over_front (mid_of at n o) b ∙ ap (λ (z : List ℕ). b ++ z) (drop_of_length-le (mid_of at n o) {i = length b} (omega arith)) ∙ append-nil b in
    let rest : post_of at n o ≡ drop (at + length b) o = drop-drop n at o ∙ ap (λ (k : ℕ). drop (at + k) o) (sym h) in
    ap (put_mid at n o) full ∙ ap (λ (z : List ℕ). take at o ++ (b ++ z)) rest ∙ sym (append_assoc (take at o) b (drop (at + length b) o))

pub returns : goal.returns
returns c =
    let a = c.args in
    let n = 8 * a.i + 8 - 8 * a.i in
    ap (put_mid (8 * a.i) n a.out.now) c.put_reply.ensures ∙ part_over a.out.now (8 * a.i) n (reply_of a.number a.task a.value) (omega arith) (omega (arith, c.requires))
