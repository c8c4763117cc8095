-- Any two results that a public function's contract allows are equal, and so is what a lent place holds when the function returns. Assumes nothing.
use mathlib.Core.Path.{refl, sym, ◌∙◌}
use Rattle.contracts.specs.One.{One}
use Rattle.wire.proofs.byte_at.Kinds as byte-at·k
use Rattle.wire.proofs.byte_at.Reads as byte_at
use Rattle.wire.proofs.little_endian.Kinds as little-endian·k
use Rattle.wire.proofs.little_endian.Reads as little_endian
use Rattle.wire.proofs.word_at.Kinds as word-at·k
use Rattle.wire.proofs.word_at.Reads as word_at
use Rattle.wire.proofs.starts_with.Kinds as starts-with·k
use Rattle.wire.proofs.starts_with.Reads as starts_with
use Rattle.wire.proofs.has_room.Kinds as has-room·k
use Rattle.wire.proofs.has_room.Reads as has_room
use Rattle.wire.proofs.put_mark.Kinds as put-mark·k
use Rattle.wire.proofs.put_mark.Reads as put-mark
use Rattle.wire.proofs.put_word.Kinds as put-word·k
use Rattle.wire.proofs.put_word.Reads as put_word
use Rattle.wire.proofs.put_reply.Kinds as put-reply·k
use Rattle.wire.proofs.put_reply.Reads as put-reply

pub byte_at_one : One byte-at·k.ps byte-at·k.r byte_at.Pre byte_at.Post
byte_at_one κs a z z' ws ws' p q q' = (q ∙ sym q', refl)

pub little_endian_one : One little-endian·k.ps little-endian·k.r little_endian.Pre little_endian.Post
little_endian_one κs a z z' ws ws' p q q' = (q ∙ sym q', refl)

pub word_at_one : One word-at·k.ps word-at·k.r word_at.Pre word_at.Post
word_at_one κs a z z' ws ws' p q q' = (q ∙ sym q', refl)

pub starts_with_one : One starts-with·k.ps starts-with·k.r starts_with.Pre starts_with.Post
starts_with_one κs a z z' ws ws' p q q' = (q ∙ sym q', refl)

pub has_room_one : One has-room·k.ps has-room·k.r has_room.Pre has_room.Post
has_room_one κs a z z' ws ws' p q q' = (q ∙ sym q', refl)

pub put_mark_one : One put-mark·k.ps put-mark·k.r put-mark.Pre put-mark.Post
put_mark_one κs a z z' ws ws' p q q' = (refl, λ i. ((q ∙ sym q') i, ws.1))

pub put_word_one : One put-word·k.ps put-word·k.r put_word.Pre put_word.Post
put_word_one κs a z z' ws ws' p q q' = (refl, λ i. ((q ∙ sym q') i, ws.1))

pub put_reply_one : One put-reply·k.ps put-reply·k.r put-reply.Pre put-reply.Post
put_reply_one κs a z z' ws ws' p q q' = (refl, λ i. ((q ∙ sym q') i, ws.1))
