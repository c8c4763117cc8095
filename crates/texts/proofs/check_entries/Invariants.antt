use Rattle.std.proofs.Common.{◌≡◌, ◌+◌, ◌*◌, ◌≤◌, length}
use Rattle.std.specs.Slice.Iter.{chunks_rest, chunks_size}
use Rattle.texts.specs.Text.{text_made}
use Rattle.texts.proofs.Going.{Checking}
use Rattle.texts.proofs.check_entries.Given as goal

-- what is left of the entries gives the whole, and a line has at most 44 bytes
abbrev pub invariant-loop-piece : goal.invariant-loop-piece
invariant-loop-piece l =
    (chunks_size l.piece-iterator ≡ 10)
    × Checking text_made l.entries (chunks_rest l.piece-iterator) l.made
    × (l.made + 44 * length (chunks_rest l.piece-iterator) ≤ 44 * 65530)
