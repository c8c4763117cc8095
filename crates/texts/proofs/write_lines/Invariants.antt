use Rattle.std.proofs.Common.{◌≡◌}
use Rattle.std.specs.Slice.Iter.{chunks_rest, chunks_size}
use Rattle.texts.specs.Text.{text_made}
use Rattle.texts.proofs.Going.{Writing}
use Rattle.texts.proofs.write_lines.Given as goal

-- what is left to write gives the whole
abbrev pub invariant-loop-piece : goal.invariant-loop-piece
invariant-loop-piece l =
    (chunks_size l.piece-iterator ≡ 10)
    × Writing text_made l.entries l.initial.text (chunks_rest l.piece-iterator) l.to l.text
