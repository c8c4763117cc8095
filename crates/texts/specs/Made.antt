-- What a direction makes of its input, piece by piece: bytes, or the refusal of the first bad piece; and what becomes of it in a buffer.
use Rattle.std.specs.Prelude.{ℕ, cond, List, [], ◌∷◌, ◌++◌, ltb, length, Result, Ok, Err}
use Rattle.wire.specs.Bytes.{overlaid}
use Rattle.answers.specs.Numbers.{refusal_number}
use Rattle.texts.specs.Types.{Refusal, OutputShort}

pub data Made : Type 0 where
  good : List ℕ → Made
  bad : Refusal → Made

-- bytes in front of what is made
abbrev pub behind : List ℕ → Made → Made
behind b (good c) = good (b ++ c)
behind b (bad r) = bad r

-- one piece, and then what is made of the rest; a bad one decides
abbrev pub then : Made → Made → Made
then (good b) m = behind b m
then (bad r) m = bad r

-- the pieces one after the other
unfoldable pub gathered : List Made → Made
gathered [] = good []
gathered (m ∷ ms) = then m (gathered ms)

-- the bytes, where there are any
abbrev pub bytes_of : Made → List ℕ
bytes_of (good b) = b
bytes_of (bad r) = []

-- the answer with room for `room` bytes: how many are written, or the refusal; too little room is refused last
unfoldable pub answered : Made → ℕ → Result ℕ Refusal
answered (bad r) room = Err r
answered (good b) room = cond (ltb room (length b)) (Err OutputShort) (Ok (length b))

-- the buffer at exit: a refusal writes nothing, and bytes past the written ones stay
unfoldable pub laid : Made → List ℕ → List ℕ
laid (bad r) o = o
laid (good b) o = cond (ltb (length o) (length b)) o (overlaid o 0 b)

-- an answer's number, 0 for a text that is written, and how many bytes are written
abbrev pub text_number : Result ℕ Refusal → ℕ
text_number (Ok n) = 0
text_number (Err r) = refusal_number r

abbrev pub text_bytes : Result ℕ Refusal → ℕ
text_bytes (Ok n) = n
text_bytes (Err r) = 0
