-- Of a reader whose bytes are known, as a slice's are, the three clauses of `read_full` leave one number that it can answer and one start of the buffer. Assumes nothing.
use Rattle.std.proofs.Common.{◌≡◌, ◌+◌, ◌<◌, ◌≤◌, ◌∙◌, ◌++◌, ℕ, List, Option, None, Some, arith, ap, length, length-append, length-take-le, min, sym, take}
use Rattle.std.proofs.Math.Seq.{take-append_seam}
use Rattle.std.specs.Io.KnownBytes.{Consumes, IsAtEnd}

least : (n long room rest : ℕ) → n ≤ room → long ≡ n + rest → (n < room → rest ≡ 0) → n ≡ min long room
least n long room rest within split none = grind arith

-- xs is what the reader had, left what it has then, and buf the buffer
pub known_one : (xs : List ℕ) (left : Option (List ℕ)) (buf : List ℕ) (n : ℕ) → n ≤ length buf → Consumes (Some xs) left (take n buf) → (n < length buf → IsAtEnd left)
    → (n ≡ min (length xs) (length buf)) × (take n buf ≡ take n xs)
known_one xs None buf n within bytes end = absurd bytes
known_one xs (Some ys) buf n within bytes end =
    let front : length (take n buf) ≡ n = length-take-le n buf within in
    let long : length xs ≡ n + length ys = ap length bytes ∙ length-append (take n buf) ys ∙ ap (λ k. k + length ys) front in
    let first : take n xs ≡ take n buf = ap (take n) bytes ∙ ap (λ k. take k (take n buf ++ ys)) (sym front) ∙ take-append_seam (take n buf) ys in
    (least n _ _ (length ys) within long (λ h. ap length (end h)), sym first)
