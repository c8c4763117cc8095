-- Bytes laid over others: where there is room, one after the other, and store by store. Assumes nothing.
use Prim.Native.Nat.{ℕ, suc, ◌+◌, ◌≤◌, ◌<◌}
use mathlib.Core.Path.{◌≡◌, refl, sym, ap, ◌∙◌}
use mathlib.Core.List.{List, [], ◌∷◌, ◌++◌, append_assoc, append-nil}
use native.Mathlib.Nat.{add-zero, zero-add, suc_inj, suc-ne-zero}
use native.Mathlib.Omega.{arith}
use native.Mathlib.Decide.{dec_le}
use lib.ListN.{length, get_or, take, drop, set, length-append, length-drop, take-append-drop, length-set}
use lib.Seq.{drop-cons, drop-set-lt, take-set-le, get_or-set_same, drop-drop, take_at, drop-append-add, length-take-le, sets-eq}
use borrow.Author.Tests.{eqb-false, le-leb, lt-leb}
use Rattle.wire.specs.Bytes.{overlaid, fitted}

-- bytes that have room are laid over, and others are not
pub has_room : (o : List ℕ) (at : ℕ) (b : List ℕ) → at + length b ≤ length o → fitted o at b ≡ overlaid o at b
unfolding fitted
has_room o at b h = rw (le-leb (at + length b) (length o) h)

pub no_room : (o : List ℕ) (at : ℕ) (b : List ℕ) → length o < at + length b → fitted o at b ≡ o
unfolding fitted
no_room o at b h = rw (lt-leb (at + length b) (length o) h)

-- nothing laid over the bytes leaves them
pub over_none : (o : List ℕ) (at : ℕ) → overlaid o at [] ≡ o
over_none o at = rw (append-nil, add-zero) (take-append-drop at o)

-- bytes laid over, and more after them
pub over-more : (o : List ℕ) (at : ℕ) (b c : List ℕ) → at + length b ≤ length o → overlaid (overlaid o at b) (at + length b) c ≡ overlaid o at (b ++ c)
over-more o at b c h =
    let front : length (take at o ++ b) ≡ at + length b = length-append (take at o) b ∙ ap (λ (k : ℕ). k + length b) (length-take-le at o (omega arith)) in
    let sum : at + length b + length c ≡ at + (length b + length c) = omega arith in
    let rest : drop (at + length b + length c) (overlaid o at b) ≡ drop (at + (length b + length c)) o =
    ap (λ (k : ℕ). drop (k + length c) (overlaid o at b)) (sym front) ∙ drop-append-add (take at o ++ b) (drop (at + length b) o) (length c)
    ∙ drop-drop (length c) (at + length b) o ∙ ap (λ (k : ℕ). drop k o) sum in
    rw (take_at (take at o ++ b) (drop (at + length b) o) (at + length b) front, rest, length-append) (simp append_assoc)

-- bytes laid over from the front
pub over_front : (o b : List ℕ) → overlaid o 0 b ≡ b ++ drop (length b) o
over_front o b = rw (zero-add (length b))

-- the length stays
pub over-length : (o : List ℕ) (at : ℕ) (b : List ℕ) → at + length b ≤ length o → length (overlaid o at b) ≡ length o
over-length o at b h =
    rw (length-append (take at o ++ b) (drop (at + length b) o), length-append (take at o) b, length-take-le at o (omega arith), length-drop (at + length b) o) (omega arith)

-- stores in a row are bytes laid over
pub two : (o : List ℕ) (at p a b : ℕ) → p ≡ at + 1 → at + 2 ≤ length o → set (set o at a) p b ≡ overlaid o at (a ∷ b ∷ [])
two o at p a b hp room =
    let s1 : p ≡ suc at = omega arith in
    rw s1 (sets-eq (a ∷ b ∷ []) o at room)

pub four : (o : List ℕ) (at p q r a b c d : ℕ) → p ≡ at + 1 → q ≡ at + 2 → r ≡ at + 3 → at + 4 ≤ length o
    → set (set (set (set o at a) p b) q c) r d ≡ overlaid o at (a ∷ b ∷ c ∷ d ∷ [])
four o at p q r a b c d hp hq hr room =
    let s1 : p ≡ suc at = omega arith in
    let s2 : q ≡ suc (suc at) = omega arith in
    let s3 : r ≡ suc (suc (suc at)) = omega arith in
    rw (s1, s2, s3) (sets-eq (a ∷ b ∷ c ∷ d ∷ []) o at room)

-- a mark, bytes from p on behind it, and a last part from q on: each laid where the one before it ends
pub framed : (o : List ℕ) (at p q : ℕ) (a b c : List ℕ) → p ≡ at + length a → q ≡ p + length b → q + length c ≤ length o
    → fitted (overlaid (fitted o at a) p b) q c ≡ fitted o at (a ++ b ++ c)
framed o at p q a b c ha hb h =
    let ab : overlaid (overlaid o at a) p b ≡ overlaid o at (a ++ b) = rw ha (over-more o at a b (omega arith)) in
    let sum : q ≡ at + length (a ++ b) = rw (length-append a b) (omega arith) in
    let all : at + length (a ++ b ++ c) ≤ length o = rw (length-append (a ++ b) c, length-append a b) (omega arith) in
    let kept : length (overlaid o at (a ++ b)) ≡ length o = over-length o at (a ++ b) (omega (arith, sum)) in
    rw (has_room o at a (omega arith), ab, has_room (overlaid o at (a ++ b)) q c (rw kept h), has_room o at (a ++ b ++ c) all, sum) (over-more o at (a ++ b) c (omega (arith, sum)))

pub fitted-length : (o : List ℕ) (at : ℕ) (b : List ℕ) → length (fitted o at b) ≡ length o
fitted-length o at b =
    elim (dec_le (at + length b) (length o)) [
      | yes h ↦ rw (has_room o at b h) (over-length o at b h)
      | no h ↦ rw (no_room o at b (omega arith))
    ]

-- for the attribute of a function, which takes no name with a dash
pub ruleset lengths = fitted-length

-- a list of two
pub pair : (l : List ℕ) → length l ≡ 2 → l ≡ get_or l 0 0 ∷ get_or l 1 0 ∷ []
pair [] h = absurd (eqb-false 0 2 refl h)
pair (a ∷ []) h = absurd (eqb-false 1 2 refl h)
pair (a ∷ b ∷ []) h = refl
pair (a ∷ b ∷ c ∷ l) h = absurd (suc-ne-zero _ (suc_inj (suc_inj h)))

-- a store, and bytes laid up to it
pub over_last : (o : List ℕ) (at : ℕ) (b : List ℕ) (x : ℕ) → at + length b < length o → overlaid (set o (at + length b) x) at b ≡ overlaid o at (b ++ x ∷ [])
over_last o at b x h =
    let rest : drop (at + length b) (set o (at + length b) x) ≡ x ∷ drop (suc (at + length b)) o =
    drop-cons (set o (at + length b) x) (at + length b) 0 (rw (length-set o (at + length b) x) h)
    ∙ rw (get_or-set_same o (at + length b) x 0 h, drop-set-lt (suc (at + length b)) o (at + length b) x (omega arith)) in
    let sum : at + (length b + 1) ≡ suc (at + length b) = omega arith in
    rw (take-set-le at o (at + length b) x (omega arith), rest, length-append b (x ∷ []), sum) (simp append_assoc)

-- bytes laid over, and a store behind them
pub over-set : (o : List ℕ) (at : ℕ) (b : List ℕ) (x : ℕ) → at + length b < length o → set (overlaid o at b) (at + length b) x ≡ overlaid o at (b ++ x ∷ [])
over-set o at b x h =
    sets-eq (x ∷ []) (overlaid o at b) (at + length b) (rw (over-length o at b (omega arith)) (omega arith)) ∙ over-more o at b (x ∷ []) (omega arith)

-- four parts, each laid where the one before it ends
pub over_four : (o : List ℕ) (at i j k : ℕ) (a b c d : List ℕ) → i ≡ at + length a → j ≡ i + length b → k ≡ j + length c → k + length d ≤ length o
    → overlaid (overlaid (overlaid (overlaid o at a) i b) j c) k d ≡ overlaid o at (a ++ b ++ c ++ d)
over_four o at i j k a b c d hi hj hk h =
    let two : overlaid (overlaid o at a) i b ≡ overlaid o at (a ++ b) = rw hi (over-more o at a b (omega arith)) in
    let p : j ≡ at + length (a ++ b) = rw (length-append a b) (omega arith) in
    let three : overlaid (overlaid o at (a ++ b)) j c ≡ overlaid o at (a ++ b ++ c) = rw p (over-more o at (a ++ b) c (omega (arith, p))) in
    let q : k ≡ at + length (a ++ b ++ c) = rw (length-append (a ++ b) c) (omega (arith, p)) in
    rw (two, three) (rw q (over-more o at (a ++ b ++ c) d (omega (arith, q))))
