-- Piece by piece through an input, in either direction: what is left of it gives the whole. `make` is what a direction makes of an input. Assumes nothing.
use Rattle.std.specs.Prelude.{Result, Ok, Err}
use Prim.Native.Nat.{ℕ, ◌+◌, ◌≤◌}
use native.Mathlib.Omega.{arith}
use native.Mathlib.Decide.{dec_le}
use mathlib.Core.Path.{◌≡◌, refl, sym, ap, ◌∙◌}
use mathlib.Core.Bool.{true, false≢true}
use mathlib.Core.List.{List, [], ◌++◌}
use lib.Seq.{take_at}
use lib.ListN.{length, take, drop, length-append}
use Rattle.std.proofs.lemmas.List.{nil_from_length}
use borrow.Author.Tests.{lt-ltb, le-ltb}
use Rattle.wire.specs.Bytes.{overlaid}
use Rattle.wire.proofs.Laws.{over_none, over-more, over-length}
use Rattle.texts.specs.Types.{Refusal}
use Rattle.texts.specs.Made.{Made, good, bad, behind, bytes_of, answered, laid, text_bytes}
use Rattle.texts.specs.Steps.{length_of, is_good}

-- k bytes more
abbrev pub plus : ℕ → Result ℕ Refusal → Result ℕ Refusal
plus k (Ok n) = Ok (k + n)
plus k (Err r) = Err r

plus_behind : (k : ℕ) (b : List ℕ) (m : Made) → plus k (length_of (behind b m)) ≡ plus (k + length b) (length_of m)
plus_behind k b (good c) = let e : k + (length b + length c) ≡ k + length b + length c = omega arith in rw (length-append b c, e)
plus_behind k b (bad r) = refl

good-behind : (b : List ℕ) (m : Made) → is_good (behind b m) ≡ true → (is_good m ≡ true) × (bytes_of (behind b m) ≡ b ++ bytes_of m)
good-behind b (good c) h = (refl, refl)
good-behind b (bad r) h = absurd (false≢true h)

module _ (make : List ℕ → Made) (s : List ℕ) where
  -- `rest` is left of the input, and `made` bytes came of what is in front of it
  abbrev pub Checking : List ℕ → ℕ → Type 0
  Checking rest made = plus made (length_of (make rest)) ≡ length_of (make s)

  pub check_on : (rest next b : List ℕ) (made : ℕ) → Checking rest made → make rest ≡ behind b (make next) → Checking next (made + length b)
  check_on rest next b made c e = sym (plus_behind made b (make next)) ∙ (rw e at c)

  pub check_stops : (rest : List ℕ) (made : ℕ) (r : Refusal) → Checking rest made → make rest ≡ bad r → Err r ≡ length_of (make s)
  check_stops rest made r c e = rw e at c

  pub check_ends : (rest : List ℕ) (made : ℕ) → Checking rest made → length rest ≡ 0 → make [] ≡ good [] → Ok made ≡ length_of (make s)
  check_ends rest made c h e =
      let none : rest ≡ [] = nil_from_length rest h in
      let sum : made ≡ made + 0 = omega arith in
      ap Ok sum ∙ (rw (none, e) at c)

  -- all is good, and what comes of the input in front of `rest` is written, in the first `to` bytes of the buffer
  pub record Writing (o₀ rest : List ℕ) (to : ℕ) (o : List ℕ) : Type 0 where
    pub fine : is_good (make rest) ≡ true
    pub room : to + length (bytes_of (make rest)) ≤ length o
    pub whole : overlaid o to (bytes_of (make rest)) ≡ overlaid o₀ 0 (bytes_of (make s))

  module _ (o₀ rest : List ℕ) (to : ℕ) (o : List ℕ) (w : Writing o₀ rest to o) where
    pub write_room : (next b : List ℕ) → make rest ≡ behind b (make next) → to + length b ≤ length o
    write_room next b e =
        let g = good-behind b (make next) (rw e at w.fine) in
        omega (arith, rw e at w.room, ap (length {A = ℕ}) g.1, length-append b (bytes_of (make next)))

    pub write_on : (next b : List ℕ) → make rest ≡ behind b (make next) → Writing o₀ next (to + length b) (overlaid o to b)
    write_on next b e =
        let g = good-behind b (make next) (rw e at w.fine) in
        let fits = write_room next b e in
        record {
          fine = g.0;
          room = rw (over-length o to b fits) (omega (arith, rw e at w.room, ap (length {A = ℕ}) g.1, length-append b (bytes_of (make next))));
          whole = over-more o to b (bytes_of (make next)) fits ∙ ap (overlaid o to) (sym g.1) ∙ (rw e at w.whole);
        }

    pub write_stops : (r : Refusal) → make rest ≡ bad r → ⊥
    write_stops r e = false≢true (rw e at w.fine)

    pub write_ends : length rest ≡ 0 → make [] ≡ good [] → o ≡ overlaid o₀ 0 (bytes_of (make s))
    write_ends h e =
        let none : rest ≡ [] = nil_from_length rest h in
        sym (over_none o to) ∙ (rw (none, e) at w.whole)

-- what is written has room, and the buffer keeps its length
pub answered-fits : (m : Made) (room : ℕ) → text_bytes (answered m room) ≤ room
unfolding answered
answered-fits (bad r) room = omega arith
answered-fits (good b) room =
    elim (dec_le (length b) room) [
      | yes l ↦ rw (le-ltb room (length b) l) l
      | no l ↦ rw (lt-ltb room (length b) (omega arith)) (omega arith)
    ]

pub laid-length : (m : Made) (o : List ℕ) → length (laid m o) ≡ length o
unfolding laid
laid-length (bad r) o = refl
laid-length (good b) o =
    elim (dec_le (length b) (length o)) [
      | yes l ↦ rw (le-ltb (length o) (length b) l) (over-length o 0 b (omega arith))
      | no l ↦ rw (lt-ltb (length o) (length b) (omega arith))
    ]

-- what is written stands at the front of the buffer
pub written-laid : (m : Made) (o : List ℕ) (n : ℕ) → answered m (length o) ≡ Ok n → (b : List ℕ) × (m ≡ good b) × (take n (laid m o) ≡ b)
unfolding answered laid
written-laid (bad r) o n h = absurd cc
written-laid (good b) o n h =
    elim (dec_le (length b) (length o)) [
      | yes l ↦ let e : length b ≡ n = cc (rw (le-ltb (length o) (length b) l) at h) in (b, refl, rw (le-ltb (length o) (length b) l) (take_at b (drop (0 + length b) o) n e))
      | no l ↦ absurd (cc (rw (lt-ltb (length o) (length b) (omega arith)) at h))
    ]
