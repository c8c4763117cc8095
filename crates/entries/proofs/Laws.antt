-- An entry and its ten bytes: each gives the other back. Assumes nothing.
use Rattle.std.specs.Prelude.{Result, Ok, Err}
use Prim.Native.Nat.{ℕ, zero, suc, ◌+◌, ◌*◌, ◌/◌, ◌%◌, ◌≤◌, ◌<◌}
use native.Mathlib.Omega.{arith}
use native.Mathlib.Decide.{dec_lt}
use mathlib.Core.Path.{◌≡◌, refl, sym, ap, ◌∙◌}
use mathlib.Core.Bool.{Bool, true, false}
use mathlib.Core.List.{List, [], ◌∷◌, ◌++◌}
use lib.ListN.{length, get_or, take, drop, take-append-drop}
use lib.Seq.{take_all}
use lib.Dec.{eqb, ltb}
use borrow.Author.Tests.{le-ltb, ltb-false, eqb-true}
use Rattle.tallies.proofs.Lists.{both}
use Rattle.wire.specs.Bytes.{Bytes, entry_mark, marked, word, word_at, little_endian}
use Rattle.entries.specs.Types.{WrongMark, TooShort, Entry}
use Rattle.entries.specs.Entry.{entry_at, entry_of, entry_bytes}
use Rattle.answers.specs.declared.Refusal.{Refusal}

-- the first n elements, written out
abbrev firsts : ℕ → (ℕ → ℕ) → List ℕ
firsts zero f = []
firsts (suc n) f = f 0 ∷ firsts n (λ i. f (suc i))

take_firsts : (n : ℕ) (s : List ℕ) → n ≤ length s → take n s ≡ firsts n (λ i. get_or s i 0)
take_firsts zero s h = refl
take_firsts (suc n) [] h = absurd (omega arith)
take_firsts (suc n) (x ∷ s) h = ap (λ (l : List ℕ). x ∷ l) (take_firsts n s (omega arith))

-- four bytes give a number back, and a number of four bytes gives them back
word_back : (y : ℕ) → word (y % 256) (y / 256 % 256) (y / 65536 % 256) (y / 16777216) ≡ y
word_back y = omega arith

little_back : (a b c d : ℕ) → a < 256 → b < 256 → c < 256 → d < 256 → little_endian (word a b c d) ≡ a ∷ b ∷ c ∷ d ∷ []
little_back a b c d ha hb hc hd =
    let q1 : word a b c d / 256 ≡ b + 256 * (c + 256 * d) = omega arith in
    let q2 : word a b c d / 65536 ≡ c + 256 * d = omega arith in
    let q3 : word a b c d / 16777216 ≡ d = omega arith in
    let e0 : word a b c d % 256 ≡ a = omega arith in
    let e1 : (b + 256 * (c + 256 * d)) % 256 ≡ b = omega arith in
    let e2 : (c + 256 * d) % 256 ≡ c = omega arith in
    rw (q1, q2, q3, e0, e1, e2)

-- an entry's bytes, whatever follows them, are read as that entry
pub entry_back : (e : Entry) (w : List ℕ) → entry_of (entry_bytes e ++ w) ≡ Ok e
unfolding entry_of marked word_at
entry_back e w = rw (le-ltb (length (entry_bytes e ++ w)) 10 (omega arith), word_back e.value)

-- what is read is in the first ten bytes
pub entry_front : (s : List ℕ) → entry_of (take 10 s) ≡ entry_of s
unfolding entry_of marked word_at
entry_front s =
    elim (dec_lt (length s) 10) [
      | yes l ↦ ap entry_of (take_all 10 s (omega arith))
      | no l ↦ (let e = take_firsts 10 s (omega arith) in
          ap entry_of e ∙ fronted (λ i. get_or s i 0) (drop 10 s) ∙ ap (λ (l : List ℕ). entry_of (l ++ drop 10 s)) (sym e) ∙ ap entry_of (take-append-drop 10 s))
    ]
  where
    fronted : (f : ℕ → ℕ) (w : List ℕ) → entry_of (firsts 10 f) ≡ entry_of (firsts 10 f ++ w)
    fronted f w = rw (le-ltb (length (firsts 10 f ++ w)) 10 (omega arith))

-- what an entry that is read says of the bytes
pub record Read (s : List ℕ) (e : Entry) : Type 0 where
  pub long : 10 ≤ length s
  pub mark : (get_or s 0 0 ≡ 0x45) × (get_or s 1 0 ≡ 0x4E)
  pub task : e.task.0 ≡ get_or s 2 0
  pub kind : e.kind ≡ get_or s 3 0
  pub cell : e.cell.0 ≡ get_or s 4 0
  pub spare : e.spare ≡ get_or s 5 0
  pub value : e.value ≡ word_at s 6

inside : {a b : Entry} → ◌≡◌ {A = Result Entry Refusal} (Ok a) (Ok b) → a ≡ b
inside h = cc

pub entry_read : (s : List ℕ) (e : Entry) → entry_of s ≡ Ok e → Read s e
unfolding entry_of marked
entry_read s e = go (ltb (length s) 10) (marked entry_mark s) refl refl
  where
    go : (t m : Bool) → ltb (length s) 10 ≡ t → marked entry_mark s ≡ m → entry_of s ≡ Ok e → Read s e
    go true m q r h = let z : ◌≡◌ {A = Result Entry Refusal} (Err TooShort) (Ok e) = rw q at h in let n : ◌≡◌ {A = ℕ} 0 1 = cc in absurd (omega arith)
    go false false q r h = let z : ◌≡◌ {A = Result Entry Refusal} (Err WrongMark) (Ok e) = rw (q, r) at h in let n : ◌≡◌ {A = ℕ} 0 1 = cc in absurd (omega arith)
    go false true q r h =
        let z = rw (q, r) at h in
        let m = both (eqb (get_or s 0 0) 0x45) (eqb (get_or s 1 0) 0x4E) r in
        record {
          long = ltb-false (length s) 10 q;
          mark = (eqb-true (get_or s 0 0) 0x45 m.0, eqb-true (get_or s 1 0) 0x4E m.1);
          task = ap (λ (x : Entry). x.task.0) (sym (inside z));
          kind = ap (λ (x : Entry). x.kind) (sym (inside z));
          cell = ap (λ (x : Entry). x.cell.0) (sym (inside z));
          spare = ap (λ (x : Entry). x.spare) (sym (inside z));
          value = ap (λ (x : Entry). x.value) (sym (inside z));
        }

-- ten bytes that are read as an entry are that entry's bytes
pub bytes_back : (b : List ℕ) (e : Entry) → Bytes b → length b ≡ 10 → entry_of b ≡ Ok e → b ≡ entry_bytes e
unfolding word_at
bytes_back b e small ten h =
    let r = entry_read b e h in
    let four : little_endian (word_at b 6) ≡ get_or b 6 0 ∷ get_or b 7 0 ∷ get_or b 8 0 ∷ get_or b 9 0 ∷ [] =
    little_back (get_or b 6 0) (get_or b 7 0) (get_or b 8 0) (get_or b 9 0) (small 6) (small 7) (small 8) (small 9) in
    sym (take_all 10 b (omega arith)) ∙ take_firsts 10 b (omega arith) ∙ rw (r.mark.0, r.mark.1, r.task, r.kind, r.cell, r.spare, r.value, four)

-- it is the one that the ten bytes are
pub read_at : (s : List ℕ) (e : Entry) → entry_of s ≡ Ok e → entry_of s ≡ Ok (entry_at s)
read_at s e h = let r = entry_read s e h in rw (← r.task, ← r.kind, ← r.cell, ← r.spare, ← r.value) h

-- and its value has 32 bits
pub value-small : (s : List ℕ) (e : Entry) → Bytes s → entry_of s ≡ Ok e → e.value < 4294967296
unfolding word_at
value-small s e small h = rw (entry_read s e h).value (omega (arith, small 6, small 7, small 8, small 9))

-- ten bytes with the mark are read
pub entry-marked : (b : List ℕ) → length b ≡ 10 → marked entry_mark b ≡ true → entry_of b ≡ Ok (entry_at b)
unfolding entry_of
entry-marked b ten q = rw (le-ltb (length b) 10 (omega arith), q)
