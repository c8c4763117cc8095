-- Export, entry by entry: what is made of a schedule's first entry, and of the bytes behind it. Assumes nothing.
use Prim.Native.Nat.{ℕ, zero, suc, ◌+◌, ◌≤◌, ◌<◌}
use native.Mathlib.Omega.{arith}
use native.Mathlib.Decide.{dec_le, dec_lt, ℕ_discrete}
use mathlib.Core.Path.{◌≡◌, refl, sym, ap, subst, ◌∙◌}
use mathlib.Core.Logic.{◌≢◌}
use mathlib.Core.Bool.{Bool, true, false}
use mathlib.Core.List.{List, [], ◌∷◌, ◌++◌, map, append_assoc, append-nil}
use lib.ListN.{length, get_or, take, drop, length-append, length-drop, take-append-drop, get_or-append, get_or-eq_default}
use lib.Seq.{take_at, drop_at, length-take-le, get_or-append-add}
use borrow.Author.Tests.{le-ltb, lt-ltb, eq-eqb, ne_eqb}
use Rattle.entries.specs.Entry.{entry_at, entry_of, entry_bytes}
use Rattle.entries.specs.Schedule.{entries_in, cut, entries_of}
use Rattle.entries.proofs.Laws.{entry-marked, entry_back, entry_front, bytes_back, value-small}
use Rattle.texts.specs.Types.{Entry, NotZero, TooLong, WrongMark, TooShort}
use Rattle.wire.specs.Bytes.{Bytes, entry_mark, marked}
use Rattle.texts.specs.Line.{line_of}
use Rattle.texts.specs.Made.{Made, good, bad, behind, then, gathered}
use Rattle.texts.specs.Text.{entry_made, exported, text_made}
use Rattle.texts.specs.Form.{entry_from, Lines, none, more}
use Rattle.texts.proofs.Lines.{Plain, entry-line, entry_line_from, entry_line_fits, line_back, bad-good}
use Rattle.texts.proofs.Importing.{gathered-more, behind-none, behind_more}

pub bytes_front : (b s : List ℕ) → Bytes (b ++ s) → Bytes b
bytes_front b s h i =
    elim (dec_lt i (length b)) [
      | yes l ↦ rw (get_or-append b s 0 i l) at (h i)
      | no l ↦ rw (get_or-eq_default b 0 {n = i} (omega arith)) (omega arith)
    ]

pub bytes_rest : (b s : List ℕ) → Bytes (b ++ s) → Bytes s
bytes_rest b s h i = rw (get_or-append-add b s i 0) at (h (length b + i))

pub exported_made : (s : List ℕ) → length s ≤ 65530 → exported s ≡ text_made s
unfolding exported
exported_made s h = rw (le-ltb 65530 (length s) h)

pub exported-long : (s : List ℕ) → 65530 < length s → exported s ≡ bad TooLong
unfolding exported
exported-long s h = rw (lt-ltb 65530 (length s) h)

pub exported-good : (s t : List ℕ) → exported s ≡ good t → (length s ≤ 65530) × (text_made s ≡ good t)
exported-good s t h =
    elim (dec_le (length s) 65530) [ yes l ↦ (l, sym (exported_made s l) ∙ h) | no l ↦ absurd (bad-good TooLong t (sym (exported-long s (omega arith)) ∙ h)) ]

-- the first entry, and what follows it
entries-more : (b s : List ℕ) → length b ≡ 10 → entries_of (b ++ s) ≡ b ∷ entries_of s
unfolding cut
entries-more b s h =
    let e : entries_in (b ++ s) ≡ suc (entries_in s) = omega (arith, length-append b s) in
    rw (e, take_at b s 10 h, drop_at b s 10 h)

pub from_more : (b s : List ℕ) → length b ≡ 10 → text_made (b ++ s) ≡ then (entry_made b) (text_made s)
from_more b s h = rw (entries-more b s h) (gathered-more (entry_made b) (map entry_made (entries_of s)))

-- less than an entry
pub from_short : (s : List ℕ) → 1 ≤ length s → length s < 10 → text_made s ≡ bad TooShort
unfolding cut entry_of gathered
from_short s h k =
    let e : entries_in s ≡ 1 = omega arith in
    rw (e, entry_front s, lt-ltb (length s) 10 k)

-- induction along the entries
pub by_entries : (R : List ℕ → Type 0) → ((s : List ℕ) → length s < 10 → R s) → ((b s : List ℕ) → length b ≡ 10 → R s → R (b ++ s)) → (s : List ℕ) → R s
by_entries R short first s = go (length s) s (omega arith)
  where
    go : (n : ℕ) (s : List ℕ) → length s ≤ n → R s
    go zero s h = short s (omega arith)
    go (suc n) s h =
        elim (dec_lt (length s) 10) [
          | yes l ↦ short s l
          | no l ↦ subst R (take-append-drop 10 s)
              (first (take 10 s) (drop 10 s) (length-take-le 10 s (omega arith)) (go n (drop 10 s) (omega (arith, length-drop 10 s))))
        ]

-- what is made of the entries of lines that fit, and of what follows them
pub lines_from : {n : ℕ} {t s : List ℕ} → Lines n t s → (u : List ℕ) → text_made (s ++ u) ≡ behind t (text_made u)
lines_from none u = sym (behind-none (text_made u))
lines_from (more w t s n l f r) u =
    let b = entry_bytes (entry_from l) in
    ap text_made (append_assoc b s u) ∙ from_more b (s ++ u) refl ∙ rw (entry_back (entry_from l) [], line_back l, lines_from r u) (behind_more w t (text_made u))

pub lines_all_from : {n : ℕ} {t s : List ℕ} → Lines n t s → text_made s ≡ good t
unfolding cut gathered
lines_all_from {n} {t} {s} ls = ap text_made (sym (append-nil s)) ∙ lines_from ls [] ∙ ap good (append-nil t)

-- ten bytes, and what is made of them
pub data EntryMade (b : List ℕ) : Made → Type 0 where
  unmarked : marked entry_mark b ≡ false → EntryMade b (bad WrongMark)
  spoilt : marked entry_mark b ≡ true → get_or b 5 0 ≢ 0 → EntryMade b (bad NotZero)
  plain : (e : Entry) → Plain e → entry_bytes e ≡ b → EntryMade b (good (line_of e))

pub entry_unmarked : (b : List ℕ) → length b ≡ 10 → marked entry_mark b ≡ false → entry_made b ≡ bad WrongMark
unfolding entry_of
entry_unmarked b ten q = rw (le-ltb (length b) 10 (omega arith), q)

pub entry_spoilt : (b : List ℕ) → length b ≡ 10 → marked entry_mark b ≡ true → get_or b 5 0 ≢ 0 → entry_made b ≡ bad NotZero
unfolding entry_of
entry_spoilt b ten q n = rw (le-ltb (length b) 10 (omega arith), q, ne_eqb (get_or b 5 0) 0 n)

pub entry_view : (b : List ℕ) → length b ≡ 10 → Bytes b → EntryMade b (entry_made b)
entry_view b ten small = go (marked entry_mark b) refl
  where
    whole : marked entry_mark b ≡ true → Dec (get_or b 5 0 ≡ 0) → EntryMade b (entry_made b)
    whole q (no n) = rw (entry_spoilt b ten q n) (spoilt q n)
    whole q (yes z) =
        let w = entry-marked b ten q in
        let p : Plain (entry_at b) =
        record {
          task_byte = omega (arith, small 2);
          kind_byte = omega (arith, small 3);
          cell_byte = omega (arith, small 4);
          spare_zero = z;
          value_word = value-small b (entry_at b) small w;
        } in
        rw (w, eq-eqb (get_or b 5 0) 0 z) (plain (entry_at b) p (sym (bytes_back b (entry_at b) small ten w)))

    go : (x : Bool) → marked entry_mark b ≡ x → EntryMade b (entry_made b)
    go false q = rw (entry_unmarked b ten q) (unmarked q)
    go true q = whole q (ℕ_discrete (get_or b 5 0) 0)

-- an entry's line in front of lines
pub lines_entry : (e : Entry) → Plain e → {n : ℕ} {t s : List ℕ} → Lines n t s → Lines (suc n) (line_of e ++ t) (entry_bytes e ++ s)
lines_entry e p {n} {t} {s} ls =
    subst (λ (x : Entry). Lines (suc n) (line_of e ++ t) (entry_bytes x ++ s)) (entry_line_from e p.spare_zero) (more (line_of e) t s n (entry-line e) (entry_line_fits e p) ls)

-- nothing is made of nothing
pub nothing_from : text_made [] ≡ good []
unfolding cut gathered
nothing_from = refl
