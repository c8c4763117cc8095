-- What becomes of any text and of any bytes, by what stands in them. Assumes nothing.
use Prim.Native.Nat.{ℕ, ◌<◌}
use native.Mathlib.Omega.{arith}
use mathlib.Core.Path.{◌≡◌, subst, ◌∙◌}
use mathlib.Core.List.{List, [], ◌∷◌, ◌++◌, append_assoc}
use lib.ListN.{length}
use Rattle.wire.specs.Bytes.{Bytes}
use Rattle.entries.specs.Entry.{entry_bytes}
use Rattle.entries.specs.Schedule.{cut}
use Rattle.texts.specs.Types.{Entry, NotZero, NotALine, TooLarge, WrongMark, TooShort}
use Rattle.texts.specs.Line.{newline, Line, line_of}
use Rattle.texts.specs.Made.{Made, good, bad, behind, then, gathered}
use Rattle.texts.specs.Text.{newlines, unclosed, bytes_made, text_made}
use Rattle.texts.specs.Form.{Fitting, entry_from, Lines, none, more, Imports, all_fit, not_closed, no_line, too_large, Exports, all_whole, cut_off, no_mark, not_zero}
use Rattle.texts.proofs.Parts.{free-newlines, newlines-free}
use Rattle.texts.proofs.Lines.{MadeOf, not_line, large, fit, made_of, made_none, line-free, line_large, bad-good, good-good, Plain}
use Rattle.texts.proofs.Importing.{open_bad, made_more, made_last, by_lines, lines_made_lem, lines_whole, regroup}
use Rattle.texts.proofs.Exporting.{from_more, from_short, by_entries, lines_from, lines_all_from, bytes_front, bytes_rest, EntryMade, unmarked, spoilt, plain, entry_view, entry_unmarked, entry_spoilt, lines_entry}

-- Import. What is described is made.
pub imports_made : {t : List ℕ} {m : Made} → Imports t m → bytes_made t ≡ m
imports_made (all_fit ls) = lines_whole ls
imports_made (not_closed ls u h z) = lines_made_lem ls u ∙ rw (made_last u (newlines-free u z), open_bad u h)
imports_made (no_line ls v u z n) = lines_made_lem ls (v ++ newline ∷ u) ∙ rw (made_more v u (newlines-free v z), made_none v n)
imports_made (too_large ls v u l n) = lines_made_lem ls (v ++ newline ∷ u) ∙ rw (made_more v u (line-free v l), line_large v l n)

-- A line that fits in front changes only the bytes.
in_front : (v : List ℕ) (l : Line (v ++ newline ∷ [])) → Fitting l → {t : List ℕ} {m : Made} → Imports t m → Imports (v ++ newline ∷ t) (behind (entry_bytes (entry_from l)) m)
in_front v l f (all_fit {n} {t} {s} ls) =
    subst (λ (x : List ℕ). Imports x (good (entry_bytes (entry_from l) ++ s))) (append_assoc v (newline ∷ []) t) (all_fit (more (v ++ newline ∷ []) t s n l f ls))
in_front v l f (not_closed {n} {t} {s} ls u h z) =
    subst (λ (x : List ℕ). Imports x (bad NotALine)) (regroup v t u) (not_closed (more (v ++ newline ∷ []) t s n l f ls) u h z)
in_front v l f (no_line {n} {t} {s} ls w u z k) =
    subst (λ (x : List ℕ). Imports x (bad NotALine)) (regroup v t (w ++ newline ∷ u)) (no_line (more (v ++ newline ∷ []) t s n l f ls) w u z k)
in_front v l f (too_large {n} {t} {s} ls w u k j) =
    subst (λ (x : List ℕ). Imports x (bad TooLarge)) (regroup v t (w ++ newline ∷ u)) (too_large (more (v ++ newline ∷ []) t s n l f ls) w u k j)

-- Every text is described.
pub made_imports : (t : List ℕ) → Imports t (bytes_made t)
unfolding gathered
made_imports =
    by_lines (λ t. Imports t (bytes_made t)) (λ u f. rw (made_last u f) (last u (free-newlines u f))) (λ v t f ih. rw (made_more v t f) (first v t (free-newlines v f) ih (made_of v)))
  where
    last : (u : List ℕ) → newlines u ≡ 0 → Imports u (gathered (unclosed u))
    last [] z = all_fit none
    last (c ∷ u) z = not_closed none (c ∷ u) (omega arith) z

    first : (v t : List ℕ) → newlines v ≡ 0 → Imports t (bytes_made t) → {m : Made} → MadeOf v m → Imports (v ++ newline ∷ t) (then m (bytes_made t))
    first v t z ih (not_line n) = no_line none v t z n
    first v t z ih (large l n) = too_large none v t l n
    first v t z ih (fit l f) = in_front v l f ih

-- Only lines that fit give bytes.
pub made_lines : (t s : List ℕ) → bytes_made t ≡ good s → (n : ℕ) × Lines n t s
made_lines t s = go (made_imports t)
  where
    go : {t : List ℕ} {m : Made} → Imports t m → m ≡ good s → (n : ℕ) × Lines n t s
    go (all_fit {n} {t} {s = r} ls) h = (n, subst (Lines n t) (good-good r s h) ls)
    go (not_closed ls u l z) h = absurd (bad-good NotALine s h)
    go (no_line ls v u z k) h = absurd (bad-good NotALine s h)
    go (too_large ls v u l k) h = absurd (bad-good TooLarge s h)

-- Export. What is described is made.
pub exports_made : {s : List ℕ} {m : Made} → Exports s m → text_made s ≡ m
exports_made (all_whole ls) = lines_all_from ls
exports_made (cut_off ls u h k) = lines_from ls u ∙ rw (from_short u h k)
exports_made (no_mark ls b u ten q) = lines_from ls (b ++ u) ∙ rw (from_more b u ten, entry_unmarked b ten q)
exports_made (not_zero ls b u ten q n) = lines_from ls (b ++ u) ∙ rw (from_more b u ten, entry_spoilt b ten q n)

-- An entry of a line in front changes only the text.
entry_in_front : (e : Entry) → Plain e → {s : List ℕ} {m : Made} → Exports s m → Exports (entry_bytes e ++ s) (behind (line_of e) m)
entry_in_front e p (all_whole ls) = all_whole (lines_entry e p ls)
entry_in_front e p (cut_off ls u h k) = cut_off (lines_entry e p ls) u h k
entry_in_front e p (no_mark ls b u ten q) = no_mark (lines_entry e p ls) b u ten q
entry_in_front e p (not_zero ls b u ten q k) = not_zero (lines_entry e p ls) b u ten q k

-- Every schedule is described.
pub made_exports : (s : List ℕ) → Bytes s → Exports s (text_made s)
unfolding cut gathered
made_exports =
    by_entries (λ s. Bytes s → Exports s (text_made s)) (λ s l small. short s l)
    (λ b s ten ih small. rw (from_more b s ten) (first b s ten (ih (bytes_rest b s small)) (entry_view b ten (bytes_front b s small))))
  where
    short : (s : List ℕ) → length s < 10 → Exports s (text_made s)
    short [] l = all_whole none
    short (c ∷ s) l = rw (from_short (c ∷ s) (omega arith) l) (cut_off none (c ∷ s) (omega arith) l)

    first : (b s : List ℕ) → length b ≡ 10 → Exports s (text_made s) → {m : Made} → EntryMade b m → Exports (b ++ s) (then m (text_made s))
    first b s ten ih (unmarked q) = no_mark none b s ten q
    first b s ten ih (spoilt q n) = not_zero none b s ten q n
    first b s ten ih (plain e p same) = subst (λ (x : List ℕ). Exports (x ++ s) (behind (line_of e) (text_made s))) same (entry_in_front e p ih)

-- Only entries of lines give a text.
pub from_lines : (s : List ℕ) → Bytes s → (t : List ℕ) → text_made s ≡ good t → (n : ℕ) × Lines n t s
from_lines s small t = go (made_exports s small)
  where
    go : {s : List ℕ} {m : Made} → Exports s m → m ≡ good t → (n : ℕ) × Lines n t s
    go (all_whole {n} {t = r} {s} ls) h = (n, subst (λ (x : List ℕ). Lines n x s) (good-good r t h) ls)
    go (cut_off ls u l k) h = absurd (bad-good TooShort t h)
    go (no_mark ls b u ten q) h = absurd (bad-good WrongMark t h)
    go (not_zero ls b u ten q k) h = absurd (bad-good NotZero t h)
