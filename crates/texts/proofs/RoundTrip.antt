-- Schedules as text: which texts are taken and what becomes of them, and that each direction gives back what the other was given. Assumes nothing.
use Rattle.std.specs.Prelude.{Ok}
use Prim.Native.Nat.{ℕ, ◌+◌, ◌*◌, ◌≤◌, ◌<◌}
use native.Mathlib.Omega.{arith}
use mathlib.Core.Path.{◌≡◌, sym, ap, ◌∙◌}
use mathlib.Core.List.{List, [], ◌∷◌, ◌++◌}
use lib.ListN.{length, length-append, take}
use Rattle.wire.specs.Bytes.{Bytes}
use Rattle.entries.specs.Entry.{entry_bytes}
use Rattle.texts.specs.Types.{TooLong, NotALine, TooLarge}
use Rattle.texts.specs.Line.{newline, Line}
use Rattle.texts.specs.Made.{Made, good, bad, behind, answered, laid}
use Rattle.texts.specs.Text.{newlines, imported, exported}
use Rattle.texts.specs.Form.{Fitting, entry_from, Lines, none, Imports, not_closed, no_line, too_large, Exports}
use Rattle.texts.proofs.Parts.{newlines-append}
use Rattle.texts.proofs.Fates.{made_lines, from_lines, made_imports, imports_made, made_exports, exports_made}
use Rattle.texts.proofs.Importing.{imported_made, imported-long, imported-good, lines_made_lem, lines_whole, lines_count, lines_ten, lines_most, lines_one, lines_single}
use Rattle.texts.proofs.Exporting.{exported_made, exported-long, exported-good, lines_from, lines_all_from}
use Rattle.texts.proofs.Going.{written-laid}

module _ (t s : List ℕ) where
  -- A text of at most 6,553 lines that fit is taken, and becomes their entries' bytes.
  pub lines_import : {n : ℕ} → n ≤ 6553 → Lines n t s → imported t ≡ good s
  lines_import h ls = imported_made t (omega (arith, lines_count ls)) ∙ lines_whole ls

  -- No other text is taken.
  pub import_lines : imported t ≡ good s → (n : ℕ) × (n ≤ 6553) × Lines n t s
  import_lines h = let g = imported-good t s h in let r = made_lines t s g.1 in (r.0, omega (arith, g.0, lines_count r.1), r.1)

  -- The bytes of at most 6,553 entries that lines stand for become those lines.
  pub lines_export : {n : ℕ} → n ≤ 6553 → Lines n t s → exported s ≡ good t
  lines_export h ls = exported_made s (omega (arith, lines_ten ls)) ∙ lines_all_from ls

  -- No other bytes become a text.
  pub export_lines : Bytes s → exported s ≡ good t → (n : ℕ) × (n ≤ 6553) × Lines n t s
  export_lines small h = let g = exported-good s t h in let r = from_lines s small t g.1 in (r.0, omega (arith, g.0, lines_ten r.1), r.1)

  -- A schedule made into text and back is the same bytes.
  pub import_of_export : Bytes s → exported s ≡ good t → imported t ≡ good s
  import_of_export small h = let r = export_lines small h in lines_import r.1 r.2

  -- A text made into a schedule and back is the same text.
  pub export_of_import : imported t ≡ good s → exported s ≡ good t
  export_of_import h = let r = import_lines h in lines_export r.1 r.2

  -- Ten bytes for each newline.
  pub import_length : imported t ≡ good s → length s ≡ 10 * newlines t
  import_length h = let r = import_lines h in omega (arith, lines_ten r.2, lines_count r.2)

  -- Whatever the schedule, 150,719 bytes of text are enough.
  pub export_length : Bytes s → exported s ≡ good t → length t ≤ 150719
  export_length small h = let r = export_lines small h in omega (arith, r.1, lines_most r.2)

-- Lines that fit become their entries' bytes, and what follows them decides the rest: so the first bad line decides, whatever stands behind it.
pub lines_then : {n : ℕ} {t s : List ℕ} → Lines n t s → (u : List ℕ) → n + newlines u ≤ 6553 → imported (t ++ u) ≡ behind s (imported u)
lines_then {n} {t} {s} ls u h =
    imported_made (t ++ u) (omega (arith, newlines-append t u, lines_count ls)) ∙ lines_made_lem ls u ∙ ap (behind s) (sym (imported_made u (omega arith)))

-- The same of entries.
pub entries-then : {n : ℕ} {t s : List ℕ} → Lines n t s → (u : List ℕ) → 10 * n + length u ≤ 65530 → exported (s ++ u) ≡ behind t (exported u)
entries-then {n} {t} {s} ls u h =
    exported_made (s ++ u) (omega (arith, length-append s u, lines_ten ls)) ∙ lines_from ls u ∙ ap (behind t) (sym (exported_made u (omega arith)))

-- Every text of at most 6,553 newlines, and every schedule of at most 65,530 bytes, is what `Imports` and `Exports` describe, with what is made of it;
-- and what they describe is what is made.
pub import_described : (t : List ℕ) → newlines t ≤ 6553 → Imports t (imported t)
import_described t h = rw (imported_made t h) (made_imports t)

pub described_import : {t : List ℕ} {m : Made} → newlines t ≤ 6553 → Imports t m → imported t ≡ m
described_import {t} h d = imported_made t h ∙ imports_made d

pub export_described : (s : List ℕ) → Bytes s → length s ≤ 65530 → Exports s (exported s)
export_described s small h = rw (exported_made s h) (made_exports s small)

pub described_export : {s : List ℕ} {m : Made} → length s ≤ 65530 → Exports s m → exported s ≡ m
described_export {s} h d = exported_made s h ∙ exports_made d

-- Else 23, whatever the lines or the entries are.
pub import_long : (t : List ℕ) → 6553 < newlines t → imported t ≡ bad TooLong
import_long t h = imported-long t h

pub export_long : (s : List ℕ) → 65530 < length s → exported s ≡ bad TooLong
export_long s h = exported-long s h

-- One line that fits becomes its entry's ten bytes.
pub line_import : (w : List ℕ) (l : Line w) → Fitting l → imported w ≡ good (entry_bytes (entry_from l))
line_import w l f = lines_import w (entry_bytes (entry_from l)) (omega arith) (lines_one w l f)

-- And one that is taken has the form, and fits.
pub import_line : (w s : List ℕ) → newlines w ≡ 1 → imported w ≡ good s → (l : Line w) × Fitting l × (s ≡ entry_bytes (entry_from l))
import_line w s one h = let r = import_lines w s h in lines_single r.2 (sym (lines_count r.2) ∙ one)

-- A first line v that is bad, with anything or nothing behind it: 31 if it has the form, as a number is too large, else 30.
module _ (v u : List ℕ) (few : newlines (v ++ newline ∷ u) ≤ 6553) where
  pub line_large : (l : Line (v ++ newline ∷ [])) → (Fitting l → ⊥) → imported (v ++ newline ∷ u) ≡ bad TooLarge
  line_large l n = described_import few (too_large none v u l n)

  pub line-none : newlines v ≡ 0 → (Line (v ++ newline ∷ []) → ⊥) → imported (v ++ newline ∷ u) ≡ bad NotALine
  line-none z n = described_import few (no_line none v u z n)

-- A last line without its newline: 30.
pub line_open : {n : ℕ} {t s : List ℕ} → Lines n t s → n ≤ 6553 → (u : List ℕ) → 1 ≤ length u → newlines u ≡ 0 → imported (t ++ u) ≡ bad NotALine
line_open {n} {t} {s} ls h u l z = described_import (omega (arith, newlines-append t u, lines_count ls)) (not_closed ls u l z)

-- By what the functions hand back: a text that was imported into a buffer, n bytes of it, and is exported from there, is the same text; and entries
-- that were exported and are imported are the same entries.
pub import_then_export : (t o : List ℕ) (n : ℕ) → answered (imported t) (length o) ≡ Ok n → exported (take n (laid (imported t) o)) ≡ good t
import_then_export t o n h = let r = written-laid (imported t) o n h in rw r.2 (export_of_import t r.0 r.1)

pub export_then_import : (s o : List ℕ) (n : ℕ) → Bytes s → answered (exported s) (length o) ≡ Ok n → imported (take n (laid (exported s) o)) ≡ good s
export_then_import s o n small h = let r = written-laid (exported s) o n h in rw r.2 (import_of_export r.0 s small r.1)
