-- Import, line by line: what is made of a text's first line, and of the text behind it. Assumes nothing.
use Prim.Native.Nat.{ℕ, zero, suc, ◌*◌, ◌≤◌, ◌<◌}
use native.Mathlib.Omega.{arith}
use native.Mathlib.Decide.{dec_le}
use mathlib.Core.Path.{◌≡◌, refl, sym, ap, subst, ◌∙◌}
use mathlib.Core.Logic.{inl, inr}
use mathlib.Core.List.{List, [], ◌∷◌, ◌++◌, append_assoc, append-nil}
use lib.ListN.{length, length-append}
use borrow.Author.Tests.{le-ltb, lt-ltb}
use Rattle.entries.specs.Entry.{entry_bytes}
use Rattle.texts.specs.Types.{TooLong, NotALine}
use Rattle.texts.specs.Line.{newline, Line, up_to, past}
use Rattle.texts.specs.Made.{Made, good, bad, behind, then, gathered}
use Rattle.texts.specs.Text.{newlines, closed, following, line_made, unclosed, lines_made, imported, bytes_made}
use Rattle.texts.specs.Form.{Fitting, entry_from, Lines, none, more}
use Rattle.texts.proofs.Parts.{Free, up_to_lem, past_it, up_to-free, parted, free-newlines, newlines-append}
use Rattle.texts.proofs.Lines.{bare_text, bare-free, made_good, line_most, bad-good}

pub gathered-more : (m : Made) (ms : List Made) → gathered (m ∷ ms) ≡ then m (gathered ms)
unfolding gathered
gathered-more m ms = refl

pub behind-none : (m : Made) → behind [] m ≡ m
behind-none (good c) = refl
behind-none (bad r) = refl

pub behind_more : (a b : List ℕ) (m : Made) → behind a (behind b m) ≡ behind (a ++ b) m
behind_more a b (good c) = ap good (sym (append_assoc a b c))
behind_more a b (bad r) = refl

pub imported_made : (t : List ℕ) → newlines t ≤ 6553 → imported t ≡ bytes_made t
unfolding imported
imported_made t h = rw (le-ltb 6553 (newlines t) h)

pub imported-long : (t : List ℕ) → 6553 < newlines t → imported t ≡ bad TooLong
unfolding imported
imported-long t h = rw (lt-ltb 6553 (newlines t) h)

pub imported-good : (t s : List ℕ) → imported t ≡ good s → (newlines t ≤ 6553) × (bytes_made t ≡ good s)
imported-good t s h =
    elim (dec_le (newlines t) 6553) [ yes l ↦ (l, sym (imported_made t l) ∙ h) | no l ↦ absurd (bad-good TooLong s (sym (imported-long t (omega arith)) ∙ h)) ]

pub newlines-more : (v t : List ℕ) → Free newline v → newlines (v ++ newline ∷ t) ≡ suc (newlines t)
unfolding newlines
newlines-more v t f = omega (arith, newlines-append v (newline ∷ t), free-newlines v f)

closed-more : (n : ℕ) (v t : List ℕ) → Free newline v → closed (suc n) (v ++ newline ∷ t) ≡ v ∷ closed n t
unfolding closed
closed-more n v t f = rw (up_to_lem newline v t f, past_it newline v t f)

following-more : (n : ℕ) (v t : List ℕ) → Free newline v → following (suc n) (v ++ newline ∷ t) ≡ following n t
unfolding following
following-more n v t f = rw (past_it newline v t f)

-- the first line, and what follows it
pub made_more : (v t : List ℕ) → Free newline v → bytes_made (v ++ newline ∷ t) ≡ then (line_made v) (bytes_made t)
made_more v t f = rw (newlines-more v t f, closed-more (newlines t) v t f, following-more (newlines t) v t f) (gathered-more (line_made v) (lines_made t))

-- no newline
pub made_last : (u : List ℕ) → Free newline u → bytes_made u ≡ gathered (unclosed u)
unfolding closed following
made_last u f = rw (free-newlines u f)

-- induction along the lines
pub by_lines : (R : List ℕ → Type 0) → ((u : List ℕ) → Free newline u → R u) → ((v t : List ℕ) → Free newline v → R t → R (v ++ newline ∷ t)) → (t : List ℕ) → R t
by_lines R last first t = go (length t) t (omega arith)
  where
    go : (n : ℕ) (t : List ℕ) → length t ≤ n → R t
    go zero [] h = last [] tt
    go zero (c ∷ t) h = absurd (omega arith)
    go (suc n) t h =
        elim (parted newline t) [
          | inl f ↦ last t f
          | inr p ↦ subst R (sym p) (first (up_to newline t) (past newline t) (up_to-free newline t)
              (go n (past newline t) (omega (arith, ap (length {A = ℕ}) p, length-append (up_to newline t) (newline ∷ past newline t)))))
        ]

pub regroup : (v t u : List ℕ) → v ++ newline ∷ [] ++ t ++ u ≡ v ++ newline ∷ (t ++ u)
regroup v t u = append_assoc (v ++ newline ∷ []) t u ∙ append_assoc v (newline ∷ []) (t ++ u)

pub lines_one : (w : List ℕ) (l : Line w) → Fitting l → Lines 1 w (entry_bytes (entry_from l))
lines_one w l f = subst (λ (x : List ℕ). Lines 1 x (entry_bytes (entry_from l))) (append-nil w) (more w [] [] 0 l f none)

-- what is made of lines that fit, and of what follows them
pub lines_made_lem : {n : ℕ} {t s : List ℕ} → Lines n t s → (u : List ℕ) → bytes_made (t ++ u) ≡ behind s (bytes_made u)
lines_made_lem none u = sym (behind-none (bytes_made u))
lines_made_lem (more w t s n l f r) u =
    ap bytes_made (ap (λ (x : List ℕ). x ++ t ++ u) l.line ∙ regroup (bare_text l) t u) ∙ made_more (bare_text l) (t ++ u) (bare-free l)
    ∙ rw (made_good l f, lines_made_lem r u) (behind_more (entry_bytes (entry_from l)) s (bytes_made u))

pub lines_whole : {n : ℕ} {t s : List ℕ} → Lines n t s → bytes_made t ≡ good s
unfolding newlines closed following gathered
lines_whole {n} {t} {s} ls = ap bytes_made (sym (append-nil t)) ∙ lines_made_lem ls [] ∙ ap good (append-nil s)

pub lines_count : {n : ℕ} {t s : List ℕ} → Lines n t s → newlines t ≡ n
unfolding newlines
lines_count none = refl
lines_count (more w t s n l f r) =
    newlines-append w t ∙ rw (lines_count r, l.line) (omega (arith, newlines-more (bare_text l) [] (bare-free l)))

-- ten bytes a line, of at most 23
pub lines_ten : {n : ℕ} {t s : List ℕ} → Lines n t s → length s ≡ 10 * n
lines_ten none = refl
lines_ten (more w t s n l f r) = omega (arith, length-append (entry_bytes (entry_from l)) s, lines_ten r)

pub lines_most : {n : ℕ} {t s : List ℕ} → Lines n t s → length t ≤ 23 * n
lines_most none = omega arith
lines_most (more w t s n l f r) = omega (arith, length-append w t, line_most l f, lines_most r)

-- nothing is made of nothing
pub nothing_made : bytes_made [] ≡ good []
unfolding newlines closed following gathered
nothing_made = refl

-- a line that is not closed
pub open_bad : (u : List ℕ) → 1 ≤ length u → gathered (unclosed u) ≡ bad NotALine
unfolding gathered
open_bad [] h = absurd (omega arith)
open_bad (c ∷ u) h = refl

-- a single line
pub lines_single : {n : ℕ} {t s : List ℕ} → Lines n t s → n ≡ 1 → (l : Line t) × Fitting l × (s ≡ entry_bytes (entry_from l))
lines_single none h = absurd (omega arith)
lines_single (more w t s zero l f none) h = (
  record {
    task = l.task;
    kind = l.kind;
    cell = l.cell;
    value = l.value;
    task_number = l.task_number;
    kind_number = l.kind_number;
    cell_number = l.cell_number;
    value_number = l.value_number;
    line = append-nil w ∙ l.line;
  },
  f,
  refl,
)
lines_single (more w t s (suc n) l f r) h = absurd (omega arith)
