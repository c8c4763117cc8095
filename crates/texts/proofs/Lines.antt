-- One line: the test by which it is read is its form, and an entry's line is made into that entry's bytes and back. Assumes nothing.
use Prim.Native.Nat.{ℕ, ◌≤◌, ◌<◌}
use native.Mathlib.Omega.{arith}
use mathlib.Core.Path.{◌≡◌, refl, sym, ap, subst, ◌∙◌}
use mathlib.Core.Bool.{Bool, true, false, false≢true, ◌&&◌}
use mathlib.Core.List.{List, [], ◌∷◌, ◌++◌, append_assoc}
use lib.ListN.{length, take, length-append}
use lib.Seq.{take-append_seam}
use lib.Dec.{leb}
use borrow.Author.Tests.{le-leb, leb-true}
use Rattle.tallies.proofs.Lists.{both}
use Rattle.digits.specs.Decimal.{is_number, value_of, decimal}
use Rattle.digits.proofs.Laws.{number_digits, number-long, decimal-number, decimal-value, value-decimal, byte_length, word-length}
use Rattle.entries.specs.Entry.{entry_bytes}
use Rattle.texts.specs.Types.{Entry, Refusal, NotALine, TooLarge}
use Rattle.texts.specs.Line.{comma, newline, bare, Line, line_of, up_to, past, task_text, kind_text, cell_text, value_text, is_line, fits, entry_in}
use Rattle.texts.specs.Made.{Made, good, bad}
use Rattle.texts.specs.Text.{line_made}
use Rattle.texts.specs.Form.{Fits, Fitting, entry_from}
use Rattle.texts.proofs.Parts.{Free, free-append, digits_free, up_to_lem, past_it, past_shorter, parted_past}

-- the four texts that commas part are given back
module _ (t k c v : List ℕ) (ht : is_number t ≡ true) (hk : is_number k ≡ true) (hc : is_number c ≡ true) where
  number-free : (w : List ℕ) → is_number w ≡ true → Free comma w
  number-free w h = digits_free comma w (omega arith) (number_digits w h)

  right : bare t k c v ≡ t ++ comma ∷ (k ++ comma ∷ (c ++ comma ∷ v))
  right = simp append_assoc

  past_one : past comma (bare t k c v) ≡ k ++ comma ∷ (c ++ comma ∷ v)
  past_one = ap (past comma) right ∙ past_it comma t (k ++ comma ∷ (c ++ comma ∷ v)) (number-free t ht)

  past_two : past comma (past comma (bare t k c v)) ≡ c ++ comma ∷ v
  past_two = ap (past comma) past_one ∙ past_it comma k (c ++ comma ∷ v) (number-free k hk)

  pub task_text_lem : task_text (bare t k c v) ≡ t
  task_text_lem = ap (up_to comma) right ∙ up_to_lem comma t (k ++ comma ∷ (c ++ comma ∷ v)) (number-free t ht)

  pub kind_text_lem : kind_text (bare t k c v) ≡ k
  kind_text_lem = ap (up_to comma) past_one ∙ up_to_lem comma k (c ++ comma ∷ v) (number-free k hk)

  pub cell_text_lem : cell_text (bare t k c v) ≡ c
  cell_text_lem = ap (up_to comma) past_two ∙ up_to_lem comma c v (number-free c hc)

  pub value_text_lem : value_text (bare t k c v) ≡ v
  value_text_lem = ap (past comma) past_two ∙ past_it comma c v (number-free c hc)

-- four texts that are numbers
pub record Numbers (task kind cell value : List ℕ) : Type 0 where
  pub task_number : is_number task ≡ true
  pub kind_number : is_number kind ≡ true
  pub cell_number : is_number cell ≡ true
  pub value_number : is_number value ≡ true

pub numbers_in : (w : List ℕ) → is_line w ≡ true → Numbers (task_text w) (kind_text w) (cell_text w) (value_text w)
unfolding is_line
numbers_in w h =
    let p = both (is_number (task_text w) && is_number (kind_text w) && is_number (cell_text w)) (is_number (value_text w)) h in
    let q = both (is_number (task_text w) && is_number (kind_text w)) (is_number (cell_text w)) p.0 in
    let r = both (is_number (task_text w)) (is_number (kind_text w)) q.0 in
    record { task_number = r.0; kind_number = r.1; cell_number = q.1; value_number = p.1 }

-- they make up the line
pub bare_of : (w : List ℕ) → is_line w ≡ true → w ≡ bare (task_text w) (kind_text w) (cell_text w) (value_text w)
bare_of w h =
    let w1 = past comma w in
    let w2 = past comma w1 in
    let long = number-long (value_text w) (numbers_in w h).value_number in
    let p2 = parted_past comma w2 long in
    let p1 = parted_past comma w1 (omega (arith, long, past_shorter comma w2)) in
    let p0 = parted_past comma w (omega (arith, long, past_shorter comma w2, past_shorter comma w1)) in
    p0 ∙ ap (λ (l : List ℕ). task_text w ++ comma ∷ l) (p1 ∙ ap (λ (l : List ℕ). kind_text w ++ comma ∷ l) p2) ∙ simp append_assoc

is_not : (b : Bool) → (b ≡ true → ⊥) → b ≡ false
is_not true n = absurd (n refl)
is_not false n = refl

-- the test is the form
abbrev pub is_line_lem : (w : List ℕ) → is_line w ≡ true → Line (w ++ newline ∷ [])
is_line_lem w h =
    let n = numbers_in w h in
    record {
      task = task_text w;
      kind = kind_text w;
      cell = cell_text w;
      value = value_text w;
      task_number = n.task_number;
      kind_number = n.kind_number;
      cell_number = n.cell_number;
      value_number = n.value_number;
      line = ap (λ (l : List ℕ). l ++ newline ∷ []) (bare_of w h);
    }

-- a line closed is the line and its newline
abbrev pub bare_text : {w : List ℕ} → Line w → List ℕ
bare_text l = bare l.task l.kind l.cell l.value

unsnoc : (v w : List ℕ) (b : ℕ) → v ++ b ∷ [] ≡ w ++ b ∷ [] → v ≡ w
unsnoc v w b h =
    let e : length v ≡ length w = omega (arith, ap (length {A = ℕ}) h, length-append v (b ∷ []), length-append w (b ∷ [])) in
    sym (take-append_seam v (b ∷ [])) ∙ ap (take (length v)) h ∙ ap (λ (n : ℕ). take n (w ++ b ∷ [])) e ∙ take-append_seam w (b ∷ [])

module _ {w : List ℕ} (l : Line w) where
  pub line-task : task_text (bare_text l) ≡ l.task
  line-task = task_text_lem l.task l.kind l.cell l.value l.task_number l.kind_number l.cell_number

  pub line-kind : kind_text (bare_text l) ≡ l.kind
  line-kind = kind_text_lem l.task l.kind l.cell l.value l.task_number l.kind_number l.cell_number

  pub line-cell : cell_text (bare_text l) ≡ l.cell
  line-cell = cell_text_lem l.task l.kind l.cell l.value l.task_number l.kind_number l.cell_number

  pub line-value : value_text (bare_text l) ≡ l.value
  line-value = value_text_lem l.task l.kind l.cell l.value l.task_number l.kind_number l.cell_number

  pub bare-line : is_line (bare_text l) ≡ true
  unfolding is_line
  bare-line = rw (line-task, line-kind, line-cell, line-value, l.task_number, l.kind_number, l.cell_number, l.value_number)

  -- no newline in it but the last
  pub bare-free : Free newline (bare_text l)
  bare-free =
      let f : (w : List ℕ) → is_number w ≡ true → Free newline w = λ w h. digits_free newline w (omega arith) (number_digits w h) in
      let c : (w : List ℕ) → is_number w ≡ true → Free newline (comma ∷ w) = λ w h. (λ e. omega arith, f w h) in
      free-append newline (l.task ++ comma ∷ l.kind ++ comma ∷ l.cell) (comma ∷ l.value)
      (free-append newline (l.task ++ comma ∷ l.kind) (comma ∷ l.cell)
      (free-append newline l.task (comma ∷ l.kind) (f l.task l.task_number) (c l.kind l.kind_number)) (c l.cell l.cell_number)) (c l.value l.value_number)

pub bare_is : (w : List ℕ) (l : Line (w ++ newline ∷ [])) → w ≡ bare_text l
bare_is w l = unsnoc w (bare_text l) newline l.line

pub line_is : (w : List ℕ) → Line (w ++ newline ∷ []) → is_line w ≡ true
line_is w l = ap is_line (bare_is w l) ∙ bare-line l

-- the test of the sizes
pub fits_in : (w : List ℕ) → fits w ≡ true → Fits (task_text w) (kind_text w) (cell_text w) (value_text w)
unfolding fits
fits_in w h =
    let p = both (leb (value_of (task_text w)) 255 && leb (value_of (kind_text w)) 255 && leb (value_of (cell_text w)) 255) (leb (value_of (value_text w)) 4294967295) h in
    let q = both (leb (value_of (task_text w)) 255 && leb (value_of (kind_text w)) 255) (leb (value_of (cell_text w)) 255) p.0 in
    let r = both (leb (value_of (task_text w)) 255) (leb (value_of (kind_text w)) 255) q.0 in
    record {
      task_byte = leb-true (value_of (task_text w)) 255 r.0;
      kind_byte = leb-true (value_of (kind_text w)) 255 r.1;
      cell_byte = leb-true (value_of (cell_text w)) 255 q.1;
      value_word = omega (arith, leb-true (value_of (value_text w)) 4294967295 p.1);
    }

pub fits_is : (w : List ℕ) → Fits (task_text w) (kind_text w) (cell_text w) (value_text w) → fits w ≡ true
unfolding fits
fits_is w f =
    rw (le-leb (value_of (task_text w)) 255 f.task_byte, le-leb (value_of (kind_text w)) 255 f.kind_byte, le-leb (value_of (cell_text w)) 255 f.cell_byte, le-leb (value_of (value_text w)) 4294967295 (omega arith))

-- a line, whatever its sizes, and what is made of it
module _ {w : List ℕ} (l : Line w) where
  pub bare-entry : entry_in (bare_text l) ≡ entry_from l
  bare-entry = rw (line-task l, line-kind l, line-cell l, line-value l)

  -- one that fits gives its entry's bytes
  pub made_good : Fitting l → line_made (bare_text l) ≡ good (entry_bytes (entry_from l))
  unfolding line_made
  made_good f = rw (bare-line l, fits_is (bare_text l) (rw (line-task l, line-kind l, line-cell l, line-value l) f)) (ap (λ (e : Entry). good (entry_bytes e)) bare-entry)

  -- one that does not is too large
  pub made_large : (Fitting l → ⊥) → line_made (bare_text l) ≡ bad TooLarge
  unfolding line_made
  made_large n = rw (bare-line l, unfit) refl
    where
      unfit : fits (bare_text l) ≡ false
      unfit = is_not (fits (bare_text l)) (λ h. n (rw (line-task l, line-kind l, line-cell l, line-value l) at (fits_in (bare_text l) h)))

  -- its entry's line is the line
  pub line_back : line_of (entry_from l) ≡ w
  line_back = rw (value-decimal l.task l.task_number, value-decimal l.kind l.kind_number, value-decimal l.cell l.cell_number, value-decimal l.value l.value_number) (sym l.line)

  -- one that fits has at most 23 bytes
  pub line_most : Fitting l → length w ≤ 23
  line_most f =
      let e : (x : List ℕ) → is_number x ≡ true → length x ≡ length (decimal (value_of x)) = λ x h. ap (length {A = ℕ}) (sym (value-decimal x h)) in
      omega (
        arith,
        ap (length {A = ℕ}) l.line,
        length-append (bare_text l) (newline ∷ []),
        length-append (l.task ++ comma ∷ l.kind ++ comma ∷ l.cell) (comma ∷ l.value),
        length-append (l.task ++ comma ∷ l.kind) (comma ∷ l.cell),
        length-append l.task (comma ∷ l.kind),
        e l.task l.task_number,
        e l.kind l.kind_number,
        e l.cell l.cell_number,
        e l.value l.value_number,
        byte_length (value_of l.task) f.task_byte,
        byte_length (value_of l.kind) f.kind_byte,
        byte_length (value_of l.cell) f.cell_byte,
        word-length (value_of l.value) f.value_word,
      )

-- what is no line
pub made_none : (w : List ℕ) → (Line (w ++ newline ∷ []) → ⊥) → line_made w ≡ bad NotALine
unfolding line_made
made_none w n = rw (is_not (is_line w) (λ h. n (is_line_lem w h)))

-- the same of a text that its newline makes a line
module _ (w : List ℕ) (l : Line (w ++ newline ∷ [])) where
  pub line-free : Free newline w
  line-free = subst (Free newline) (sym (bare_is w l)) (bare-free l)

  pub line_large : (Fitting l → ⊥) → line_made w ≡ bad TooLarge
  line_large n = ap line_made (bare_is w l) ∙ made_large l n

-- what a line is made into, the three ways
pub data MadeOf (w : List ℕ) : Made → Type 0 where
  not_line : (Line (w ++ newline ∷ []) → ⊥) → MadeOf w (bad NotALine)
  large : (l : Line (w ++ newline ∷ [])) → (Fitting l → ⊥) → MadeOf w (bad TooLarge)
  fit : (l : Line (w ++ newline ∷ [])) → Fitting l → MadeOf w (good (entry_bytes (entry_from l)))

pub made_of : (w : List ℕ) → MadeOf w (line_made w)
unfolding line_made
made_of w = go (is_line w) (fits w) refl refl
  where
    go : (a b : Bool) → is_line w ≡ a → fits w ≡ b → MadeOf w (line_made w)
    go false b q r = rw q (not_line (λ l. false≢true (sym q ∙ line_is w l)))
    go true false q r = rw (q, r) (large (is_line_lem w q) (λ f. false≢true (sym r ∙ fits_is w f)))
    go true true q r = rw (q, r) (fit (is_line_lem w q) (fits_in w r))

-- an entry as a line can have it
pub record Plain (e : Entry) : Type 0 where
  pub task_byte : e.task.0 ≤ 255
  pub kind_byte : e.kind ≤ 255
  pub cell_byte : e.cell.0 ≤ 255
  pub spare_zero : e.spare ≡ 0
  pub value_word : e.value < 4294967296

-- an entry's line is a line
abbrev pub entry-line : (e : Entry) → Line (line_of e)
entry-line e =
    record {
      task = decimal e.task.0;
      kind = decimal e.kind;
      cell = decimal e.cell.0;
      value = decimal e.value;
      task_number = decimal-number e.task.0;
      kind_number = decimal-number e.kind;
      cell_number = decimal-number e.cell.0;
      value_number = decimal-number e.value;
      line = refl;
    }

-- and stands for the entry
pub entry_line_from : (e : Entry) → e.spare ≡ 0 → entry_from (entry-line e) ≡ e
entry_line_from e z = rw (decimal-value e.task.0, decimal-value e.kind, decimal-value e.cell.0, decimal-value e.value, sym z)

pub entry_line_fits : (e : Entry) → Plain e → Fitting (entry-line e)
entry_line_fits e p =
    record {
      task_byte = rw (decimal-value e.task.0) p.task_byte;
      kind_byte = rw (decimal-value e.kind) p.kind_byte;
      cell_byte = rw (decimal-value e.cell.0) p.cell_byte;
      value_word = rw (decimal-value e.value) p.value_word;
    }

-- what is bad is not good
pub bad-good : (r : Refusal) (b : List ℕ) → bad r ≡ good b → ⊥
bad-good r b h = let z : ◌≡◌ {A = ℕ} 0 1 = cc in omega arith

pub good-good : (a b : List ℕ) → good a ≡ good b → a ≡ b
good-good a b h = cc
