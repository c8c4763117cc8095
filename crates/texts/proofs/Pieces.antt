-- One piece at a place of the input: a line, or an entry, is bad and decides, or gives its bytes in front of what the rest gives. Assumes nothing.
use Rattle.std.specs.Prelude.{Result, Ok, Err}
use Prim.Native.Nat.{ℕ, suc, ◌+◌, ◌≤◌, ◌<◌, min}
use native.Mathlib.Omega.{arith}
use native.Mathlib.Decide.{dec_lt}
use mathlib.Core.Path.{◌≡◌, refl, sym, ap, subst, ◌∙◌}
use mathlib.Core.Logic.{inl, inr}
use mathlib.Core.Bool.{Bool, true, false, cond, ◌&&◌}
use mathlib.Core.List.{List, [], ◌∷◌, ◌++◌, append_assoc}
use lib.ListN.{length, drop, length-append, length-drop}
use lib.Seq.{drop-drop, drop-append-add}
use borrow.Author.Tests.{lt-ltb}
use Rattle.wire.specs.Bytes.{overlaid}
use Rattle.wire.proofs.Laws.{over-length, over-set, over_four}
use Rattle.digits.specs.Decimal.{decimal}
use Rattle.digits.proofs.Laws.{word-length}
use Rattle.entries.specs.Entry.{entry_of, entry_bytes}
use Rattle.texts.specs.Types.{Refusal, NotALine, TooLarge, TooShort, Entry}
use Rattle.texts.specs.Line.{comma, newline, up_to, past, is_line, fits, entry_in, line_of}
use Rattle.texts.specs.Made.{bad, behind, then}
use Rattle.texts.specs.Text.{newlines, line_made, bytes_made, plain_of, entry_made, text_made}
use Rattle.texts.specs.Steps.{is_closed, line_in, line_at}
use Rattle.texts.proofs.Parts.{up_to-free, parted}
use Rattle.texts.proofs.Importing.{open_bad, made_more, made_last, newlines-more}
use Rattle.texts.proofs.Exporting.{from_more, from_short}
use Rattle.texts.proofs.Scan.{is_closed_lem, not_closed}

-- what an answer about a line at `at` says of the text from there on
abbrev pub Says : List ℕ → ℕ → Result (Entry × ℕ) Refusal → Type 0
Says s at (Err r) = bytes_made (drop at s) ≡ bad r
Says s at (Ok (e, next)) =
    (bytes_made (drop at s) ≡ behind (entry_bytes e) (bytes_made (drop next s))) × (at < next) × (next ≤ length s) × (newlines (drop at s) ≡ suc (newlines (drop next s)))

pub line_says : (s : List ℕ) (at : ℕ) → at < length s → Says s at (line_at s at)
unfolding line_at line_in line_made
line_says s at h = closing (is_closed t) refl
  where
    t : List ℕ
    t = drop at s

    w : List ℕ
    w = up_to newline t

    next : ℕ
    next = at + length w + 1

    rest : t ≡ w ++ newline ∷ past newline t → past newline t ≡ drop next s
    rest e =
        let sum : next ≡ at + (length w + 1) = omega arith in
        sym (drop-append-add w (newline ∷ past newline t) 1) ∙ ap (drop (length w + 1)) (sym e) ∙ drop-drop (length w + 1) at s ∙ ap (λ (k : ℕ). drop k s) (sym sum)

    made : t ≡ w ++ newline ∷ past newline t → bytes_made t ≡ then (line_made w) (bytes_made (drop next s))
    made e = ap bytes_made e ∙ made_more w (past newline t) (up_to-free newline t) ∙ ap (λ (u : List ℕ). then (line_made w) (bytes_made u)) (rest e)

    sizes : t ≡ w ++ newline ∷ past newline t → is_line w ≡ true → (b : Bool) → fits w ≡ b → Says s at (cond b (Ok (entry_in w, next)) (Err TooLarge))
    sizes e q true p = (
      made e ∙ rw (q, p),
      omega arith,
      omega (arith, ap (length {A = ℕ}) e, length-append w (newline ∷ past newline t), length-drop at s),
      ap newlines e ∙ newlines-more w (past newline t) (up_to-free newline t) ∙ ap (λ (u : List ℕ). suc (newlines u)) (rest e),
    )
    sizes e q false p = made e ∙ rw (q, p)

    form : t ≡ w ++ newline ∷ past newline t → (b : Bool) → is_line w ≡ b → Says s at (cond b (line_in w next) (Err NotALine))
    form e true q = sizes e q (fits w) refl
    form e false q = made e ∙ rw q

    closing : (b : Bool) → is_closed t ≡ b → Says s at (cond (b && is_line w) (line_in w next) (Err NotALine))
    closing true q = form (is_closed_lem t q) (is_line w) refl
    closing false q =
        elim (parted newline t) [
          | inl f ↦ made_last t f ∙ open_bad t (omega (arith, length-drop at s))
          | inr p ↦ absurd (not_closed t q p)
        ]

-- the same of an answer that is known
pub line_tells : (s : List ℕ) (at : ℕ) (r : Result (Entry × ℕ) Refusal) → at < length s → r ≡ line_at s at → Says s at r
line_tells s at r h e = subst (Says s at) (sym e) (line_says s at h)

short : (b : List ℕ) → length b < 10 → entry_of b ≡ Err TooShort
unfolding entry_of
short b l = rw (lt-ltb (length b) 10 l)

-- the first ten bytes of what is left, or all of it if it has fewer
module _ (s b rest : List ℕ) (e : s ≡ b ++ rest) (size : length b ≡ min 10 (length s)) (some : 0 < length s) where
  entry_first : text_made s ≡ then (entry_made b) (text_made rest)
  entry_first =
      let sum : length s ≡ length b + length rest = ap length e ∙ length-append b rest in
      elim (dec_lt (length s) 10) [
        | yes l ↦ rw (from_short s (omega arith) l, short b (omega arith))
        | no l ↦ ap text_made e ∙ from_more b rest (omega arith)
      ]

  -- they are bad and decide
  pub entry_stops : (r : Refusal) → Err r ≡ plain_of (entry_of b) → text_made s ≡ bad r
  entry_stops r h = entry_first ∙ rw (← h)

  -- or give their line in front of what the rest gives
  pub entry_goes : (x : Entry) → Ok x ≡ plain_of (entry_of b) → text_made s ≡ behind (line_of x) (text_made rest)
  entry_goes x h = entry_first ∙ rw (← h)

-- how long the line of an entry is
pub line-length : (e : Entry) → length (line_of e) ≡ length (decimal e.task.0) + length (decimal e.kind) + length (decimal e.cell.0) + length (decimal e.value) + 4
line-length e =
    let t = decimal e.task.0 in
    let k = decimal e.kind in
    let c = decimal e.cell.0 in
    let v = decimal e.value in
    omega (
      arith,
      length-append (t ++ comma ∷ k ++ comma ∷ c ++ comma ∷ v) (newline ∷ []),
      length-append (t ++ comma ∷ k ++ comma ∷ c) (comma ∷ v),
      length-append (t ++ comma ∷ k) (comma ∷ c),
      length-append t (comma ∷ k),
    )

pub ruleset lengths = (word-length, line-length)

pub ruleset laid_over = (over-length, over-set)

-- four fields that are laid one behind the other are the line of their entry
pub fields_line : (o : List ℕ) (at i j k : ℕ) (e : Entry) → at + length (line_of e) ≤ length o
    → i ≡ at + length (decimal e.task.0) + 1 → j ≡ i + length (decimal e.kind) + 1 → k ≡ j + length (decimal e.cell.0) + 1
    → overlaid (overlaid (overlaid (overlaid o at (decimal e.task.0 ++ comma ∷ [])) i (decimal e.kind ++ comma ∷ [])) j (decimal e.cell.0 ++ comma ∷ [])) k (decimal e.value ++ newline ∷ [])
    ≡ overlaid o at (line_of e)
fields_line o at i j k e h hi hj hk =
    let t = decimal e.task.0 in
    let d = decimal e.kind in
    let c = decimal e.cell.0 in
    let v = decimal e.value in
    over_four o at i j k (t ++ comma ∷ []) (d ++ comma ∷ []) (c ++ comma ∷ []) (v ++ newline ∷ []) (omega (arith, length-append t (comma ∷ []))) (omega (arith, length-append d (comma ∷ [])))
    (omega (arith, length-append c (comma ∷ []))) (omega (arith, length-append v (newline ∷ []), line-length e))
    ∙ ap (overlaid o at) (simp append_assoc)
