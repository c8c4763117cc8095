-- A line read once from its front: four numbers, each with the byte that closes it, are the line that the newline closes. Assumes nothing.
use Rattle.std.specs.Prelude.{Option, Some, None, Result, Ok, Err}
use Prim.Native.Nat.{ℕ, suc, ◌+◌, ◌-◌, ◌<◌}
use native.Mathlib.Omega.{arith}
use native.Mathlib.Nat.{min-eq_left}
use native.Mathlib.Decide.{dec_le}
use mathlib.Core.Path.{◌≡◌, refl, sym, ap, ◌∙◌}
use mathlib.Core.Logic.{inl, inr}
use mathlib.Core.Bool.{Bool, true, false, cond, ◌&&◌}
use mathlib.Core.List.{List, [], ◌∷◌, ◌++◌, append_assoc}
use lib.ListN.{length, get_or, drop, length-append, length-drop}
use lib.Seq.{drop-cons, drop-drop, get_or-append_seam, get_or-drop, drop-append-add}
use lib.Dec.{eqb, leb, ltb}
use borrow.Author.Tests.{lt-leb, leb-true, lt-ltb, ltb-true, ltb-false, eq-eqb, eqb-true}
use Rattle.tallies.proofs.Lists.{both, either}
use Rattle.digits.specs.Decimal.{is_digit, all_digits, is_number, value_of, lead, capped, number_at}
use Rattle.digits.proofs.Laws.{number_digits}
use Rattle.texts.specs.Types.{Entry, Refusal, NotALine, TooLarge}
use Rattle.texts.specs.Line.{comma, newline, bare, small, entry_with, Line, up_to, past, is_line, fits}
use Rattle.texts.specs.Steps.{closed_by, field_at, sized, is_closed, line_in, line_at}
use Rattle.texts.proofs.Parts.{up_to_lem, up_to-none, parted}
use Rattle.texts.proofs.Lines.{bare_text, bare_of, bare-line, bare-free, line-task, line-kind, line-cell, line-value, is_line_lem}

-- the digits that a text starts with, up to a byte that is none
lead_of : (y : List ℕ) (c : ℕ) (u : List ℕ) → all_digits y ≡ true → is_digit c ≡ false → lead (y ++ c ∷ u) ≡ y
unfolding lead all_digits
lead_of [] c u d e = rw e
lead_of (b ∷ y) c u d e = let p = both (is_digit b) (all_digits y) d in rw p.0 (ap (λ (l : List ℕ). b ∷ l) (lead_of y c u p.1 e))

lead_prefix : (t : List ℕ) → t ≡ lead t ++ drop (length (lead t)) t
unfolding lead
lead_prefix [] = refl
lead_prefix (b ∷ t) = either (λ d. b ∷ t ≡ cond d (b ∷ lead t) [] ++ drop (length (cond d (b ∷ lead t) [])) (b ∷ t)) (is_digit b) (λ d. ap (λ (l : List ℕ). b ∷ l) (lead_prefix t)) (λ d. refl)

-- two numbers read
same_read : (p q : ℕ × ℕ) → Some p ≡ Some q → (p.0 ≡ q.0) × (p.1 ≡ q.1)
same_read p q h = let e : p ≡ q = cc in (ap (λ (x : ℕ × ℕ). x.0) e, ap (λ (x : ℕ × ℕ). x.1) e)

-- a number in front of its closing byte is read
module _ (close : ℕ) (none : is_digit close ≡ false) (s : List ℕ) (at : ℕ) (y u : List ℕ) (hy : is_number y ≡ true) (e : drop at s ≡ y ++ close ∷ u) where
  pub field_of : field_at close s at ≡ Some (capped (value_of y), at + length y + 1)
  unfolding field_at number_at
  field_of =
      let l : lead (drop at s) ≡ y = ap lead e ∙ lead_of y close u (number_digits y hy) none in
      let long : length s - at ≡ length y + suc (length u) = sym (length-drop at s) ∙ ap length e ∙ length-append y (close ∷ u) in
      let here : get_or s (at + length y) 0 ≡ close = sym (get_or-drop at s (length y) 0) ∙ ap (λ (t : List ℕ). get_or t (length y) 0) e ∙ get_or-append_seam y close u 0 in
      rw (l, hy, lt-ltb (at + length y) (length s) (omega (arith, long)), here, eq-eqb close close refl)

  rest_of : drop (at + length y + 1) s ≡ u
  rest_of =
      let sum : at + length y + 1 ≡ at + (length y + 1) = omega arith in
      rw sum (sym (drop-drop (length y + 1) at s) ∙ ap (drop (length y + 1)) e ∙ drop-append-add y (close ∷ u) 1)

  -- and reading goes on behind it
  pub next_of : (v i : ℕ) → field_at close s at ≡ Some (v, i) → drop i s ≡ u
  next_of v i h = rw ((same_read _ _ (sym h ∙ field_of)).1) rest_of

-- a number and its closing byte that were read
pub record Field (close : ℕ) (s : List ℕ) (at v next : ℕ) : Type 0 where
  pub number : List ℕ
  pub numeral : is_number number ≡ true
  pub value : v ≡ capped (value_of number)
  pub place : next ≡ at + length number + 1
  pub text : drop at s ≡ number ++ close ∷ drop next s

pub of_field : (close : ℕ) (s : List ℕ) (at v next : ℕ) → field_at close s at ≡ Some (v, next) → Field close s at v next
unfolding field_at number_at
of_field close s at v next = number (is_number x) refl
  where
    x : List ℕ
    x = lead (drop at s)

    end : ℕ
    end = at + length x

    read : Option (ℕ × ℕ)
    read = Some (capped (value_of x), end + 1)

    found : is_number x ≡ true → end < length s → get_or s end 0 ≡ close → read ≡ Some (v, next) → Field close s at v next
    found n l c h =
        let p = same_read (capped (value_of x), end + 1) (v, next) h in
        let sum : end + 1 ≡ suc end = omega arith in
        record {
          number = x;
          numeral = n;
          value = sym p.0;
          place = sym p.1;
          text = lead_prefix (drop at s) ∙ ap (λ (t : List ℕ). x ++ t) (drop-drop (length x) at s ∙ drop-cons s end 0 l ∙ rw (c, ← sum, p.1));
        }

    closing : is_number x ≡ true → (a b : Bool) → ltb end (length s) ≡ a → eqb (get_or s end 0) close ≡ b
        → cond (a && b) read None ≡ Some (v, next) → Field close s at v next
    closing n true true p q h = found n (ltb-true end (length s) p) (eqb-true (get_or s end 0) close q) h
    closing n true false p q h = absurd cc
    closing n false b p q h = absurd cc

    number : (z : Bool) → is_number x ≡ z → closed_by close s (cond z (Some (capped (value_of x), end)) None) ≡ Some (v, next) → Field close s at v next
    number true n h = closing n (ltb end (length s)) (eqb (get_or s end 0) close) refl refl h
    number false n h = absurd cc

-- sizes are told as well from values that are cut off
capped_size : (v n : ℕ) → n < 4294967296 → leb (capped v) n ≡ leb v n
capped_size v n h =
    elim (dec_le v 4294967296) [
      | yes l ↦ rw (min-eq_left l)
      | no l ↦ rw (lt-leb (capped v) n (omega arith), lt-leb v n (omega arith))
    ]

pub sized-capped : (a b c d n : ℕ) → sized (capped a) (capped b) (capped c) (capped d) n ≡ sized a b c d n
unfolding sized
sized-capped a b c d n =
    rw (capped_size a 255 (omega arith), capped_size b 255 (omega arith), capped_size c 255 (omega arith), capped_size d 4294967295 (omega arith))
    (either (λ t. small a b c d ≡ t → cond t (line (capped a) (capped b) (capped c) (capped d)) none ≡ cond t (line a b c d) none)
    (small a b c d)
    (λ h q. let p = both (leb a 255 && leb b 255 && leb c 255) (leb d 4294967295) q in
    let r = both (leb a 255 && leb b 255) (leb c 255) p.0 in
    let o = both (leb a 255) (leb b 255) r.0 in
    rw (is a 255 (omega arith) o.0, is b 255 (omega arith) o.1, is c 255 (omega arith) r.1, is d 4294967295 (omega arith) p.1))
    (λ h q. refl) refl)
  where
    line : ℕ → ℕ → ℕ → ℕ → Result (Entry × ℕ) Refusal
    line a b c d = Ok (entry_with a b c d, n)

    none : Result (Entry × ℕ) Refusal
    none = Err TooLarge

    is : (v k : ℕ) → k < 4294967296 → leb v k ≡ true → capped v ≡ v
    is v k h q = min-eq_left (omega (arith, leb-true v k q))

-- four fields make a line
module _ (s : List ℕ) (at a i b j c k d next : ℕ) (f : Field comma s at a i) (g : Field comma s i b j) (h : Field comma s j c k) (e : Field newline s k d next) where
  abbrev line : Line (bare f.number g.number h.number e.number ++ newline ∷ [])
  line =
      record {
        task = f.number;
        kind = g.number;
        cell = h.number;
        value = e.number;
        task_number = f.numeral;
        kind_number = g.numeral;
        cell_number = h.numeral;
        value_number = e.numeral;
        line = refl;
      }

  text : drop at s ≡ bare_text line ++ newline ∷ drop next s
  text =
      f.text ∙ ap (λ (t : List ℕ). f.number ++ comma ∷ t) (g.text ∙ ap (λ (t : List ℕ). g.number ++ comma ∷ t) (h.text ∙ ap (λ (t : List ℕ). h.number ++ comma ∷ t) e.text))
      ∙ simp append_assoc

  up : up_to newline (drop at s) ≡ bare_text line
  up = ap (up_to newline) text ∙ up_to_lem newline (bare_text line) (drop next s) (bare-free line)

  long : length (drop at s) ≡ length (bare_text line) + suc (length (drop next s))
  long = ap length text ∙ length-append (bare_text line) (newline ∷ drop next s)

  ends : at + length (bare_text line) + 1 ≡ next
  ends =
      omega (
        arith,
        length-append (f.number ++ comma ∷ g.number ++ comma ∷ h.number) (comma ∷ e.number),
        length-append (f.number ++ comma ∷ g.number) (comma ∷ h.number),
        length-append f.number (comma ∷ g.number),
        f.place,
        g.place,
        h.place,
        e.place,
      )

  pub line_read : line_at s at ≡ sized a b c d next
  unfolding line_at line_in is_closed fits sized
  line_read =
      rw (up, lt-ltb (length (bare_text line)) (length (drop at s)) (omega (arith, long)), bare-line line, ends, line-task line, line-kind line, line-cell line, line-value line, f.value, g.value, h.value, e.value)
      (sym (sized-capped (value_of f.number) (value_of g.number) (value_of h.number) (value_of e.number) next))

-- a text that starts with a line
record Parsed (t : List ℕ) : Type 0 where
  whole : List ℕ
  line : Line whole
  rest : List ℕ
  text : t ≡ line.task ++ comma ∷ (line.kind ++ comma ∷ (line.cell ++ comma ∷ (line.value ++ newline ∷ rest)))

-- closed by a newline, it is parted there
pub is_closed_lem : (t : List ℕ) → is_closed t ≡ true → t ≡ up_to newline t ++ newline ∷ past newline t
unfolding is_closed
is_closed_lem t h = elim (parted newline t) [ inl f ↦ absurd (omega (arith, ltb-true (length (up_to newline t)) (length t) h, ap (length {A = ℕ}) (up_to-none newline t f))) | inr p ↦ p ]

pub not_closed : (t : List ℕ) → is_closed t ≡ false → t ≡ up_to newline t ++ newline ∷ past newline t → ⊥
unfolding is_closed
not_closed t h p = omega (arith, ltb-false (length (up_to newline t)) (length t) h, ap (length {A = ℕ}) p, length-append (up_to newline t) (newline ∷ past newline t))

parsed : (t : List ℕ) → is_closed t && is_line (up_to newline t) ≡ true → Parsed t
parsed t h =
    let p = both (is_closed t) (is_line (up_to newline t)) h in
    let w = up_to newline t in
    record {
      whole = w ++ newline ∷ [];
      line = is_line_lem w p.1;
      rest = past newline t;
      text = is_closed_lem t p.0 ∙ ap (λ (v : List ℕ). v ++ newline ∷ past newline t) (bare_of w p.1) ∙ simp append_assoc;
    }

-- where one of the four fields is missing there is no line
no_line : (s : List ℕ) (at : ℕ) → (Parsed (drop at s) → ⊥) → line_at s at ≡ Err NotALine
unfolding line_at
no_line s at n =
    either (λ t. is_closed (drop at s) && is_line (up_to newline (drop at s)) ≡ t → cond t (line_in (up_to newline (drop at s)) (at + length (up_to newline (drop at s)) + 1)) (Err NotALine) ≡ Err NotALine)
    (is_closed (drop at s) && is_line (up_to newline (drop at s))) (λ h q. absurd (n (parsed (drop at s) q))) (λ h q. refl) refl

module _ (s : List ℕ) (at : ℕ) where
  second : (p : Parsed (drop at s)) → field_at comma s at ≡ Some (capped (value_of p.line.task), at + length p.line.task + 1)
  second p = field_of comma refl s at p.line.task _ p.line.task_number p.text

  pub no_first : field_at comma s at ≡ None → line_at s at ≡ Err NotALine
  no_first h = no_line s at (λ p. cc (second p))

  module _ (a i : ℕ) (f : field_at comma s at ≡ Some (a, i)) where
    from_kind : (p : Parsed (drop at s)) → drop i s ≡ p.line.kind ++ comma ∷ (p.line.cell ++ comma ∷ (p.line.value ++ newline ∷ p.rest))
    from_kind p = next_of comma refl s at p.line.task _ p.line.task_number p.text a i f

    pub no_second : field_at comma s i ≡ None → line_at s at ≡ Err NotALine
    no_second h = no_line s at (λ p. cc (field_of comma refl s i p.line.kind _ p.line.kind_number (from_kind p)))

    module _ (b j : ℕ) (g : field_at comma s i ≡ Some (b, j)) where
      from_cell : (p : Parsed (drop at s)) → drop j s ≡ p.line.cell ++ comma ∷ (p.line.value ++ newline ∷ p.rest)
      from_cell p = next_of comma refl s i p.line.kind _ p.line.kind_number (from_kind p) b j g

      pub no_third : field_at comma s j ≡ None → line_at s at ≡ Err NotALine
      no_third h = no_line s at (λ p. cc (field_of comma refl s j p.line.cell _ p.line.cell_number (from_cell p)))

      module _ (c k : ℕ) (l : field_at comma s j ≡ Some (c, k)) where
        from_value : (p : Parsed (drop at s)) → drop k s ≡ p.line.value ++ newline ∷ p.rest
        from_value p = next_of comma refl s j p.line.cell _ p.line.cell_number (from_cell p) c k l

        pub no_fourth : field_at newline s k ≡ None → line_at s at ≡ Err NotALine
        no_fourth h = no_line s at (λ p. cc (field_of newline refl s k p.line.value _ p.line.value_number (from_value p)))

        pub all_four : (d next : ℕ) → field_at newline s k ≡ Some (d, next) → line_at s at ≡ sized a b c d next
        all_four d next m = line_read s at a i b j c k d next (of_field comma s at a i f) (of_field comma s i b j g) (of_field comma s j c k l) (of_field newline s k d next m)
