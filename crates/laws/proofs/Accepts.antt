-- A record that is `Kept` takes exactly the entries that fit it. Assumes nothing.
use Rattle.std.specs.Prelude.{Result, Ok, Err}
use Prim.Native.Nat.{ℕ, ◌≤◌}
use native.Mathlib.Omega.{arith}
use mathlib.Core.Path.{◌≡◌, refl, sym, ◌∙◌}
use mathlib.Core.Bool.{Bool, true, false, not, ◌||◌, false≢true}
use mathlib.Core.List.{List}
use lib.Dec.{eqb, leb, ltb}
use lib.ListN.{length, get_or}
use borrow.Author.Tests.{lt-leb, leb-true, leb-false, ltb-true, ltb-false, eqb-true, eqb-false, not-true, not-false}
use Rattle.tallies.proofs.Lists.{either, by_test}
use Rattle.wire.specs.Bytes.{entry_mark, marked, word_at}
use Rattle.tasks.specs.Records.{cell_no}
use Rattle.tasks.specs.Phases.{resting}
use Rattle.steps.specs.Table.{rows, effect_of}
use Rattle.entries.specs.Entry.{entry_of, nonzero, outside}
use Rattle.entries.specs.Order.{load_of, linked_to, store_of, linked_call_of, call_of, order_of}
use Rattle.tables.specs.Tables.{task_in}
use Rattle.cells.specs.Machine.{seen_of, carried_of, in_range}
use Rattle.cells.specs.Apply.{judged_of, decision_of, carried_by, apply_of}
use Rattle.runs.specs.Counts.{accepted, kind_of, task_of}
use Rattle.laws.specs.Types.{Refusal, NoTask, NoKind, NoCell, NotZero, NotNow, Task, Effect, Entry, Machine, Decision}
use Rattle.laws.specs.Kept.{Kept}
use Rattle.laws.specs.Accepts.{May, go, load, store, release, validate, Fits}
use Rattle.laws.proofs.Entries.{task_no}
use Rattle.laws.proofs.Ranges.{in_range_lem}
use Rattle.laws.proofs.Damage.{Steady, steady}

-- neither of two tests holds
neither : (a b : Bool) → (a || b) ≡ false → (a ≡ false) × (b ≡ false)
neither true b h = absurd (false≢true (sym h))
neither false b h = (refl, h)

-- a number whose test for not being 0 fails
is_zero : (n : ℕ) → not (eqb n 0) ≡ false → n ≡ 0
is_zero n h = eqb-true n 0 (not-false _ h)

module _ (m : Machine) (K : Kept m) (e : List ℕ) where
  abbrev t : Task
  t = task_of m e

  abbrev entry : Entry
  entry = record { task = task_no e; kind = kind_of e; cell = cell_no (get_or e 4 0); spare = get_or e 5 0; value = word_at e 6 }

  -- the answer to each part of the order is a reply
  abbrev Taken : Effect → Type 0
  Taken x = accepted (carried_of m (task_no e) x).answer ≡ true

  abbrev Read : Result Entry Refusal → Type 0
  Read r = accepted (carried_by m (judged_of m.n m.p (task_in m.tasks) (seen_of m) r)).answer ≡ true

  module _ (f : Fits m e) where
    kinds : kind_of e ≤ 4
    kinds = at_most f.asks
      where
        at_most : May m e → kind_of e ≤ 4
        at_most (go k c y r) = omega arith
        at_most (load k c y f0) = omega arith
        at_most (store k c r) = omega arith
        at_most (release k c y f6) = omega arith
        at_most (validate k c y f6) = omega arith

    zeros : nonzero entry ≡ false
    unfolding nonzero
    zeros = by_kind f.asks
      where
        by_kind : May m e → nonzero entry ≡ false
        by_kind (go k c y r) = rw (f.formed.zero, k, c, y)
        by_kind (load k c y f0) = rw (f.formed.zero, k, y)
        by_kind (store k c r) = rw (f.formed.zero, k)
        by_kind (release k c y f6) = rw (f.formed.zero, k, c, y)
        by_kind (validate k c y f6) = rw (f.formed.zero, k, c, y)

    within : outside m.n entry ≡ false
    unfolding outside
    within = by_kind f.asks
      where
        by_kind : May m e → outside m.n entry ≡ false
        by_kind (go k c y r) = rw k
        by_kind (load k c y f0) = rw (k, lt-leb m.n (get_or e 4 0) c)
        by_kind (store k c r) = rw (k, lt-leb m.n (get_or e 4 0) c)
        by_kind (release k c y f6) = rw k
        by_kind (validate k c y f6) = rw k

    -- a step is made where a call runs
    made : resting t.phase ≡ false → (x : Effect) → Steady m K t.phase x → Taken x
    unfolding carried_of
    made r (Ok d) s = refl
    made r (Err w) s = absurd (rw r at s.1)

    called : May m e → Taken (call_of entry t (seen_of m t))
    unfolding call_of load_of store_of linked_call_of carried_of
    called (go k c y r) = rw k (made r (effect_of t (seen_of m t)) (steady m K (get_or e 2 0) f.formed.task))
    called (load k c y f0) = rw (k, f0)
    called (store k c r) = rw (k, r) (by_test Taken (not (linked_to t (cell_no (get_or e 4 0)))) _ _ (λ q. refl) (λ q. refl))
    called (release k c y f6) = rw (k, f6)
    called (validate k c y f6) = rw (k, f6)

    pub takes : accepted (apply_of m e).answer ≡ true
    unfolding apply_of decision_of judged_of order_of entry_of
    takes =
        by_test (λ (d : Decision). accepted (carried_by m d).answer ≡ true) (not (in_range m)) _ _ (λ q. absurd (false≢true (sym (not-true _ q) ∙ in_range_lem m K)))
        (λ q. by_test Read (ltb (length e) 10) _ _ (λ w. absurd (omega (arith, f.formed.whole, ltb-true (length e) 10 w)))
        (λ w. by_test Read (not (marked entry_mark e)) _ _ (λ x. absurd (false≢true (sym (not-true _ x) ∙ f.formed.mark)))
        (λ x. by_test Taken (leb m.p (get_or e 2 0)) _ _ (λ a. absurd (omega (arith, f.formed.task, leb-true m.p (get_or e 2 0) a)))
        (λ a. by_test Taken (ltb 4 (kind_of e)) _ _ (λ b. absurd (omega (arith, kinds, ltb-true 4 (kind_of e) b)))
        (λ b. by_test Taken (nonzero entry) _ _ (λ c. absurd (false≢true (sym zeros ∙ c)))
        (λ c. by_test Taken (outside m.n entry) _ _ (λ d. absurd (false≢true (sym within ∙ d))) (λ d. called f.asks)))))))

  -- what a reply tells of the entry
  abbrev Told : Effect → Type 0
  Told x = Taken x → May m e

  no : {A : Type 0} (r : Refusal) → Taken (Err r) → A
  unfolding carried_of
  no r h = absurd (false≢true h)

  -- no step is made by an idle or a linked task
  runs : Taken (effect_of t (seen_of m t)) → resting t.phase ≡ false
  unfolding effect_of rows carried_of
  runs h =
      either (λ b. (b || eqb t.phase 6) ≡ false) (eqb t.phase 0) (λ q. absurd (false≢true (rw (eqb-true t.phase 0 q) at h)))
      (λ q. either (λ b. b ≡ false) (eqb t.phase 6) (λ w. absurd (false≢true (rw (eqb-true t.phase 6 w) at h))) (λ w. refl))

  told : kind_of e ≤ 4 → nonzero entry ≡ false → outside m.n entry ≡ false → Told (call_of entry t (seen_of m t))
  unfolding call_of load_of store_of linked_call_of nonzero outside
  told h4 hz hn =
      by_test Told (eqb (kind_of e) 0) _ _
      (λ k h. let z = (rw (eqb-true (kind_of e) 0 k) at hz) in
      go (eqb-true _ _ k) (cell-zero z) (value-zero z) (runs h))
      (λ k0. by_test Told (eqb (kind_of e) 1) _ _
      (λ k. by_test Told (not (eqb t.phase 0)) _ _ (λ w. no NotNow)
      (λ w h. load (eqb-true (kind_of e) 1 k) (leb-false m.n (get_or e 4 0) (rw (eqb-true (kind_of e) 1 k) at hn)) (is_zero (word_at e 6) (neither (not (eqb (get_or e 5 0) 0) || false) (not (eqb (word_at e 6) 0)) (rw (eqb-true (kind_of e) 1 k) at hz)).1) (is_zero t.phase w)))
      (λ k1. by_test Told (eqb (kind_of e) 2) _ _
      (λ k. by_test Told (not (resting t.phase)) _ _ (λ w. no NotNow)
      (λ w h. store (eqb-true _ _ k) (leb-false m.n (get_or e 4 0) (rw (eqb-true (kind_of e) 2 k) at hn)) (not-false _ w)))
      (λ k2. by_test Told (eqb (kind_of e) 3) _ _
      (λ k. by_test Told (not (eqb t.phase 6)) _ _ (λ w. no NotNow)
      (λ w h. let z = (rw (eqb-true (kind_of e) 3 k) at hz) in
      release (eqb-true _ _ k) (cell-zero z) (value-zero z) (eqb-true _ _ (not-false _ w))))
      (λ k3. by_test Told (not (eqb t.phase 6)) _ _ (λ w. no NotNow)
      (λ w h. let k : kind_of e ≡ 4 = omega (arith, eqb-false (kind_of e) 0 k0, eqb-false (kind_of e) 1 k1, eqb-false (kind_of e) 2 k2, eqb-false (kind_of e) 3 k3) in
      let z = (rw k at hz) in
      validate k (cell-zero z) (value-zero z) (eqb-true _ _ (not-false _ w)))))))
    where
      cell-zero : (not (eqb (get_or e 5 0) 0) || not (eqb (get_or e 4 0) 0) || not (eqb (word_at e 6) 0)) ≡ false → get_or e 4 0 ≡ 0
      cell-zero z =
          is_zero (get_or e 4 0)
          (neither (not (eqb (get_or e 5 0) 0)) (not (eqb (get_or e 4 0) 0)) (neither (not (eqb (get_or e 5 0) 0) || not (eqb (get_or e 4 0) 0)) (not (eqb (word_at e 6) 0)) z).0).1

      value-zero : (not (eqb (get_or e 5 0) 0) || not (eqb (get_or e 4 0) 0) || not (eqb (word_at e 6) 0)) ≡ false → word_at e 6 ≡ 0
      value-zero z = is_zero (word_at e 6) (neither (not (eqb (get_or e 5 0) 0) || not (eqb (get_or e 4 0) 0)) (not (eqb (word_at e 6) 0)) z).1

  byte_zero : nonzero entry ≡ false → get_or e 5 0 ≡ 0
  unfolding nonzero
  byte_zero z = is_zero (get_or e 5 0) (neither _ _ (neither _ _ z).0).0

  pub fits : accepted (apply_of m e).answer ≡ true → Fits m e
  unfolding apply_of decision_of judged_of carried_of order_of entry_of
  fits =
      by_test (λ (d : Decision). accepted (carried_by m d).answer ≡ true → Fits m e) (not (in_range m)) _ _ (λ q h. absurd (false≢true h))
      (λ q. by_test (λ (r : Result Entry Refusal). Read r → Fits m e) (ltb (length e) 10) _ _ (λ w h. absurd (false≢true h))
      (λ w. by_test (λ (r : Result Entry Refusal). Read r → Fits m e) (not (marked entry_mark e)) _ _ (λ x h. absurd (false≢true h))
      (λ x. by_test Fit (leb m.p (get_or e 2 0)) _ _ (λ a. no NoTask)
      (λ a. by_test Fit (ltb 4 (kind_of e)) _ _ (λ b. no NoKind)
      (λ b. by_test Fit (nonzero entry) _ _ (λ c. no NotZero)
      (λ c. by_test Fit (outside m.n entry) _ _ (λ d. no NoCell)
      (λ d h. record {
        formed = record { whole = ltb-false (length e) 10 w; mark = not-false _ x; task = leb-false m.p (get_or e 2 0) a; zero = byte_zero c };
        asks = told (ltb-false 4 (kind_of e) b) c d h;
      })))))))
    where
      Fit : Effect → Type 0
      Fit y = Taken y → Fits m e
