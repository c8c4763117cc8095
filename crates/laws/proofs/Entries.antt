-- Every entry has one of the outcomes of specs/Outcomes, whatever its bytes and whatever the record. Nothing after this but Accepts, Stores and Beyond looks
-- at an entry's bytes again. Assumes nothing.
use Rattle.std.specs.Prelude.{Result, Ok, Err}
use Prim.Native.Nat.{ℕ, ◌<◌, ◌≤◌}
use native.Mathlib.Omega.{arith}
use mathlib.Core.Path.{◌≡◌, refl, sym, ap, ◌∙◌}
use mathlib.Core.Bool.{true, false, not, ◌||◌, true≢false, false≢true}
use mathlib.Core.List.{List}
use mathlib.Core.Logic.{◌≢◌}
use lib.Dec.{eqb, leb, ltb}
use lib.ListN.{length, get_or}
use lib.Seq.{set-get_or}
use borrow.Author.Tests.{ltb-false, leb-false, eq-eqb, eqb-true, eqb-false, not-true, not-false, lt-leb}
use Rattle.tallies.proofs.Lists.{either, both, by_test}
use Rattle.wire.specs.Bytes.{entry_mark, marked, word_at}
use Rattle.answers.specs.Numbers.{refusal_number}
use Rattle.tasks.specs.Records.{cell_no, no_task}
use Rattle.tasks.specs.Phases.{resting}
use Rattle.steps.specs.Table.{effect_of}
use Rattle.entries.specs.Entry.{entry_of, nonzero, outside}
use Rattle.entries.specs.Order.{load_of, linked_to, store_of, linked_call_of, call_of, order_of}
use Rattle.tables.specs.Tables.{task_in}
use Rattle.cells.specs.Machine.{seen_of, refused_by, carried_of, in_range}
use Rattle.cells.specs.Apply.{judged_of, decision_of, carried_by, apply_of}
use Rattle.runs.specs.Counts.{accepted, kind_of, task_of}
use Rattle.laws.specs.Types.{Refusal, NoTask, NoKind, NoCell, NotZero, NotNow, WrongMark, TooShort, Damaged, Task, Load, Store, Release, Validate, Deed, Effect, Entry, Machine, Applied}
use Rattle.laws.specs.Bytes.{go as goes}
pub use Rattle.laws.specs.Outcomes.{task_no, step_of, Asks, Steps, Damage, by_range, by_step, begun_by, lost_by, stepped_by, Unlinked, idle, elsewhere, Loses, Outcome, refused, loads, stores, loses, releases, validates, steps}

-- a task at rest that is not linked to cell x has no link on it
has_no_link : (t : Task) (x : ℕ) → resting t.phase ≡ true → linked_to t (cell_no x) ≡ false → Unlinked t x
has_no_link t x h q =
    either (λ b. (b || eqb t.phase 6) ≡ true → Unlinked t x) (eqb t.phase 0)
    (λ a k. idle (eqb-true t.phase 0 a))
    (λ a k. elsewhere (eqb-true t.phase 6 k) (λ w. false≢true (sym q ∙ rw (k, eq-eqb t.cell.0 x w)))) h

module _ (m : Machine) (e : List ℕ) where
  abbrev t : Task
  t = task_of m e

  abbrev kind : ℕ
  kind = kind_of e

  abbrev cell : ℕ
  cell = get_or e 4 0

  abbrev entry : ℕ → Entry
  entry s = record { task = task_no e; kind = kind; cell = cell_no cell; spare = s; value = word_at e 6 }

  abbrev Out : Effect → Type 0
  Out x = Outcome m e (carried_of m (task_no e) x)

  -- a refusal other than 22
  other : (i : ℕ) (r : Refusal) → refusal_number r ≢ 22 → Outcome m e (refused_by m i r)
  other i r ne = refused i r (λ q. absurd (ne (ap refusal_number q)))

  no : (r : Refusal) → refusal_number r ≢ 22 → Out (Err r)
  unfolding carried_of
  no r ne = other (get_or e 2 0) r ne

  step : kind ≡ 0 → get_or e 2 0 < m.p → (x : Effect) → step_of m e ≡ x → Out x
  unfolding carried_of
  step k h (Ok d) q = steps d (record { kind = k; task = h; does = q })
  step k h (Err r) q = refused (get_or e 2 0) r (λ w. by_step h (q ∙ ap Err w))

  -- a store of a cell that there is: 16 while a call runs; without a link it puts the task's record back as it was; else it begins
  pub by_store : (R : Applied → Type 0)
      → (resting t.phase ≡ false → R (refused_by m (get_or e 2 0) NotNow))
      → (Unlinked t cell → R (lost_by m e))
      → (t.phase ≡ 6 → cell ≡ t.cell.0 → R (begun_by m e (Store (word_at e 6))))
      → R (carried_of m (task_no e) (store_of t (cell_no cell) (word_at e 6)))
  unfolding store_of carried_of
  by_store R refusal lose begin =
      by_test (λ x. R (carried_of m (task_no e) x)) (not (resting t.phase)) _ _ (λ w. refusal (not-true _ w))
      (λ w. by_test (λ x. R (carried_of m (task_no e) x)) (not (linked_to t (cell_no cell))) _ _
      (λ x. rw (set-get_or m.tasks (get_or e 2 0) no_task) (lose (has_no_link t cell (not-false _ w) (not-true _ x))))
      (λ x. let l = both (eqb t.phase 6) (eqb t.cell.0 cell) (not-false _ x) in
      begin (eqb-true t.phase 6 l.0) (sym (eqb-true t.cell.0 cell l.1))))

  -- 16 or 17, 22 (the step)
  call : (s : ℕ) → get_or e 2 0 < m.p → kind ≤ 4 → outside m.n (entry s) ≡ false → Out (call_of (entry s) t (seen_of m t))
  unfolding call_of load_of store_of linked_call_of carried_of outside
  call s hp h4 hn =
      by_test Out (eqb kind 0) _ _ (λ k. step (eqb-true kind 0 k) hp (step_of m e) refl)
      (λ k0. by_test Out (eqb kind 1) _ _
      (λ k. by_test Out (not (eqb t.phase 0)) _ _ (λ w. no NotNow (omega arith))
      (λ w. loads (asks 1 0 k (not-false _ w)) (leb-false m.n cell (rw k at hn))))
      (λ k1. by_test Out (eqb kind 2) _ _
      (λ k. by_store (Outcome m e) (λ w. other (get_or e 2 0) NotNow (omega arith))
      (λ u. loses (record { kind = eqb-true kind 2 k; task = hp; cell = leb-false m.n cell (rw (eqb-true kind 2 k) at hn); link = u }))
      (λ f c. stores (record { kind = eqb-true kind 2 k; task = hp; phase = f }) c))
      (λ k2. by_test Out (eqb kind 3) _ _
      (λ k. by_test Out (not (eqb t.phase 6)) _ _ (λ w. no NotNow (omega arith)) (λ w. releases (asks 3 6 k (not-false _ w))))
      (λ k3. by_test Out (not (eqb t.phase 6)) _ _ (λ w. no NotNow (omega arith))
      (λ w. validates (record {
        kind = omega (arith, eqb-false kind 0 k0, eqb-false kind 1 k1, eqb-false kind 2 k2, eqb-false kind 3 k3);
        task = hp;
        phase = eqb-true _ _ (not-false _ w);
      }))))))
    where
      asks : (k f : ℕ) → eqb kind k ≡ true → eqb t.phase f ≡ true → Asks m e k f
      asks k f a b = record { kind = eqb-true kind k a; task = hp; phase = eqb-true t.phase f b }

  abbrev Read : Result Entry Refusal → Type 0
  Read r = Outcome m e (carried_by m (judged_of m.n m.p (task_in m.tasks) (seen_of m) r))

  -- the refusals in document 01's order
  pub outcome : Outcome m e (apply_of m e)
  unfolding apply_of decision_of judged_of carried_of order_of entry_of
  outcome =
      by_test (λ d. Outcome m e (carried_by m d)) (not (in_range m)) _ _ (λ q. refused 0 Damaged (λ w. by_range (not-true _ q)))
      (λ q. by_test Read (ltb (length e) 10) _ _ (λ w. other 0 TooShort (omega arith))
      (λ w. by_test Read (not (marked entry_mark e)) _ _ (λ x. other 0 WrongMark (omega arith))
      (λ x. by_test Out (leb m.p (get_or e 2 0)) _ _ (λ a. no NoTask (omega arith))
      (λ a. by_test Out (ltb 4 kind) _ _ (λ b. no NoKind (omega arith))
      (λ b. by_test Out (nonzero (entry (get_or e 5 0))) _ _ (λ c. no NotZero (omega arith))
      (λ c. by_test Out (outside m.n (entry (get_or e 5 0))) _ _ (λ d. no NoCell (omega arith))
      (λ d. call (get_or e 5 0) (leb-false _ _ a) (ltb-false 4 kind b) d)))))))

-- what holds of each outcome holds of the entry
pub by_entry : (m : Machine) (e : List ℕ) (R : Applied → Type 0) → ((i : ℕ) (r : Refusal) → (r ≡ Damaged → Damage m e) → R (refused_by m i r))
    → (Asks m e 1 0 → get_or e 4 0 < m.n → R (begun_by m e (Load (cell_no (get_or e 4 0)))))
    → (Asks m e 2 6 → get_or e 4 0 ≡ (task_of m e).cell.0 → R (begun_by m e (Store (word_at e 6))))
    → (Loses m e → R (lost_by m e))
    → (Asks m e 3 6 → R (begun_by m e Release))
    → (Asks m e 4 6 → R (begun_by m e Validate))
    → ((d : Deed) → Steps m e d → R (stepped_by m e d))
    → R (apply_of m e)
by_entry m e R refusal load store lose release validate step = go (outcome m e)
  where
    go : {a : Applied} → Outcome m e a → R a
    go (refused i r w) = refusal i r w
    go (loads a h) = load a h
    go (stores a h) = store a h
    go (loses a) = lose a
    go (releases a) = release a
    go (validates a) = validate a
    go (steps d s) = step d s

-- a refused entry leaves the machine, whatever the record
pub refused_leaves : (m : Machine) (e : List ℕ) → accepted (apply_of m e).answer ≡ false → (apply_of m e).machine ≡ m
refused_leaves m e =
    by_entry m e (λ a. accepted a.answer ≡ false → a.machine ≡ m) (λ i r w h. refl) (λ a l h. absurd (true≢false h)) (λ a l h. absurd (true≢false h))
    (λ a h. refl) (λ a h. absurd (true≢false h)) (λ a h. absurd (true≢false h)) (λ d s h. absurd (true≢false h))

-- a task's go, in a record that is in range, is its step
pub go-steps : (m : Machine) (p : ℕ) → in_range m ≡ true → p < m.p
    → apply_of m (goes p) ≡ carried_of m (record { 0 = p }) (effect_of (get_or m.tasks p no_task) (seen_of m (get_or m.tasks p no_task)))
unfolding apply_of decision_of judged_of order_of call_of entry_of marked nonzero word_at outside
go-steps m p r h = rw (r, lt-leb m.p p h) refl
