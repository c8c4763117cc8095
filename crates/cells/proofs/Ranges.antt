-- An entry leaves every record that is in range in range, reached from a setup or not: so a run that tests once needs no test after that. Assumes nothing.
use Rattle.std.specs.Prelude.{Result, Ok, Err}
use Prim.Native.Nat.{ℕ, zero, suc, ◌+◌, ◌*◌, ◌-◌, ◌≤◌, ◌<◌}
use mathlib.Core.Path.{◌≡◌, refl, sym, ap, ◌∙◌, subst}
use mathlib.Core.Bool.{Bool, true, not, ◌&&◌}
use mathlib.Core.List.{List, [], ◌∷◌}
use native.Mathlib.Decide.{ℕ_discrete}
use native.Mathlib.Nat.{mod-lt}
use native.Mathlib.Omega.{arith}
use lib.Dec.{eqb, leb, ltb}
use lib.ListN.{length, get_or, set}
use lib.Seq.{get_or-set_same, get_or-set_other}
use borrow.Author.Tests.{lt-ltb, le-leb, ltb-true, ltb-false, leb-true, leb-false}
use Rattle.tallies.specs.Lists.{every}
use Rattle.tallies.specs.Tally.{bit}
use Rattle.tallies.proofs.Lists.{both, by_test, every_true, every-at}
use Rattle.wire.specs.Bytes.{entry_mark, marked}
use Rattle.tasks.specs.Phases.{is_phase, resting}
use Rattle.tasks.specs.Records.{no_task, task_ok, onward, owning, probing}
use Rattle.tasks.specs.declared.NodeNo.{NodeNo}
use Rattle.answers.specs.declared.Reply.{Reply}
use Rattle.answers.specs.declared.Reply.TheVariants.{Moved, Took, Lost, Released}
use Rattle.steps.specs.Table.{after, free_after, recounted_of, raised_of, lowered_of, counting, leaving, Row, l1, l2, l3, l4, l5, s1, s2, s3, s5, s6, s7, r1, v1, rows, no_phase, effect_of}
use Rattle.tables.specs.Tables.{sizes_ok, cell_ok, count_ok, task_ok_in, task_in}
use Rattle.tables.proofs.Laws.{sizes_bounds}
use Rattle.entries.specs.Entry.{entry_at, entry_of, nonzero, outside}
use Rattle.entries.specs.Order.{linked_to, load_of, store_of, linked_call_of, call_of, order_of}
use Rattle.cells.specs.Types.{Machine, TaskNo, Task, Seen, Write, Nothing, Point, Count, Value, Effect, Entry, Decision}
use Rattle.cells.specs.Machine.{seen_of, cells_after, counts_after, free_by, left_by, carried_of, pool_ok, in_range, Long}
use Rattle.cells.specs.Apply.{judged_of, decision_of, carried_by, apply_of}
use Rattle.cells.proofs.Written.{long-written}
use Rattle.answers.specs.declared.Refusal.{Refusal}
use Rattle.answers.specs.declared.Refusal.TheVariants.{Damaged}
use Rattle.steps.specs.Types.{Counted}

-- the fields of a task's record in range for n cells and k nodes, but for its phase
pub record Inside (n k : ℕ) (t : Task) : Type 0 where
  pub cell : t.cell.0 < n
  pub held : t.held.0 < k
  pub own : t.own.0 < k
  pub cursor : t.cursor.0 < k

pub fields_ok : (n k : ℕ) (t : Task) → task_ok n k t ≡ true → (is_phase t.phase ≡ true) × Inside n k t
unfolding task_ok
fields_ok n k t h =
    let a = both (is_phase t.phase && ltb t.cell.0 n && ltb t.held.0 k && ltb t.own.0 k) (ltb t.cursor.0 k) h in
    let b = both (is_phase t.phase && ltb t.cell.0 n && ltb t.held.0 k) (ltb t.own.0 k) a.0 in
    let c = both (is_phase t.phase && ltb t.cell.0 n) (ltb t.held.0 k) b.0 in
    let d = both (is_phase t.phase) (ltb t.cell.0 n) c.0 in
    (d.0, record { cell = ltb-true _ _ d.1; held = ltb-true _ _ c.1; own = ltb-true _ _ b.1; cursor = ltb-true _ _ a.1 })

pub ok_fields : (n k : ℕ) (t : Task) → is_phase t.phase ≡ true → Inside n k t → task_ok n k t ≡ true
unfolding task_ok
ok_fields n k t f i = rw (f, lt-ltb _ _ i.cell, lt-ltb _ _ i.held, lt-ltb _ _ i.own, lt-ltb _ _ i.cursor) refl

-- a write that keeps the ranges of p tasks and k nodes, and an effect that does
abbrev pub Fit : ℕ → ℕ → Write → Type 0
Fit p k Nothing = Unit {0}
Fit p k (Point x v) = v.0 < k
Fit p k (Count v c f) = (c ≤ p + 1) × (f ≤ k)
Fit p k (Value v y) = Unit {0}

abbrev pub Fair : ℕ → ℕ → ℕ → Effect → Type 0
Fair n p k (Ok d) = (task_ok n k d.task ≡ true) × Fit p k d.write
Fair n p k (Err r) = Unit {0}

-- what holds of every row holds of the one that a number picks
abbrev All : (Row → Type 0) → List Row → Type 0
All P [] = Unit {0}
All P (r ∷ l) = P r × All P l

picked : (P : Row → Type 0) (l : List Row) → All P l → P no_phase → (i : ℕ) → P (get_or l i no_phase)
picked P [] a z i = z
picked P (r ∷ l) a z zero = a.0
picked P (r ∷ l) a z (suc i) = picked P l a.1 z i

-- a step's record and write are in range, if its task's fields and what it sees are
module _ (n : ℕ) (t : Task) (s : Seen) (i : Inside n s.nodes t) (here : s.here.0 < s.nodes) (most : s.held_count ≤ s.tasks + 1) where
  abbrev Good : Effect → Type 0
  Good e = Fair n s.tasks s.nodes e

  by_recounted : (R : Counted → Type 0) (v : NodeNo) (c d : ℕ) → R (Err Damaged) → (free_after s.free c d ≤ s.nodes → R (Ok (Count v d (free_after s.free c d), d))) → R (recounted_of s v c d)
  unfolding recounted_of
  by_recounted R v c d b f = by_test R (ltb (s.free + bit (eqb d 0)) (bit (eqb c 0))) _ _ (λ q. b) (λ q. by_test R (ltb s.nodes (free_after s.free c d)) _ _ (λ w. b) (λ w. f (ltb-false _ _ w)))

  by_lowered : (R : Counted → Type 0) (v : NodeNo) (c : ℕ) → R (Err Damaged) → (free_after s.free c (c - 1) ≤ s.nodes → R (Ok (Count v (c - 1) (free_after s.free c (c - 1)), c - 1))) → R (lowered_of s v c)
  unfolding lowered_of
  by_lowered R v c b f = by_test R (eqb c 0) _ _ (λ q. b) (λ q. by_recounted R v c (c - 1) b f)

  by_raised : (R : Counted → Type 0) (v : NodeNo) (c : ℕ) → R (Err Damaged) → (c ≤ s.tasks → free_after s.free c (c + 1) ≤ s.nodes → R (Ok (Count v (c + 1) (free_after s.free c (c + 1)), c + 1))) → R (raised_of s v c)
  unfolding raised_of
  by_raised R v c b f = by_test R (ltb s.tasks c) _ _ (λ q. b) (λ q. by_test R (eqb c 255) _ _ (λ w. b) (λ w. by_recounted R v c (c + 1) b (f (ltb-false _ _ q))))

  next : (v : NodeNo) → (after s.nodes v).0 < s.nodes
  unfolding after
  next v = by_test (λ k. k < s.nodes) (eqb s.nodes 0) _ _ (λ q. omega (arith, i.held)) (λ q. mod-lt (v.0 + 1) (omega (arith, i.held)))

  -- t with another phase
  moved : (f : ℕ) → is_phase f ≡ true → task_ok n s.nodes (onward t f) ≡ true
  moved f h = ok_fields n s.nodes (onward t f) h (record { cell = i.cell; held = i.held; own = i.own; cursor = i.cursor })

  owner : (v : NodeNo) → v.0 < s.nodes → task_ok n s.nodes (onward (owning t v) 0) ≡ true
  owner v h = ok_fields n s.nodes (onward (owning t v) 0) refl (record { cell = i.cell; held = i.held; own = h; cursor = i.cursor })

  prober : (v : NodeNo) → task_ok n s.nodes (onward (probing t (after s.nodes v)) 12) ≡ true
  prober v = ok_fields n s.nodes (onward (probing t (after s.nodes v)) 12) refl (record { cell = i.cell; held = i.held; own = i.own; cursor = next v })

  lowers : (t' : Task) (r : Reply) → task_ok n s.nodes t' ≡ true → Good (counting (lowered_of s t.held s.held_count) t' r)
  lowers t' r h = by_lowered (λ c. Good (counting c t' r)) t.held s.held_count tt (λ f. (h, (omega arith, f)))

  -- row by row
  l1_fair : Good (l1 t s)
  l1_fair = (ok_fields n s.nodes _ refl (record { cell = i.cell; held = here; own = i.own; cursor = i.cursor }), tt)

  l2_fair : Good (l2 t s)
  l2_fair = by_raised (λ c. Good (counting c (onward t 3) Moved)) t.held s.held_count tt (λ c f. (moved 3 refl, (omega arith, f)))

  l3_fair : Good (l3 t s)
  l3_fair = by_test Good (eqb t.held.0 s.here.0) _ _ (λ q. (moved 4 refl, tt)) (λ q. (moved 5 refl, tt))

  l4_fair : Good (l4 t s)
  l4_fair = (moved 6 refl, tt)

  l5_fair : Good (l5 t s)
  l5_fair = lowers (onward t 1) Moved (moved 1 refl)

  s1_fair : Good (s1 t s)
  s1_fair = (moved 8 refl, tt)

  s2_fair : Good (s2 t s)
  s2_fair = by_test Good (eqb t.held.0 s.here.0) _ _ (λ q. (moved 9 refl, i.own)) (λ q. (moved 13 refl, tt))

  s3_fair : Good (s3 t s)
  s3_fair =
      by_lowered (λ c. Good (leaving c t)) t.held s.held_count tt
      (λ f. by_test Good (eqb (s.held_count - 1) 1) _ _ (λ q. (owner t.held i.held, (omega arith, f))) (λ q. (moved 11 refl, (omega arith, f))))

  s5_fair : Good (s5 t s)
  s5_fair = lowers _ Moved (prober t.held)

  s6_fair : Good (s6 t s)
  s6_fair =
      by_test Good (eqb s.cursor_count 0) _ _
      (λ q. by_recounted (λ c. Good (counting c (onward (owning t t.cursor) 0) Took)) t.cursor 0 1 tt (λ f. (owner t.cursor i.cursor, (omega arith, f))))
      (λ q. (prober t.cursor, tt))

  s7_fair : Good (s7 t s)
  s7_fair = lowers (onward t 0) Lost (moved 0 refl)

  r1_fair : Good (r1 t s)
  r1_fair = lowers (onward t 0) Released (moved 0 refl)

  v1_fair : Good (v1 t s)
  v1_fair = by_test Good (eqb t.held.0 s.here.0) _ _ (λ q. (moved 6 refl, tt)) (λ q. (moved 6 refl, tt))

  pub step_fair : Good (effect_of t s)
  unfolding effect_of rows
  step_fair = picked (λ r. Good (r t s)) rows each tt t.phase
    where
      each : All (λ r. Good (r t s)) rows
      each = (tt, (l1_fair, (l2_fair, (l3_fair, (l4_fair, (l5_fair, (tt, (s1_fair, (s2_fair, (s3_fair, (tt, (s5_fair, (s6_fair, (s7_fair, (r1_fair, (v1_fair, tt))))))))))))))))

-- and so are those of every entry, if its task's record and what it sees are
module _ (n : ℕ) (e : Entry) (t : Task) (s : Seen) (i : e.task.0 < s.tasks → task_ok n s.nodes t ≡ true) (here : e.task.0 < s.tasks → s.here.0 < s.nodes) (most : e.task.0 < s.tasks → s.held_count ≤ s.tasks + 1) where
  abbrev Right : Effect → Type 0
  Right x = Fair n s.tasks s.nodes x

  pub order_fair : Right (order_of n s.tasks e t s)
  unfolding order_of call_of load_of store_of linked_call_of outside
  order_fair =
      by_test Right (leb s.tasks e.task.0) _ _ (λ a. tt)
      (λ a. by_test Right (ltb 4 e.kind) _ _ (λ b. tt)
      (λ b. by_test Right (nonzero e) _ _ (λ c. tt)
      (λ c. by_test Right (outside n e) _ _ (λ d. tt)
      (λ d. let ok = i (leb-false _ _ a) in
      let f = (fields_ok n s.nodes t ok).1 in
      by_test Right (eqb e.kind 0) _ _ (λ k. step_fair n t s f (here (leb-false _ _ a)) (most (leb-false _ _ a)))
      (λ k0. by_test Right (eqb e.kind 1) _ _
      (λ k. by_test Right (not (eqb t.phase 0)) _ _ (λ w. tt)
      (λ w. (ok_fields n s.nodes _ refl (record { cell = leb-false n e.cell.0 (rw k at d); held = f.held; own = f.own; cursor = f.cursor }), tt)))
      (λ k1. by_test Right (eqb e.kind 2) _ _
      (λ k. by_test Right (not (resting t.phase)) _ _ (λ w. tt)
      (λ w. by_test Right (not (linked_to t e.cell)) _ _ (λ x. (ok, tt))
      (λ x. (ok_fields n s.nodes _ refl (record { cell = f.cell; held = f.held; own = f.own; cursor = f.cursor }), tt))))
      (λ k2. by_test Right (eqb e.kind 3) _ _
      (λ k. by_test Right (not (eqb t.phase 6)) _ _ (λ w. tt)
      (λ w. (ok_fields n s.nodes _ refl (record { cell = f.cell; held = f.held; own = f.own; cursor = f.cursor }), tt)))
      (λ k3. by_test Right (not (eqb t.phase 6)) _ _ (λ w. tt)
      (λ w. (ok_fields n s.nodes _ refl (record { cell = f.cell; held = f.held; own = f.own; cursor = f.cursor }), tt))))))))))

-- what holds of an element, and of what is put into the list, holds of the element after that
put_kept : {A : Type 0} (P : A → Type 0) (l : List A) (i : ℕ) (y d : A) (j : ℕ) → j < length l → P y → P (get_or l j d) → P (get_or (set l i y) j d)
put_kept P l i y d j h a b =
    elim (ℕ_discrete j i) [
      | yes e ↦ subst P (sym (ap (λ z. get_or (set l z y) j d) (sym e) ∙ get_or-set_same l j y d h)) a
      | no ne ↦ subst P (sym (get_or-set_other l i j y d ne)) b
    ]

module _ (m : Machine) (long : Long m) (ok : in_range m ≡ true) where
  abbrev pool : Bool
  pool = pool_ok m.n m.p m.k m.free

  abbrev pointers : Bool
  pointers = every (cell_ok m.cells m.k) m.n

  abbrev counters : Bool
  counters = every (count_ok m.counts m.p) m.k

  abbrev records : Bool
  records = every (task_ok_in m.tasks m.n m.k) m.p

  tests : (sizes_ok m.n m.p m.k ≡ true) × (m.free ≤ m.k) × (pointers ≡ true) × (counters ≡ true) × (records ≡ true)
  unfolding in_range
  tests =
      let a = both (pool && pointers && counters) records ok in
      let b = both (pool && pointers) counters a.0 in
      let c = both pool pointers b.0 in
      let d = both (sizes_ok m.n m.p m.k) (leb m.free m.k) c.0 in
      (d.0, leb-true _ _ d.1, c.1, b.1, a.1)

  pub pointed : (x : ℕ) → x < m.n → get_or m.cells x 0 < m.k
  pointed x h = ltb-true _ _ (every-at (cell_ok m.cells m.k) m.n x tests.2 h)

  counted : (v : ℕ) → v < m.k → get_or m.counts v 0 ≤ m.p + 1
  counted v h = leb-true _ _ (every-at (count_ok m.counts m.p) m.k v tests.3 h)

  pub recorded : (q : ℕ) → q < m.p → task_ok m.n m.k (get_or m.tasks q no_task) ≡ true
  recorded q h = every-at (task_ok_in m.tasks m.n m.k) m.p q tests.4 h

  abbrev Below : ℕ → Type 0
  Below v = v < m.k

  abbrev Most : ℕ → Type 0
  Most c = c ≤ m.p + 1

  abbrev Sized : Task → Type 0
  Sized t = task_ok m.n m.k t ≡ true

  pub sizes : (0 < m.n) × (m.n ≤ 64) × (0 < m.p) × (m.p ≤ 16) × (m.n + 2 * m.p ≤ m.k) × (m.k ≤ 128)
  sizes = sizes_bounds m.n m.p m.k tests.0

  cells_left : (w : Write) → Fit m.p m.k w → (x : ℕ) → x < m.n → Below (get_or (cells_after m w) x 0)
  cells_left Nothing f x h = pointed x h
  cells_left (Point y v) f x h = put_kept Below m.cells y.0 v.0 0 x (omega (arith, sizes.1, long.cells)) f (pointed x h)
  cells_left (Count v c g) f x h = pointed x h
  cells_left (Value v y) f x h = pointed x h

  counts_left : (w : Write) → Fit m.p m.k w → (v : ℕ) → v < m.k → Most (get_or (counts_after m w) v 0)
  counts_left Nothing f v h = counted v h
  counts_left (Point y u) f v h = counted v h
  counts_left (Count u c g) f v h = put_kept Most m.counts u.0 c 0 v (omega (arith, sizes.5, long.counts)) f.0 (counted v h)
  counts_left (Value u y) f v h = counted v h

  free_left_lem : (w : Write) → Fit m.p m.k w → free_by w m.free ≤ m.k
  free_left_lem Nothing f = tests.1
  free_left_lem (Point y v) f = tests.1
  free_left_lem (Count v c g) f = f.1
  free_left_lem (Value v y) f = tests.1

  left : (q : TaskNo) (x : Effect) → Fair m.n m.p m.k x → in_range (left_by m q x) ≡ true
  unfolding in_range
  left q (Err r) f = ok
  left q (Ok d) f =
      rw (
        tests.0,
        le-leb _ _ (free_left_lem d.write f.1),
        every_true (cell_ok (cells_after m d.write) m.k) m.n (λ x h. lt-ltb _ _ (cells_left d.write f.1 x h)),
        every_true (count_ok (counts_after m d.write) m.p) m.k (λ v h. le-leb _ _ (counts_left d.write f.1 v h)),
        every_true (task_ok_in (set m.tasks q.0 d.task) m.n m.k) m.p (λ u h. put_kept Sized m.tasks q.0 d.task no_task u (omega (arith, sizes.3, long.tasks)) f.0 (recorded u h)),
      ) refl

  abbrev ordered : Entry → Effect
  ordered e = order_of m.n m.p e (task_in m.tasks e.task) (seen_of m (task_in m.tasks e.task))

  entry_fair : (e : Entry) → Fair m.n m.p m.k (ordered e)
  entry_fair e =
      let t = task_in m.tasks e.task in
      let in_t : e.task.0 < m.p → Inside m.n m.k t = λ h. (fields_ok m.n m.k t (recorded e.task.0 h)).1 in
      order_fair m.n e t (seen_of m t) (λ h. recorded e.task.0 h) (λ h. pointed t.cell.0 (in_t h).cell) (λ h. counted t.held.0 (in_t h).held)

  -- what holds of m, and of all that an effect within the ranges may leave of it, holds after every entry, whatever its bytes, accepted or refused
  module _ (P : Machine → Type 0) (as_it_was : P m) (carried : (q : TaskNo) (x : Effect) → Fair m.n m.p m.k x → P (left_by m q x)) where
    abbrev Keeps : Decision → Type 0
    Keeps d = P (carried_by m d).machine

    abbrev Reads : Result Entry Refusal → Type 0
    Reads r = Keeps (judged_of m.n m.p (task_in m.tasks) (seen_of m) r)

    after-entry : (e : List ℕ) → P (apply_of m e).machine
    unfolding apply_of decision_of judged_of carried_of entry_of
    after-entry e =
        by_test Keeps (not (in_range m)) _ _ (λ q. as_it_was)
        (λ q. by_test Reads (ltb (length e) 10) _ _ (λ w. as_it_was)
        (λ w. by_test Reads (not (marked entry_mark e)) _ _ (λ x. as_it_was)
        (λ x. carried (record { 0 = get_or e 2 0 }) (ordered (entry_at e)) (entry_fair (entry_at e)))))

  pub keeps_ranges : (e : List ℕ) → in_range (apply_of m e).machine ≡ true
  keeps_ranges = after-entry (λ (z : Machine). in_range z ≡ true) ok left

  -- and the arrays' lengths
  pub keeps_lengths : (e : List ℕ) → Long (apply_of m e).machine
  keeps_lengths = after-entry Long long long_left
    where
      long_left : (q : TaskNo) (x : Effect) → Fair m.n m.p m.k x → Long (left_by m q x)
      long_left q (Err r) f = long
      long_left q (Ok d) f = long-written m q d.task d.write long
