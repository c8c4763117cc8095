-- The places past N, P and K stay zero, and what stands there makes no difference to an entry. Assumes nothing.
use Rattle.std.specs.Prelude.{Result, Ok, Err}
use Prim.Native.Nat.{ℕ, ◌+◌, ◌≤◌, ◌<◌}
use native.Mathlib.Omega.{arith}
use native.Mathlib.Decide.{dec_le, dec_lt, ℕ_discrete}
use mathlib.Core.Path.{◌≡◌, refl, sym, ap, ◌∙◌, subst}
use mathlib.Core.Bool.{Bool, true}
use mathlib.Core.List.{List, [], ◌∷◌}
use lib.Dec.{leb, ltb}
use lib.ListN.{length, get_or, set, length-set}
use lib.Seq.{get_or-set_same, get_or-set_other, set_out}
use borrow.Author.Tests.{le-leb}
use Rattle.tallies.specs.Lists.{every}
use Rattle.tallies.proofs.Lists.{both, every-at, every-same}
use Rattle.tasks.specs.Records.{node_no, no_task, task_ok}
use Rattle.tables.specs.Tables.{cell_ok, count_ok, task_ok_in, task_in}
use Rattle.entries.specs.Entry.{entry_of}
use Rattle.entries.specs.Order.{order_of}
use Rattle.cells.specs.Machine.{seen_of, cells_after, values_after, counts_after, written, carried_of, tables_ok, in_range}
use Rattle.cells.specs.Apply.{judged_of, guarded, decision_of, carried_by, apply_of}
use Rattle.cells.specs.Setup.{fresh_of}
use Rattle.cells.proofs.Decide.{guarded-same}
use Rattle.runs.specs.Counts.{task_of}
use Rattle.laws.specs.Types.{TaskNo, Task, Write, Nothing, Point, Count, Value, Effect, Entry, Machine, Decision}
use Rattle.laws.specs.Kept.{InRange, Kept}
use Rattle.laws.specs.Schedules.{applied, Reached}
use Rattle.laws.specs.Beyond.{Bare, Agree, Alike, Alike-after}
use Rattle.laws.proofs.Entries.{task_no, by_entry}
use Rattle.laws.proofs.Rows.{moves}
use Rattle.laws.proofs.Keeps.{Proper}
use Rattle.laws.proofs.Ranges.{task_in_lem}
use Rattle.laws.proofs.Table.{row_proper, entry-keeps}
use Rattle.cells.proofs.Fresh.{fresh_cell_past, fresh_value_past, fresh_count_past, fresh_task_past}
use Rattle.laws.proofs.Start.{Sizes, by_setup, setup_kept}
use Rattle.laws.proofs.Reached.{scheduled}
use Rattle.answers.specs.declared.Refusal.{Refusal}

-- THEY STAY ZERO

fresh-bare : (n p k : ℕ) (s : List ℕ) → Sizes n p k → Bare (fresh_of n p k s)
unfolding fresh_of
fresh-bare n p k s z =
    record {
      cells = fresh_cell_past n p k s;
      values = λ i h. fresh_value_past n p k s i (omega (arith, z.room));
      counts = λ i h. fresh_count_past n p k s i (omega (arith, z.room));
      tasks = fresh_task_past n p k s;
    }

written_bare : (m : Machine) (q : TaskNo) (t : Task) (w : Write) → Bare m → q.0 < m.p → Proper m w → Bare (written m q t w)
written_bare m q t w B hq hw =
    record {
      cells = λ x h. cells w hw x h ∙ B.cells x h;
      values = λ i h. values w hw i h ∙ B.values i h;
      counts = λ i h. counts w hw i h ∙ B.counts i h;
      tasks = λ y h. get_or-set_other m.tasks q.0 y t no_task (omega arith) ∙ B.tasks y h;
    }
  where
    cells : (w : Write) → Proper m w → (x : ℕ) → m.n ≤ x → get_or (cells_after m w) x 0 ≡ get_or m.cells x 0
    cells Nothing i x h = refl
    cells (Point y v) i x h = get_or-set_other m.cells y.0 x v.0 0 (omega arith)
    cells (Count v c f) i x h = refl
    cells (Value v y) i x h = refl

    values : (w : Write) → Proper m w → (x : ℕ) → m.k ≤ x → get_or (values_after m w) x 0 ≡ get_or m.values x 0
    values Nothing i x h = refl
    values (Point y v) i x h = refl
    values (Count v c f) i x h = refl
    values (Value v y) i x h = get_or-set_other m.values v.0 x y 0 (omega arith)

    counts : (w : Write) → Proper m w → (x : ℕ) → m.k ≤ x → get_or (counts_after m w) x 0 ≡ get_or m.counts x 0
    counts Nothing i x h = refl
    counts (Point y v) i x h = refl
    counts (Count v c f) i x h = get_or-set_other m.counts v.0 x c 0 (omega arith)
    counts (Value v y) i x h = refl

entry-bare : (m : Machine) (e : List ℕ) → Kept m → Bare m → Bare (apply_of m e).machine
entry-bare m e K B =
    by_entry m e (λ a. Bare a.machine) (λ i r w. B)
    (λ a h. written_bare m (task_no e) _ Nothing B a.task tt)
    (λ a h. written_bare m (task_no e) _ Nothing B a.task tt)
    (λ a. B)
    (λ a. written_bare m (task_no e) _ Nothing B a.task tt)
    (λ a. written_bare m (task_no e) _ Nothing B a.task tt)
    (λ d s. written_bare m (task_no e) d.task d.write B s.task
    (row_proper m K (task_no e) s.task (moves (task_of m e) (seen_of m (task_of m e)) d s.does)))

schedule-bare : (es : List (List ℕ)) (m : Machine) → Kept m → Bare m → Bare (applied m es)
unfolding applied
schedule-bare [] m K B = B
schedule-bare (e ∷ es) m K B = schedule-bare es (apply_of m e).machine (entry-keeps m e K) (entry-bare m e K B)

pub reached_bare : {m : Machine} → Reached m → Bare m
reached_bare {m} r =
    let c = scheduled r in
    let fresh = by_setup c.setup c.used Bare (λ n p k z. fresh-bare n p k c.setup z) c.ready in
    subst Bare c.reaches (schedule-bare c.entries _ (setup_kept c.setup c.used c.ready) fresh)

-- WHAT STANDS THERE MAKES NO DIFFERENCE

set_agree : {A : Type 0} (d : A) (k : ℕ) (l l' : List A) (i : ℕ) (a : A) → Agree d k l l' → Agree d k (set l i a) (set l' i a)
set_agree d k l l' i a g =
    record {
      long = length-set l i a ∙ g.long ∙ sym (length-set l' i a);
      below = λ j h. elim (ℕ_discrete j i) [
        | yes e ↦ elim (dec_lt i (length l)) [
          | yes r ↦ rw e (get_or-set_same l i a d r ∙ sym (get_or-set_same l' i a d (omega (arith, g.long))))
          | no r ↦ rw (set_out l i a (omega arith), set_out l' i a (omega (arith, g.long))) (g.below j h)
        ]
        | no ne ↦ get_or-set_other l i j a d ne ∙ g.below j h ∙ sym (get_or-set_other l' i j a d ne)
      ];
    }

-- m with other tables, which agree with its own below N, P and K
module _ (m : Machine) (cs vs ns : List ℕ) (ts : List Task) (C : Agree 0 m.n m.cells cs) (W : Agree 0 m.k m.values vs) (N : Agree 0 m.k m.counts ns) (T : Agree no_task m.p m.tasks ts) where
  abbrev m' : Machine
  m' = record { n = m.n; p = m.p; k = m.k; free = m.free; cells = cs; values = vs; counts = ns; tasks = ts }

  alike : Alike m m'
  alike = record { same_n = refl; same_p = refl; same_k = refl; same_free = refl; cells = C; values = W; counts = N; tasks = T }

  written_alike : (q : TaskNo) (t : Task) (w : Write) → Alike (written m q t w) (written m' q t w)
  written_alike q t w =
      record {
        same_n = refl;
        same_p = refl;
        same_k = refl;
        same_free = refl;
        cells = cells w;
        values = values w;
        counts = counts w;
        tasks = set_agree no_task m.p m.tasks ts q.0 t T;
      }
    where
      cells : (w : Write) → Agree 0 m.n (cells_after m w) (cells_after m' w)
      cells Nothing = C
      cells (Point x v) = set_agree 0 m.n m.cells cs x.0 v.0 C
      cells (Count v c f) = C
      cells (Value v y) = C

      values : (w : Write) → Agree 0 m.k (values_after m w) (values_after m' w)
      values Nothing = W
      values (Point x v) = W
      values (Count v c f) = W
      values (Value v y) = set_agree 0 m.k m.values vs v.0 y W

      counts : (w : Write) → Agree 0 m.k (counts_after m w) (counts_after m' w)
      counts Nothing = N
      counts (Point x v) = N
      counts (Count v c f) = set_agree 0 m.k m.counts ns v.0 c N
      counts (Value v y) = N

  carried_alike : (q : TaskNo) (x : Effect) → Alike-after (carried_of m q x) (carried_of m' q x)
  unfolding carried_of
  carried_alike q (Err r) = record { answer = refl; task = refl; machine = alike }
  carried_alike q (Ok d) = record { answer = refl; task = refl; machine = written_alike q d.task d.write }

  range_same : in_range m ≡ in_range m'
  unfolding in_range
  range_same =
      rw (
        every-same (cell_ok m.cells m.k) (cell_ok cs m.k) m.n (λ i h. ap (λ (v : ℕ). ltb v m.k) (C.below i h)),
        every-same (count_ok m.counts m.p) (count_ok ns m.p) m.k (λ i h. ap (λ (c : ℕ). leb c (m.p + 1)) (N.below i h)),
        every-same (task_ok_in m.tasks m.n m.k) (task_ok_in ts m.n m.k) m.p (λ q h. ap (task_ok m.n m.k) (T.below q h)),
      )

  module _ (inside : in_range m ≡ true) where
    task_range : (q : ℕ) → q < m.p → InRange m.n m.k (get_or m.tasks q no_task)
    unfolding in_range
    task_range q h =
        let all = (both (tables_ok m.n m.p m.k m.free m.cells m.counts) (every (task_ok_in m.tasks m.n m.k) m.p) inside).1 in
        task_in_lem m.n m.k (get_or m.tasks q no_task) (every-at (task_ok_in m.tasks m.n m.k) m.p q all h)

    seen_same : (t : Task) → InRange m.n m.k t → seen_of m t ≡ seen_of m' t
    seen_same t r = λ i. record {
      here = node_no (C.below t.cell.0 r.cell i);
      held_count = N.below t.held.0 r.held i;
      cursor_count = N.below t.cursor.0 r.cursor i;
      held_value = W.below t.held.0 r.held i;
      tasks = m.p;
      nodes = m.k;
      free = m.free;
    }

    order_same : (e : Entry) → order_of m.n m.p e (task_in m.tasks e.task) (seen_of m (task_in m.tasks e.task)) ≡ order_of m.n m.p e (task_in ts e.task) (seen_of m' (task_in ts e.task))
    unfolding order_of
    order_same e =
        elim (dec_le m.p e.task.0) [
          | yes h ↦ rw (le-leb m.p e.task.0 h)
          | no h ↦ (let t = task_in m.tasks e.task in
              let l : e.task.0 < m.p = omega arith in
              ap (order_of m.n m.p e t) (seen_same t (task_range e.task.0 l)) ∙ ap (λ (u : Task). order_of m.n m.p e u (seen_of m' u)) (T.below e.task.0 l))
        ]

    judged_same : (r : Result Entry Refusal) → judged_of m.n m.p (task_in m.tasks) (seen_of m) r ≡ judged_of m.n m.p (task_in ts) (seen_of m') r
    unfolding judged_of
    judged_same (Err r) = refl
    judged_same (Ok e) = ap (λ (x : Effect). record { task = e.task.0; effect = x }) (order_same e)

  decision_same : (e : List ℕ) → decision_of m e ≡ decision_of m' e
  unfolding decision_of
  decision_same e =
      guarded-same (in_range m) _ _ (λ h. judged_same h (entry_of e)) ∙ ap (λ (b : Bool). guarded b (judged_of m.n m.p (task_in ts) (seen_of m') (entry_of e))) range_same

  tables_alike : (e : List ℕ) → Alike-after (apply_of m e) (apply_of m' e)
  unfolding apply_of
  tables_alike e = subst (λ (d : Decision). Alike-after (carried_by m (decision_of m e)) (carried_by m' d)) (decision_same e) (carried_alike (record { 0 = (decision_of m e).task }) (decision_of m e).effect)

pub entry_alike : (m m' : Machine) → Alike m m' → (e : List ℕ) → Alike-after (apply_of m e) (apply_of m' e)
entry_alike m m' L e =
    subst (λ (x : Machine). Alike-after (apply_of m e) (apply_of x e))
    (λ i. record { n = L.same_n i; p = L.same_p i; k = L.same_k i; free = L.same_free i; cells = m'.cells; values = m'.values; counts = m'.counts; tasks = m'.tasks })
    (tables_alike m m'.cells m'.values m'.counts m'.tasks L.cells L.values L.counts L.tasks e)
