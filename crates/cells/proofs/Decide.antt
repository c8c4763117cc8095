-- The range test by its two parts, of the tables and of the task records; and what is decided where a number past the 16th stands for the last. Assumes nothing.
use Rattle.std.specs.Prelude.{Result, Ok, Err}
use Prim.Native.Nat.{ℕ, ◌≤◌, ◌<◌, min}
use mathlib.Core.Path.{◌≡◌, refl, sym, ap, ◌∙◌}
use mathlib.Core.Bool.{Bool, true, false, cond, ◌&&◌}
use mathlib.Core.List.{List}
use native.Mathlib.Decide.{dec_le}
use native.Mathlib.Omega.{arith}
use lib.Dec.{leb}
use lib.ListN.{get_or}
use borrow.Author.Tests.{le-leb, leb-false}
use Rattle.answers.specs.declared.Refusal.{Refusal}
use Rattle.tallies.specs.Lists.{every}
use Rattle.tallies.proofs.Lists.{both}
use Rattle.tasks.specs.Records.{no_task}
use Rattle.tables.specs.Tables.{sizes_ok, cell_ok, count_ok, task_ok_in, task_in}
use Rattle.tables.proofs.Laws.{sizes_bounds}
use Rattle.entries.specs.Entry.{entry_of}
use Rattle.entries.specs.Order.{order_of}
use Rattle.entries.proofs.Laws.{entry_read}
use Rattle.cells.specs.Types.{Machine, TaskNo, Task, Seen, Deed, Effect, NoTask, Entry, Decision}
use Rattle.cells.specs.Machine.{seen_of, placed, left_by, pool_ok, tables_ok, in_range}
use Rattle.cells.specs.Apply.{judged_of, guarded, decision_of}

-- past the table's end no entry is accepted, so the record that was looked at doesn't matter
pub order_same : (m : Machine) (e : Entry) (t : Task) → m.p ≤ 16 → t ≡ task_in m.tasks (placed e.task)
    → order_of m.n m.p e t (seen_of m t) ≡ order_of m.n m.p e (task_in m.tasks e.task) (seen_of m (task_in m.tasks e.task))
unfolding order_of
order_same m e t few is =
    elim (dec_le e.task.0 15) [
      | yes l ↦ (let same : min e.task.0 15 ≡ e.task.0 = omega arith in
          let t≡ : t ≡ task_in m.tasks e.task = is ∙ ap (λ (k : ℕ). get_or m.tasks k no_task) same in
          ap (λ (u : Task). order_of m.n m.p e u (seen_of m u)) t≡)
      | no l ↦ rw (le-leb m.p e.task.0 (omega arith))
    ]

-- an accepted entry's task is below P
pub order_does : (n p : ℕ) (e : Entry) (t : Task) (o : Seen) (x : Deed) → order_of n p e t o ≡ Ok x → e.task.0 < p
unfolding order_of
order_does n p e t o x h = leb-false p e.task.0 (below (leb p e.task.0) _ h)
  where
    below : (b : Bool) (f : Effect) → cond b (Err NoTask) f ≡ Ok x → b ≡ false
    below true f h = let z : ◌≡◌ {A = ℕ} 0 1 = cc in absurd (omega arith)
    below false f h = refl

-- the tables in range have at most 16 tasks
pub few_tasks : (m : Machine) → tables_ok m.n m.p m.k m.free m.cells m.counts ≡ true → m.p ≤ 16
few_tasks m h =
    let a = both (pool_ok m.n m.p m.k m.free && every (cell_ok m.cells m.k) m.n) (every (count_ok m.counts m.p) m.k) h in
    let b = both (pool_ok m.n m.p m.k m.free) (every (cell_ok m.cells m.k) m.n) a.0 in
    let c = both (sizes_ok m.n m.p m.k) (leb m.free m.k) b.0 in
    (sizes_bounds _ _ _ c.0).3

pub few_in_range : (m : Machine) → in_range m ≡ true → m.p ≤ 16
unfolding in_range
few_in_range m h = few_tasks m (both (tables_ok m.n m.p m.k m.free m.cells m.counts) _ h).0

-- the second test counts only where the first one holds
gated : (a b c : Bool) → (a ≡ true → b ≡ c) → (a && b) ≡ (a && c)
gated true b c h = h refl
gated false b c h = refl

-- and a decision behind the range test only where that holds
pub guarded-same : (b : Bool) (d d' : Decision) → (b ≡ true → d ≡ d') → guarded b d ≡ guarded b d'
guarded-same true d d' h = h refl
guarded-same false d d' h = refl

-- the two range tests, of the tables and of the first 16 task records, are the whole one
pub range_tests : (m : Machine) → in_range m ≡ (tables_ok m.n m.p m.k m.free m.cells m.counts && every (task_ok_in m.tasks m.n m.k) (min m.p 16))
unfolding in_range
range_tests m =
    gated (tables_ok m.n m.p m.k m.free m.cells m.counts) _ _
    (λ h. let few = few_tasks m h in
    let same : min m.p 16 ≡ m.p = omega arith in
    ap (every (task_ok_in m.tasks m.n m.k)) (sym same))

-- an entry that is accepted names its task's own place
module _ (m : Machine) where
  guarded_does : (R : ℕ → Type 0) (x : Deed) (b : Bool) (d : Decision) → (guarded b d).effect ≡ Ok x → (b ≡ true → d.effect ≡ Ok x → R d.task) → R (guarded b d).task
  guarded_does R x true d h f = f refl h
  guarded_does R x false d h f = let z : ◌≡◌ {A = ℕ} 0 1 = cc in absurd (omega arith)

  judged_does : (x : Deed) (r : Result Entry Refusal) → m.p ≤ 16 → (judged_of m.n m.p (task_in m.tasks) (seen_of m) r).effect ≡ Ok x → (judged_of m.n m.p (task_in m.tasks) (seen_of m) r).task ≤ 15
  unfolding judged_of
  judged_does x (Err y) few h = let z : ◌≡◌ {A = ℕ} 0 1 = cc in absurd (omega arith)
  judged_does x (Ok e) few h = let below = order_does m.n m.p e (task_in m.tasks e.task) (seen_of m (task_in m.tasks e.task)) x h in omega (arith, below)

  pub decision_does : (s : List ℕ) (x : Deed) → (decision_of m s).effect ≡ Ok x → (decision_of m s).task ≤ 15
  unfolding decision_of
  decision_does s x h = guarded_does (λ k. k ≤ 15) x (in_range m) _ h (λ g i. judged_does x (entry_of s) (few_in_range m g) i)

  -- which is the number in byte 2
  judged_names : (s : List ℕ) (x : Deed) (r : Result Entry Refusal) → entry_of s ≡ r → (judged_of m.n m.p (task_in m.tasks) (seen_of m) r).effect ≡ Ok x
      → get_or s 2 0 ≡ (judged_of m.n m.p (task_in m.tasks) (seen_of m) r).task
  unfolding judged_of
  judged_names s x (Err y) is h = let z : ◌≡◌ {A = ℕ} 0 1 = cc in absurd (omega arith)
  judged_names s x (Ok e) is h = sym (entry_read s e is).task

  pub decision_names : (s : List ℕ) (x : Deed) → (decision_of m s).effect ≡ Ok x → get_or s 2 0 ≡ (decision_of m s).task
  unfolding decision_of
  decision_names s x h = guarded_does (λ k. get_or s 2 0 ≡ k) x (in_range m) _ h (λ g i. judged_names s x (entry_of s) refl i)

  -- so it is written there
  pub left_placed : (p : TaskNo) (e : Effect) → ((x : Deed) → e ≡ Ok x → p.0 ≤ 15) → left_by m (placed p) e ≡ left_by m p e
  left_placed p (Err r) own = refl
  left_placed p (Ok d) own = let fits = own d refl in let same : min p.0 15 ≡ p.0 = omega arith in ap (λ (k : ℕ). left_by m (record { 0 = k }) (Ok d)) same

  -- also by that byte
  pub left_named : (s : List ℕ) → left_by m (placed (record { 0 = get_or s 2 0 })) (decision_of m s).effect ≡ left_by m (record { 0 = (decision_of m s).task }) (decision_of m s).effect
  left_named s = by (decision_of m s).effect (λ x h. h)
    where
      own : (x : Deed) → (decision_of m s).effect ≡ Ok x → min (get_or s 2 0) 15 ≡ (decision_of m s).task
      own x h = let names = decision_names s x h in let fits = decision_does s x h in omega arith

      by : (e : Effect) → ((x : Deed) → e ≡ Ok x → (decision_of m s).effect ≡ Ok x) → left_by m (placed (record { 0 = get_or s 2 0 })) e ≡ left_by m (record { 0 = (decision_of m s).task }) e
      by (Err r) is = refl
      by (Ok d) is = ap (λ (k : ℕ). left_by m (record { 0 = k }) (Ok d)) (own d (is d refl))
