-- Wrong answers of a setup, of its head alone, in a lent machine and as a record, that the contracts rule out. Assumes nothing.
use Rattle.std.specs.Prelude.{Result, Ok, Err}
use Prim.Native.Nat.{ℕ, ◌+◌, ◌*◌, ◌≤◌, ◌<◌}
use native.Mathlib.Omega.{arith}
use mathlib.Core.Path.{◌≡◌, refl, sym, ap, ◌∙◌}
use mathlib.Core.Bool.{true}
use mathlib.Core.List.{List, [], ◌∷◌}
use mathlib.Core.Logic.{◌≢◌}
use lib.Dec.{eqb}
use lib.ListN.{length, get_or, replicate}
use borrow.Author.Tests.{ltb-true, ltb-false, le-ltb, le-leb, eqb-true, not-false}
use contract.Lifetimes.{Lfts}
use Rattle.tallies.proofs.Lists.{both, within_true, past_filled}
use Rattle.tallies.specs.Lists.{fill_to}
use Rattle.wire.specs.Bytes.{setup_mark, marked, word_at}
use Rattle.answers.specs.declared.Refusal.{Refusal}
use Rattle.answers.specs.declared.Refusal.TheVariants.{Sizes, NotZero, WrongMark, TooShort}
use Rattle.tasks.specs.Records.{node_no, no_task, idle_owning}
use Rattle.tables.specs.Tables.{sizes_ok, value_given}
use Rattle.tables.proofs.Laws.{sizes_bounds}
use Rattle.cells.specs.declared.Machine.{Machine}
use Rattle.cells.specs.declared.SetUp.{SetUp}
use Rattle.cells.specs.declared.start.Head.{Head}
use Rattle.cells.specs.Setup.{blank_of, fresh_of, refused_setup, setup_of, head_of}
use Rattle.cells.proofs.Setups.{Fits, accepted, by_tests, setup-fresh, head_fits, setup_uses}
use Rattle.cells.proofs.Fresh.{fresh-cell, fresh_cell_past, fresh-value, fresh_value_past, fresh_count, fresh_count_past, fresh-task}
use Rattle.cells.proofs.start.read_head.Reads as read_head
use Rattle.cells.proofs.start.fill.Reads as fill
use Rattle.cells.proofs.start.blank.Reads as blank-machine
use Rattle.cells.proofs.Machine.setup.Reads as machine-setup
use Rattle.laws.specs.Bytes.{words, setup}
use Rattle.laws.specs.Small.{small}
use Rattle.laws.proofs.Start.{Sizes as InBounds, setup_blank}
use Rattle.faults.specs.Benches.{computing}
use Rattle.excluded.specs.Lent.{lent, lent_mut, never}
use Rattle.excluded.specs.Records.{task_at}

-- WHAT A SETUP'S ANSWER TELLS OF ITS BYTES

-- the bytes of an accepted setup that uses u of them, and the sizes of its machine
record Taken (s : List ℕ) (u : ℕ) (m : Machine) : Type 0 where
  first : get_or s 0 0 ≡ 0x53
  second : get_or s 1 0 ≡ 0x55
  sizes : sizes_ok (get_or s 2 0) (get_or s 3 0) (get_or s 4 0) ≡ true
  used : u ≡ 6 + 4 * get_or s 2 0
  room : u ≤ length s
  n : m.n ≡ get_or s 2 0
  p : m.p ≡ get_or s 3 0
  k : m.k ≡ get_or s 4 0

module _ (s : List ℕ) where
  abbrev needs : ℕ
  needs = 6 + 4 * get_or s 2 0

  marks : marked setup_mark s ≡ true → (get_or s 0 0 ≡ 0x53) × (get_or s 1 0 ≡ 0x55)
  unfolding marked
  marks h = let e = both (eqb (get_or s 0 0) 0x53) (eqb (get_or s 1 0) 0x55) h in (eqb-true _ _ e.0, eqb-true _ _ e.1)

  -- it is enough to look at each refusal and at the one setup that is accepted
  by_answer : (R : SetUp → Type 0)
      → (length s < needs → R (refused_setup TooShort))
      → R (refused_setup WrongMark)
      → R (refused_setup NotZero)
      → (get_or s 5 0 ≡ 0 → R (refused_setup Sizes))
      → (Taken s needs (accepted s).machine → R (accepted s))
      → R (setup_of s)
  unfolding fresh_of
  by_answer R short mark spare sizes ready =
      by_tests s R (λ a. short (omega (arith, ltb-true (length s) 6 a))) (λ a b. mark) (λ a b c. spare) (λ a b c d. sizes (eqb-true _ _ (not-false _ c)))
      (λ a b c d e. short (ltb-true _ _ e))
      (λ a b c d e. let m = marks (not-false _ b) in
      ready (record { first = m.0; second = m.1; sizes = not-false _ d; used = refl; room = ltb-false _ _ e; n = refl; p = refl; k = refl }))

  taken : (u : ℕ) → (setup_of s).answer ≡ Ok u → Taken s u (setup_of s).machine
  taken u =
      by_answer (λ x. x.answer ≡ Ok u → Taken s u x.machine) (λ l q. absurd (never cc)) (λ q. absurd (never cc)) (λ q. absurd (never cc))
      (λ z q. absurd (never cc)) (λ t q. let e : needs ≡ u = cc in rw (← e) t)

  too_short : (setup_of s).answer ≡ Err TooShort → length s < needs
  too_short =
      by_answer (λ x. x.answer ≡ Err TooShort → length s < needs) (λ l q. l) (λ q. absurd (never cc)) (λ q. absurd (never cc))
      (λ z q. absurd (never cc)) (λ t q. absurd (never cc))

  spare_zero : (setup_of s).answer ≡ Err Sizes → get_or s 5 0 ≡ 0
  spare_zero =
      by_answer (λ x. x.answer ≡ Err Sizes → get_or s 5 0 ≡ 0) (λ l q. absurd (never cc)) (λ q. absurd (never cc)) (λ q. absurd (never cc))
      (λ z q. z) (λ t q. absurd (never cc))

words-length : (vs : List ℕ) → length (words vs) ≡ 4 * length vs
words-length [] = refl
words-length (v ∷ vs) = omega (arith, words-length vs)

-- a setup that is written out with sizes in bounds is accepted
takes : (n p k : ℕ) (vs : List ℕ) → InBounds n p k → length vs ≡ n → (setup_of (setup n p k vs)).answer ≡ Ok (6 + 4 * n)
unfolding setup_of marked sizes_ok
takes n p k vs b l =
    rw (
      le-ltb (length (setup n p k vs)) 6 (omega arith),
      within_true 1 64 n b.a_cell b.cells,
      within_true 1 16 p b.a_task b.tasks,
      le-leb (n + 2 * p) k b.room,
      le-leb k 128 b.nodes,
      le-ltb (length (setup n p k vs)) (6 + 4 * n) (omega (arith, words-length vs)),
    )

-- THE HEAD

module _ (κs : Lfts 1) (z : Head) where
  -- the head of the bytes s
  abbrev Heads : List ℕ → Type 0
  Heads s = read_head.Post κs (lent s, tt) z (lent s, tt)

  answered : (s : List ℕ) (a : Result ℕ Refusal) → Heads s → z.answer ≡ a → (setup_of s).answer ≡ a
  answered s a q h = sym (ap (λ x. x.answer) q) ∙ h

  -- a refused setup that still has cells
  pub refused_head_has_cells : (s : List ℕ) (r : Refusal) → Heads s → z.answer ≡ Err r → z.n ≢ 0 → ⊥
  refused_head_has_cells s r q a h = h (ap (λ x. x.n) q ∙ ap (λ m. m.n) (setup_blank s r (answered s _ q a)))

  -- a refused setup that still has tasks
  pub refused_head_has_tasks : (s : List ℕ) (r : Refusal) → Heads s → z.answer ≡ Err r → z.p ≢ 0 → ⊥
  refused_head_has_tasks s r q a h = h (ap (λ x. x.p) q ∙ ap (λ m. m.p) (setup_blank s r (answered s _ q a)))

  -- a refused setup that still has nodes
  pub refused_head_has_nodes : (s : List ℕ) (r : Refusal) → Heads s → z.answer ≡ Err r → z.k ≢ 0 → ⊥
  refused_head_has_nodes s r q a h = h (ap (λ x. x.k) q ∙ ap (λ m. m.k) (setup_blank s r (answered s _ q a)))

  -- an accepted setup with other sizes than its bytes have
  pub head_of_other_sizes : (s : List ℕ) (u : ℕ) → Heads s → z.answer ≡ Ok u → z.n ∷ z.p ∷ z.k ∷ [] ≢ get_or s 2 0 ∷ get_or s 3 0 ∷ get_or s 4 0 ∷ [] → ⊥
  head_of_other_sizes s u q a h =
      let t = taken s u (answered s _ q a) in
      h (rw (ap (λ x. x.n) q ∙ t.n, ap (λ x. x.p) q ∙ t.p, ap (λ x. x.k) q ∙ t.k))

  -- a setup that takes other bytes for its own than 6 and the 4 of each value
  pub head_uses_other_bytes : (s : List ℕ) (u : ℕ) → Heads s → z.answer ≡ Ok u → u ≢ 6 + 4 * z.n → ⊥
  head_uses_other_bytes s u q a h = let t = taken s u (answered s _ q a) in h (omega (arith, t.used, t.n, ap (λ x. x.n) q))

  -- a setup that uses more bytes than there are
  pub head_past_the_end : (s : List ℕ) (u : ℕ) → Heads s → z.answer ≡ Ok u → length s < u → ⊥
  head_past_the_end s u q a h = omega (arith, setup_uses s u (answered s _ q a), h)

  -- 11 for a setup whose spare byte isn't zero: 15 is due, whatever the sizes
  pub eleven_for_fifteen : (s : List ℕ) → Heads s → get_or s 5 0 ≢ 0 → z.answer ≡ Err Sizes → ⊥
  eleven_for_fifteen s q n a = n (spare_zero s (answered s _ q a))

  -- a setup that is accepted though its values are cut, be it by one byte
  pub cut_setup_accepted : (s : List ℕ) (u : ℕ) → Heads s → length s < 6 + 4 * get_or s 2 0 → z.answer ≡ Ok u → ⊥
  cut_setup_accepted s u q l a = let t = taken s u (answered s _ q a) in omega (arith, t.used, t.room, l)

  -- 20 for a setup with all of its values, even if no byte follows them
  pub whole_setup_too_short : (s : List ℕ) → Heads s → 6 + 4 * get_or s 2 0 ≤ length s → z.answer ≡ Err TooShort → ⊥
  whole_setup_too_short s q l a = omega (arith, too_short s (answered s _ q a), l)

  -- a setup whose mark's first byte isn't looked at
  pub first_mark_byte_taken : (s : List ℕ) (u : ℕ) → Heads s → get_or s 0 0 ≢ 0x53 → z.answer ≡ Ok u → ⊥
  first_mark_byte_taken s u q n a = n (taken s u (answered s _ q a)).first

  -- a setup whose mark's second byte isn't looked at
  pub second_mark_byte_taken : (s : List ℕ) (u : ℕ) → Heads s → get_or s 1 0 ≢ 0x55 → z.answer ≡ Ok u → ⊥
  second_mark_byte_taken s u q n a = n (taken s u (answered s _ q a)).second

  -- a setup that is accepted with a K below N+2P, be it by one
  pub small_pool_accepted : (s : List ℕ) (u : ℕ) → Heads s → get_or s 4 0 < get_or s 2 0 + 2 * get_or s 3 0 → z.answer ≡ Ok u → ⊥
  small_pool_accepted s u q l a =
      omega (arith, (sizes_bounds (get_or s 2 0) (get_or s 3 0) (get_or s 4 0) (taken s u (answered s _ q a)).sizes).4, l)

  -- a setup that is refused though its sizes are in bounds, even if K is N+2P
  pub sound_setup_refused : (n p k : ℕ) (vs : List ℕ) (r : Refusal) → InBounds n p k → length vs ≡ n → Heads (setup n p k vs) → z.answer ≡ Err r → ⊥
  sound_setup_refused n p k vs r b l q a = let e = sym (takes n p k vs b l) ∙ answered (setup n p k vs) _ q a in never cc

  -- the same of the small setup, whose K is N+2P
  pub small_setup_refused : (r : Refusal) → Heads small → z.answer ≡ Err r → ⊥
  unfolding computing
  small_setup_refused r q a = let e = answered small _ q a in never cc

-- WHAT A SETUP'S TABLES HOLD

module _ (s : List ℕ) where
  abbrev made : Machine
  made = (setup_of s).machine

  fits : Fits (head_of (setup_of s))
  fits = head_fits s (head_of (setup_of s)) refl

  -- of the fresh machine, which it is
  module _ (i : ℕ) where
    cell_at : i < made.n → get_or made.cells i 0 ≡ i
    cell_at h = sym (ap (λ m. get_or m.cells i 0) (setup-fresh s)) ∙ fresh-cell made.n made.p made.k s i fits.0 h

    cell-past : made.n ≤ i → get_or made.cells i 0 ≡ 0
    cell-past h = sym (ap (λ m. get_or m.cells i 0) (setup-fresh s)) ∙ fresh_cell_past made.n made.p made.k s i h

    value-at : i < made.n → get_or made.values i 0 ≡ value_given s i
    value-at h = sym (ap (λ m. get_or m.values i 0) (setup-fresh s)) ∙ fresh-value made.n made.p made.k s i (omega (arith, fits.0)) h

    value-past : made.n ≤ i → get_or made.values i 0 ≡ 0
    value-past h = sym (ap (λ m. get_or m.values i 0) (setup-fresh s)) ∙ fresh_value_past made.n made.p made.k s i h

    count_at : i < made.n + made.p → get_or made.counts i 0 ≡ 1
    count_at h = sym (ap (λ m. get_or m.counts i 0) (setup-fresh s)) ∙ fresh_count made.n made.p made.k s i (omega (arith, fits.0, fits.1)) h

    count_past : made.n + made.p ≤ i → get_or made.counts i 0 ≡ 0
    count_past h = sym (ap (λ m. get_or m.counts i 0) (setup-fresh s)) ∙ fresh_count_past made.n made.p made.k s i h

    task-at : i < made.p → get_or made.tasks i no_task ≡ idle_owning (node_no (made.n + i))
    task-at h = sym (ap (λ m. get_or m.tasks i no_task) (setup-fresh s)) ∙ fresh-task made.n made.p made.k s i fits.1 h

  all_nodes : made.n + made.p + made.free ≡ made.k
  unfolding fresh_of
  all_nodes = omega (arith, ap (λ m. m.free) (setup-fresh s), fits.2)

-- A LENT MACHINE

-- a table of one value has it at each place, and past its end by default
every_place : {A : Type 0} (n : ℕ) (a : A) (i : ℕ) → get_or (replicate n a) i a ≡ a
unfolding fill_to
every_place n a i = past_filled (λ (j : ℕ). a) 0 n a i (omega arith)

-- m is lent, whatever it holds, and m' is left; z is the answer
module _ (κs : Lfts 2) (m m' : Machine) (z : Result ℕ Refusal) where
  -- the setup of the bytes s
  abbrev Lays : List ℕ → Type 0
  Lays s = fill.Post κs (lent_mut m, (lent s, tt)) z (lent_mut m', (lent s, tt))

  blank : (s : List ℕ) (r : Refusal) → Lays s → z ≡ Err r → m' ≡ blank_of
  blank s r q a = q.0 ∙ setup_blank s r (sym q.1 ∙ a)

  -- a refused setup after which a cell holds what it held
  pub refused_setup_keeps_cell : (s : List ℕ) (r : Refusal) (i : ℕ) → Lays s → z ≡ Err r → get_or m'.cells i 0 ≢ 0 → ⊥
  refused_setup_keeps_cell s r i q a h = h (ap (λ x. get_or x.cells i 0) q.0 ∙ cell-past s i (omega (arith, ap (λ x. x.n) (sym q.0 ∙ blank s r q a))))

  -- a refused setup after which a node has the value that it had
  pub refused_setup_keeps_value : (s : List ℕ) (r : Refusal) (i : ℕ) → Lays s → z ≡ Err r → get_or m'.values i 0 ≢ 0 → ⊥
  refused_setup_keeps_value s r i q a h = h (ap (λ x. get_or x.values i 0) q.0 ∙ value-past s i (omega (arith, ap (λ x. x.n) (sym q.0 ∙ blank s r q a))))

  -- a refused setup after which a node has the count that it had
  pub refused_setup_keeps_count : (s : List ℕ) (r : Refusal) (i : ℕ) → Lays s → z ≡ Err r → get_or m'.counts i 0 ≢ 0 → ⊥
  refused_setup_keeps_count s r i q a h =
      let e = sym q.0 ∙ blank s r q a in
      h (ap (λ x. get_or x.counts i 0) q.0 ∙ count_past s i (omega (arith, ap (λ x. x.n) e, ap (λ x. x.p) e)))

  -- a refused setup after which a task has the record that it had
  pub refused_setup_keeps_task : (s : List ℕ) (r : Refusal) (i : ℕ) → Lays s → z ≡ Err r → task_at m' i ≢ no_task → ⊥
  refused_setup_keeps_task s r i q a h = h (ap (λ x. task_at x i) (blank s r q a) ∙ every_place 16 no_task i)

  -- an accepted setup with other sizes than its bytes have
  pub laid_with_other_sizes : (s : List ℕ) (u : ℕ) → Lays s → z ≡ Ok u → m'.n ∷ m'.p ∷ m'.k ∷ [] ≢ get_or s 2 0 ∷ get_or s 3 0 ∷ get_or s 4 0 ∷ [] → ⊥
  laid_with_other_sizes s u q a h =
      let t = taken s u (sym q.1 ∙ a) in
      h (rw (ap (λ x. x.n) q.0 ∙ t.n, ap (λ x. x.p) q.0 ∙ t.p, ap (λ x. x.k) q.0 ∙ t.k))

  -- an accepted setup that takes other bytes for its own than 6 and the 4 of each cell's value
  pub laid_by_other_bytes : (s : List ℕ) (u : ℕ) → Lays s → z ≡ Ok u → u ≢ 6 + 4 * m'.n → ⊥
  laid_by_other_bytes s u q a h = let t = taken s u (sym q.1 ∙ a) in h (omega (arith, t.used, t.n, ap (λ x. x.n) q.0))

  -- a cell below N that is at another node than its own
  pub cell_at_other_node : (s : List ℕ) (i : ℕ) → Lays s → i < m'.n → get_or m'.cells i 0 ≢ i → ⊥
  cell_at_other_node s i q l h = h (ap (λ x. get_or x.cells i 0) q.0 ∙ cell_at s i (omega (arith, l, ap (λ x. x.n) q.0)))

  -- a cell past N that holds what it held
  pub cell_past_n_kept : (s : List ℕ) (i : ℕ) → Lays s → m'.n ≤ i → get_or m'.cells i 0 ≢ 0 → ⊥
  cell_past_n_kept s i q l h = h (ap (λ x. get_or x.cells i 0) q.0 ∙ cell-past s i (omega (arith, l, ap (λ x. x.n) q.0)))

  -- a cell's node with another value than the cell's own bytes have
  pub value_of_other_bytes : (s : List ℕ) (i : ℕ) → Lays s → i < m'.n → get_or m'.values i 0 ≢ word_at s (6 + 4 * i) → ⊥
  value_of_other_bytes s i q l h = h (ap (λ x. get_or x.values i 0) q.0 ∙ value-at s i (omega (arith, l, ap (λ x. x.n) q.0)))

  -- a value of 7 that is read with its bytes the other way round
  pub value_read_backwards : Lays small → get_or m'.values 0 0 ≡ 7 * 16777216 → ⊥
  unfolding computing
  value_read_backwards q h = omega (arith, ap (λ x. get_or x.values 0 0) q.0, h)

  -- a node past the cells' own that has the value that it had
  pub value_past_n_kept : (s : List ℕ) (i : ℕ) → Lays s → m'.n ≤ i → get_or m'.values i 0 ≢ 0 → ⊥
  value_past_n_kept s i q l h = h (ap (λ x. get_or x.values i 0) q.0 ∙ value-past s i (omega (arith, l, ap (λ x. x.n) q.0)))

  -- a node of a cell or a task whose count isn't 1, be it the last of them, N+P-1
  pub owned_node_uncounted : (s : List ℕ) (i : ℕ) → Lays s → i < m'.n + m'.p → get_or m'.counts i 0 ≢ 1 → ⊥
  owned_node_uncounted s i q l h = h (ap (λ x. get_or x.counts i 0) q.0 ∙ count_at s i (omega (arith, l, ap (λ x. x.n) q.0, ap (λ x. x.p) q.0)))

  -- a node of nobody that has a count, be it the first of them, N+P
  pub free_node_counted : (s : List ℕ) (i : ℕ) → Lays s → m'.n + m'.p ≤ i → get_or m'.counts i 0 ≢ 0 → ⊥
  free_node_counted s i q l h = h (ap (λ x. get_or x.counts i 0) q.0 ∙ count_past s i (omega (arith, l, ap (λ x. x.n) q.0, ap (λ x. x.p) q.0)))

  -- a task i that owns another node than N+i, as if two tasks owned one
  pub task_owns_other_node : (s : List ℕ) (i : ℕ) → Lays s → i < m'.p → (task_at m' i).own.0 ≢ m'.n + i → ⊥
  task_owns_other_node s i q l h =
      let t = task-at s i (omega (arith, l, ap (λ x. x.p) q.0)) in
      h (omega (arith, ap (λ x. (task_at x i).own.0) q.0, ap (λ u. u.own.0) t, ap (λ x. x.n) q.0))

  -- a task that starts linked, or in another phase than 0
  pub task_starts_busy : (s : List ℕ) (i : ℕ) → Lays s → i < m'.p → (task_at m' i).phase ≢ 0 → ⊥
  task_starts_busy s i q l h =
      let t = task-at s i (omega (arith, l, ap (λ x. x.p) q.0)) in
      h (ap (λ x. (task_at x i).phase) q.0 ∙ ap (λ u. u.phase) t)

  -- a number of free nodes that has the tasks' own nodes in it, or is off by one
  pub free_nodes_miscounted : (s : List ℕ) → Lays s → m'.n + m'.p + m'.free ≢ m'.k → ⊥
  free_nodes_miscounted s q h =
      h (omega (arith, all_nodes s, ap (λ x. x.n) q.0, ap (λ x. x.p) q.0, ap (λ x. x.k) q.0, ap (λ x. x.free) q.0))

-- THE MACHINE OF ALL ZEROS

module _ (z : Machine) where
  abbrev Blanks : Type 0
  Blanks = blank-machine.Post tt tt z tt

  -- one that has free nodes
  pub blank_has_free : Blanks → z.free ≢ 0 → ⊥
  blank_has_free q h = h (ap (λ m. m.free) q)

  -- one in which a node has a count
  pub blank_counts_node : (i : ℕ) → Blanks → get_or z.counts i 0 ≢ 0 → ⊥
  blank_counts_node i q h = h (ap (λ m. get_or m.counts i 0) q ∙ every_place 128 0 i)

  -- one in which a task owns node i, as after a setup
  pub blank_task_owns : (i : ℕ) → Blanks → task_at z i ≢ no_task → ⊥
  blank_task_owns i q h = h (ap (λ m. task_at m i) q ∙ every_place 16 no_task i)

-- THE RECORD

module _ (κs : Lfts 1) (z : SetUp) where
  -- the record of the bytes s
  abbrev Sets : List ℕ → Type 0
  Sets s = machine-setup.Post κs (lent s, tt) z (lent s, tt)

  -- a refused setup whose record has free nodes
  pub refused_record_has_free : (s : List ℕ) (r : Refusal) → Sets s → z.answer ≡ Err r → z.machine.free ≢ 0 → ⊥
  refused_record_has_free s r q a h = h (ap (λ x. x.machine.free) q ∙ ap (λ m. m.free) (setup_blank s r (sym (ap (λ x. x.answer) q) ∙ a)))

  -- a refused setup whose record has cells
  pub refused_record_has_cells : (s : List ℕ) (r : Refusal) → Sets s → z.answer ≡ Err r → z.machine.n ≢ 0 → ⊥
  refused_record_has_cells s r q a h = h (ap (λ x. x.machine.n) q ∙ ap (λ m. m.n) (setup_blank s r (sym (ap (λ x. x.answer) q) ∙ a)))

  -- a record whose number of free nodes is off, be it by one
  pub record_free_off : (s : List ℕ) → Sets s → z.machine.n + z.machine.p + z.machine.free ≢ z.machine.k → ⊥
  record_free_off s q h =
      h (omega (arith, all_nodes s, ap (λ x. x.machine.n) q, ap (λ x. x.machine.p) q, ap (λ x. x.machine.k) q, ap (λ x. x.machine.free) q))

  -- the same of the small machine: 3 free nodes, though 3 of its 5 have owners
  pub small_free_three : Sets small → z.machine.free ≡ 3 → ⊥
  unfolding computing
  small_free_three q h = omega (arith, ap (λ x. x.machine.free) q, h)
