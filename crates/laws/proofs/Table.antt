-- Every row of the step table and every call begun keep what `Kept` says beyond the ranges; Ranges has those, and so every entry keeps `Kept`. Assumes nothing.
use Rattle.std.specs.Prelude.{Ok}
use Prim.Native.Nat.{ℕ, ◌+◌, ◌-◌, ◌≤◌, ◌<◌}
use native.Mathlib.Omega.{arith}
use mathlib.Core.Path.{◌≡◌, refl, sym, ap, ◌∙◌}
use mathlib.Core.Bool.{not, ◌||◌}
use mathlib.Core.List.{List}
use mathlib.Core.Logic.{◌≢◌}
use lib.ListN.{get_or, set}
use lib.Seq.{get_or-set_same, get_or-set_other}
use lib.Dec.{T, eqb}
use Rattle.tallies.specs.Tally.{bit, tally}
use Rattle.tallies.proofs.Tally.{tally-set, tally-at, tally-two, up_at, down_at, bit_eq}
use Rattle.wire.specs.Bytes.{word_at}
use Rattle.tasks.specs.Calls.{begun_of}
use Rattle.tasks.specs.Records.{cell_no, no_task, onward, holding, owning, probing}
use Rattle.tasks.specs.Phases.{live, passed}
use Rattle.tasks.specs.Holders.{keeps}
use Rattle.steps.specs.Table.{after, effect_of}
use Rattle.cells.specs.Machine.{seen_of}
use Rattle.cells.specs.Apply.{apply_of}
use Rattle.laws.specs.Types.{CellNo, NodeNo, TaskNo, Task, Load, Store, Release, Validate, Nothing, Point, Value, Deed, Machine}
use Rattle.laws.specs.Meaning.{points, claims, pointers}
use Rattle.laws.specs.Kept.{InRange, Sound, Kept}
use Rattle.laws.proofs.Phases.{implied}
use Rattle.laws.proofs.Entries.{by_entry, task_no}
use Rattle.laws.proofs.Rows.{Moves, l1, l2, l3_passed, l3_turned, l4, l5, s1, s2_swapped, s2_missed, s3_took, s3_shared, s5, s6_took, s6_busy, s7, r1, v1_good, v1_gone, moves}
use Rattle.laws.proofs.Keeps.{task, in_list, in_counts, in_values, in_cells, pointed, own_apart, part, pairs, tame, Proper, KeptIfSound, Calm, Local, Leaves, stepped, calm, alone, lowers, claiming}
use Rattle.laws.proofs.Ranges.{entry-sound}

module _ (m : Machine) (K : Kept m) (p : TaskNo) (hp : p.0 < m.p) where
  abbrev t : Task
  t = task m p.0

  abbrev at : ℕ → Task
  at f = onward t f

  in_t : InRange m.n m.k t
  in_t = K.sound.each p.0 hp

  -- going on from phase a to phase b, where the record then claims, holds and owns no more
  abbrev Gently : ℕ → ℕ → Type 0
  Gently a b = (b ≢ 8) × ((i : ℕ) → claims i (at b) ≤ claims i (at a)) × T (not (passed b) || passed a) × T (not (live b) || live a)

  onward_calm : (a b : ℕ) (e : t ≡ at a) → Gently a b → Calm m K p hp (at a) e (at b)
  onward_calm a b e g = record {
    less = g.1;
    passes = λ w. (implied (passed b) (passed a) g.2 w, refl);
    lives = λ w. (implied (live b) (live a) g.3 w, refl);
    ready = g.0;
  }

  -- and nothing else
  goes : (a b : ℕ) (e : t ≡ at a) → Gently a b → ((i : ℕ) → claims i (at a) + keeps i (at a) ≡ claims i (at b) + keeps i (at b)) → Leaves m K p hp (at a) e (at b) Nothing
  goes a b e g f = alone m K p hp (at a) e (at b) (onward_calm a b e g) f

  -- the cursor goes on, in phases that own and pass nothing
  probes : (a : ℕ) (e : t ≡ at a) (v : NodeNo) → Calm m K p hp (at a) e (onward (probing t (after m.k v)) 12)
  probes a e v = record {
    less = λ i. omega arith;
    passes = λ k. absurd k;
    lives = λ l. absurd l;
    ready = omega arith;
  }

  l3-keeps : (e : t ≡ at 3) → t.held.0 ≡ get_or m.cells t.cell.0 0 → Leaves m K p hp (at 3) e (at 4) Nothing
  l3-keeps e q = record {
    balance = λ i h. refl;
    sole = λ i h. omega (arith, K.sole i h);
    held = pairs m K p hp (at 3) e (at 4) (λ y hy ny k. free y hy) (λ x hx nx. rw e at (K.held x p.0 hx hp)) (λ k. rw e at (free p.0 hp));
    ready = λ w. absurd (omega arith);
    written = λ x hx nx. K.written x hx;
  }
    where
      free : (y : ℕ) → y < m.p → T (live (task m y).phase) → (task m y).own.0 ≢ t.held.0
      free = pointed m K t.cell.0 t.held.0 in_t.cell (sym q)

  s1-keeps : (e : t ≡ at 7) → Leaves m K p hp (at 7) e (at 8) (Value t.own t.value)
  s1-keeps e = record {
    balance = λ i h. refl;
    sole = λ i h. omega (arith, K.sole i h);
    held = tame m K p hp (at 7) e (at 8) (λ k. (tt, refl)) (λ l. (tt, refl));
    ready = λ w. get_or-set_same m.values t.own.0 t.value 0 (in_values m K in_t.own);
    written = λ x hx nx w.
        let a : T (live 7) → (task m x).own.0 ≢ t.own.0 = rw e at (own_apart m K x p.0 hx hp nx (rw w tt)) in
        get_or-set_other m.values t.own.0 (task m x).own.0 t.value 0 (a tt) ∙ K.written x hx w;
  }

  s2-keeps : (e : t ≡ at 8) → t.held.0 ≡ get_or m.cells t.cell.0 0 → Leaves m K p hp (at 8) e (at 9) (Point t.cell t.own)
  s2-keeps e q = record {
    balance = λ i h. omega (arith, swing i);
    sole = λ i h. omega (arith, K.sole i h, swing i);
    held = tame m K p hp (at 8) e (at 9) (λ k. absurd k) (λ l. absurd l);
    ready = λ w. absurd (omega arith);
    written = λ x hx nx. K.written x hx;
  }
    where
      swing : (i : ℕ) → tally (points i) m.n (set m.cells t.cell.0 t.own.0) + bit (eqb t.held.0 i) ≡ pointers m i + bit (eqb t.own.0 i)
      swing i = rw (sym q) at (tally-set (points i) m.n m.cells t.cell.0 t.own.0 0 in_t.cell (in_cells m K in_t.cell))

  -- S3 leaves a count of 1: the task itself is all that holds m, and nothing else claims it
  s3-keeps : (e : t ≡ at 9) → get_or m.counts t.held.0 0 - 1 ≡ 1
      → Local m K p hp (at 9) e (onward (owning t t.held) 0) m.cells m.values (set m.counts t.held.0 (get_or m.counts t.held.0 0 - 1))
  s3-keeps e one =
      let v = t.held.0 in
      claiming m K p hp (at 9) e t.held (set m.counts v (get_or m.counts v 0 - 1))
      (omega (arith, K.counted v in_t.held, part m K p hp (at 9) e (claims v), part m K p hp (at 9) e (keeps v), bit_eq v v refl))
      (λ x hx nx. omega (
        arith,
        K.counted v in_t.held,
        bit_eq v v refl,
        part m K p hp (at 9) e (claims v),
        rw e at (tally-two (keeps v) m.p m.tasks x p.0 no_task nx hx (in_list m K hx) hp (in_list m K hp)),
      ))
      (λ i h. omega (arith, down_at m.counts v i (in_counts m K in_t.held) (omega arith)))

  -- S6 finds a count of 0: nothing points at, claims or holds the node
  s6-keeps : (e : t ≡ at 12) → get_or m.counts t.cursor.0 0 ≡ 0 → Local m K p hp (at 12) e (onward (owning t t.cursor) 0) m.cells m.values (set m.counts t.cursor.0 1)
  s6-keeps e z =
      let u = t.cursor.0 in
      claiming m K p hp (at 12) e t.cursor (set m.counts u 1) (omega (arith, K.counted u in_t.cursor))
      (λ x hx nx. omega (arith, K.counted u in_t.cursor, tally-at (keeps u) m.p m.tasks x no_task hx (in_list m K hx)))
      (λ i h. omega (arith, rw z at (up_at m.counts u i (in_counts m K in_t.cursor))))

  row_keeps : {n : ℕ} {d : Deed} → Moves t (seen_of m t) n d → (e : t ≡ at n) → Leaves m K p hp (at n) e d.task d.write
  row_keeps l1 e =
      alone m K p hp (at 1) e (onward (holding t _) 2) (record {
        less = λ i. omega arith;
        passes = λ k. absurd k;
        lives = λ l. (tt, refl);
        ready = omega arith;
      }) (λ i. omega arith)
  row_keeps (l2 h) e = calm m K p hp (at 2) e (at 3) _ (onward_calm 2 3 e (omega arith)) (λ i h. omega (arith, up_at m.counts t.held.0 i (in_counts m K in_t.held)))
  row_keeps (l3_passed q) e = l3-keeps e q
  row_keeps (l3_turned q) e = goes 3 5 e (omega arith) (λ i. omega arith)
  row_keeps l4 e = goes 4 6 e (omega arith) (λ i. omega arith)
  row_keeps (l5 h) e = lowers m K p hp (at 5) e (at 1) h (onward_calm 5 1 e (omega arith)) (λ i. omega arith)
  row_keeps s1 e = s1-keeps e
  row_keeps (s2_swapped q) e = s2-keeps e q
  row_keeps (s2_missed q) e = goes 8 13 e (omega arith) (λ i. omega arith)
  row_keeps (s3_took q) e = s3-keeps e q
  row_keeps (s3_shared h q) e = lowers m K p hp (at 9) e (at 11) h (onward_calm 9 11 e (omega arith)) (λ i. omega arith)
  row_keeps (s5 h) e = lowers m K p hp (at 11) e _ h (probes 11 e t.held) (λ i. omega arith)
  row_keeps (s6_took q) e = s6-keeps e q
  row_keeps (s6_busy q) e = alone m K p hp (at 12) e _ (probes 12 e t.cursor) (λ i. omega arith)
  row_keeps (s7 h) e = lowers m K p hp (at 13) e (at 0) h (onward_calm 13 0 e (omega arith)) (λ i. omega arith)
  row_keeps (r1 h) e = lowers m K p hp (at 14) e (at 0) h (onward_calm 14 0 e (omega arith)) (λ i. omega arith)
  row_keeps (v1_good q) e = goes 15 6 e (omega arith) (λ i. omega arith)
  row_keeps (v1_gone q) e = goes 15 6 e (omega arith) (λ i. omega arith)

  -- what a row writes is proper
  pub row_proper : {n : ℕ} {d : Deed} → Moves t (seen_of m t) n d → Proper m d.write
  row_proper l1 = tt
  row_proper (l2 h) = (in_t.held, refl)
  row_proper (l3_passed q) = tt
  row_proper (l3_turned q) = tt
  row_proper l4 = tt
  row_proper (l5 h) = (in_t.held, refl)
  row_proper s1 = in_t.own
  row_proper (s2_swapped q) = in_t.cell
  row_proper (s2_missed q) = tt
  row_proper (s3_took q) = (in_t.held, refl)
  row_proper (s3_shared h q) = (in_t.held, refl)
  row_proper (s5 h) = (in_t.held, refl)
  row_proper (s6_took q) = (in_t.cursor, rw q refl)
  row_proper (s6_busy q) = tt
  row_proper (s7 h) = (in_t.held, refl)
  row_proper (r1 h) = (in_t.held, refl)
  row_proper (v1_good q) = tt
  row_proper (v1_gone q) = tt

  step_keeps : (d : Deed) → effect_of t (seen_of m t) ≡ Ok d → KeptIfSound m p d.task d.write
  step_keeps d q = let r = moves t (seen_of m t) d q in stepped m K p hp t refl d.task d.write (row_keeps r refl) (row_proper r)

  -- a call begun changes the task's record, to one that claims, holds and owns what it did
  begun : (f : ℕ) (t' : Task) (e : t ≡ at f) → Calm m K p hp (at f) e t' → ((i : ℕ) → claims i (at f) + keeps i (at f) ≡ claims i t' + keeps i t') → KeptIfSound m p t' Nothing
  begun f t' e c b = stepped m K p hp (at f) e t' Nothing (alone m K p hp (at f) e t' c b) tt

  load-keeps : (x : CellNo) → t.phase ≡ 0 → KeptIfSound m p (begun_of t (Load x)) Nothing
  load-keeps x q = begun 0 (begun_of t (Load x)) (ap (onward t) q) (record {
    less = λ i. omega arith;
    passes = λ k. absurd k;
    lives = λ l. (tt, refl);
    ready = omega arith;
  }) (λ i. omega arith)

  store_keeps : (y : ℕ) → t.phase ≡ 6 → KeptIfSound m p (begun_of t (Store y)) Nothing
  store_keeps y q = begun 6 (begun_of t (Store y)) (ap (onward t) q) (record {
    less = λ i. omega arith;
    passes = λ k. (tt, refl);
    lives = λ l. (tt, refl);
    ready = omega arith;
  }) (λ i. omega arith)

  release-keeps : t.phase ≡ 6 → KeptIfSound m p (begun_of t Release) Nothing
  release-keeps q = let e = ap (onward t) q in begun 6 (at 14) e (onward_calm 6 14 e (omega arith)) (λ i. omega arith)

  validate-keeps : t.phase ≡ 6 → KeptIfSound m p (begun_of t Validate) Nothing
  validate-keeps q = let e = ap (onward t) q in begun 6 (at 15) e (onward_calm 6 15 e (omega arith)) (λ i. omega arith)

-- one entry, whatever its bytes
pub entry-keeps : (m : Machine) (e : List ℕ) → Kept m → Kept (apply_of m e).machine
entry-keeps m e K =
    by_entry m e (λ a. Sound a.machine → Kept a.machine) (λ i r w s. K)
    (λ a h. load-keeps m K (task_no e) a.task (cell_no (get_or e 4 0)) a.phase)
    (λ a h. store_keeps m K (task_no e) a.task (word_at e 6) a.phase)
    (λ a s. K)
    (λ a. release-keeps m K (task_no e) a.task a.phase)
    (λ a. validate-keeps m K (task_no e) a.task a.phase)
    (λ d s. step_keeps m K (task_no e) s.task d s.does)
    (entry-sound m K e)
