-- What a deed must show of itself so that every fact of `Kept` beyond the ranges holds after it, and the deeds that show it alike. Assumes nothing.
use Prim.Native.Nat.{ℕ, ◌+◌, ◌-◌, ◌≤◌, ◌<◌}
use native.Mathlib.Omega.{arith}
use native.Mathlib.Decide.{ℕ_discrete}
use mathlib.Core.Path.{◌≡◌, refl, sym, ◌∙◌}
use mathlib.Core.List.{List}
use mathlib.Core.Logic.{◌≢◌}
use lib.ListN.{length, get_or, set, length-set}
use lib.Dec.{T, eqb}
use lib.Seq.{get_or-set_same}
use Rattle.tallies.specs.Tally.{bit, tally}
use Rattle.tallies.proofs.Tally.{tally-set, tally-at, tally-two, tally_places, down_at, bit_eq, bit_ne, bit_le, put-at, T→true}
use Rattle.tasks.specs.Records.{no_task, onward, owning}
use Rattle.tasks.specs.Phases.{is_phase, holds, live, passed}
use Rattle.tasks.specs.Holders.{keeps}
use Rattle.steps.specs.Table.{free_after}
use Rattle.cells.specs.Machine.{cells_after, values_after, counts_after, free_by, written}
use Rattle.laws.specs.Types.{NodeNo, TaskNo, Task, Write, Nothing, Point, Count, Value, Machine}
use Rattle.laws.specs.Meaning.{points, claims, pointers, claimers, free_in}
use Rattle.laws.specs.Kept.{Apart, Ready, Sound, Kept}
use Rattle.laws.proofs.Phases.{phase-gives}

-- task q's record
abbrev pub task : Machine → ℕ → Task
task m q = get_or m.tasks q no_task

-- a live task's own node, and a passed task's held one, weigh 1
pub owned : (t : Task) (i : ℕ) → T (live t.phase) → t.own.0 ≡ i → 1 ≤ claims i t
owned t i l r = rw (T→true (live t.phase) l) (omega (arith, bit_eq t.own.0 i r))

pub kept : (t : Task) (i : ℕ) → T (is_phase t.phase) → T (passed t.phase) → t.held.0 ≡ i → 1 ≤ keeps i t
kept t i h k r = rw (T→true (holds t.phase) (phase-gives passed holds tt t.phase h k)) (omega (arith, bit_eq t.held.0 i r))

-- a write is proper: to one of the cells or nodes of m, and with a count the number of free nodes that it leaves
abbrev pub Proper : Machine → Write → Type 0
Proper m Nothing = Unit {0}
Proper m (Point x v) = x.0 < m.n
Proper m (Count v d f) = (v.0 < m.k) × (f ≡ free_after m.free (get_or m.counts v.0 0) d)
Proper m (Value v y) = v.0 < m.k

-- what a task's record t and a write leave of m is `Kept`, if it is sound
abbrev pub KeptIfSound : Machine → TaskNo → Task → Write → Type 0
KeptIfSound m p t w = Sound (written m p t w) → Kept (written m p t w)

module _ (m : Machine) (K : Kept m) where
  pub in_list : {q : ℕ} → q < m.p → q < length m.tasks
  in_list h = omega (arith, K.sound.tasks_length, K.sound.tasks)

  -- task q's record, where t has just been put there
  pub put_here : {q : ℕ} (t : Task) → q < m.p → get_or (set m.tasks q t) q no_task ≡ t
  put_here {q} t h = get_or-set_same m.tasks q t no_task (in_list h)

  pub in_counts : {i : ℕ} → i < m.k → i < length m.counts
  in_counts h = omega (arith, K.sound.counts_length, K.sound.nodes)

  pub in_values : {i : ℕ} → i < m.k → i < length m.values
  in_values h = omega (arith, K.sound.values_length, K.sound.nodes)

  pub in_cells : {x : ℕ} → x < m.n → x < length m.cells
  in_cells h = omega (arith, K.sound.cells_length, K.sound.cells)

  -- a node that a cell points at is nobody's own
  pub pointed : (x i : ℕ) → x < m.n → get_or m.cells x 0 ≡ i → (y : ℕ) → y < m.p → T (live (task m y).phase) → (task m y).own.0 ≢ i
  pointed x i hx q y hy l r =
      let j = get_or m.cells x 0 in
      omega (
        arith,
        K.sole j (K.sound.pointed x hx),
        tally-at (points j) m.n m.cells x 0 hx (in_cells hx),
        bit_eq j j refl,
        tally-at (claims j) m.p m.tasks y no_task hy (in_list hy),
        owned (task m y) j l (r ∙ sym q),
      )

  -- how many nodes are free after node v's count went to d
  pub freed : (v d : ℕ) → v < m.k → free_in (set m.counts v d) m.k + bit (eqb (get_or m.counts v 0) 0) ≡ m.free + bit (eqb d 0)
  freed v d h =
      let zero_one : ℕ → ℕ = λ c. bit (eqb c 0) in
      let long : m.k ≤ length m.counts = omega (arith, K.sound.counts_length, K.sound.nodes) in
      omega (
        arith,
        K.free_counted,
        tally_places zero_one m.k m.counts 0 long,
        tally_places zero_one m.k (set m.counts v d) 0 (omega (arith, length-set m.counts v d)),
        tally-set zero_one m.k m.counts v d 0 h (in_counts h),
      )

  -- the kept number is the full count after a proper write
  tells : (w : Write) → Proper m w → free_by w m.free ≡ free_in (counts_after m w) m.k
  tells Nothing h = K.free_counted
  tells (Point x v) h = K.free_counted
  tells (Count v d f) h = h.1 ∙ omega (arith, freed v.0 d h.0)
  tells (Value v y) h = K.free_counted

  -- two tasks never own one node
  pub own_apart : (x y : ℕ) → x < m.p → y < m.p → x ≢ y → T (live (task m x).phase) → T (live (task m y).phase) → (task m x).own.0 ≢ (task m y).own.0
  own_apart x y hx hy ne lx ly r =
      let i = (task m y).own.0 in
      omega (
        arith,
        K.sole i (K.sound.each y hy).own,
        owned (task m x) i lx r,
        owned (task m y) i ly refl,
        tally-two (claims i) m.p m.tasks x y no_task ne hx (in_list hx) hy (in_list hy),
      )

-- task p's record is t
module _ (m : Machine) (K : Kept m) (p : TaskNo) (hp : p.0 < m.p) (t : Task) (e : task m p.0 ≡ t) where
  abbrev tasks_with : Task → List Task
  tasks_with t' = set m.tasks p.0 t'

  -- t's part of every sum, and the sums after t becomes t'
  pub part : (w : Task → ℕ) → w t ≤ tally w m.p m.tasks
  part w = rw e at (tally-at w m.p m.tasks p.0 no_task hp (in_list m K hp))

  pub moved : (w : Task → ℕ) (t' : Task) → tally w m.p (tasks_with t') + w t ≡ tally w m.p m.tasks + w t'
  moved w t' = rw e at (tally-set w m.p m.tasks p.0 t' no_task hp (in_list m K hp))

  abbrev AllApart : Task → Type 0
  AllApart t' = (x y : ℕ) → x < m.p → y < m.p → Apart (get_or (tasks_with t') x no_task) (get_or (tasks_with t') y no_task)

  -- the fact of each pair of tasks, after t became t'
  pub pairs : (t' : Task) → ((y : ℕ) → y < m.p → y ≢ p.0 → Apart t' (task m y)) → ((x : ℕ) → x < m.p → x ≢ p.0 → Apart (task m x) t') → Apart t' t' → AllApart t'
  pairs t' left right self x y hx hy =
      let in_p = in_list m K hp in
      put-at (λ a. Apart a (get_or (tasks_with t') y no_task)) m.tasks p.0 t' no_task in_p
      (put-at (Apart t') m.tasks p.0 t' no_task in_p self y (left y hy)) x
      (λ nx. put-at (Apart (task m x)) m.tasks p.0 t' no_task in_p (right x hx nx) y (λ ny. K.held x y hx hy))

  -- and so where t' holds and owns no more than t
  pub tame : (t' : Task) → (T (passed t'.phase) → T (passed t.phase) × (t'.held.0 ≡ t.held.0))
      → (T (live t'.phase) → T (live t.phase) × (t'.own.0 ≡ t.own.0)) → AllApart t'
  tame t' passes lives = pairs t'
      (λ y hy ny k l q. let a : Apart t (task m y) = rw e at (K.held p.0 y hp hy) in a (passes k).0 l (q ∙ (passes k).1))
      (λ x hx nx k l q. let a : Apart (task m x) t = rw e at (K.held x p.0 hx hp) in a k (lives l).0 (sym (lives l).1 ∙ q))
      (λ k l q. let a : Apart t t = rw e at (K.held p.0 p.0 hp hp) in a (passes k).0 (lives l).0 (sym (lives l).1 ∙ q ∙ (passes k).1))

  -- t' claims, holds and owns no more than t
  pub record Calm (t' : Task) : Type 0 where
    pub less : (i : ℕ) → claims i t' ≤ claims i t
    pub passes : T (passed t'.phase) → T (passed t.phase) × (t'.held.0 ≡ t.held.0)
    pub lives : T (live t'.phase) → T (live t.phase) × (t'.own.0 ≡ t.own.0)
    pub ready : t'.phase ≢ 8

  -- what t becoming t' and the three tables must show
  pub record Local (t' : Task) (cells values counts : List ℕ) : Type 0 where
    pub balance : (i : ℕ) → i < m.k → get_or counts i 0 + pointers m i + claims i t + keeps i t ≡ get_or m.counts i 0 + tally (points i) m.n cells + claims i t' + keeps i t'
    pub sole : (i : ℕ) → i < m.k → tally (points i) m.n cells + claimers m i + claims i t' ≤ 1 + claims i t
    pub held : AllApart t'
    pub ready : Ready values t'
    pub written : (x : ℕ) → x < m.p → x ≢ p.0 → Ready values (task m x)

  abbrev pub Leaves : Task → Write → Type 0
  Leaves t' w = Local t' (cells_after m w) (values_after m w) (counts_after m w)

  pub stepped : (t' : Task) (w : Write) → Leaves t' w → Proper m w → KeptIfSound m p t' w
  stepped t' w l h s = record {
    sound = s;
    free_counted = tells m K w h;
    counted = λ i h. omega (arith, K.counted i h, l.balance i h, moved (claims i) t', moved (keeps i) t');
    sole = λ i h. omega (arith, l.sole i h, moved (claims i) t');
    held = l.held;
    written = λ x hx. put-at (Ready (values_after m w)) m.tasks p.0 t' no_task (in_list m K hp) l.ready x (l.written x hx);
  }

  -- pointers and values stay, the counts follow the record, and it claims, holds and owns no more
  pub calm : (t' : Task) (counts : List ℕ) → Calm t'
      → ((i : ℕ) → i < m.k → get_or counts i 0 + claims i t + keeps i t ≡ get_or m.counts i 0 + claims i t' + keeps i t') → Local t' m.cells m.values counts
  calm t' counts c b = record {
    balance = λ i h. omega (arith, b i h);
    sole = λ i h. omega (arith, K.sole i h, c.less i);
    held = tame t' c.passes c.lives;
    ready = λ q. absurd (c.ready q);
    written = λ x hx nx. K.written x hx;
  }

  pub alone : (t' : Task) → Calm t' → ((i : ℕ) → claims i t + keeps i t ≡ claims i t' + keeps i t') → Leaves t' Nothing
  alone t' c b = calm t' m.counts c (λ i h. omega (arith, b i))

  -- the held node's count goes down
  pub lowers : (t' : Task) → 0 < get_or m.counts t.held.0 0 → Calm t' → ((i : ℕ) → claims i t + keeps i t ≡ claims i t' + keeps i t' + bit (eqb t.held.0 i))
      → Local t' m.cells m.values (set m.counts t.held.0 (get_or m.counts t.held.0 0 - 1))
  lowers t' h c b =
      let in-k : t.held.0 < m.k = rw e at (K.sound.each p.0 hp).held in
      calm t' (set m.counts t.held.0 (get_or m.counts t.held.0 0 - 1)) c
      (λ i hi. omega (arith, b i, down_at m.counts t.held.0 i (in_counts m K in-k) h))

  -- the task comes to own a node that nothing points at and nobody claims or holds, but the task itself
  pub claiming : (v : NodeNo) (counts : List ℕ) → pointers m v.0 + claimers m v.0 ≡ claims v.0 t
      → ((x : ℕ) → x < m.p → x ≢ p.0 → keeps v.0 (task m x) ≡ 0)
      → ((i : ℕ) → i < m.k → get_or counts i 0 + claims i t + keeps i t ≡ get_or m.counts i 0 + bit (eqb v.0 i))
      → Local (onward (owning t v) 0) m.cells m.values counts
  claiming v counts free unheld b = record {
    balance = λ i h. omega (arith, b i h);
    sole = λ i h. elim (ℕ_discrete v.0 i) [
      | yes q ↦ omega (arith, rw q at free, bit_le (eqb v.0 i))
      | no q ↦ omega (arith, K.sole i h, bit_ne v.0 i q)
    ];
    held = pairs (onward (owning t v) 0) (λ y hy ny k. absurd k)
        (λ x hx nx k l q. omega (arith, unheld x hx nx, kept (task m x) v.0 (K.sound.each x hx).phase k (sym q))) (λ k. absurd k);
    ready = λ q. absurd (omega arith);
    written = λ x hx nx. K.written x hx;
  }
