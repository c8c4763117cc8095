-- Room in the pool, and how high a count goes. Assumes nothing.
use Prim.Native.Nat.{ℕ, zero, suc, ◌+◌, ◌*◌, ◌≤◌, ◌<◌}
use native.Mathlib.Omega.{arith}
use native.Mathlib.Decide.{ℕ_discrete}
use mathlib.Core.Path.{◌≡◌, refl, ap}
use mathlib.Core.Bool.{Bool, true, false, ◌&&◌}
use mathlib.Core.List.{List}
use lib.ListN.{get_or}
use lib.Dec.{T, eqb, ltb}
use borrow.Author.Tests.{eqb-true, lt-ltb}
use Rattle.tallies.specs.Tally.{bit, tally, total}
use Rattle.tallies.proofs.Tally.{tally-at, tally_mono, tally-add, tally_most, bit_eq, bit_ne, bit_le, T→true, total-tally, total-add, total_mono, total_one, total-split, total-zero}
use Rattle.tallies.proofs.Bounds.{tally_short}
use Rattle.tasks.specs.Records.{no_task}
use Rattle.tasks.specs.Phases.{live, holds}
use Rattle.tasks.specs.Holders.{keeps}
use Rattle.laws.specs.Types.{Task, Machine}
use Rattle.laws.specs.Meaning.{points, owns, swapped, pointers, used_in, free_in, used, free}
use Rattle.laws.specs.Kept.{Kept}
use Rattle.laws.proofs.Keeps.{task, in_list}

-- at most N + 2P - 1 nodes are in use (proved in Busy)
abbrev pub Spared : Machine → Type 0
Spared m = used m + 1 ≤ m.n + 2 * m.p

-- a node in phase 9's hands is a node that the task holds
swapped-keeps : (i : ℕ) (t : Task) → swapped i t ≤ keeps i t
swapped-keeps i t = nine (eqb t.phase 9) (eqb-true t.phase 9)
  where
    nine : (b : Bool) → (b ≡ true → t.phase ≡ 9) → bit (b && eqb t.held.0 i) ≤ keeps i t
    nine true h = rw (h refl) (omega arith)
    nine false h = omega arith

-- the nodes that a task's record takes up: its own, and its m
unfoldable pub weighs : ℕ → Task → ℕ
weighs k t = total (λ i. owns i t + keeps i t) k

gated : (b : Bool) (v k : ℕ) → total (λ i. bit (b && eqb v i)) k ≤ bit b
gated true v k = total_one v k
gated false v k = omega (arith, total-zero k)

pub takes_up : (k : ℕ) (t : Task) → weighs k t ≤ bit (live t.phase) + bit (holds t.phase)
unfolding weighs
takes_up k t = omega (arith, total-add (λ i. owns i t) (λ i. keeps i t) k, gated (live t.phase) t.own.0 k, gated (holds t.phase) t.held.0 k)

pub two : (k : ℕ) (t : Task) → weighs k t ≤ 2
two k t = omega (arith, takes_up k t, bit_le (live t.phase), bit_le (holds t.phase))

-- a node is in use or free
pub shared_out : (counts : List ℕ) (k : ℕ) → used_in counts k + free_in counts k ≡ k
shared_out counts k = total-split (λ i. bit (ltb 0 (get_or counts i 0))) (λ i. bit (eqb (get_or counts i 0) 0)) k (λ i h. one (get_or counts i 0))
  where
    one : (c : ℕ) → bit (ltb 0 c) + bit (eqb c 0) ≡ 1
    one zero = refl
    one (suc c) = omega (arith, ap bit (lt-ltb 0 (suc c) (omega arith)), bit_ne (suc c) 0 (omega arith))

module _ (m : Machine) (K : Kept m) where
  abbrev pub per_node : ℕ → ℕ
  per_node i = pointers m i + tally (λ t. owns i t + keeps i t) m.p m.tasks

  -- a node in use is pointed at, owned or held
  pub in_use : (i : ℕ) → i < m.k → bit (ltb 0 (get_or m.counts i 0)) ≤ per_node i
  in_use i h =
      elim (ℕ_discrete (get_or m.counts i 0) 0) [
        | yes q ↦ rw q (omega arith)
        | no q ↦ omega (
          arith,
          bit_le (ltb 0 (get_or m.counts i 0)),
          K.counted i h,
          tally-add (owns i) (swapped i) m.p m.tasks,
          tally-add (owns i) (keeps i) m.p m.tasks,
          tally_mono (swapped i) (keeps i) m.p m.tasks (swapped-keeps i),
        )
      ]

  -- a cell points at one node at most, and a task takes up two at most
  pub shares : total per_node m.k ≤ m.n + tally (weighs m.k) m.p m.tasks
  unfolding weighs
  shares =
      omega (
        arith,
        total-add (pointers m) (λ i. tally (λ t. owns i t + keeps i t) m.p m.tasks) m.k,
        total-tally points m.k m.n m.cells,
        total-tally (λ i t. owns i t + keeps i t) m.k m.p m.tasks,
        tally_most (λ v. total (λ i. points i v) m.k) 1 m.n m.cells (λ v. total_one v m.k),
      )

  pub used_up : used m ≤ m.n + tally (weighs m.k) m.p m.tasks
  used_up = omega (arith, total_mono (λ i. bit (ltb 0 (get_or m.counts i 0))) per_node m.k in_use, shares)

  pub used_less : (q : ℕ) → q < m.p → (task m q).phase ≡ 12 → used m + 2 ≤ m.n + 2 * m.p
  used_less q hq w =
      omega (arith, used_up, tally_short (weighs m.k) 2 m.p m.tasks q no_task (two m.k) hq (in_list m K hq), rw w at (takes_up m.k (task m q)))

  -- while some task probes at least two nodes are free
  pub two-free : (q : ℕ) → q < m.p → (task m q).phase ≡ 12 → 2 ≤ free m
  two-free q hq w = omega (arith, used_less q hq w, shared_out m.counts m.k, K.sound.room)

  -- no count passes P + 1
  pub count_most : (i : ℕ) → i < m.k → get_or m.counts i 0 ≤ m.p + 1
  count_most i h = omega (arith, K.counted i h, K.sole i h, tally_most (keeps i) 1 m.p m.tasks (λ t. bit_le (holds t.phase && eqb t.held.0 i)))

  -- a task that holds its m weighs on its count, and one in L2 does not yet
  pub can_lower : (q : ℕ) → q < m.p → T (holds (task m q).phase) → 0 < get_or m.counts (task m q).held.0 0
  can_lower q hq h =
      let v = (task m q).held.0 in
      let one : 1 ≤ keeps v (task m q) = rw (T→true (holds (task m q).phase) h) (omega (arith, bit_eq v v refl)) in
      omega (arith, K.counted v (K.sound.each q hq).held, tally-at (keeps v) m.p m.tasks q no_task hq (in_list m K hq))

  pub can_raise : (q i : ℕ) → q < m.p → i < m.k → (task m q).phase ≡ 2 → get_or m.counts i 0 ≤ m.p
  can_raise q i hq hi w =
      omega (
        arith,
        K.counted i hi,
        K.sole i hi,
        rw w at (tally_short (keeps i) 1 m.p m.tasks q no_task (λ t. bit_le (holds t.phase && eqb t.held.0 i)) hq (in_list m K hq)),
      )
