-- A record that is `Kept` is in range, one in range is sound, and an entry keeps the ranges (cells' Ranges). Assumes nothing.
use Prim.Native.Nat.{ℕ, ◌+◌, ◌*◌, ◌≤◌, ◌<◌}
use native.Mathlib.Omega.{arith}
use mathlib.Core.Path.{◌≡◌}
use mathlib.Core.Bool.{true}
use mathlib.Core.List.{List, [], ◌∷◌}
use borrow.Author.Tests.{lt-ltb, le-leb}
use Rattle.tallies.proofs.Lists.{within_true, every_true}
use Rattle.tallies.proofs.Tally.{T→true}
use Rattle.tasks.specs.Records.{task_ok}
use Rattle.tasks.specs.Phases.{is_phase}
use Rattle.tables.specs.Tables.{sizes_ok, cell_ok, count_ok, task_ok_in}
use Rattle.cells.specs.Machine.{pool_ok, in_range, Long}
use Rattle.cells.specs.Apply.{apply_of}
use Rattle.cells.proofs.Ranges.{fields_ok, ok_fields, pointed, recorded, sizes, keeps_ranges, keeps_lengths}
use Rattle.laws.specs.Types.{Task, Machine}
use Rattle.laws.specs.Kept.{InRange, Sound, Kept}
use Rattle.laws.specs.Schedules.{applied}
use Rattle.laws.proofs.Keeps.{task}
use Rattle.laws.proofs.Room.{shared_out, count_most}

-- a task's record that passes its test is in range
pub task_in_lem : (n k : ℕ) (t : Task) → task_ok n k t ≡ true → InRange n k t
task_in_lem n k t h =
    let f = fields_ok n k t h in
    record { phase = rw f.0 tt; cell = f.1.cell; held = f.1.held; own = f.1.own; cursor = f.1.cursor }

-- a record in range whose arrays have the lengths of their types is sound
sound_of : (m : Machine) → Long m → in_range m ≡ true → Sound m
sound_of m l r =
    let s = sizes m l r in
    record {
      cells_length = l.cells;
      values_length = l.values;
      counts_length = l.counts;
      tasks_length = l.tasks;
      a_cell = s.0;
      cells = s.1;
      a_task = s.2;
      tasks = s.3;
      room = s.4;
      nodes = s.5;
      pointed = pointed m l r;
      each = λ q h. task_in_lem m.n m.k (task m q) (recorded m l r q h);
    }

-- the ranges hold after every entry of a schedule
pub schedule_ranges : (m : Machine) → Long m → in_range m ≡ true → (es : List (List ℕ)) → in_range (applied m es) ≡ true
unfolding applied
schedule_ranges m l r [] = r
schedule_ranges m l r (e ∷ es) = schedule_ranges (apply_of m e).machine (keeps_lengths m l r e) (keeps_ranges m l r e) es

module _ (m : Machine) (K : Kept m) where
  -- every test of the ranges passes
  task_ok_lem : (q : ℕ) → q < m.p → task_ok_in m.tasks m.n m.k q ≡ true
  task_ok_lem q h =
      let r = K.sound.each q h in
      ok_fields m.n m.k (task m q) (T→true (is_phase (task m q).phase) r.phase) (record { cell = r.cell; held = r.held; own = r.own; cursor = r.cursor })

  -- no more free nodes than K
  free_most : m.free ≤ m.k
  free_most = omega (arith, K.free_counted, shared_out m.counts m.k)

  pub pool_ok_lem : pool_ok m.n m.p m.k m.free ≡ true
  unfolding sizes_ok
  pool_ok_lem =
      let k = K.sound in
      rw (
        within_true 1 64 m.n k.a_cell k.cells,
        within_true 1 16 m.p k.a_task k.tasks,
        le-leb (m.n + 2 * m.p) m.k k.room,
        le-leb m.k 128 k.nodes,
        le-leb m.free m.k free_most,
      )

  pub in_range_lem : in_range m ≡ true
  unfolding in_range
  in_range_lem =
      let k = K.sound in
      rw (
        pool_ok_lem,
        every_true (cell_ok m.cells m.k) m.n (λ x h. lt-ltb _ _ (k.pointed x h)),
        every_true (count_ok m.counts m.p) m.k (λ i h. le-leb _ _ (count_most m K i h)),
        every_true (task_ok_in m.tasks m.n m.k) m.p task_ok_lem,
      )

  -- an entry leaves a sound record
  pub entry-sound : (e : List ℕ) → Sound (apply_of m e).machine
  entry-sound e = sound_of (apply_of m e).machine (keeps_lengths m long in_range_lem e) (keeps_ranges m long in_range_lem e)
    where
      long : Long m
      long = let k = K.sound in record { cells = k.cells_length; values = k.values_length; counts = k.counts_length; tasks = k.tasks_length }
