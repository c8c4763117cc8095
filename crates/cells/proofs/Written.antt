-- A task's record, the one place and the number of free nodes, written where they lie, give the machine after the step. Assumes nothing.
use Prim.Native.Nat.{ℕ}
use mathlib.Core.Path.{◌≡◌, refl, ◌∙◌}
use mathlib.Core.List.{List}
use lib.ListN.{length, set, length-set}
use Rattle.tables.specs.Tables.{put_in}
use Rattle.tables.proofs.Laws.{put-set}
use Rattle.cells.specs.Types.{Machine, TaskNo, Task, Write, Nothing, Point, Count, Value}
use Rattle.cells.specs.Machine.{cells_by, values_by, counts_by, free_by, cells_after, values_after, counts_after, written, Long}

cells-put : (m : Machine) (w : Write) → length m.cells ≡ 64 → cells_by (put_in 64) w m.cells ≡ cells_after m w
cells-put m Nothing h = refl
cells-put m (Point x v) h = put-set 64 m.cells x.0 v.0 h
cells-put m (Count v c f) h = refl
cells-put m (Value v y) h = refl

values-put : (m : Machine) (w : Write) → length m.values ≡ 128 → values_by (put_in 128) w m.values ≡ values_after m w
values-put m Nothing h = refl
values-put m (Point x v) h = refl
values-put m (Count v c f) h = refl
values-put m (Value v y) h = put-set 128 m.values v.0 y h

counts-put : (m : Machine) (w : Write) → length m.counts ≡ 128 → counts_by (put_in 128) w m.counts ≡ counts_after m w
counts-put m Nothing h = refl
counts-put m (Point x v) h = refl
counts-put m (Count v c f) h = put-set 128 m.counts v.0 c h
counts-put m (Value v y) h = refl

-- a step leaves this of the machine
pub put_written : (m : Machine) → Long m → (p : TaskNo) (t : Task) (w : Write) (cs vs ns : List ℕ) (ts : List Task) (f : ℕ) → cs ≡ cells_by (put_in 64) w m.cells → vs ≡ values_by (put_in 128) w m.values → ns ≡ counts_by (put_in 128) w m.counts → f ≡ free_by w m.free → ts ≡ set m.tasks p.0 t
    → record { n = m.n; p = m.p; k = m.k; free = f; cells = cs; values = vs; counts = ns; tasks = ts } ≡ written m p t w
put_written m long p t w cs vs ns ts f hc hv hn hf ht =
    rw (hc ∙ cells-put m w long.cells, hv ∙ values-put m w long.values, hn ∙ counts-put m w long.counts, hf, ht)

-- no write changes a table's length
cells-after : (m : Machine) (w : Write) → length (cells_after m w) ≡ length m.cells
cells-after m Nothing = refl
cells-after m (Point x v) = length-set m.cells x.0 v.0
cells-after m (Count v c f) = refl
cells-after m (Value v y) = refl

values-after : (m : Machine) (w : Write) → length (values_after m w) ≡ length m.values
values-after m Nothing = refl
values-after m (Point x v) = refl
values-after m (Count v c f) = refl
values-after m (Value v y) = length-set m.values v.0 y

counts-after : (m : Machine) (w : Write) → length (counts_after m w) ≡ length m.counts
counts-after m Nothing = refl
counts-after m (Point x v) = refl
counts-after m (Count v c f) = length-set m.counts v.0 c
counts-after m (Value v y) = refl

pub long-written : (m : Machine) (p : TaskNo) (u : Task) (w : Write) → Long m → Long (written m p u w)
long-written m p u w h =
    record {
      cells = cells-after m w ∙ h.cells;
      values = values-after m w ∙ h.values;
      counts = counts-after m w ∙ h.counts;
      tasks = length-set m.tasks p.0 u ∙ h.tasks;
    }
