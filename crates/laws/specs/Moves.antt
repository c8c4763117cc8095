-- The step table as a relation: the phase that a row is for, its deed, and what its test found.
use Rattle.std.specs.Prelude.{ℕ, ◌+◌, ◌-◌, ◌≤◌, ◌<◌, ◌≡◌, ◌≢◌}
use Rattle.tasks.specs.Records.{onward, holding, owning, probing}
use Rattle.steps.specs.Table.{after, free_after}
use Rattle.laws.specs.Types.{NodeNo, Reply, Moved, Loaded, Took, Lost, Released, Good, Gone, Task, Seen, Write, Nothing, Point, Count, Value, Deed}

abbrev pub deed : Task → Write → Reply → Deed
deed t w r = record { task = t; write = w; reply = r }

-- a deed that takes the count of node v from c to d, and the number of free nodes with it
abbrev pub recounted : Seen → NodeNo → ℕ → ℕ → Task → Reply → Deed
recounted s v c d t' r = deed t' (Count v d (free_after s.free c d)) r

-- one that raises or lowers the count of m
abbrev pub raised : Task → Seen → Task → Reply → Deed
raised t s t' r = recounted s t.held s.held_count (s.held_count + 1) t' r

abbrev pub lowered : Task → Seen → Task → Reply → Deed
lowered t s t' r = recounted s t.held s.held_count (s.held_count - 1) t' r

-- task t, seeing s, makes the deed of phase f's row
pub data Moves (t : Task) (s : Seen) : ℕ → Deed → Type 0 where
  l1 : Moves t s 1 (deed (onward (holding t s.here) 2) Nothing Moved)
  l2 : s.held_count ≤ s.tasks → Moves t s 2 (raised t s (onward t 3) Moved)
  l3_passed : t.held.0 ≡ s.here.0 → Moves t s 3 (deed (onward t 4) Nothing Moved)
  l3_turned : t.held.0 ≢ s.here.0 → Moves t s 3 (deed (onward t 5) Nothing Moved)
  l4 : Moves t s 4 (deed (onward t 6) Nothing (Loaded s.held_value))
  l5 : 0 < s.held_count → Moves t s 5 (lowered t s (onward t 1) Moved)
  s1 : Moves t s 7 (deed (onward t 8) (Value t.own t.value) Moved)
  s2_swapped : t.held.0 ≡ s.here.0 → Moves t s 8 (deed (onward t 9) (Point t.cell t.own) Moved)
  s2_missed : t.held.0 ≢ s.here.0 → Moves t s 8 (deed (onward t 13) Nothing Moved)
  s3_took : s.held_count - 1 ≡ 1 → Moves t s 9 (lowered t s (onward (owning t t.held) 0) Took)
  s3_shared : 0 < s.held_count → s.held_count - 1 ≢ 1 → Moves t s 9 (lowered t s (onward t 11) Moved)
  s5 : 0 < s.held_count → Moves t s 11 (lowered t s (onward (probing t (after s.nodes t.held)) 12) Moved)
  s6_took : s.cursor_count ≡ 0 → Moves t s 12 (recounted s t.cursor 0 1 (onward (owning t t.cursor) 0) Took)
  s6_busy : s.cursor_count ≢ 0 → Moves t s 12 (deed (onward (probing t (after s.nodes t.cursor)) 12) Nothing Moved)
  s7 : 0 < s.held_count → Moves t s 13 (lowered t s (onward t 0) Lost)
  r1 : 0 < s.held_count → Moves t s 14 (lowered t s (onward t 0) Released)
  v1_good : t.held.0 ≡ s.here.0 → Moves t s 15 (deed (onward t 6) Nothing Good)
  v1_gone : t.held.0 ≢ s.here.0 → Moves t s 15 (deed (onward t 6) Nothing Gone)
