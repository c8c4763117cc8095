-- Step benches over the same record and the same bytes: the true table, and five tables with a fault. Only steps differ:
-- setup, starting a call and all that is refused before a step are the true ones.
use Rattle.std.specs.Prelude.{ℕ, ◌+◌, Bool, cond, not, ◌&&◌, List, map, eqb, ltb, get_or, set, Result, Ok, Err}
use Rattle.tallies.specs.Lists.{every, fill_to}
use Rattle.wire.specs.Bytes.{marked, word_at}
use Rattle.answers.specs.declared.Reply.TheVariants.{Moved, Loaded, Good, Gone}
use Rattle.tasks.specs.declared.Task.{Task}
use Rattle.tasks.specs.Records.{node_no, onward, holding, probing, task_ok}
use Rattle.steps.specs.Types.{Effect}
use Rattle.steps.specs.declared.Write.TheVariants.{Nothing, Point, Value}
use Rattle.steps.specs.Table.{Row as TableRow, does, counting, raising, s6, no_phase, rows, effect_of, after, recounted_of, raised_of, lowered_of}
use Rattle.tables.specs.Tables.{node_in, count_in, value_in, task_in, sizes_ok}
use Rattle.entries.specs.declared.Entry.{Entry}
use Rattle.entries.specs.Entry.{entry_of, nonzero, outside}
use Rattle.entries.specs.Order.{load_of, store_of, linked_call_of, call_of, order_of}
use Rattle.cells.specs.declared.Machine.{Machine}
use Rattle.cells.specs.declared.Applied.{Applied}
use Rattle.cells.specs.Machine.{seen_of, carried_of, in_range}
use Rattle.cells.specs.Apply.{judged_of, decision_of, apply_of}
use Rattle.cells.specs.Setup.{fresh_of, setup_of}
use Rattle.laws.specs.Acts.{checked}
use Rattle.answers.specs.declared.Refusal.{Refusal}

-- a row that may look at the whole record
abbrev pub Row : Type 0
Row = Machine → Task → Effect

-- a row of the true table
abbrev pub as_written : TableRow → Row
as_written r m t = r t (seen_of m t)

-- the true table, by the number of the phase
unfoldable pub table : List Row
unfolding rows
table = map as_written rows

-- a go, by the row of its task's phase
abbrev pub step_by : List Row → Machine → Entry → Applied
step_by rs m e = let t = task_in m.tasks e.task in carried_of m e.task (get_or rs t.phase (as_written no_phase) m t)

-- a go of a task below P, with zeros where they must be
abbrev pub goes : Machine → Entry → Bool
goes m e = ltb e.task.0 m.p && (eqb e.kind 0 && not (nonzero e))

-- a go by the given rows, every other entry as ever
abbrev pub read_by : List Row → Machine → List ℕ → Result Entry Refusal → Applied
read_by rs m s (Err r) = apply_of m s
read_by rs m s (Ok e) = cond (goes m e) (step_by rs m e) (apply_of m s)

unfoldable pub apply_by : List Row → Machine → List ℕ → Applied
apply_by rs m s = cond (in_range m) (read_by rs m s (entry_of s)) (apply_of m s)

-- what a bench answers to an entry, and from which phase to which a step is a load's passing check
pub record Bench : Type 0 where
  pub apply : Machine → List ℕ → Applied
  pub passes : ℕ → ℕ → Bool

-- the true table: document 01's mended one, as document 02 changes it
unfoldable pub mended : Bench
mended = record { apply = apply_of; passes = checked }

-- Figure 2 as source 000 prints it: c12 copies the node before c14 raises its count, and c16 returns the copy. The copy is kept in the
-- task's value field, which a load doesn't use otherwise.
abbrev pub copying : Task → ℕ → Task
copying t y = record { phase = t.phase; cell = t.cell; value = y; held = t.held; own = t.own; cursor = t.cursor }

-- 2 c12: copy node m; 3
abbrev pub c12 : Row
c12 m t = does (onward (copying t (value_in m.values t.held)) 3) Nothing Moved

-- 3 c14: count of m up by 1; 4
abbrev pub c14 : Row
c14 m t = counting (raising t (seen_of m t)) (onward t 4) Moved

-- 4 c16: compare m with the node of x; equal 6, load finished with the copy; else 5
abbrev pub c16 : Row
c16 m t =
    cond (eqb t.held.0 (node_in m.cells t.cell).0) (does (onward t 6) Nothing (Loaded t.value))
    (does (onward t 5) Nothing Moved)

-- the check that passes is the load's last step
unfoldable pub printed : Bench
unfolding table apply_by
printed = record { apply = apply_by (set (set (set table 2 c12) 3 c14) 4 c16); passes = λ f f'. eqb f 4 && eqb f' 6 }

-- 7 S1 with c22: own node takes Y, and m becomes the node of x again: the loaded one is forgotten; 8
abbrev pub c22 : Row
c22 m t = does (onward (holding t (node_in m.cells t.cell)) 8) (Value t.own t.value) Moved

unfoldable pub rereading : Bench
unfolding table apply_by
rereading = record { apply = apply_by (set table 7 c22); passes = checked }

-- the cell's value is that of m
abbrev pub same_value_at : Machine → Task → Bool
same_value_at m t = eqb (value_in m.values t.held) (value_in m.values (node_in m.cells t.cell))

-- 8 S2 by values: if x still has the value of m, x points at own node; took 9, else 13
abbrev pub s2_by_value : Row
s2_by_value m t =
    cond (same_value_at m t)
    (does (onward t 9) (Point t.cell t.own) Moved) (does (onward t 13) Nothing Moved)

unfoldable pub comparing : Bench
unfolding table apply_by
comparing = record { apply = apply_by (set table 8 s2_by_value); passes = checked }

-- 15 V1 by values: good if x still has the value of m
abbrev pub v1_by_value : Row
v1_by_value m t = cond (same_value_at m t) (does (onward t 6) Nothing Good) (does (onward t 6) Nothing Gone)

unfoldable pub validating : Bench
unfolding table apply_by
validating = record { apply = apply_by (set table 15 v1_by_value); passes = checked }

-- 12 S6 without mod K: if the cursor's node has count 0, as in the table; else cursor on by 1, past the last node too; 0, else 12
abbrev pub s6_unwrapped : Row
s6_unwrapped m t =
    cond (eqb (count_in m.counts t.cursor) 0) (s6 t (seen_of m t))
    (does (onward (probing t (node_no (t.cursor.0 + 1))) 12) Nothing Moved)

unfoldable pub unwrapping : Bench
unfolding table apply_by
unwrapping = record { apply = apply_by (set table 12 s6_unwrapped); passes = checked }

-- for `unfolding` lines: all that a setup and an entry compute with, and the six benches
unfoldable pub computing : Unit {0}
unfolding every fill_to marked word_at task_ok rows effect_of after recounted_of raised_of lowered_of sizes_ok entry_of nonzero outside load_of store_of linked_call_of call_of order_of carried_of in_range judged_of decision_of apply_of fresh_of setup_of mended printed rereading comparing validating unwrapping
computing = tt
