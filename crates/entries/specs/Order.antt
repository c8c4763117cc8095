-- What an entry does to its task, and the refusals in document 01's order, as document 02 changes the store.
use Rattle.std.specs.Prelude.{ℕ, Bool, cond, not, ◌&&◌, eqb, leb, ltb, Err}
use Rattle.tasks.specs.Phases.{resting}
use Rattle.tasks.specs.Calls.{begun_of}
use Rattle.steps.specs.Table.{does, effect_of}
use Rattle.entries.specs.Types.{CellNo, Task, Call, Load, Store, Release, Validate, Moved, Lost, NoTask, NoKind, NoCell, NotZero, NotNow, Seen, Nothing, Effect, Entry}
use Rattle.entries.specs.Entry.{nonzero, outside}

-- a call starts: one task's record changes, and nothing else
abbrev pub begins : Task → Call → Effect
begins t c = does (begun_of t c) Nothing Moved

-- a load starts where the task is idle
unfoldable pub load_of : Task → CellNo → Effect
load_of t x =
    cond (not (eqb t.phase 0)) (Err NotNow)  -- 16
    (begins t (Load x))

-- the task is linked to cell x
abbrev pub linked_to : Task → CellNo → Bool
linked_to t x = eqb t.phase 6 && eqb t.cell.0 x.0

-- a store starts where the task is linked to that cell; without such a link it is lost at once, and nothing changes
unfoldable pub store_of : Task → CellNo → ℕ → Effect
store_of t x y =
    cond (not (resting t.phase)) (Err NotNow)  -- 16
    (cond (not (linked_to t x)) (does t Nothing Lost)  -- reply 3
    (begins t (Store y)))

-- a release and a validate start where the task is linked
unfoldable pub linked_call_of : Task → Call → Effect
linked_call_of t c =
    cond (not (eqb t.phase 6)) (Err NotNow)  -- 16
    (begins t c)

-- kinds: 0 go, 1 load, 2 store, 3 release, 4 validate; a go is refused by the table itself (17, and 22 for the step)
unfoldable pub call_of : Entry → Task → Seen → Effect
call_of e t s =
    cond (eqb e.kind 0) (effect_of t s)
    (cond (eqb e.kind 1) (load_of t e.cell)
    (cond (eqb e.kind 2) (store_of t e.cell e.value)
    (cond (eqb e.kind 3) (linked_call_of t Release)
    (linked_call_of t Validate))))

-- in a machine of n cells and p tasks
unfoldable pub order_of : ℕ → ℕ → Entry → Task → Seen → Effect
order_of n p e t s =
    cond (leb p e.task.0) (Err NoTask)  -- 12
    (cond (ltb 4 e.kind) (Err NoKind)  -- 13
    (cond (nonzero e) (Err NotZero)  -- 15
    (cond (outside n e) (Err NoCell)  -- 14
    (call_of e t s))))  -- 16 or 17, 22 (the step)
