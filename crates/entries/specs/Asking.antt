-- What an entry's own numbers ask of its task, before the task's record is looked at. That `order_of` is what is asked, done, is proved: Asking in proofs/.
use Rattle.std.specs.Prelude.{ℕ, cond, eqb, leb, ltb, Result, Ok, Err}
use Rattle.steps.specs.Table.{effect_of}
use Rattle.entries.specs.Types.{TaskNo, CellNo, Task, Release, Validate, NoTask, NoKind, NoCell, NotZero, Seen, Effect, Entry, Asked, ToGo, ToLoad, ToStore, ToRelease, ToValidate}
use Rattle.entries.specs.Entry.{nonzero, outside}
use Rattle.entries.specs.Order.{load_of, store_of, linked_call_of}
use Rattle.answers.specs.declared.Refusal.{Refusal}

-- an entry of these parts
abbrev pub entry_by : TaskNo → ℕ → CellNo → ℕ → ℕ → Entry
entry_by q kind x spare y = record { task = q; kind = kind; cell = x; spare = spare; value = y }

-- kinds 0, 3 and 4, which name no cell
unfoldable pub plain_of : ℕ → Asked
plain_of kind = cond (eqb kind 0) ToGo (cond (eqb kind 3) ToRelease ToValidate)

-- the first of refusals 12, 13, 15 and 14, or what the kind asks for
unfoldable pub asked_of : ℕ → ℕ → Entry → Result Asked Refusal
asked_of n p e =
    cond (leb p e.task.0) (Err NoTask)  -- 12
    (cond (ltb 4 e.kind) (Err NoKind)  -- 13
    (cond (nonzero e) (Err NotZero)  -- 15
    (cond (outside n e) (Err NoCell)  -- 14
    (cond (eqb e.kind 0) (Ok ToGo)
    (cond (eqb e.kind 1) (Ok (ToLoad e.cell))
    (cond (eqb e.kind 2) (Ok (ToStore e.cell e.value))
    (cond (eqb e.kind 3) (Ok ToRelease)
    (Ok ToValidate))))))))

-- what is asked, done: 16 or 17, 22 (the step)
abbrev pub obeyed : Result Asked Refusal → Task → Seen → Effect
obeyed (Ok ToGo) t s = effect_of t s
obeyed (Ok (ToLoad x)) t s = load_of t x
obeyed (Ok (ToStore x y)) t s = store_of t x y
obeyed (Ok ToRelease) t s = linked_call_of t Release
obeyed (Ok ToValidate) t s = linked_call_of t Validate
obeyed (Err r) t s = Err r
