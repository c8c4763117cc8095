-- What a go and an entry come to for the task that they name, and what an effect leaves of the machine and answers.
use Rattle.std.specs.Prelude.{◌≡◌}
use Rattle.steps.specs.Table.{effect_of, answer_of}
use Rattle.tables.specs.Tables.{task_in}
use Rattle.entries.specs.Order.{order_of}
use Rattle.cells.specs.Machine.{seen_of, placed, left_by}
use Rattle.turns.specs.Types.{TaskNo, Effect, Entry, Machine, Answer}

abbrev pub gone_of : Machine → TaskNo → Effect
gone_of m p = effect_of (task_in m.tasks (placed p)) (seen_of m (task_in m.tasks (placed p)))

abbrev pub ordered_of : Machine → Entry → Effect
ordered_of m e = order_of m.n m.p e (task_in m.tasks (placed e.task)) (seen_of m (task_in m.tasks (placed e.task)))

-- an effect e of task p makes m' of the machine m, and is answered a
abbrev pub Carries : Machine → TaskNo → Effect → Machine → Answer → Type 0
Carries m p e m' a = (m' ≡ left_by m (placed p) e) × (a ≡ answer_of e)
