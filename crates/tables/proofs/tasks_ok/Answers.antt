-- `tasks_ok`: `all` of the first records is the test of each.
use Rattle.std.proofs.Common.{◌∙◌, rules, tests}
use Rattle.std.proofs.lemmas.Iterator.{YieldsList-from_slice, YieldsList-from_take}
use Rattle.std.proofs.lemmas.Iterator.Search.{all_from_yields_List}
use Rattle.tasks.specs.Records.{task_ok}
use Rattle.tables.proofs.Laws.{tested_records}
use Rattle.tables.proofs.tasks_ok.Goals as goal

pub returns : goal.returns
returns c =
    let a = c.args in
    all_from_yields_List (task_ok a.n a.k) _ _ _ c.all.ensures.ran (YieldsList-from_take a.p (YieldsList-from_slice a.tasks.now (cc)) (cc)) (λ x b q k. search (rules, tests))
    ∙ tested_records a.tasks.now a.n a.k a.p (search rules)
