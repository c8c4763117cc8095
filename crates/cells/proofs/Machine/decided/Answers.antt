-- `Machine::decided`: what an entry is ordered, of the record of its task.
use Rattle.std.proofs.Common.{ap, sym, ◌∙◌}
use Rattle.entries.specs.Order.{order_of}
use Rattle.cells.specs.Types.{Effect, Seen}
use Rattle.cells.specs.Apply.{judged_of, decision_of}
use Rattle.cells.proofs.Decide.{few_in_range, order_same}
use Rattle.cells.proofs.Machine.decided.Goals as goal

pub returns-in-Ok : goal.returns-in-Ok
unfolding judged_of decision_of
returns-in-Ok c =
    let m = c.args.self.now in
    let sound = sym (c.if-not-in_range.ensures {u = tt}) in
    let e = c.in-Ok.e in
    rw (sound, sym c.read_entry.ensures ∙ c.in-Ok.is)
    (ap (λ (x : Effect). record { task = e.task.0; effect = x })
    (c.order-effect.ensures ∙ ap (λ (o : Seen). order_of m.n m.p e c.task-t.result o) c.seen.ensures ∙ order_same m e c.task-t.result (few_in_range m sound) c.task-t.ensures))
