-- `Machine::write`: the one place is written, and the record of the task.
use Rattle.std.proofs.Common.{ap, ◌∙◌, ℕ, rules}
use lib.ListN.{set}
use Rattle.tables.proofs.Laws.{length_mapped}
use Rattle.cells.specs.Machine.{placed, Long}
use Rattle.cells.proofs.Written.{put_written}
use Rattle.cells.proofs.Machine.write.Goals as goal

pub returns : goal.returns
returns c =
    let m = c.args.self.now in
    let p = placed c.args.p in
    let long : Long m = record { cells = search rules; values = search rules; counts = search rules; tasks = search (rules, length_mapped) } in
    put_written m long p c.args.t c.args.w _ _ _ _ _ c.write_cells.ensures c.write_values.ensures c.write_counts.ensures c.write_free-self.ensures
    (ap (λ (k : ℕ). set m.tasks k c.copied.result) c.slot.ensures ∙ ap (set m.tasks p.0) c.copied.ensures)
