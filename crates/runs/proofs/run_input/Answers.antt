-- `run_input`: a refused setup leaves both buffers; an accepted one's machine is lent to the run of what follows it.
use mathlib.Core.Path.{sym, ◌∙◌}
use Rattle.cells.proofs.Setups.{setup_uses, setup-long}
use Rattle.runs.proofs.run_input.Goals as goal

pub slice_bounds-run_lent-count : goal.slice_bounds-run_lent-count
slice_bounds-run_lent-count c = setup_uses c.args.input.now _ (sym c.fill.ensures.1 ∙ c.in_ok-used.was)

pub slice_bounds-run_lent-start : goal.slice_bounds-run_lent-start
slice_bounds-run_lent-start c = setup_uses c.args.input.now _ (sym c.fill.ensures.1 ∙ c.in_ok-used.was)

pub run_lent-requires : goal.run_lent-requires
run_lent-requires c = rw c.fill.ensures.0 (setup-long c.args.input.now)
