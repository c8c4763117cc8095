-- `start::fill`: the sizes are the head's, and the tables are filled by them.
use Rattle.std.proofs.Common.{ap, arith}
use Rattle.cells.specs.Types.{Head}
use Rattle.cells.proofs.Setups.{head_fits, laid}
use Rattle.cells.proofs.start.fill.Goals as goal

pub overflow_add-h : goal.overflow_add-h
overflow_add-h c = let f = head_fits c.args.s.now c.read_head-h.result c.read_head-h.ensures in omega (arith, f.0, f.1)

pub owners-m-requires : goal.owners-m-requires
owners-m-requires c = let f = head_fits c.args.s.now c.read_head-h.result c.read_head-h.ensures in (f.0, f.1)

pub overflow_sub-m : goal.overflow_sub-m
overflow_sub-m c = let f = head_fits c.args.s.now c.read_head-h.result c.read_head-h.ensures in omega (arith, f.2)

pub overflow_sub-m-2 : goal.overflow_sub-m-2
overflow_sub-m-2 c = let f = head_fits c.args.s.now c.read_head-h.result c.read_head-h.ensures in omega (arith, f.2)

pub returns : goal.returns
returns c =
    let h = c.read_head-h in
    (laid c.args.s.now h.result h.ensures _ _ _ _ c.point_cells.ensures c.give_values.ensures c.count_ones.ensures c.owners-m.ensures, ap (λ (x : Head). x.answer) h.ensures)
