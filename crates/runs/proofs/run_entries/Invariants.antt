use Rattle.std.proofs.Common.{◌≡◌, ◌*◌, drop}
use Rattle.std.specs.Slice.Iter.{chunks_rest, chunks_size}
use Rattle.runs.proofs.Turning.{Turning}
use Rattle.runs.proofs.run_entries.Given as goal

-- what is left of the run gives the whole
abbrev pub invariant-loop-i : goal.invariant-loop-i
invariant-loop-i l =
    (chunks_size l.i-iterator.iter ≡ 10)
    × (chunks_rest l.i-iterator.iter ≡ drop (10 * l.i-iterator.count) l.s)
    × Turning l.s l.initial.out l.initial.free_nodes l.initial.m l.out l.free_nodes l.m l.report l.i-iterator.count
