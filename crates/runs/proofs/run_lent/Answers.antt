-- `run_lent`: the three refusals before any entry is tried, each where the ones before it did not apply; then the entries.
use Prim.Native.Nat.{◌*◌, ◌<◌}
use mathlib.Core.Path.{◌≡◌, refl, sym, ◌∙◌}
use mathlib.Core.Bool.{true, false}
use lib.ListN.{length}
use borrow.Author.Tests.{lt-ltb, le-ltb, le-leb, lt-leb}
use Rattle.wire.proofs.Laws.{over_front}
use Rattle.entries.specs.Schedule.{entries_in, entries_of}
use Rattle.cells.specs.Machine.{in_range}
use Rattle.runs.specs.Run.{replies_from, ran_of, replies_of, buffer_of, noted_of}
use Rattle.runs.proofs.run_lent.Goals as goal

pub returns-then-not-in_range : goal.returns-then-not-in_range
unfolding ran_of replies_of buffer_of noted_of
returns-then-not-in_range c =
    let damaged : in_range c.args.m.now ≡ false = sym (c.if-not-in_range.ensures {u = tt}) in
    (rw damaged refl, rw (c.untried.ensures, damaged) refl, rw damaged refl, rw damaged refl)

pub returns-then-len-gt65530 : goal.returns-then-len-gt65530
unfolding ran_of replies_of buffer_of noted_of
returns-then-len-gt65530 c =
    let sound : in_range c.args.m.now ≡ true = sym (c.if-not-in_range.ensures {u = tt}) in
    let long = lt-leb _ 65530 c.if-len-gt65530.true in
    let more = lt-ltb 65530 _ c.if-len-gt65530.true in
    (rw (sound, more) refl, rw (c.untried-then-len-gt65530.ensures, sound, more) refl, rw (sound, long) refl, rw (sound, long) refl)

pub returns-then-out-len : goal.returns-then-out-len
unfolding ran_of replies_of buffer_of noted_of
returns-then-out-len c =
    let a = c.args in
    let sound : in_range a.m.now ≡ true = sym (c.if-not-in_range.ensures {u = tt}) in
    let short : length a.out.now < 8 * entries_in a.s.now = c.if-out-len.true in
    let fits = le-leb _ 65530 c.if-len-gt65530.false in
    let less = le-ltb 65530 _ c.if-len-gt65530.false in
    let more = lt-leb _ _ short in
    (rw (sound, less, lt-ltb _ _ short) refl, rw (c.untried-then-out-len.ensures, sound, less, lt-ltb _ _ short) refl, rw (sound, fits, more) refl, rw (sound, fits, more) refl)

pub returns : goal.returns
unfolding ran_of replies_of buffer_of noted_of
returns c =
    let a = c.args in
    let sound : in_range a.m.now ≡ true = sym (c.if-not-in_range.ensures {u = tt}) in
    let fits = le-leb _ 65530 c.if-len-gt65530.false in
    let less = le-ltb 65530 _ c.if-len-gt65530.false in
    let room = le-leb _ _ c.if-out-len.false in
    let roomy = le-ltb _ _ c.if-out-len.false in
    let done = c.run_entries.ensures in (
      rw (sound, less, roomy) done.0,
      rw (sound, less, roomy) done.1,
      rw (sound, fits, room) (done.2 ∙ over_front a.out.now (replies_from a.m.now (entries_of a.s.now))),
      rw (sound, fits, room) done.3,
    )
