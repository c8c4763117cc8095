-- `run_entries`: what is left of the run gives the whole.
use Rattle.std.proofs.Common.{◌≡◌, Ok, ◌+◌, rules, refl, ap, sym, ◌∙◌}
use Rattle.entries.proofs.Laws.{read_at}
use Rattle.runs.specs.Counts.{accepted}
use Rattle.runs.proofs.Going.{starts, ends}
use Rattle.runs.proofs.Turning.{next-bytes, bytes-left, more-bytes, no-bytes, unread, turned-back, taken}
use Rattle.runs.proofs.run_entries.Goals as goal

pub loop-i-init : goal.loop-i-init
loop-i-init c =
    let a = c.args in
    let count : c.into_iter-i-iterator.result.count ≡ 0 = search rules in
    (search rules, search rules, rw (count, c.no_report-report.ensures) (record { going = starts a.s.now a.out.now a.free_nodes.now a.m.now; long = c.requires.2; sound = c.requires.3 }))

pub returns-in-Err : goal.returns-in-Err
returns-in-Err c =
    let l = c.loop-i in
    let steps = c.in-Some.ensures.steps.0 in
    let n = c.from-number.ensures in
    let at : c.in-Some.i ≡ l.i-iterator.count = c.in-Some.ensures.steps.1 in
    let more = more-bytes c.args.s.now l.i-iterator.count _ _ c.in-Some.bytes.now _ l.invariant.0 l.invariant.1 steps.1.0 steps.1.1 steps.1.2 in
    let bytes = next-bytes c.args.s.now l.i-iterator.count _ _ _ _ l.invariant.0 l.invariant.1 steps.1.0 steps.1.1 in
    unread l.invariant.2 more c.requires.1 _ bytes c.in-Err.r (sym c.read_entry.ensures ∙ c.in-Err.is)
    _ (c.reply.ensures ∙ rw (at, n) refl) _ (c.note.ensures ∙ rw at refl) _ (c.stopped.ensures ∙ rw n refl)

pub returns-in-Err-a : goal.returns-in-Err-a
returns-in-Err-a c =
    let l = c.loop-i in
    let steps = c.in-Some.ensures.steps.0 in
    let n = c.number-number.ensures in
    let v = c.value.ensures in
    let at : c.in-Some.i ≡ l.i-iterator.count = c.in-Some.ensures.steps.1 in
    let more = more-bytes c.args.s.now l.i-iterator.count _ _ c.in-Some.bytes.now _ l.invariant.0 l.invariant.1 steps.1.0 steps.1.1 steps.1.2 in
    let bytes = next-bytes c.args.s.now l.i-iterator.count _ _ _ _ l.invariant.0 l.invariant.1 steps.1.0 steps.1.1 in
    turned-back l.invariant.2 more c.requires.1 _ bytes c.entry_at-e.result (read_at _ _ (sym c.read_entry.ensures ∙ c.in-Ok.is) ∙ ap Ok (sym c.entry_at-e.ensures)) c.turn-a.new.m c.turn-a.result c.turn-a.ensures
    _ (c.reply-in-Err-a.ensures ∙ rw (at, n, v) refl) _ (c.note-in-Err-a.ensures ∙ rw at refl) _ (ap accepted c.in-Err-a.is) (c.stopped-in-Err-a.ensures ∙ rw n refl)

pub loop-i-preserved : goal.loop-i-preserved
loop-i-preserved c =
    let l = c.loop-i in
    let steps = c.in-Some.ensures.steps.0 in
    let n = c.number.ensures in
    let v = c.value-in-Ok-a.ensures in
    let at : c.in-Some.i ≡ l.i-iterator.count = c.in-Some.ensures.steps.1 in
    let next : c.next.new.self.count ≡ l.i-iterator.count + 1 = c.in-Some.ensures.steps.2 in
    let more = more-bytes c.args.s.now l.i-iterator.count _ _ c.in-Some.bytes.now _ l.invariant.0 l.invariant.1 steps.1.0 steps.1.1 steps.1.2 in
    let bytes = next-bytes c.args.s.now l.i-iterator.count _ _ _ _ l.invariant.0 l.invariant.1 steps.1.0 steps.1.1 in (
      steps.0 ∙ l.invariant.0,
      bytes-left c.args.s.now l.i-iterator.count _ _ _ _ l.invariant.0 l.invariant.1 steps.1.0 steps.1.1 ∙ rw next refl,
      rw next
          (taken l.invariant.2 more c.requires.1 _ bytes c.entry_at-e.result (read_at _ _ (sym c.read_entry.ensures ∙ c.in-Ok.is) ∙ ap Ok (sym c.entry_at-e.ensures)) c.turn-a.new.m c.turn-a.result c.turn-a.ensures
          _ (c.reply-in-Ok-a.ensures ∙ rw (at, n, v) refl) _ (c.note-in-Ok-a.ensures ∙ rw at refl) _ (ap accepted c.in-Ok-a.is)
          (c.counted-report.ensures ∙ rw (c.task-from.ensures, c.task.ensures) refl)),
    )

pub returns : goal.returns
returns c =
    let l = c.loop-i in
    let o = ends _ _ _ _ _ _ _ _ _ l.invariant.2.going (no-bytes c.args.s.now l.i-iterator.count _ l.invariant.1 c.in-None.ensures.steps.0.1.0) in
    (ap (λ y. y.machine) o.0, ap (λ y. y.report) o.0, o.1, o.2)
