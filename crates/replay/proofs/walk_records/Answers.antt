use Rattle.std.proofs.Common.{sym}
use Rattle.std.proofs.lemmas.Result.{err_from_is_err_and}
use Rattle.replay.proofs.Walking.{going_from, stops_next, takes_next, ends}
use Rattle.replay.proofs.walk_records.Goals as goal

pub loop-done-init : goal.loop-done-init
loop-done-init c = rw c.begun-underway.ensures (going_from c.args.trace.now c.args.rules c.args.figures c.requires.0 c.requires.1)

pub returns-in_err-underway : goal.returns-in_err-underway
returns-in_err-underway c =
    let p = err_from_is_err_and c.from_residual.result c.from_residual.ensures.1 in
    rw (p.1, p.2)
    (stops_next c.args.trace.now c.args.rules c.args.figures c.loop-done.done c.loop-done.underway c.loop-done.invariant c.loop-done-test.true _
    (sym (rw c.read_record-taken.ensures at c.in_err-underway.ensures)))

pub loop-done-preserved : goal.loop-done-preserved
loop-done-preserved c =
    takes_next c.args.trace.now c.args.rules c.args.figures c.loop-done.done c.loop-done.underway c.loop-done.invariant c.loop-done-test.true c.in_ok-underway.underway
    (sym (rw c.read_record-taken.ensures at c.in_ok-underway.ensures))

pub returns : goal.returns
returns c =
    ends c.args.trace.now c.args.rules c.args.figures c.loop-done.done c.loop-done.underway c.loop-done.invariant c.loop-done-test.false
