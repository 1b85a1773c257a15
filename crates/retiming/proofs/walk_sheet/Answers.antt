use Rattle.std.proofs.Common.{◌∙◌, ap, arith, sym}
use Rattle.std.proofs.lemmas.Result.{err_from_is_err_and}
use Rattle.states.specs.States.{start_of}
use Rattle.bans.specs.Bans.{listed_in}
use Rattle.moves.proofs.Trips.{run_tied}
use Rattle.moves.proofs.Rising.{run_sound}
use Rattle.retiming.proofs.Underway.{underway_start, underway_refused, underway_next, underway_end}
use Rattle.retiming.proofs.walk_sheet.Goals as goal

pub loop-k-init : goal.loop-k-init
loop-k-init c =
    let run = c.args.run.now in
    underway_start (run_sound _ _ _ run.accepted) c.word-moves.ensures
    (c.start_of-state.ensures ∙ ap start_of (sym (run_tied run.map.now (listed_in run.bans.now) run.about).order))

pub returns-in_err-state : goal.returns-in_err-state
returns-in_err-state c =
    let p = err_from_is_err_and c.from_residual.result c.from_residual.ensures.1 in
    rw (p.1, p.2) (underway_refused c.loop-k.invariant c.loop-k-test.true c.read_row-row.ensures c.in_err-state.field-0.0 c.in_err-state.ensures)

pub loop-k-preserved : goal.loop-k-preserved
loop-k-preserved c =
    underway_next c.loop-k.invariant (run_sound _ _ _ c.args.run.now.accepted) c.loop-k-test.true c.read_row-row.ensures c.in_ok-state.state c.in_ok-state.ensures

pub returns : goal.returns
returns c = underway_end c.loop-k.invariant c.loop-k-test.false

-- after the last record
pub returns-in_ok-state : goal.returns-in_ok-state
returns-in_ok-state c =
    underway_end
    (underway_next c.loop-k.invariant (run_sound _ _ _ c.args.run.now.accepted) c.loop-k-test.true c.read_row-row.ensures c.in_ok-state.state c.in_ok-state.ensures)
    (omega arith)
