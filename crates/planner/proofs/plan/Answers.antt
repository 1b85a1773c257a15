use Rattle.std.proofs.lemmas.Result.{err_from_is_err_and}
use Rattle.moves.specs.Given.{given_of}
use Rattle.moves.proofs.Opened.{opened_listed}
use Rattle.planner.proofs.Opening.{run_refused, run_planned}
use Rattle.planner.proofs.plan.Goals as goal

pub returns-in_err-run : goal.returns-in_err-run
returns-in_err-run c =
    let p = err_from_is_err_and c.from_residual.result c.from_residual.ensures.1 in
    rw (p.1, p.2) (run_refused (given_of c.args.map.now c.args.order.now c.args.bans.now) c.args.words.now c.args.sheet.now _ c.in_err-run.ensures)

pub returns : goal.returns
returns c =
    let given = given_of c.args.map.now c.args.order.now c.args.bans.now in
    run_planned given c.args.words.now c.args.sheet.now (opened_listed given c.in_ok-run.run' c.in_ok-run.ensures) c.in_ok-run.ensures.2 c.plan_run.ensures
