use Rattle.std.proofs.Common.{◌∙◌, ap, sym}
use Rattle.std.proofs.lemmas.Result.{err_from_is_err_and}
use Rattle.replies.proofs.First.{none_fits}
use Rattle.moves.specs.Trip.{Trip, trip_of}
use Rattle.moves.specs.Given.{given_of}
use Rattle.moves.specs.RunTests.{run_tests}
use Rattle.moves.proofs.Opened.{opened_listed}
use Rattle.retiming.specs.Parts.{audited_run}
use Rattle.retiming.proofs.audit.Goals as goal

pub returns-in_err-run : goal.returns-in_err-run
returns-in_err-run c =
    let p = err_from_is_err_and c.from_residual.result c.from_residual.ensures.1 in rw (p.1, p.2) (sym (c.in_err-run.ensures _ _))

pub returns : goal.returns
unfolding trip_of
returns c =
    let given = given_of c.args.map.now c.args.order.now c.args.bans.now in
    c.audit_run.ensures
    ∙ ap (λ (t : Trip). audited_run t c.args.sheet.now) (opened_listed given c.in_ok-run.run' c.in_ok-run.ensures)
    ∙ sym (none_fits (run_tests given) _ _ c.in_ok-run.ensures.2)
