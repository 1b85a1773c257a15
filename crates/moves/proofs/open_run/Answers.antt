-- The map's and the order's tests come first, then the list's.
use Rattle.std.proofs.lemmas.Result.{err_from_is_err_and}
use Rattle.replies.proofs.First.{refuses_more}
use Rattle.roadmap.specs.Format.{road_count}
use Rattle.bans.specs.BanList.{ban_tests}
use Rattle.moves.specs.Given.{given_of}
use Rattle.moves.specs.RunTests.{opening_tests}
use Rattle.moves.proofs.Opened.{opened_by}
use Rattle.moves.proofs.open_run.Goals as goal

pub returns-in_err-read_run : goal.returns-in_err-read_run
returns-in_err-read_run c =
    let map = c.args.map.now in
    let p = err_from_is_err_and c.from_residual.result c.from_residual.ensures.1 in
    rw (p.1, p.2)
    (refuses_more (opening_tests map c.args.order.now) (ban_tests (road_count map) c.args.bans.now) c.in_err-read_run.field-0.0 c.in_err-read_run.ensures)

pub returns : goal.returns
returns c =
    opened_by (given_of c.args.map.now c.args.order.now c.args.bans.now) c.in_ok-read_run.field-0 c.with_bans.result c.in_ok-read_run.ensures c.with_bans.ensures
