-- The order's tests come first, then the list's.
use Rattle.std.proofs.Common.{Err, Ok, ◌∙◌, sym}
use Rattle.std.proofs.lemmas.Result.{err_from_is_err_and}
use Rattle.replies.specs.Told.{succeeded}
use Rattle.replies.proofs.First.{tried, none_fits}
use Rattle.driving.specs.Order.{order_tests}
use Rattle.bans.specs.BanList.{ban_tests}
use Rattle.moves.proofs.check_order.Goals as goal

pub returns-in_err-check_order : goal.returns-in_err-check_order
returns-in_err-check_order c =
    let p = err_from_is_err_and c.from_residual.result c.from_residual.ensures.1 in
    rw (p.1, p.2)
    (sym (tried (order_tests c.args.junctions c.args.order.now) (Err c.in_err-check_order.field-0.0) tt c.in_err-check_order.ensures (ban_tests c.args.roads c.args.bans.now) (succeeded 0 0)))

pub returns : goal.returns
returns c =
    let tests = order_tests c.args.junctions c.args.order.now in
    c.check_bans.ensures ∙ sym (none_fits tests (ban_tests c.args.roads c.args.bans.now) (succeeded 0 0) (tried tests (Ok tt) tt c.in_ok-check_order.ensures))
