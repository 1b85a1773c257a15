-- The run that is opened is planned with the road struck, which is a run of planning on the struck map.
use Rattle.std.proofs.Common.{Ok, ◌∙◌, sym}
use Rattle.std.proofs.lemmas.Result.{err_from_is_err_and}
use Rattle.moves.specs.Given.{given_of}
use Rattle.moves.proofs.Opened.{opened_by}
use Rattle.planner.specs.Preview.{struck_given}
use Rattle.planner.proofs.Opening.{road_known, run_planned}
use Rattle.planner.proofs.Previewing.{closed_accepted, closed_trip, closed_run, preview_refused, preview_unknown, preview_bad_list, preview_planned}
use Rattle.planner.proofs.preview.Goals as goal

pub returns-in_err-read : goal.returns-in_err-read
returns-in_err-read c =
    let p = err_from_is_err_and c.from_residual.result c.from_residual.ensures.1 in
    rw (p.1, p.2) (preview_refused (given_of c.args.map.now c.args.order.now c.args.bans.now) c.args.road c.args.words.now c.args.sheet.now _ c.in_err-read.ensures)

pub returns-then-is_unknown : goal.returns-then-is_unknown
returns-then-is_unknown c =
    let given = given_of c.args.map.now c.args.order.now c.args.bans.now in
    preview_unknown given c.args.road c.args.words.now c.args.sheet.now c.in_ok-read.ensures.2
    (sym (c.if-is_unknown.ensures ∙ road_known given.map c.in_ok-read.read c.in_ok-read.ensures.3 c.args.road))

pub returns-in_err-run : goal.returns-in_err-run
returns-in_err-run c =
    let given = given_of c.args.map.now c.args.order.now c.args.bans.now in
    let inside = sym (c.if-is_unknown.ensures ∙ road_known given.map c.in_ok-read.read c.in_ok-read.ensures.3 c.args.road) in
    let p = err_from_is_err_and c.from_residual-in_err-run.result c.from_residual-in_err-run.ensures.1 in
    rw (p.1, p.2)
    (preview_bad_list given c.args.road c.args.words.now c.args.sheet.now c.in_ok-read.ensures.2 inside c.in_err-run.field-0.0 (rw (← c.in_ok-read.ensures.3) c.in_err-run.ensures))

pub invariant_of-struck : goal.invariant_of-struck
invariant_of-struck c =
    let given = given_of c.args.map.now c.args.order.now c.args.bans.now in
    let inside = sym (c.if-is_unknown.ensures ∙ road_known given.map c.in_ok-read.read c.in_ok-read.ensures.3 c.args.road) in
    let opened = opened_by given c.in_ok-read.read (Ok c.in_ok-run.run') c.in_ok-read.ensures c.in_ok-run.ensures in
    record { accepted = closed_accepted given c.args.road c.in_ok-run.run' opened inside; listed = c.in_ok-run.run'.listed }

pub returns : goal.returns
returns c =
    let given = given_of c.args.map.now c.args.order.now c.args.bans.now in
    let inside = sym (c.if-is_unknown.ensures ∙ road_known given.map c.in_ok-read.read c.in_ok-read.ensures.3 c.args.road) in
    let opened = opened_by given c.in_ok-read.read (Ok c.in_ok-run.run') c.in_ok-read.ensures c.in_ok-run.ensures in
    preview_planned given c.args.road c.args.words.now c.args.sheet.now c.in_ok-read.ensures.0.accepted.mapped inside
    (run_planned (struck_given given c.args.road) c.args.words.now c.args.sheet.now
    (closed_trip given c.args.road c.in_ok-run.run' opened inside)
    (closed_run given c.args.road c.in_ok-run.run' opened inside)
    c.plan_run.ensures)
