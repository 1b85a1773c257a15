use Rattle.std.proofs.Common.{Ok, Err, ◌≡◌, ◌∙◌}
use Rattle.std.proofs.lemmas.Result.{err_from_is_err_and}
use Rattle.replies.specs.First.{first_of, NoneFits}
use Rattle.replies.specs.Told.{succeeded, told_check}
use Rattle.replies.proofs.First.{tried}
use Rattle.driving.specs.declared.Figures.{Figures}
use Rattle.driving.specs.declared.Rules.{Rules}
use Rattle.driving.proofs.Accepted.{rules_sound, figures_sound}
use Rattle.replay.specs.Steps.{start_tests}
use Rattle.replay.proofs.Replays.{start_refused, trace_refused, trace_accepted}
use Rattle.replay.proofs.brought_up_to_date.Goals as goal

-- behind a start that passes refusals 10 and 11 do not fit
passes : (rules : Rules) (figures : Figures) → told_check (Ok tt) ≡ first_of (start_tests rules figures) (succeeded 0 0) → NoneFits (start_tests rules figures)
passes rules figures told = tried (start_tests rules figures) (Ok tt) tt told

pub returns-in_err-check_start : goal.returns-in_err-check_start
returns-in_err-check_start c =
    let p = err_from_is_err_and c.from_residual.result c.from_residual.ensures.1 in
    rw (p.1, p.2)
    (start_refused c.args.trace.now c.args.rules c.args.figures _
    (tried (start_tests c.args.rules c.args.figures) (Err _) tt c.in_err-check_start.ensures))

pub judge_trace-requires : goal.judge_trace-requires
judge_trace-requires c =
    let none = passes c.args.rules c.args.figures c.in_ok-check_start.ensures in
    (rules_sound c.args.rules none.0, figures_sound c.args.figures c.args.rules none.1.0)

pub returns-in_err-last : goal.returns-in_err-last
returns-in_err-last c =
    let p = err_from_is_err_and c.from_residual-in_err-last.result c.from_residual-in_err-last.ensures.1 in
    rw (p.1, p.2)
    (trace_refused c.args.trace.now c.args.rules c.args.figures (passes c.args.rules c.args.figures c.in_ok-check_start.ensures) _ c.in_err-last.ensures)

pub returns : goal.returns
returns c =
    let says = c.in_ok-last.ensures in
    trace_accepted c.args.trace.now c.args.rules c.args.figures (passes c.args.rules c.args.figures c.in_ok-check_start.ensures) c.after_pause.result says.0 (c.after_pause.ensures ∙ says.1)
