use Rattle.std.proofs.lemmas.Result.{err_from_is_err_and}
use Rattle.candidates.proofs.Searched as searched
use Rattle.search.proofs.Rounds.{goes_on, key_left, outcome_found, outcome_none}
use Rattle.search.proofs.settle_all.Goals as goal

pub returns-in_err-labels : goal.returns-in_err-labels
returns-in_err-labels c =
    let p = err_from_is_err_and c.from_residual.result c.from_residual.ensures.1 in
    rw (p.1, p.2) (outcome_none c.loop-labels.invariant.fits (rw c.loop-labels.auto.words at c.in_err-labels.ensures))

pub loop-labels-smaller : goal.loop-labels-smaller
loop-labels-smaller c = key_left c.in_ok-labels.ensures (searched.sound c.args.run.now) c.in-Goes.is

pub loop-labels-preserved : goal.loop-labels-preserved
loop-labels-preserved c =
    let on = goes_on c.in_ok-labels.ensures c.in-Goes.is in
    record { underway = on.0.underway; fits = rw (← c.loop-labels.auto.words) on.1 }

pub returns-in-Found : goal.returns-in-Found
returns-in-Found c = outcome_found (rw c.loop-labels.auto.words at c.in_ok-labels.ensures) c.in-Found.is
