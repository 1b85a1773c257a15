use Rattle.std.proofs.Common.{arith}
use Rattle.candidates.proofs.Searched as searched
use Rattle.search.specs.Turns.{goes, found, full}
use Rattle.search.proofs.Turning.{chosen_range}
use Rattle.search.proofs.Stopping.{more_labels}
use Rattle.search.proofs.Offering.{at_home, not_home, reaches}
use Rattle.search.proofs.settle.Goals as goal

pub returns-then-n-labels_that_fit : goal.returns-then-n-labels_that_fit
returns-then-n-labels_that_fit c =
    full (omega (arith, c.if-n-labels_that_fit.true, more_labels (searched.sound c.args.run.now) c.requires.underway c.requires.chosen c.requires.uncovered))

pub settle_last-requires-clause-lists : goal.settle_last-requires-clause-lists
settle_last-requires-clause-lists c =
    let U = c.requires.underway in
    let sound = searched.sound c.args.run.now in
    let range = chosen_range U c.requires.chosen sound in
    (U.lists, omega (arith, range.high, U.wide), omega (arith, range.high, sound.few))

pub returns-then-candidate-run : goal.returns-then-candidate-run
returns-then-candidate-run c =
    found
    (reaches (searched.sound c.args.run.now) c.requires.underway c.requires.chosen c.requires.uncovered
    (at_home c.args.run.now c.args.candidate c.if-candidate-run.true) c.settle_last.ensures)
    (omega (arith, c.if-n-labels_that_fit.false, c.requires.fits))

pub settle_label-requires-clause-uncovered_off_target : goal.settle_label-requires-clause-uncovered_off_target
settle_label-requires-clause-uncovered_off_target c = (c.requires.uncovered, not_home c.args.run.now c.args.candidate c.if-candidate-run.false)

pub returns-else-candidate-run : goal.returns-else-candidate-run
returns-else-candidate-run c = goes c.settle_label.ensures (omega (arith, c.if-n-labels_that_fit.false, c.requires.fits))
