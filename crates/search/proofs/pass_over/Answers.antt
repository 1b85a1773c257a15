use Rattle.candidates.proofs.Searched as searched
use Rattle.search.proofs.Keeping.{told_spent}
use Rattle.search.proofs.Turning.{passed_over}
use Rattle.search.proofs.Climbing.{root_rises}
use Rattle.search.proofs.pass_over.Goals as goal

pub candidate_after-next-requires-clause-spent : goal.candidate_after-next-requires-clause-spent
candidate_after-next-requires-clause-spent c =
    let won = c.requires.chosen in
    told_spent (c.requires.underway.kept _ won.low won.high) won.has won.is c.read_label.ensures c.read_candidate-more.ensures

pub returns : goal.returns
returns c =
    let U = c.requires.underway in
    let won = c.requires.chosen in
    let next = rw c.read_label.ensures at c.candidate_after-next.ensures in
    record {
      underway = passed_over U won c.requires.covered next c.advance.ensures;
      higher = root_rises (searched.sound c.args.run.now) U won next c.advance.ensures;
    }
