use Rattle.candidates.proofs.Cursors.{none_left}
use Rattle.candidates.proofs.candidate_after.Goals as goal

pub returns-else-more : goal.returns-else-more
returns-else-more c = none_left _ c.args.of.state (c.requires.spent c.if-more.false)
