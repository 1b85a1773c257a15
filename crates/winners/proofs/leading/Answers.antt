use Rattle.winners.proofs.Steps.{leads}
use Rattle.winners.proofs.leading.Goals as goal

pub returns : goal.returns
returns c = λ trip T. rw c.winner.ensures (leads trip c.args.words.now c.args.n c.requires.0 T)
