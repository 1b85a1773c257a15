use Rattle.std.proofs.Common.{arith}
use Rattle.winners.proofs.Steps.{sibling_within, climbed}
use Rattle.winners.proofs.climb.Goals as goal

pub decide-requires-clause-le_k : goal.decide-requires-clause-le_k
decide-requires-clause-le_k c =
    let C = c.requires in
    (omega (arith, C.1), C.0.mending.high, C.0.mending.won.small, sibling_within C.0 C.1 c.winner_within-other.ensures)

pub returns : goal.returns
returns c = climbed c.requires.0 c.requires.1 c.winner_within-other.ensures c.decide.ensures
