use Rattle.candidates.proofs.Searched as searched
use Rattle.winners.proofs.Steps.{old_named, stays, wins}
use Rattle.winners.proofs.place.Goals as goal

pub wins-won-requires : goal.wins-won-requires
wins-won-requires c =
    let E = c.requires in
    ((old_named E.0 E.1 c.winner.ensures c.contender_of-old.ensures).stands, E.0.named.stands)

pub returns-then-won : goal.returns-then-won
returns-then-won c =
    let E = c.requires in
    rw c.if-won.true
    (wins E.0 E.1 (old_named E.0 E.1 c.winner.ensures c.contender_of-old.ensures) _ (c.wins-won.ensures.yes c.if-won.true) c.set_winner.ensures)

pub returns-else-won : goal.returns-else-won
returns-else-won c =
    let E = c.requires in
    rw c.if-won.false
    (stays E.0 E.1 (old_named E.0 E.1 c.winner.ensures c.contender_of-old.ensures) (searched.sound c.args.run.now) (c.wins-won.ensures.no c.if-won.false))
