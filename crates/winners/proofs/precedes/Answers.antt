use Rattle.candidates.proofs.Searched as searched
use Rattle.winners.proofs.Contenders.{precedes_lower, precedes_higher}
use Rattle.winners.proofs.precedes.Goals as goal

pub returns-then-a-b : goal.returns-then-a-b
returns-then-a-b c =
    rw c.ranks_no_higher.ensures
    (precedes_lower _ (searched.sound c.args.run.now) _ c.requires.0 c.requires.1 c.candidate_at-x.ensures c.candidate_at-y.ensures c.if-a-b.true)

pub returns-else-a-b : goal.returns-else-a-b
returns-else-a-b c =
    rw c.ranks_no_higher-else-a-b.ensures
    (precedes_higher _ (searched.sound c.args.run.now) _ c.requires.0 c.requires.1 c.candidate_at-x.ensures c.candidate_at-y.ensures c.if-a-b.false)
