use Rattle.winners.proofs.Steps.{entered_end}
use Rattle.winners.proofs.enter.Goals as goal

pub returns-after-loop-j : goal.returns-after-loop-j
returns-after-loop-j c = entered_end c.loop-j.invariant c.loop-j-test.false
