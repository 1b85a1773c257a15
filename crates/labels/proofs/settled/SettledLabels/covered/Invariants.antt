-- None of the labels that the walk has passed covers the label.
use Rattle.labels.proofs.Lists.{Past}
use Rattle.labels.proofs.settled.SettledLabels.covered.Given as goal

abbrev pub invariant-loop-k : goal.invariant-loop-k
invariant-loop-k l = Past l.self.words.now l.self.count l.label l.k

abbrev pub decreases-loop-k : goal.decreases-loop-k
decreases-loop-k l = l.k
