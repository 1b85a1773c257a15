use Rattle.readback.proofs.Counted.{Counting}
use Rattle.readback.proofs.FoundLabels.count_moves.Given as goal

abbrev pub invariant-loop-k : goal.invariant-loop-k
invariant-loop-k l = Counting l.self.words.now l.self.count l.k l.m

abbrev pub decreases-loop-k : goal.decreases-loop-k
decreases-loop-k l = l.k
