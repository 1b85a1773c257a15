-- Before label k all records but those to it are written.
use Rattle.moves.specs.OpenRuns.{listed_trip}
use Rattle.readback.proofs.Backward.{Writing}
use Rattle.readback.proofs.FoundLabels.write_moves.Given as goal

abbrev pub invariant-loop-k : goal.invariant-loop-k
invariant-loop-k l = Writing (listed_trip l.self.run.now) l.self.count l.initial.sheet l.sheet l.k l.left

abbrev pub decreases-loop-k : goal.decreases-loop-k
decreases-loop-k l = l.k
