-- No kind below the present one leads to t.
use Rattle.moves.specs.OpenRuns.{listed_trip}
use Rattle.readback.proofs.Leading.{Seeking}
use Rattle.readback.proofs.Leg.pause_to.Given as goal

abbrev pub invariant-loop-kind : goal.invariant-loop-kind
invariant-loop-kind l = Seeking (listed_trip l.self.run.now) l.self.from l.self.to l.kind
