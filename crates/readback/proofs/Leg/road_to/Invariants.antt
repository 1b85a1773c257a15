-- The chain is followed by road numbers: no road before the one reached leads legally to t (`Walk.antt`).
use Rattle.std.proofs.Common.{◌+◌, ◌-◌}
use Rattle.roadmap.specs.Format.{road_count}
use Rattle.moves.specs.OpenRuns.{listed_trip}
use Rattle.candidates.proofs.Roads.{up_to}
use Rattle.readback.proofs.Walk.{Walking}
use Rattle.readback.proofs.Leg.road_to.Given as goal

abbrev pub invariant-loop-road : goal.invariant-loop-road
invariant-loop-road l = Walking l.self.run.now.map.now (listed_trip l.self.run.now) l.self.from l.self.to l.road

abbrev pub decreases-loop-road : goal.decreases-loop-road
decreases-loop-road l = road_count l.self.run.now.map.now + 1 - up_to (road_count l.self.run.now.map.now) l.road
