use Rattle.std.proofs.Common.{sym}
use Rattle.chains.proofs.Standing.{junction_on, road_on}
use Rattle.candidates.proofs.Roads.{walk_rises}
use Rattle.readback.proofs.Listed.{listed_tied}
use Rattle.readback.proofs.Walk.{walk_first, walk_on, walk_stops}
use Rattle.readback.proofs.Leg.road_to.Goals as goal

pub first_of_junction-road-requires : goal.first_of_junction-road-requires
first_of_junction-road-requires c =
    junction_on c.args.self.now.run.now.accepted.sized c.args.self.now.in_range.low (rw (listed_tied c.args.self.now.run.now).junctions at c.args.self.now.in_range.high)

pub loop-road-init : goal.loop-road-init
loop-road-init c =
    rw c.first_of_junction-road.ensures (walk_first (listed_tied c.args.self.now.run.now) c.args.self.now.from c.args.self.now.to c.args.self.now.run.now.accepted.mapped c.args.self.now.in_range)

-- the road reached is passed by: it is one of the chain's, and the walk goes on at the next
pub road_after-road-requires : goal.road_after-road-requires
road_after-road-requires c =
    let run = c.args.self.now.run.now in
    let onward = walk_on (listed_tied run) c.args.self.now.from c.args.self.now.to run.accepted.mapped c.loop-road.road c.loop-road.invariant (sym c.loop-road-test.ensures) in
    road_on run.accepted.sized onward.0 c.loop-road.invariant.within

pub loop-road-smaller : goal.loop-road-smaller
loop-road-smaller c =
    let run = c.args.self.now.run.now in
    let onward = walk_on (listed_tied run) c.args.self.now.from c.args.self.now.to run.accepted.mapped c.loop-road.road c.loop-road.invariant (sym c.loop-road-test.ensures) in
    rw c.road_after-road.ensures (walk_rises run.map.now run.accepted.mapped c.loop-road.road onward.0 c.loop-road.invariant.within)

pub loop-road-preserved : goal.loop-road-preserved
loop-road-preserved c =
    let run = c.args.self.now.run.now in
    rw c.road_after-road.ensures (walk_on (listed_tied run) c.args.self.now.from c.args.self.now.to run.accepted.mapped c.loop-road.road c.loop-road.invariant (sym c.loop-road-test.ensures)).1

pub returns : goal.returns
returns c = walk_stops (listed_tied c.args.self.now.run.now) c.args.self.now.from c.args.self.now.to c.loop-road.road c.loop-road.invariant (sym c.loop-road-test.ensures)
