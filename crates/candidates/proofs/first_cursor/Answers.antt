use Rattle.std.proofs.Common.{◌≡◌, arith}
use Rattle.roadmap.specs.Format.{first_road}
use Rattle.candidates.proofs.Roads.{junction_within, first_road_lem, no_first_road}
use Rattle.candidates.proofs.first_cursor.Goals as goal

pub first_road-requires : goal.first_road-requires
first_road-requires c = rw c.road_map.ensures.sizes (junction_within c.args.run.now c.requires.range_in)

pub returns-in-0 : goal.returns-in-0
returns-in-0 c =
    let road : c.first_road.result ≡ first_road c.args.run.now.map.now c.args.state.junction = rw (← c.road_map.ensures.bytes) c.first_road.ensures in
    no_first_road c.args.run.now c.requires.range_in (omega (arith, road, c.in-0.is)) c.first_pause.ensures

pub returns-in_default : goal.returns-in_default
returns-in_default c =
    let road : c.first_road.result ≡ first_road c.args.run.now.map.now c.args.state.junction = rw (← c.road_map.ensures.bytes) c.first_road.ensures in
    rw road (first_road_lem c.args.run.now c.requires.range_in (omega (arith, road, c.in_default)))
