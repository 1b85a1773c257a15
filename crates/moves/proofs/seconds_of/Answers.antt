use Rattle.std.proofs.Common.{refl, arith}
use Rattle.roadmap.proofs.RoadTime.{at_most}
use Rattle.mapcheck.proofs.Sound.{sound_map}
use Rattle.moves.proofs.seconds_of.Goals as goal

-- the road is one of an accepted map
pub road_seconds-requires : goal.road_seconds-requires
road_seconds-requires c =
    let run = c.args.run.now in
    let road = (sound_map run.map.now run.accepted.mapped).roads c.args.r c.requires.0 c.requires.1 in
    rw (c.road_metres.ensures, c.road_speed.ensures, c.road_map-map.ensures.bytes) (road.metres.below, omega (arith, road.speed.above), road.speed.below)

pub returns : goal.returns
returns c =
    let run = c.args.run.now in
    let road = (sound_map run.map.now run.accepted.mapped).roads c.args.r c.requires.0 c.requires.1 in
    rw (c.road_seconds.ensures, c.road_metres.ensures, c.road_speed.ensures, c.road_map-map.ensures.bytes)
    (refl, at_most _ _ road.metres.below road.speed.above)
