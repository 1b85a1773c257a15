use Rattle.std.proofs.Common.{◌≡◌, ◌∙◌, ◌/◌, ◌<◌, length, arith}
use Rattle.roadmap.specs.Format.{road_from}
use Rattle.candidates.proofs.Rivals.{worth_road, begins_within, lasts_stand, contends_lem}
use Rattle.candidates.proofs.hinted.Goals as goal

pub bounds-labels-from : goal.bounds-labels-from
bounds-labels-from c =
    rw (c.road_from-from.ensures, c.road_map.ensures.bytes)
    (begins_within c.args.run.now (c.args.hint / 65536) c.requires.run_in_bounds (omega (arith, c.if-road-eq0.false)) c.if-run-road.false)

pub returns : goal.returns
returns c =
    let from : c.road_from-from.result ≡ road_from c.args.run.now.map.now (c.args.hint / 65536) = rw (← c.road_map.ensures.bytes) c.road_from-from.ensures in
    let within : c.road_from-from.result < length c.args.labels.now.places.now =
    rw from (begins_within c.args.run.now (c.args.hint / 65536) c.requires.run_in_bounds (omega (arith, c.if-road-eq0.false)) c.if-run-road.false)
    in
    contends_lem _ _ c.of.result c.of.ensures
    (λ some. worth_road c.args.run.now (omega (arith, c.if-road-eq0.false)) c.if-run-road.false (lasts_stand c.args.labels.now.lists _ within some ∙ from))
