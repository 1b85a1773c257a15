use Rattle.std.proofs.Common.{◌≡◌, ◌∙◌, eq-eqb, ne_eqb}
use Rattle.roadmap.specs.Format.{car_park}
use Rattle.candidates.proofs.Searched.{roads}
use Rattle.candidates.proofs.Roads.{junction_within, is_park, pause_first, pause_none}
use Rattle.candidates.proofs.first_pause.Goals as goal

pub car_park-requires : goal.car_park-requires
car_park-requires c = rw c.road_map-map.ensures.sizes (junction_within c.args.run.now c.requires.range_in)

pub returns-then-car_park-eq1 : goal.returns-then-car_park-eq1
returns-then-car_park-eq1 c =
    let park : car_park c.args.run.now.map.now c.args.state.junction ≡ 1 = rw (← c.road_map-map.ensures.bytes, ← c.car_park.ensures) c.if-car_park-eq1.true in
    rw (c.road_map-map.ensures.sizes, ← roads c.args.run.now) (pause_first _ c.args.state (is_park c.args.run.now c.requires.range_in ∙ eq-eqb _ _ park))

pub returns-else-car_park-eq1 : goal.returns-else-car_park-eq1
returns-else-car_park-eq1 c =
    pause_none _ c.args.state
    (is_park c.args.run.now c.requires.range_in ∙ ne_eqb _ _ (λ one. c.if-car_park-eq1.false (rw (c.car_park.ensures, c.road_map-map.ensures.bytes) one)))
