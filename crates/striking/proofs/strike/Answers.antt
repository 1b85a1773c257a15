-- Each return is one of the law's cases, and the word put lies within an accepted map.
use Rattle.std.proofs.Common.{◌≡◌, ◌∙◌, Ok, Err, arith, sym}
use Rattle.std.proofs.lemmas.Result.{err_from_is_err_and}
use Rattle.roadmap.specs.Format.{HasSizes, road_count}
use Rattle.mapcheck.specs.MapCheck.{outside, AcceptedMap}
use Rattle.mapcheck.proofs.Counts.{within}
use Rattle.mapcheck.proofs.Tried.{map_tried, has_header, has_sizes, accepted_sizes}
use Rattle.striking.proofs.Judged.{map_refused, road_unknown, road_struck}
use Rattle.striking.proofs.strike.Goals as goal
use Rattle.striking.proofs.strike.Goals.{In_ok-check_map, After-sizes_of-sizes, After-is_unknown}

pub returns-in_err-check_map : goal.returns-in_err-check_map
returns-in_err-check_map c =
    let p = err_from_is_err_and c.from_residual.result c.from_residual.ensures.1 in
    rw (p.1, p.2) (map_refused _ _ _ (map_tried c.args.map.now (Err c.in_err-check_map.field-0.0) c.in_err-check_map.ensures))

-- the map passed the check
accepted : (c : In_ok-check_map) → AcceptedMap c.args.map.now
accepted c = map_tried _ (Ok tt) c.in_ok-check_map.ensures

pub sizes_of-sizes-requires : goal.sizes_of-sizes-requires
sizes_of-sizes-requires c = has_header _ (accepted_sizes _ (accepted (goal.at.sizes_of-sizes-requires c).In_ok-check_map))

-- so it has the counts that were read
sized : (c : After-sizes_of-sizes) → HasSizes c.args.map.now c.sizes_of-sizes.result
sized c = has_sizes _ _ (accepted_sizes _ (map_tried _ (Ok tt) c.in_ok-check_map.ensures)) c.sizes_of-sizes.ensures

-- and the road is judged as the definition judges it
judged : (c : After-is_unknown) → outside 1 (road_count c.args.map.now) c.args.road ≡ c.is_unknown.result
judged c = rw (← c.sizes_of-sizes.ensures.1) (sym c.is_unknown.ensures)

pub returns-then-is_unknown : goal.returns-then-is_unknown
returns-then-is_unknown c =
    let place = goal.at.returns-then-is_unknown c in
    road_unknown _ _ (accepted place.In_ok-check_map) (judged place.After-is_unknown ∙ c.if-is_unknown.true)

pub invariant_of-before : goal.invariant_of-before
invariant_of-before c = record { has_sizes = sized (goal.at.invariant_of-before c).After-sizes_of-sizes }

pub road_from-from-requires : goal.road_from-from-requires
road_from-from-requires c =
    let in_map = within (judged (goal.at.road_from-from-requires c).After-is_unknown ∙ c.if-is_unknown.false) in
    (in_map.above, omega arith)

pub road_at-requires : goal.road_at-requires
road_at-requires c = (within (judged (goal.at.road_at-requires c).After-is_unknown ∙ c.if-is_unknown.false)).above

pub put_word-requires : goal.put_word-requires
put_word-requires c =
    let place = goal.at.put_word-requires c in
    omega (arith, within (judged place.After-is_unknown ∙ c.if-is_unknown.false), sized place.After-sizes_of-sizes)

pub returns : goal.returns
returns c =
    let place = goal.at.returns c in
    road_struck _ _ (accepted place.In_ok-check_map) (judged place.After-is_unknown ∙ c.if-is_unknown.false)
    c.put_word.ensures
    (omega arith)
    (omega arith)
