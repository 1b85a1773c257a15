-- The lowest fault is the first one that the loop meets.
use mathlib.Core.Path.{◌∙◌, sym}
use native.Mathlib.Omega.{arith}
use Rattle.replies.proofs.First.{one_more, lowest_found, lowest_none}
use Rattle.mapcheck.proofs.Fields.{judged_road}
use Rattle.mapcheck.proofs.bad_road.Goals as goal

pub returns-then-road_is_bad : goal.returns-then-road_is_bad
returns-then-road_is_bad c =
    sym
    (lowest_found _ 1 _ c.loop-r.r (omega arith) (omega arith) c.loop-r.invariant
    (judged_road c.args.links c.args.map.now c.loop-r.r c.road.ensures c.road_is_bad.ensures ∙ c.if-road_is_bad.true))

pub loop-r-preserved : goal.loop-r-preserved
loop-r-preserved c =
    one_more _ c.loop-r.invariant
    (judged_road c.args.links c.args.map.now c.loop-r.r c.road.ensures c.road_is_bad.ensures ∙ c.if-road_is_bad.false)

pub returns : goal.returns
returns c = sym (lowest_none _ 1 _ (λ x low high. c.loop-r.invariant x low (omega arith)))

pub returns-else-road_is_bad : goal.returns-else-road_is_bad
returns-else-road_is_bad c =
    let good =
    judged_road c.args.links c.args.map.now c.loop-r.r c.road.ensures c.road_is_bad.ensures ∙ c.if-road_is_bad.false in
    sym (lowest_none _ 1 _ (λ x low high. one_more _ c.loop-r.invariant good x low (omega arith)))
