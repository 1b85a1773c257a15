use Rattle.std.proofs.Common.{arith, sym, ◌∙◌}
use Rattle.roadmap.proofs.RoadTime.{least_second, is_nearest}
use Rattle.roadmap.proofs.road_seconds.Goals as goal

pub returns-then-metres-speed : goal.returns-then-metres-speed
returns-then-metres-speed c =
    sym (least_second c.args.metres c.args.speed (omega arith) (omega (arith, c.if-metres-speed.true)))

pub returns : goal.returns
returns c =
    c.nearest.ensures ∙ sym (is_nearest c.args.metres c.args.speed (omega arith) (omega (arith, c.if-metres-speed.false)))
