use Rattle.replies.proofs.First.{NoneBelow}
use Rattle.mapcheck.specs.MapCheck.{bad_road_at}
use Rattle.mapcheck.proofs.bad_road.Given as goal

abbrev pub invariant-loop-r : goal.invariant-loop-r
invariant-loop-r l = NoneBelow (bad_road_at l.links l.map.bytes.now) 1 l.r
