use Rattle.replies.proofs.First.{NoneBelow}
use Rattle.mapcheck.specs.MapCheck.{bad_junction_at}
use Rattle.mapcheck.proofs.bad_junction.Given as goal

abbrev pub invariant-loop-j : goal.invariant-loop-j
invariant-loop-j l = NoneBelow (bad_junction_at l.links l.map.bytes.now) 1 l.j
