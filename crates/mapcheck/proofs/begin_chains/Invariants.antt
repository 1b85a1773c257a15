use Rattle.mapcheck.specs.Due.{MapDue}
use Rattle.mapcheck.proofs.begin_chains.Given as goal

-- the chains below j are begun
abbrev pub invariant-loop-j : goal.invariant-loop-j
invariant-loop-j l = MapDue l.linked.map.bytes.now l.due l.j 1 l.foreign
