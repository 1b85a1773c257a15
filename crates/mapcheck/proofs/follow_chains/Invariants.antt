use Prim.Native.Nat.{◌+◌}
use Rattle.replies.proofs.First.{NoneBelow}
use Rattle.roadmap.specs.Format.{junction_count}
use Rattle.mapcheck.specs.Chain.{broken_chain_at}
use Rattle.mapcheck.specs.Due.{MapDue}
use Rattle.mapcheck.proofs.follow_chains.Given as goal

-- no road below r is broken, and what is due and noticed is as the pass has it
abbrev pub invariant-loop-r : goal.invariant-loop-r
invariant-loop-r l =
    let map = l.linked.map.bytes.now in
    NoneBelow (broken_chain_at map) 1 l.r × MapDue map l.due (junction_count map + 1) l.r l.foreign
