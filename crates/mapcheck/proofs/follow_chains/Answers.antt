-- Before road r no road is broken, and what is due and noticed is as the pass has it.
use mathlib.Core.Path.{◌≡◌, sym}
use mathlib.Core.Bool.{true, false}
use native.Mathlib.Omega.{arith}
use Rattle.replies.proofs.First.{one_more, lowest_found, lowest_none}
use Rattle.mapcheck.specs.Chain.{broken_chain_at}
use Rattle.mapcheck.proofs.Due.{due_next, noticed_told, undue_told, due_told}
use Rattle.mapcheck.proofs.follow_chains.Goals as goal
use Rattle.mapcheck.proofs.follow_chains.Goals.{After-noted-foreign, then-r-foreign-via-then-r-foreign, then-r-foreign-via-else-r-foreign+then-due-from}

pub returns-then-r-foreign : goal.returns-then-r-foreign
returns-then-r-foreign c =
    let broken : broken_chain_at c.args.linked.now.map.bytes.now c.loop-r.r ≡ true =
    elim c.then-r-foreign.branch [
      | then-r-foreign-via-then-r-foreign w ↦
          noticed_told _ c.args.linked.now.links _ (omega arith) (omega arith) _ _ c.loop-r.invariant.1 w.if-r-foreign.true
      | then-r-foreign-via-else-r-foreign+then-due-from w ↦
          undue_told _ c.args.linked.now.links _ (omega arith) (omega arith) _ _ c.loop-r.invariant.1
          (rw c.road_from-from.ensures at w.if-due-from.true)
    ] in
    sym (lowest_found _ 1 _ c.loop-r.r (omega arith) (omega arith) c.loop-r.invariant.0 broken)

-- the road is due on its own chain, and noticed on no other
sound : (c : After-noted-foreign) → broken_chain_at c.args.linked.now.map.bytes.now c.loop-r.r ≡ false
sound c =
    due_told _ c.args.linked.now.links _ (omega arith) (omega arith) _ _ c.loop-r.invariant.1 c.if-r-foreign.false
    (rw c.road_from-from.ensures at c.if-due-from.false)

pub loop-r-preserved : goal.loop-r-preserved
loop-r-preserved c = (
  one_more _ c.loop-r.invariant.0 (sound (goal.at.loop-r-preserved c).After-noted-foreign),
  due_next _ _ _ _ _ c.args.linked.now.links c.loop-r.invariant.1 (omega arith) (omega arith) (omega arith) c.if-r-foreign.false
      c.road_from-from.ensures c.if-due-from.false c.next_road-next.ensures c.noted-foreign.ensures,
)

pub returns : goal.returns
returns c = sym (lowest_none _ 1 _ (λ x low high. c.loop-r.invariant.0 x low (omega arith)))

pub returns-else-due-from : goal.returns-else-due-from
returns-else-due-from c =
    sym
    (lowest_none _ 1 _
    (λ x low high. one_more _ c.loop-r.invariant.0 (sound (goal.at.returns-else-due-from c).After-noted-foreign) x low (omega arith)))
