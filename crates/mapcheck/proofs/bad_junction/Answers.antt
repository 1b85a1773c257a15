-- The lowest fault is the first one that the loop meets.
use mathlib.Core.Path.{◌∙◌, sym}
use native.Mathlib.Omega.{arith}
use Rattle.replies.proofs.First.{one_more, lowest_found, lowest_none}
use Rattle.mapcheck.proofs.Fields.{judged_junction}
use Rattle.mapcheck.proofs.bad_junction.Goals as goal

pub returns-then-junction_is_bad : goal.returns-then-junction_is_bad
returns-then-junction_is_bad c =
    sym
    (lowest_found _ 1 _ c.loop-j.j (omega arith) (omega arith) c.loop-j.invariant
    (judged_junction c.args.links c.args.map.now c.loop-j.j c.junction.ensures c.junction_is_bad.ensures ∙ c.if-junction_is_bad.true))

pub loop-j-preserved : goal.loop-j-preserved
loop-j-preserved c =
    one_more _ c.loop-j.invariant
    (judged_junction c.args.links c.args.map.now c.loop-j.j c.junction.ensures c.junction_is_bad.ensures ∙ c.if-junction_is_bad.false)

pub returns : goal.returns
returns c = sym (lowest_none _ 1 _ (λ x low high. c.loop-j.invariant x low (omega arith)))

pub returns-else-junction_is_bad : goal.returns-else-junction_is_bad
returns-else-junction_is_bad c =
    let good =
    judged_junction c.args.links c.args.map.now c.loop-j.j c.junction.ensures c.junction_is_bad.ensures ∙ c.if-junction_is_bad.false in
    sym (lowest_none _ 1 _ (λ x low high. one_more _ c.loop-j.invariant good x low (omega arith)))
