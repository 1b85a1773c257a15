-- The lowest fault is the first one that the loop meets.
use mathlib.Core.Path.{◌∙◌, sym}
use native.Mathlib.Omega.{arith}
use Rattle.replies.proofs.First.{one_more, lowest_found, lowest_none}
use Rattle.mapcheck.proofs.Fields.{judged_letter}
use Rattle.mapcheck.proofs.bad_letter.Goals as goal

pub returns-then-letter_is_bad : goal.returns-then-letter_is_bad
returns-then-letter_is_bad c =
    sym
    (lowest_found _ _ _ c.loop-i.i (omega arith) (omega arith) c.loop-i.invariant
    (judged_letter c.args.map.now c.loop-i.i c.letter_is_bad.ensures ∙ c.if-letter_is_bad.true))

pub loop-i-preserved : goal.loop-i-preserved
loop-i-preserved c =
    one_more _ c.loop-i.invariant (judged_letter c.args.map.now c.loop-i.i c.letter_is_bad.ensures ∙ c.if-letter_is_bad.false)

pub returns : goal.returns
returns c = sym (lowest_none _ _ _ (λ x low high. c.loop-i.invariant x low (omega arith)))
