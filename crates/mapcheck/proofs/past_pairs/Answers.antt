-- All that is passed is letters.
use mathlib.Core.Path.{◌∙◌, sym}
use Rattle.mapcheck.proofs.Letters.{past_pair, past_both, rest_behind}
use Rattle.mapcheck.proofs.past_pairs.Goals as goal

pub loop-pair-preserved : goal.loop-pair-preserved
loop-pair-preserved c =
    let map = c.args.map.now in
    let step = c.in-Some.ensures.steps in
    let cut = sym c.loop-pair.invariant.1 ∙ step.1.0 in
    let size = step.1.1 ∙ c.loop-pair.invariant.0 in
    let passed =
    past_pair map _ _ _ cut size (λ k. (c.type_inv.map k).fits) c.word.ensures c.word-in-loop-pair.ensures
    (sym c.pair_is_bad.ensures ∙ c.if-pair_is_bad.false) in
    (step.0 ∙ c.loop-pair.invariant.0, rest_behind map _ _ _ cut size, past_both c.loop-pair.invariant.2 passed)
