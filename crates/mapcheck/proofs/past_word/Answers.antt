use mathlib.Core.Path.{◌∙◌, sym}
use native.Mathlib.Omega.{arith}
use Rattle.mapcheck.proofs.Letters.{past_word}
use Rattle.mapcheck.proofs.past_word.Goals as goal
use Rattle.mapcheck.proofs.past_word.Goals.{then-map-from-lt4, else-map-from-lt4}

pub returns-else-word_is_bad : goal.returns-else-word_is_bad
returns-else-word_is_bad c =
    elim c.if-map-from-lt4.branch [
      | then-map-from-lt4 w ↦ absurd (grind arith)
      | else-map-from-lt4 w ↦
          past_word c.args.map.now (λ k. (c.type_inv.map k).fits) c.args.from (omega arith) w.word.ensures
          (sym w.word_is_bad.ensures ∙ sym w.value-is ∙ c.if-word_is_bad.false)
    ]
