-- What is passed over is letters, so the lowest bad one is behind it.
use mathlib.Core.Path.{◌∙◌, sym}
use Rattle.mapcheck.proofs.Letters.{past_both, lowest_behind}
use Rattle.mapcheck.proofs.bad_lettering.Goals as goal

pub returns : goal.returns
returns c = c.bad_letter.ensures ∙ sym (lowest_behind (past_both c.past_pairs-pair.ensures c.past_word-word.ensures))
