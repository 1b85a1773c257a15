use mathlib.Core.Path.{◌∙◌, sym}
use Rattle.replies.proofs.First.{stops_at, passed_over}
use Rattle.mapcheck.proofs.check_chains.Goals as goal

pub returns-in-Some : goal.returns-in-Some
returns-in-Some c = sym (stops_at _ _ _ (sym c.in-Some.ensures))

pub returns : goal.returns
returns c = c.check_letters.ensures ∙ sym (passed_over _ _ _ (sym c.in_default.ensures))
