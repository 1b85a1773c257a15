use mathlib.Core.Path.{sym}
use mathlib.Core.List.{[]}
use Rattle.replies.specs.First.{first_of}
use Rattle.replies.proofs.First.{stops_at, passed_over}
use Rattle.mapcheck.proofs.Fields.{judged_letters}
use Rattle.mapcheck.proofs.check_letters.Goals as goal

pub returns-in-Some : goal.returns-in-Some
returns-in-Some c = sym (stops_at _ _ _ (judged_letters c.args.map.now c.names_at.ensures c.in-Some.ensures))

pub returns-in-None : goal.returns-in-None
unfolding first_of
returns-in-None c = sym (passed_over _ [] _ (judged_letters c.args.map.now c.names_at.ensures c.in-None.ensures))
