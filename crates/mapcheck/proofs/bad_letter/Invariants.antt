use Rattle.replies.proofs.First.{NoneBelow}
use Rattle.mapcheck.specs.MapCheck.{bad_letter_at}
use Rattle.mapcheck.proofs.bad_letter.Given as goal

abbrev pub invariant-loop-i : goal.invariant-loop-i
invariant-loop-i l = NoneBelow (bad_letter_at l.map) l.from l.i
