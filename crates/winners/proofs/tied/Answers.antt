use Rattle.std.proofs.Common.{arith}
use Rattle.std.proofs.lemmas.Bool.Decides.{nat_tests}
use Rattle.candidates.proofs.Searched as searched
use Rattle.winners.proofs.Contenders.{both_live, both_none, best_first}
use Rattle.winners.proofs.tied.Goals as goal
use Rattle.winners.proofs.tied.Goals.{then-eq, else-eq}

pub precedes-requires : goal.precedes-requires
precedes-requires c =
    let two = c.requires in
    both_live _ (searched.sound c.args.run.now) _ two.0 two.1 two.2 (grind (arith, nat_tests)) (omega arith)

pub returns-then-precedes : goal.returns-then-precedes
returns-then-precedes c =
    let two = c.requires in
    best_first (elim c.if-eq.branch [
      | then-eq w ↦ omega (arith, both_none _ (searched.sound c.args.run.now) _ two.0 two.1 two.2 (grind (arith, nat_tests)))
      | else-eq w ↦ w.precedes.ensures.yes cc
    ])
