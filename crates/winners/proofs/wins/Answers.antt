use Rattle.std.proofs.Common.{arith}
use Rattle.std.proofs.lemmas.Bool.Decides.{nat_tests}
use Rattle.candidates.proofs.Searched as searched
use Rattle.winners.proofs.Contenders.{both_live, both_none, precedes_clock}
use Rattle.winners.proofs.wins.Goals as goal

pub returns-then-ne : goal.returns-then-ne
returns-then-ne c =
    precedes_clock _ (searched.sound c.args.run.now) _ c.requires.0 c.requires.1 (λ e. grind (arith, nat_tests)) (λ e. grind (arith, nat_tests))

pub precedes-requires : goal.precedes-requires
precedes-requires c =
    let live = both_live _ (searched.sound c.args.run.now) _ c.requires.0 c.requires.1 (grind (arith, nat_tests)) (grind (arith, nat_tests)) (omega arith) in
    (live.1, live.0)

pub returns-else-ne-2 : goal.returns-else-ne-2
returns-else-ne-2 c =
    let keys = both_none _ (searched.sound c.args.run.now) _ c.requires.0 c.requires.1 (grind (arith, nat_tests)) (grind (arith, nat_tests)) in
    record { yes = λ e. omega (arith, keys); no = λ e. omega (arith, keys) }
