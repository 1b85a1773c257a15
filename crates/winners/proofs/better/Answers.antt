use Rattle.std.proofs.Common.{arith}
use Rattle.std.proofs.lemmas.Bool.Decides.{nat_tests}
use Rattle.candidates.proofs.Searched as searched
use Rattle.winners.proofs.Contenders.{best_earlier}
use Rattle.winners.proofs.better.Goals as goal

pub returns-else-eq : goal.returns-else-eq
returns-else-eq c =
    best_earlier _ (searched.sound c.args.run.now) _ c.requires.0 c.requires.1 (λ e. grind (arith, nat_tests)) c.earlier.ensures
