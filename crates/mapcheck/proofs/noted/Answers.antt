-- Each return is a case of `note`.
use Rattle.std.proofs.Common.{arith}
use Rattle.std.proofs.lemmas.Bool.Decides.{nat_tests}
use Rattle.mapcheck.specs.Due.{note}
use Rattle.mapcheck.proofs.noted.Goals as goal

pub returns-then-road_from-j : goal.returns-then-road_from-j
unfolding note
returns-then-road_from-j c = grind (arith, nat_tests)

pub returns-else-road_from-j : goal.returns-else-road_from-j
unfolding note
returns-else-road_from-j c = grind (arith, nat_tests)
