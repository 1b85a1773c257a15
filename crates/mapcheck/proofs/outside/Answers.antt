use Rattle.std.proofs.Common.{rules, tests}
use Rattle.mapcheck.specs.MapCheck.{outside}
use Rattle.mapcheck.proofs.outside.Goals as goal

pub returns : goal.returns
unfolding outside
returns c = search (rules, tests)
