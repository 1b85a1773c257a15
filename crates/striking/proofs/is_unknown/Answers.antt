use Rattle.std.proofs.Common.{rules, tests}
use Rattle.mapcheck.specs.MapCheck.{outside}
use Rattle.striking.proofs.is_unknown.Goals as goal

pub returns : goal.returns
unfolding outside
returns c = search (rules, tests)
