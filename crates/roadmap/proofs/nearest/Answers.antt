use Rattle.std.proofs.Common.{arith, sym}
use Rattle.roadmap.proofs.Rounding.{takes_lower, takes_upper}
use Rattle.roadmap.proofs.nearest.Goals as goal

pub returns-then-twice-lower : goal.returns-then-twice-lower
returns-then-twice-lower c = sym (takes_lower c.args.dividend c.args.divisor (omega (arith, c.if-twice-lower.true)))

pub returns-else-twice-lower : goal.returns-else-twice-lower
returns-else-twice-lower c = sym (takes_upper c.args.dividend c.args.divisor (omega (arith, c.if-twice-lower.false)))
