use Rattle.std.proofs.Common.{sym, ◌∙◌}
use Rattle.driving.proofs.allows_pause.Goals as goal

pub returns-then-has_split : goal.returns-then-has_split
returns-then-has_split c = rw (c.in-SecondPart.is, sym c.has_split-in-SecondPart.ensures ∙ c.if-has_split.true)

pub returns-else-has_split : goal.returns-else-has_split
returns-else-has_split c = rw (c.in-SecondPart.is, sym c.has_split-in-SecondPart.ensures ∙ c.if-has_split.false) c.if-has_split.false
