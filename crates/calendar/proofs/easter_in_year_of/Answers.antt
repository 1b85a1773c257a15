-- Easter of the day's year, by the table.
use Rattle.std.proofs.Common.{◌∙◌, arith}
use Rattle.calendar.proofs.Years.{year, easter_by}
use Rattle.calendar.proofs.easter_in_year_of.Goals as goal

pub overflow_sub-result : goal.overflow_sub-result
overflow_sub-result c = let y = year c.args.day c.requires in omega (arith, y.spring, c.from.ensures ∙ c.easter.ensures)

pub returns-clause-is : goal.returns-clause-is
returns-clause-is c = easter_by c.args.day c.from.result c.requires (c.from.ensures ∙ c.easter.ensures)

pub returns-clause-soon : goal.returns-clause-soon
returns-clause-soon c = let y = year c.args.day c.requires in omega (arith, y.spring, y.from, c.from.ensures ∙ c.easter.ensures)
