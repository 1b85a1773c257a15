-- A day is a Sunday, or a feast of its own year.
use Rattle.std.proofs.Common.{◌%◌, arith}
use borrow.Author.Tests.{eq-eqb, ne_eqb}
use Rattle.calendar.specs.Gate.{is_ban_day}
use Rattle.calendar.proofs.Years.{own_feast}
use Rattle.calendar.proofs.is_ban_day.Goals as goal

pub is_feast-requires : goal.is_feast-requires
is_feast-requires c = (omega arith, omega (arith, c.easter_in_year_of.ensures.soon))

pub returns-then-day-eq1 : goal.returns-then-day-eq1
unfolding is_ban_day
returns-then-day-eq1 c = rw (eq-eqb _ _ c.if-day-eq1.true)

pub returns-else-day-eq1 : goal.returns-else-day-eq1
unfolding is_ban_day
returns-else-day-eq1 c =
    rw (ne_eqb (c.args.day % 7) 1 c.if-day-eq1.false, own_feast c.args.day c.requires, ← c.easter_in_year_of.ensures.is) c.is_feast.ensures
