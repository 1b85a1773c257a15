-- The table is the list of the reckoning's days, by computation.
use Rattle.std.proofs.Common.{◌+◌, rules}
use Rattle.calendar.specs.Easter.{easter_of}
use Rattle.calendar.specs.Gate.{easter_years}
use Rattle.calendar.proofs.Made.{made, made_at}
use Rattle.calendar.proofs.easter.Goals as goal

pub returns : goal.returns
unfolding made easter_of
returns c = made_at (λ k. easter_of (2000 + k)) easter_years c.args.years (search rules)
