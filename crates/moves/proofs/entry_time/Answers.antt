-- A gate opens at most a queue later.
use Rattle.std.proofs.Common.{arith, refl, true}
use Rattle.moves.proofs.Entering.{entered_within}
use Rattle.moves.proofs.entry_time.Goals as goal

pub returns-then-banned : goal.returns-then-banned
returns-then-banned c = rw (c.if-banned.true, c.gate.ensures) (refl, omega (arith, entered_within true c.args.clock.0))
