use Rattle.std.proofs.Common.{arith}
use Rattle.search.specs.Turns.{found}
use Rattle.search.proofs.Beginning.{begins_home, begins_away}
use Rattle.search.proofs.search_in.Goals as goal

pub returns-then-order : goal.returns-then-order
returns-then-order c =
    found (begins_home c.args.run.now c.begin.ensures c.if-order.true (omega (arith, c.begin.auto.words))) c.requires.fits

pub settle_all-requires-clause-underway : goal.settle_all-requires-clause-underway
settle_all-requires-clause-underway c = begins_away c.args.run.now c.begin.ensures c.if-order.false
