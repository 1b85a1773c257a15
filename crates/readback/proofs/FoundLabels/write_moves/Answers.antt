use Rattle.std.proofs.Common.{arith}
use Rattle.readback.proofs.Backward.{write_first, write_fits, write_some, write_end}
use Rattle.readback.proofs.FoundLabels.write_moves.Goals as goal

pub loop-k-init : goal.loop-k-init
loop-k-init c = write_first c.args.self.now c.args.sheet.now c.args.m c.requires.0

pub write_row-requires : goal.write_row-requires
write_row-requires c = (
  write_some c.args.self.now c.args.sheet.now c.loop-k.sheet c.loop-k.k c.loop-k.left c.loop-k.invariant c.loop-k-test.true,
  omega (arith, c.requires, c.loop-k.invariant.long, write_fits c.args.self.now c.args.sheet.now c.loop-k.sheet c.loop-k.k c.loop-k.left c.loop-k.invariant),
)

pub overflow_sub-left : goal.overflow_sub-left
overflow_sub-left c = write_some c.args.self.now c.args.sheet.now c.loop-k.sheet c.loop-k.k c.loop-k.left c.loop-k.invariant c.loop-k-test.true

pub returns : goal.returns
returns c = write_end c.args.self.now c.args.sheet.now c.loop-k.sheet c.loop-k.k c.loop-k.left c.loop-k.invariant c.loop-k-test.false
