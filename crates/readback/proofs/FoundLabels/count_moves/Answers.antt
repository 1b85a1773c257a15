use Rattle.readback.proofs.Counted.{held_descends, count_first, count_next, count_end}
use Rattle.readback.proofs.FoundLabels.count_moves.Goals as goal

pub loop-k-init : goal.loop-k-init
loop-k-init c = count_first _ _ c.args.self.now.held.low

pub loop-k-preserved : goal.loop-k-preserved
loop-k-preserved c =
    rw c.parent-k.ensures (count_next _ _ (held_descends _ _ _ c.args.self.now.held) c.loop-k.k c.loop-k.m c.loop-k.invariant c.loop-k-test.true)

pub returns : goal.returns
returns c = count_end _ _ c.loop-k.k c.loop-k.m c.loop-k.invariant c.loop-k-test.false
