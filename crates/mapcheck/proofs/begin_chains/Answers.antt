-- Before junction j the chains below it are begun.
use native.Mathlib.Omega.{arith}
use Rattle.mapcheck.proofs.Due.{due_first}
use Rattle.mapcheck.proofs.begin_chains.Goals as goal

pub loop-j-preserved : goal.loop-j-preserved
loop-j-preserved c =
    due_first _ _ _ _ _ c.args.linked.now.links c.loop-j.invariant (omega arith) (omega arith) (omega arith) (omega arith)
    c.first_road-first.ensures c.noted-foreign.ensures

pub returns-2 : goal.returns-2
returns-2 c =
    due_first _ _ _ _ _ c.args.linked.now.links c.loop-j.invariant (omega arith) (omega arith) (omega arith) (omega arith)
    c.first_road-first.ensures c.noted-foreign.ensures
