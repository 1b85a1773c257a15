-- Before each record the replay is under way.
use Rattle.replay.proofs.Walking.{Going}
use Rattle.replay.proofs.walk_records.Given as goal

abbrev pub invariant-loop-done : goal.invariant-loop-done
invariant-loop-done l = Going l.trace l.rules l.fn.figures l.done l.underway
