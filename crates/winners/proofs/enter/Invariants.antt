-- The new label wins the nodes of its path until one that it does not win.
use Rattle.moves.specs.OpenRuns.{searched_trip}
use Rattle.winners.proofs.Steps.{Entered}
use Rattle.winners.proofs.enter.Given as goal

abbrev pub invariant-loop-j : goal.invariant-loop-j
invariant-loop-j l = Entered (searched_trip l.fn.run) l.initial.words l.words l.fn.n l.j l.new

abbrev pub decreases-loop-j : goal.decreases-loop-j
decreases-loop-j l = l.j
