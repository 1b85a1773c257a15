-- The winner below node j is carried up to the root.
use Rattle.moves.specs.OpenRuns.{searched_trip}
use Rattle.winners.specs.Mending.{Climbed}
use Rattle.winners.proofs.mend.Given as goal

abbrev pub invariant-loop-j : goal.invariant-loop-j
invariant-loop-j l = Climbed (searched_trip l.fn.run) l.initial.words l.words l.fn.n l.j l.best

abbrev pub decreases-loop-j : goal.decreases-loop-j
decreases-loop-j l = l.j
