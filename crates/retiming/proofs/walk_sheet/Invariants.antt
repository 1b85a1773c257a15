-- Before record k the walk is under way.
use Rattle.moves.specs.OpenRuns.{listed_trip}
use Rattle.retiming.proofs.Underway.{Underway}
use Rattle.retiming.proofs.walk_sheet.Given as goal

abbrev pub invariant-loop-k : goal.invariant-loop-k
invariant-loop-k l = Underway l.clocks (listed_trip l.run) l.sheet l.moves l.k l.state
