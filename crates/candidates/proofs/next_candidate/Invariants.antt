-- Before a cursor all those below it are tried, and at the end all.
use Rattle.std.proofs.Common.{◌+◌, ◌-◌, ◌≤◌}
use Rattle.driving.specs.Hours.{last_pause}
use Rattle.moves.specs.OpenRuns.{searched_trip}
use Rattle.moves.specs.Trip.{roads_in}
use Rattle.labels.specs.LabelWords.{settled}
use Rattle.candidates.specs.Trying.{Worth, BestBelow}
use Rattle.candidates.proofs.Roads.{up_to}
use Rattle.candidates.proofs.next_candidate.Given as goal

abbrev pub invariant-loop-cursor : goal.invariant-loop-cursor
invariant-loop-cursor l = record {
  worth : 1 ≤ l.cursor → Worth (searched_trip l.run) l.of.state l.cursor;
  tried : BestBelow (searched_trip l.run) (settled l.labels.words.now l.labels.count) l.of.before l.of.state l.fn.bound l.cursor l.best;
}

abbrev pub decreases-loop-cursor : goal.decreases-loop-cursor
decreases-loop-cursor l =
    let last = roads_in (searched_trip l.run) + (last_pause - 1) in
    last + 1 - up_to last l.cursor
