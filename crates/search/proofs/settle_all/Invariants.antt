-- Between two turns the search is under way, with labels that fit; each turn raises the root's key.
use Rattle.std.proofs.Common.{◌-◌, ◌≤◌, length}
use Rattle.moves.specs.OpenRuns.{searched_trip}
use Rattle.states.specs.LabelSpace.{labels_that_fit}
use Rattle.labels.specs.LabelWords.{winner_of}
use Rattle.winners.specs.Keys.{no_key, key_at}
use Rattle.search.specs.Underway.{Underway}
use Rattle.search.proofs.settle_all.Given as goal

abbrev pub invariant-loop-labels : goal.invariant-loop-labels
invariant-loop-labels l = record { underway : Underway (searched_trip l.fn.run) l.words l.places l.n; fits : l.n ≤ labels_that_fit (length l.initial.words) }

abbrev pub decreases-loop-labels : goal.decreases-loop-labels
decreases-loop-labels l = no_key - key_at (searched_trip l.fn.run) l.words (winner_of l.words 1)
