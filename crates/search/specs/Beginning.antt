-- The search begins: the start is label 1. Assumes nothing.
use Rattle.std.specs.Prelude.{List, ℕ, T}
use Rattle.std.proofs.Math.Option.{some}
use Rattle.moves.specs.Trip.{Trip}
use Rattle.journeys.specs.Journeys.{start_in, at_target}
use Rattle.labels.specs.declared.Place.{Place}
use Rattle.labels.specs.LabelWords.{settled}
use Rattle.settling.specs.Settling.{Ended}
use Rattle.search.specs.Underway.{parents_of, Underway}

-- the start is label 1: the search is under way, or has ended where the start is at target
pub record Begun (trip : Trip) (ws : List ℕ) (ps : List Place) : Type 0 where
  pub away : (T (at_target trip (start_in trip)) → ⊥) → Underway trip ws ps 1
  pub home : T (at_target trip (start_in trip)) → Ended trip (some (start_in trip)) (settled ws 1) (parents_of ws 1)
