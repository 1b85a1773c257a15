-- What a turn that goes on leaves, and how the search ends by its last. Assumes nothing.
use Rattle.std.specs.Prelude.{Ok, Err}
use mathlib.Core.Path.{◌≡◌, subst}
use mathlib.Core.List.{List}
use Prim.Native.Nat.{ℕ, ◌-◌, ◌≤◌, ◌<◌}
use native.Mathlib.Omega.{arith}
use Rattle.moves.specs.Trip.{Trip}
use Rattle.moves.specs.Runs.{SoundTrip}
use Rattle.labels.specs.declared.Place.{Place}
use Rattle.labels.specs.LabelWords.{winner_of}
use Rattle.winners.specs.Keys.{no_key, key_at}
use Rattle.winners.proofs.Keys.{key_top}
use Rattle.winners.proofs.Steps.{leads}
use Rattle.search.specs.declared.Turn.{Turn}
use Rattle.search.specs.declared.Unfound.{Unfound}
use Rattle.search.specs.Underway.{Onward}
use Rattle.search.specs.Turns as turns
use Rattle.search.specs.Turns.{TurnSays, OutcomeSays}

module _ {trip : Trip} {fit key n : ℕ} {ws : List ℕ} {ps : List Place} where
  goes_by : {m : ℕ} → TurnSays trip fit key n ws ps (Ok (Turn.Goes m)) → Onward trip key ws ps m × (m ≤ fit)
  goes_by (turns.goes onward room) = (onward, room)

  found_by : {m : ℕ} → TurnSays trip fit key n ws ps (Ok (Turn.Found m)) → OutcomeSays trip fit ws (Ok m)
  found_by (turns.found ended room) = turns.found ended room

  module _ {turn : Turn} (says : TurnSays trip fit key n ws ps (Ok turn)) where
    pub goes_on : {m : ℕ} → turn ≡ Turn.Goes m → Onward trip key ws ps m × (m ≤ fit)
    goes_on e = goes_by (subst (λ (t : Turn). TurnSays trip fit key n ws ps (Ok t)) e says)

    -- fewer keys are left above the root's
    pub key_left : SoundTrip trip → {m : ℕ} → turn ≡ Turn.Goes m → no_key - key_at trip ws (winner_of ws 1) < no_key - key
    key_left sound e =
        let on = (goes_on e).0 in
        let root = leads trip ws _ on.underway.low on.underway.tree in
        omega (arith, on.higher, key_top trip sound ws (winner_of ws 1) (λ low. on.underway.ready _ low root.within))

    -- The ends.
    pub outcome_found : {m : ℕ} → turn ≡ Turn.Found m → OutcomeSays trip fit ws (Ok m)
    outcome_found e = found_by (subst (λ (t : Turn). TurnSays trip fit key n ws ps (Ok t)) e says)

  pub outcome_none : {why : Unfound} → n ≤ fit → TurnSays trip fit key n ws ps (Err why) → OutcomeSays trip fit ws (Err why)
  outcome_none room (turns.exhausted ended) = turns.exhausted ended room
  outcome_none room (turns.full above) = turns.full above
