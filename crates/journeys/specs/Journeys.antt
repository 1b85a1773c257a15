-- Journeys: lists of legal moves. Document 01, "Moves", and document 02, P8. Assumes nothing.
use Rattle.std.specs.Prelude.{◌≡◌, Bool, true, false, ◌&&◌, List, [], ◌∷◌, ℕ, ◌+◌, T, eqb}
use Rattle.std.proofs.Math.Option.{Option, none, some}
use Rattle.states.specs.declared.State.{State}
use Rattle.moves.specs.declared.Move.{Move}
use Rattle.moves.specs.Trip.{Trip}
use Rattle.moves.specs.Moves.{offers, offered, after, begins, queue_seconds, move_seconds}
use Rattle.states.specs.States.{start_of, legal, dominates_state}
use Rattle.theory.specs.Lists.{keep}

-- a journey starts at source with words 2, 4, 5, 14
abbrev pub start_in : Trip → State
start_in trip = start_of trip.order

-- and ends at target
unfoldable pub at_target : Trip → State → Bool
at_target trip s = eqb s.junction trip.order.target

-- a list of legal moves leads from one state to another: no move, or one that is offered and legal and then the rest
pub data Leads (trip : Trip) : State → List Move → State → Type 0 where
  stay : {s : State} → Leads trip s [] s
  go : {s t : State} {m : Move} {ms : List Move} → offers trip s m ≡ true → legal trip.order (after trip s m) ≡ true → Leads trip (after trip s m) ms t → Leads trip s (m ∷ ms) t

-- a legal journey to t: its moves lead from the start to t, which is at target
pub record Journey (trip : Trip) (ms : List Move) (t : State) : Type 0 where
  pub leads : Leads trip (start_in trip) ms t
  pub ends : at_target trip t ≡ true

-- the state that a list of moves leads to; none at the first move that is not offered or not legal
unfoldable pub timed : Trip → State → List Move → Option State
unfolding offers legal after
timed trip s [] = some s
timed trip s (m ∷ ms) =
    elim (offers trip s m && legal trip.order (after trip s m)) [ true ↦ timed trip (after trip s m) ms | false ↦ none ]

-- the sum of road times, breaks and rests; a part of a break counts as a break, and a weekly rest as a rest
unfoldable pub total_seconds : Trip → List Move → ℕ
unfolding move_seconds
total_seconds trip [] = 0
total_seconds trip (m ∷ ms) = move_seconds trip m + total_seconds trip ms

-- the sum of the queues before the moves, from this state on
unfoldable pub total_queues : Trip → State → List Move → ℕ
unfolding begins after
total_queues trip s [] = 0
total_queues trip s (m ∷ ms) = queue_seconds trip s m + total_queues trip (after trip s m) ms

-- the states after those of the moves that are legal
unfoldable pub results : Trip → State → List Move → List State
unfolding legal after
results trip s [] = []
results trip s (m ∷ ms) = let t = after trip s m in keep (legal trip.order t) t (results trip s ms)

-- the states that one move leads to, in the order of the offered moves
unfoldable pub succs : Trip → State → List State
unfolding results offered
succs trip s = results trip s (offered trip s)

-- some list of legal moves leads from the start to s
abbrev pub Reached : Trip → State → Type 0
Reached trip s = (ms : List Move) × Leads trip (start_in trip) ms s

-- reachable, and no reachable state dominates it
pub record UndominatedIn (trip : Trip) (u : State) : Type 0 where
  pub reached : Reached trip u
  pub free : (x : State) → Reached trip x → ¬ T (dominates_state x u)
