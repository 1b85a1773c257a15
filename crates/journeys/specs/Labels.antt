-- The reachable states, the answer and the labels of a run. Document 01, "Labels". Assumes nothing.
use Rattle.std.specs.Prelude.{List, ℕ, ◌-◌, length, get_or}
use Rattle.std.proofs.Math.Option.{Option}
use Rattle.states.specs.declared.State.{State}
use Rattle.moves.specs.Trip.{Trip}
use Rattle.theory.specs.Reachable.{reachable}
use Rattle.theory.specs.Labels.{answer, labels, parent}
use Rattle.journeys.specs.Journeys.{start_in, at_target, succs}
use Rattle.states.specs.States.{same_state, covers, ranks_no_higher}

-- a move takes at least a second, so no journey has more moves than this
abbrev pub seconds_to_spend : Trip → ℕ
seconds_to_spend trip = trip.order.latest.0 - trip.order.departure.0

-- the reachable states, each once
unfoldable pub reachable_in : Trip → List State
unfolding reachable succs same_state
reachable_in trip = reachable (succs trip) same_state (seconds_to_spend trip) (start_in trip)

-- the answer's state: the lowest-ranked reachable one at target
unfoldable pub answer_in : Trip → Option State
unfolding answer ranks_no_higher at_target reachable_in
answer_in trip = answer ranks_no_higher (at_target trip) (reachable_in trip)

-- the labels, numbered by rank: the reachable undominated states that rank no higher than the answer's; with no journey, all of them
unfoldable pub labels_in : Trip → List State
unfolding labels same_state ranks_no_higher covers at_target reachable_in
labels_in trip = labels same_state ranks_no_higher covers (at_target trip) (reachable_in trip)

-- the label count N
abbrev pub label_count : Trip → ℕ
label_count trip = length (labels_in trip)

-- the label at index i, counted from 0; beyond the last, the start
abbrev pub label : Trip → ℕ → State
label trip i = get_or (labels_in trip) i (start_in trip)

-- the index of a label's parent: the lowest-numbered label with a move to it; N, if there is none
unfoldable pub parent_in : Trip → State → ℕ
unfolding parent succs same_state labels_in
parent_in trip t = parent (succs trip) same_state (labels_in trip) t
