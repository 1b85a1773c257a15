-- How a search of a run ends, and where its parents stand. Assumes nothing.
use mathlib.Core.Path.{◌≡◌, ap}
use mathlib.Core.List.{List, Memᴰ}
use mathlib.Core.Option.{Option, none, some}
use Prim.Native.Nat.{ℕ, suc, ◌<◌}
use lib.Dec.{T}
use lib.ListN.{length, get_or}
use Rattle.states.specs.declared.State.{State}
use Rattle.moves.specs.Trip.{Trip}
use Rattle.moves.proofs.Rising.{SoundTrip}
use Rattle.theory.specs.States.{Covered}
use Rattle.theory.specs.Settling.{leo, Settled, Lowest}
use Rattle.theory.specs.Labels.{parent}
use Rattle.theory.proofs.Endings.{ends_found, ends_without, ends_full}
use Rattle.journeys.specs.Journeys.{start_in, at_target, succs}
use Rattle.states.specs.States.{same_state, covers, ranks_no_higher}
use Rattle.journeys.specs.Labels.{answer_in, labels_in, label_count, parent_in}
use Rattle.states.proofs.Compared.{same_decides}
use Rattle.journeys.proofs.Laws.{laws, goal_covers, all_reachable}
use Rattle.journeys.proofs.Labels.{TopIn}

-- the theory's facts of a search, of a run
module _ (trip : Trip) where
  abbrev pub SettledIn : List State → Option State → Type 0
  SettledIn L b = Settled (succs trip) ranks_no_higher covers (start_in trip) L b

  abbrev pub LowestIn : List State → Option State → Type 0
  LowestIn L b = Lowest (succs trip) same_state ranks_no_higher covers (start_in trip) L b

  -- the parent among a list that is the labels
  pub parent_among : (L : List State) → labels_in trip ≡ L → (t : State) → parent_in trip t ≡ parent (succs trip) same_state L t
  unfolding parent_in
  parent_among L same t = ap (λ (l : List State). parent (succs trip) same_state l t) same

module _ (trip : Trip) (sound : SoundTrip trip) where
  -- the last of the list is at target and none before it is: it is the answer, and the list is the labels
  pub search_found : (L : List State) (n : ℕ) (b : Option State) → length L ≡ suc n → LowestIn trip L b → T (leo ranks_no_higher (some (get_or L n (start_in trip))) b)
      → ((i : ℕ) → i < n → ¬ T (at_target trip (get_or L i (start_in trip)))) → T (at_target trip (get_or L n (start_in trip)))
      → (answer_in trip ≡ some (get_or L n (start_in trip))) × (labels_in trip ≡ L)
  unfolding answer_in labels_in
  search_found = ends_found (laws trip sound) same_decides (all_reachable trip sound) (goal_covers trip) (start_in trip)

  -- nothing is left and none of the list is at target: there is no answer, and the list is the labels
  pub search_without : (L : List State) → LowestIn trip L none → ((l : State) → Memᴰ l L → ¬ T (at_target trip l))
      → (answer_in trip ≡ none) × (labels_in trip ≡ L)
  unfolding answer_in labels_in
  search_without = ends_without (laws trip sound) same_decides (all_reachable trip sound) (goal_covers trip)

  -- none of the list is at target and one more undominated state is found above it: N is more than the list has
  pub search_full : (L : List State) (c : State) → LowestIn trip L (some c) → ((l : State) → Memᴰ l L → ¬ T (at_target trip l))
      → TopIn trip c → ¬ Covered covers L c → ((l : State) → Memᴰ l L → T (ranks_no_higher l c)) → length L < label_count trip
  unfolding labels_in
  search_full = ends_full (laws trip sound) same_decides (all_reachable trip sound) (goal_covers trip)
