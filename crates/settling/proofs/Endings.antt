-- The ends of the loop: the winner's candidate is at target, none is left, or no label fits; and the start at target.
-- Assumes nothing.
use mathlib.Core.Path.{◌≡◌, sym, ap, ◌∙◌}
use mathlib.Core.List.{List, [], ◌∷◌, ◌++◌}
use mathlib.Core.Option.{Option, none, some}
use Prim.Native.Nat.{ℕ, ◌+◌, ◌<◌}
use native.Mathlib.Omega.{arith}
use lib.Dec.{T, eqb→eq}
use lib.ListN.{length, get_or, length-append}
use Rattle.states.specs.declared.State.{State}
use Rattle.moves.specs.Trip.{Trip}
use Rattle.moves.proofs.Rising.{SoundTrip}
use Rattle.theory.specs.States.{Covered}
use Rattle.theory.specs.Labels.{parent}
use Rattle.theory.proofs.Sorting.{le_self}
use Rattle.theory.proofs.Settling.{lowest_settled}
use Rattle.journeys.specs.Journeys.{start_in, at_target, succs}
use Rattle.states.specs.States.{same_state, covers}
use Rattle.journeys.specs.Labels.{answer_in, labels_in, label_count, label, parent_in}
use Rattle.states.proofs.Compared.{rank_order, same_decides}
use Rattle.journeys.proofs.Laws.{laws}
use Rattle.journeys.proofs.Labels.{home_answer, home_labels}
use Rattle.journeys.proofs.Endings.{parent_among, search_found, search_without, search_full}
use Rattle.settling.specs.Settling.{state_at, candidate_of, Parents, Searching, Winner, Ended}
use Rattle.settling.proofs.Lists.{state_kept, state_new}
use Rattle.settling.proofs.Winners.{label_in, candidates_settled, won_above, won_lowest, won_top, grown_lowest, grown_parents}
use Rattle.settling.proofs.Turns.{begin_parents}

-- lists that are the labels and their parents, with the answer
ended : (trip : Trip) (found : Option State) (L : List State) (P : List ℕ) → answer_in trip ≡ found → labels_in trip ≡ L → Parents trip L P → Ended trip found L P
ended trip found L P answered same parents =
    record {
      answer = answered;
      labels = same;
      count = ap length same;
      as_many = parents.as_many;
      root = parents.root;
      parents = λ i low h. parents.rest i low (omega (arith, ap length same, h)) ∙ ap (λ (k : ℕ). k + 1) (sym (at i));
      before = λ i low h. rw (at i) (parents.before i low (omega (arith, ap length same, h)));
    }
  where
    at : (i : ℕ) → parent_in trip (label trip i) ≡ parent (succs trip) same_state L (state_at trip L i)
    at i = parent_among trip L same (label trip i) ∙ ap (λ (l : List State). parent (succs trip) same_state L (get_or l i (start_in trip))) same

-- the start is at target: it is the answer, and the only label
pub begin_found : (trip : Trip) → SoundTrip trip → T (at_target trip (start_in trip)) → Ended trip (some (start_in trip)) (start_in trip ∷ []) (0 ∷ [])
unfolding at_target
begin_found trip sound t =
    let home : trip.order.source ≡ trip.order.target = eqb→eq trip.order.source trip.order.target t in
    ended trip (some (start_in trip)) (start_in trip ∷ []) (0 ∷ []) (home_answer trip sound home) (home_labels trip sound home) (begin_parents trip sound)

module _ (trip : Trip) (sound : SoundTrip trip) (L : List State) (C P : List ℕ) (s : Searching trip L C P) where
  -- no candidate is left: there is no answer, and the labels are all settled
  pub exhausted : ((i : ℕ) → i < length L → get_or C i 0 ≡ 0) → Ended trip none L P
  exhausted done =
      let all_settled = candidates_settled trip sound L C P s none (λ i h has. absurd (omega (arith, done i h, has))) in
      let ends = search_without trip sound L (lowest_settled (laws trip sound) same_decides all_settled s.rises s.tops) s.away in
      ended trip none L P ends.0 ends.1 s.parents

  module _ (w : ℕ) (win : Winner trip L C w) where
    abbrev won : State
    won = candidate_of trip L C w

    module _ (new : ¬ Covered covers L won) where
      -- the winner's candidate is not covered: there are more labels than are settled
      pub turn_full : length L < label_count trip
      turn_full =
          search_full trip sound L won (won_lowest trip sound L C P s w win) s.away (won_top trip sound L C P s w win new) new (won_above trip L C P s w win)

      -- and at target: it is the answer and the last label, and the winner its parent
      pub turn_found : T (at_target trip won) → Ended trip (some won) (L ++ won ∷ []) (P ++ (w + 1) ∷ [])
      turn_found t =
          let ends = search_found trip sound (L ++ won ∷ []) (length L) (some won) (omega (arith, length-append L (won ∷ []))) (grown_lowest trip sound L C P s w win new)
          (rw last (le_self rank_order won)) (λ i h. rw (state_kept trip L won i h) (s.away (state_at trip L i) (label_in trip L i h))) (rw last t) in
          ended trip (some won) (L ++ won ∷ []) (P ++ (w + 1) ∷ []) (ends.0 ∙ ap some last) ends.1 (grown_parents trip sound L C P s w win new)
        where
          last : state_at trip (L ++ won ∷ []) (length L) ≡ won
          last = state_new trip L won
