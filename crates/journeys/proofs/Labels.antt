-- What the definitions mean, in terms of journeys: reachable states, dominance, the answer and the labels. Assumes nothing.
use mathlib.Core.Path.{◌≡◌, refl, sym, subst}
use mathlib.Core.Bool.{true}
use mathlib.Core.List.Memᴰ
use mathlib.Core.List.{List, [], ◌∷◌, Memᴰ}
use mathlib.Core.Logic.{◌⊎◌, ◌↔◌}
use mathlib.Core.Option.{Option, none, some}
use Prim.Native.Nat.{◌≤◌, ◌<◌}
use lib.Dec.{T}
use lib.ListN.{get_or}
use borrow.Author.Tests.{eq-eqb}
use Rattle.booleans.proofs.Tests.{T_true, true_T}
use Rattle.states.specs.declared.State.{State}
use Rattle.moves.specs.declared.Move.{Move}
use Rattle.moves.specs.Trip.{Trip}
use Rattle.moves.proofs.Rising.{SoundTrip}
use Rattle.theory.specs.Lists.{StrictlySorted, sorted_nil, sorted_cons}
use Rattle.theory.specs.States.{Reach, start, Undominated}
use Rattle.theory.specs.Labels.{within, IsAnswer}
use Rattle.theory.proofs.Sorting.{le_self}
use Rattle.theory.proofs.Dominance.{above_start, start_undominated, equal_or_dominated, undominated_parent}
use Rattle.theory.proofs.Labels.{answer_is, answer_unique, answer_undominated, labels_exactly, labels_strict, labels_unique, labels_some, first_label, answer_label}
use Rattle.journeys.specs.Journeys.{start_in, at_target, Journey, Reached, succs, UndominatedIn}
use Rattle.states.specs.States.{same_state, covers, dominates_state, ranks_no_higher}
use Rattle.journeys.specs.Labels.{reachable_in, answer_in, labels_in, label_count}
use Rattle.states.proofs.Compared.{rank_order, rank_clock, same_decides}
use Rattle.journeys.proofs.Journeys.{OneMove, succs_from, leads_reach, reach_leads}
use Rattle.journeys.proofs.Laws.{laws, goal_covers, all_reachable}

-- Reach is: some list of moves leads there.
module _ (trip : Trip) where
  abbrev pub ReachIn : State → Type 0
  ReachIn s = Reach (succs trip) (start_in trip) s

  abbrev pub TopIn : State → Type 0
  TopIn u = Undominated (succs trip) same_state covers (start_in trip) u

  pub reached_reach : {s : State} → Reached trip s → ReachIn s
  reached_reach r = leads_reach trip start r.1

  pub top_undominated : {u : State} → TopIn u → UndominatedIn trip u
  top_undominated d = record { reached = reach_leads trip d.reach; free = λ x r. d.free x (reached_reach r) }

  pub undominated_top : {u : State} → UndominatedIn trip u → TopIn u
  undominated_top d = record { reach = reached_reach d.reached; free = λ x r. d.free x (reach_leads trip r) }

module _ (trip : Trip) (sound : SoundTrip trip) where
  -- s is among the reachable states exactly when some list of legal moves leads there
  pub reachable_exactly : (s : State) → Memᴰ s (reachable_in trip) ↔ Reached trip s
  reachable_exactly s =
      let all = all_reachable trip sound in
      (λ at. reach_leads trip (all.sound s at), λ r. all.complete s (reached_reach trip r))

  -- every reachable state is equal to or dominated by an undominated one
  pub reached_under : {t : State} → Reached trip t → (u : State) × UndominatedIn trip u × ((u ≡ t) ⊎ T (dominates_state u t))
  reached_under r =
      let found = equal_or_dominated (laws trip sound) same_decides (all_reachable trip sound) (reached_reach trip r) in
      (found.0, top_undominated trip found.1, found.2)

  -- every undominated state but the start is one move from an undominated one
  pub undominated_before : {t : State} → UndominatedIn trip t → ¬ (t ≡ start_in trip) → (p : State) × UndominatedIn trip p × OneMove trip p t
  undominated_before d n =
      let found = undominated_parent (laws trip sound) same_decides (all_reachable trip sound) (undominated_top trip d) n in
      (found.0, top_undominated trip found.1, succs_from trip found.0 found.2)

  -- the start is undominated
  pub start_is_undominated : UndominatedIn trip (start_in trip)
  start_is_undominated = top_undominated trip (start_undominated (laws trip sound) same_decides)

  -- The answer.
  pub is_answer : IsAnswer (succs trip) ranks_no_higher (at_target trip) (start_in trip) (answer_in trip)
  unfolding answer_in
  is_answer = answer_is rank_order (all_reachable trip sound) (at_target trip)

  -- where no legal journey exists there is no answer, and the other way round
  pub none_answered : answer_in trip ≡ none → (ms : List Move) (t : State) → ¬ Journey trip ms t
  none_answered e ms t j =
      let facts : IsAnswer (succs trip) ranks_no_higher (at_target trip) (start_in trip) none = rw e at is_answer in
      facts t (reached_reach trip (ms, j.leads)) (true_T j.ends)

  module _ {a : State} (e : answer_in trip ≡ some a) where
    answer_some : IsAnswer (succs trip) ranks_no_higher (at_target trip) (start_in trip) (some a)
    answer_some = rw e at is_answer

    -- the answer is reachable and at target
    pub answer_reached : Reached trip a
    answer_reached = reach_leads trip answer_some.0

    pub answer_ends : at_target trip a ≡ true
    answer_ends = T_true answer_some.1

    -- no legal journey ends at target with a lower rank
    pub answer_lowest : {ms : List Move} {t : State} → Journey trip ms t → T (ranks_no_higher a t)
    answer_lowest {ms} {t} j = answer_some.2 t (reached_reach trip (ms, j.leads)) (true_T j.ends)

    -- so none arrives earlier
    pub answer_earliest : {ms : List Move} {t : State} → Journey trip ms t → a.clock.0 ≤ t.clock.0
    answer_earliest {ms} {t} j = rank_clock a t (answer_lowest j)

    -- the answer is undominated
    pub answer_is_undominated : UndominatedIn trip a
    answer_is_undominated = top_undominated trip (answer_undominated (laws trip sound) same_decides (goal_covers trip) answer_some)

    -- and a label
    pub answer_is_label : Memᴰ a (labels_in trip)
    unfolding labels_in answer_in
    answer_is_label = answer_label (laws trip sound) same_decides (all_reachable trip sound) (goal_covers trip) e

  pub some_answered : {ms : List Move} {t : State} → Journey trip ms t → (a : State) × (answer_in trip ≡ some a)
  some_answered {ms} {t} j = at (answer_in trip) refl
    where
      at : (o : Option State) → answer_in trip ≡ o → (a : State) × (answer_in trip ≡ some a)
      at none e = absurd (none_answered e ms t j)
      at (some a) e = (a, e)

  pub no_journey : ((ms : List Move) (t : State) → ¬ Journey trip ms t) → answer_in trip ≡ none
  no_journey f = at (answer_in trip) refl
    where
      at : (o : Option State) → answer_in trip ≡ o → answer_in trip ≡ none
      at none e = e
      at (some a) e = let r = answer_reached e in absurd (f r.0 a (record { leads = r.1; ends = answer_ends e }))

  -- "no road" exactly when no legal journey exists
  pub none_exactly : (answer_in trip ≡ none) ↔ ((ms : List Move) (t : State) → ¬ Journey trip ms t)
  none_exactly = (none_answered, no_journey)

  -- nothing but the lowest-ranked end of a legal journey is the answer
  pub answer_is_this : {ms : List Move} {a : State} → Journey trip ms a → ((ns : List Move) (t : State) → Journey trip ns t → T (ranks_no_higher a t)) → answer_in trip ≡ some a
  unfolding answer_in
  answer_is_this {ms} {a} j f =
      answer_unique rank_order (all_reachable trip sound) (at_target trip) (some a) (
        reached_reach trip (ms, j.leads),
        true_T j.ends,
        λ t r g. let found = reach_leads trip r in f found.0 t (record { leads = found.1; ends = T_true g }),
      )

  -- The labels: exactly the undominated states that rank no higher than the answer, rising strictly in rank, the start first.
  pub label_exactly : (u : State) → Memᴰ u (labels_in trip) ↔ (UndominatedIn trip u × T (within ranks_no_higher (answer_in trip) u))
  unfolding labels_in answer_in
  label_exactly u =
      let exactly = labels_exactly (laws trip sound) same_decides (all_reachable trip sound) (at_target trip) u in
      (λ at. let f = exactly.0 at in (top_undominated trip f.0, f.1), λ f. exactly.1 (undominated_top trip f.0, f.1))

  pub labels_rise : StrictlySorted ranks_no_higher (labels_in trip)
  unfolding labels_in
  labels_rise = labels_strict (laws trip sound) same_decides (all_reachable trip sound) (at_target trip)

  pub labels_only : (L : List State) → StrictlySorted ranks_no_higher L
      → ((u : State) → Memᴰ u L ↔ (UndominatedIn trip u × T (within ranks_no_higher (answer_in trip) u))) → labels_in trip ≡ L
  unfolding labels_in answer_in
  labels_only L strict exactly =
      labels_unique (laws trip sound) same_decides (all_reachable trip sound) (at_target trip) L strict
      (λ u. (λ at. let f = (exactly u).0 at in (undominated_top trip f.0, f.1), λ f. (exactly u).1 (top_undominated trip f.0, f.1)))

  pub label_some : 0 < label_count trip
  unfolding labels_in
  label_some = labels_some (laws trip sound) same_decides (all_reachable trip sound) (at_target trip)

  pub label_first : get_or (labels_in trip) 0 (start_in trip) ≡ start_in trip
  unfolding labels_in
  label_first = first_label (laws trip sound) same_decides (all_reachable trip sound) (at_target trip) (start_in trip)

  -- Source equal to target: the start is the answer, and N = 1.
  module _ (home : trip.order.source ≡ trip.order.target) where
    pub home_answer : answer_in trip ≡ some (start_in trip)
    unfolding answer_in at_target
    home_answer =
        answer_unique rank_order (all_reachable trip sound) (at_target trip) (some (start_in trip)) (
          start,
          true_T (eq-eqb _ _ home),
          λ t r g. above_start (laws trip sound) r,
        )

    one_strict : StrictlySorted ranks_no_higher (start_in trip ∷ [])
    one_strict = sorted_cons (λ y at. absurd (Memᴰ.not-nil at)) sorted_nil

    pub home_labels : labels_in trip ≡ start_in trip ∷ []
    home_labels = labels_only (start_in trip ∷ []) one_strict (λ u. rw home_answer (into u, back u))
      where
        into : (u : State) → Memᴰ u (start_in trip ∷ []) → UndominatedIn trip u × T (ranks_no_higher u (start_in trip))
        into u at =
            subst (λ (z : State). UndominatedIn trip z × T (ranks_no_higher z (start_in trip))) (sym (Memᴰ.eq_of_singleton at))
            (start_is_undominated, le_self rank_order (start_in trip))

        back : (u : State) → UndominatedIn trip u × T (ranks_no_higher u (start_in trip)) → Memᴰ u (start_in trip ∷ [])
        back u f =
            Memᴰ.head (rank_order.antisym u (start_in trip) f.1 (above_start (laws trip sound) (reached_reach trip f.0.reached)))

    pub home_count : label_count trip ≡ 1
    home_count = rw home_labels
