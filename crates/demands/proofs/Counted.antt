-- The label count is how many distinct reachable undominated states rank no higher than the answer's. Assumes nothing.
use mathlib.Core.Path.{◌≡◌, refl, sym, ap, ◌∙◌}
use mathlib.Core.Bool.{Bool, true, false}
use mathlib.Core.List.{List, [], ◌∷◌, Memᴰ}
use mathlib.Core.Logic.{◌↔◌}
use mathlib.Core.Option.{Option, none, some}
use Prim.Native.Nat.{ℕ, suc}
use lib.Dec.{T}
use lib.ListN.{length}
use Rattle.states.specs.declared.State.{State}
use Rattle.moves.specs.declared.Move.{Move}
use Rattle.moves.specs.Trip.{Trip}
use Rattle.moves.proofs.Rising.{SoundTrip}
use Rattle.booleans.specs.Pick.{pick}
use Rattle.theory.specs.Lists.{insert, sorted, Distinct, distinct_nil, distinct_cons, StrictlySorted, sorted_nil, sorted_cons}
use Rattle.theory.specs.Labels.{within}
use Rattle.theory.proofs.Sorting.{never_self, sorted_from, sorted_in, sorted_strict}
use Rattle.journeys.specs.Journeys.{Journey, UndominatedIn}
use Rattle.states.specs.States.{ranks_no_higher}
use Rattle.journeys.specs.Labels.{answer_in, labels_in, label_count}
use Rattle.states.proofs.Compared.{rank_order}
use Rattle.journeys.proofs.Labels.{answer_reached, answer_ends, answer_lowest, none_answered, label_exactly, labels_rise, labels_only}
use Rattle.demands.specs.Counted.{IsCounted, CountsLabels}

-- sorting keeps the number of states
insert_length : (x : State) (l : List State) → length (insert ranks_no_higher x l) ≡ suc (length l)
unfolding insert
insert_length x [] = refl
insert_length x (y ∷ ys) = by (ranks_no_higher x y) (insert_length x ys)
  where
    by : (b : Bool) → length (insert ranks_no_higher x ys) ≡ suc (length ys) → length (pick b (x ∷ y ∷ ys) (y ∷ insert ranks_no_higher x ys)) ≡ suc (suc (length ys))
    by true longer = refl
    by false longer = ap suc longer

sorted_length : (l : List State) → length (sorted ranks_no_higher l) ≡ length l
unfolding sorted
sorted_length [] = refl
sorted_length (x ∷ xs) = insert_length x (sorted ranks_no_higher xs) ∙ ap suc (sorted_length xs)

strict_distinct : {l : List State} → StrictlySorted ranks_no_higher l → Distinct l
strict_distinct sorted_nil = distinct_nil
strict_distinct (sorted_cons {x = x} above rest) = distinct_cons (λ at. never_self rank_order x x refl (above x at)) (strict_distinct rest)

module _ (trip : Trip) (sound : SoundTrip trip) where
  -- no higher than the answer is no higher than the end of any legal journey
  within_counted : {u : State} → UndominatedIn trip u × T (within ranks_no_higher (answer_in trip) u) → IsCounted trip u
  within_counted {u} f = record { undominated = f.0; within = λ ms t journey. at (answer_in trip) refl f.1 journey }
    where
      at : (o : Option State) → answer_in trip ≡ o → T (within ranks_no_higher o u) → {ms : List Move} {t : State} → Journey trip ms t → T (ranks_no_higher u t)
      at none e low {ms} {t} journey = absurd (none_answered trip sound e ms t journey)
      at (some a) e low {ms} {t} journey = rank_order.trans u a t low (answer_lowest trip sound e journey)

  counted_within : {u : State} → IsCounted trip u → UndominatedIn trip u × T (within ranks_no_higher (answer_in trip) u)
  counted_within {u} c = (c.undominated, at (answer_in trip) refl)
    where
      at : (o : Option State) → answer_in trip ≡ o → T (within ranks_no_higher o u)
      at none e = tt
      at (some a) e =
          let reached = answer_reached trip sound e in
          c.within reached.0 a (record { leads = reached.1; ends = answer_ends trip sound e })

  labels_counted : (u : State) → Memᴰ u (labels_in trip) ↔ IsCounted trip u
  labels_counted u =
      let exactly = label_exactly trip sound u in (λ at. within_counted (exactly.0 at), λ c. exactly.1 (counted_within c))

  pub counts_labels : (n : ℕ) → CountsLabels trip n ↔ (n ≡ label_count trip)
  counts_labels n = (
    λ c. c.count ∙ sym (sorted_length c.states) ∙ ap length (sym (labels_only trip sound (sorted ranks_no_higher c.states) (sorted_strict rank_order c.distinct)
        (λ u. (λ at. counted_within ((c.exactly u).0 (sorted_from rank_order c.states at)), λ f. sorted_in rank_order c.states ((c.exactly u).1 (within_counted f)))))),
    λ is. record { states = labels_in trip; distinct = strict_distinct (labels_rise trip sound); exactly = labels_counted; count = is },
  )
