-- Two runs compared by their bytes: an easier run eases the other as the laws of the moves ask. Assumes nothing.
use mathlib.Core.Path.{◌≡◌, sym, ap, ◌∙◌}
use mathlib.Core.Bool.{Bool, true, false}
use mathlib.Core.List.{[], ◌∷◌}
use mathlib.Core.Logic.{⊎_elim}
use mathlib.Core.Option.{some}
use Prim.Native.Nat.{ℕ, zero, suc, ◌≤◌}
use native.Mathlib.Omega.{arith}
use borrow.Author.Tests.{ltb-true, ltb-false, eqb-true, eq-eqb}
use lib.Dec.{T, eqb, ltb}
use lib.ListN.{get_or-eq_default}
use Rattle.booleans.proofs.Tests.{cases, not_both}
use Rattle.replies.specs.First.{NoneFits}
use Rattle.roadmap.specs.Format.{junction_count, road_count, car_park}
use Rattle.mapcheck.specs.MapCheck.{AcceptedMap}
use Rattle.driving.specs.Order.{order_tests}
use Rattle.theory.proofs.Figures.{above_more, above_both, above_self}
use Rattle.states.specs.declared.State.{State}
use Rattle.states.specs.States.{covers}
use Rattle.states.proofs.Compared.{covers_made}
use Rattle.bans.specs.Bans.{listed_in}
use Rattle.moves.specs.Trip.{Stretch, Trip, stretch_of, trip_of, road_in, park_in, roads_in}
use Rattle.moves.specs.Given.{Given, order_from, trip_from}
use Rattle.moves.specs.Compared.{Eases}
use Rattle.moves.proofs.Trips.{roads_in_lem, junctions_in_lem, road_in_lem, park_in_lem}
use Rattle.journeys.specs.Journeys.{start_in}
use Rattle.journeys.specs.Labels.{answer_in}
use Rattle.journeys.specs.Compared.{EasierRun}
use Rattle.journeys.proofs.Planning.{accepted_sound}
use Rattle.journeys.proofs.Compared.{EasedAnswer, eased_answer}

-- whichever roads are banned, if B's are among A's
module _ (b a : Given) (easier : EasierRun b a) (banned-b banned-a : ℕ → Bool) (among : (r : ℕ) → banned-b r ≡ true → banned-a r ≡ true) where
  abbrev trip_b : Trip
  trip_b = trip_of b.map banned-b (order_from b)

  abbrev trip_a : Trip
  trip_a = trip_of a.map banned-a (order_from a)

  within : (r : ℕ) → r ≤ roads_in trip_a → r ≤ road_count a.map
  within r high = rw (roads_in_lem a.map banned-a (order_from a)) at high

  road_b : (r : ℕ) → 1 ≤ r → r ≤ roads_in trip_a → road_in trip_b r ≡ stretch_of b.map banned-b r
  road_b r low high = road_in_lem b.map banned-b (order_from b) r low (omega (arith, within r high, easier.roads.roads))

  road_a : (r : ℕ) → 1 ≤ r → r ≤ roads_in trip_a → road_in trip_a r ≡ stretch_of a.map banned-a r
  road_a r low high = road_in_lem a.map banned-a (order_from a) r low (within r high)

  -- a car park of A's record is one of B's; junction 0 stands for junction 1 in both, and beyond the last there is none
  park_b : (j : ℕ) → 1 ≤ j → park_in trip_a j ≡ true → park_in trip_b j ≡ true
  park_b j low e =
      ⊎_elim
      (λ (beyond : ltb (junction_count a.map) j ≡ true).
      absurd (not_both e (get_or-eq_default trip_a.parks false
      (omega (arith, ltb-true (junction_count a.map) j beyond, junctions_in_lem a.map banned-a (order_from a))))))
      (λ (inside : ltb (junction_count a.map) j ≡ false).
      let high = ltb-false (junction_count a.map) j inside in
      let is_a : eqb (car_park a.map j) 1 ≡ true = sym (park_in_lem a.map banned-a (order_from a) j low high) ∙ e in
      park_in_lem b.map banned-b (order_from b) j low (omega (arith, high, easier.roads.junctions))
      ∙ eq-eqb (car_park b.map j) 1 (easier.map.parks j low high (eqb-true (car_park a.map j) 1 is_a)))
      (cases (ltb (junction_count a.map) j))

  park_any : (j : ℕ) → park_in trip_a j ≡ true → park_in trip_b j ≡ true
  park_any zero e = park_b 1 (omega arith) e
  park_any (suc j) e = park_b (suc j) (omega arith) e

  pub eases_with : Eases trip_b trip_a
  unfolding trip_of
  eases_with =
      record {
        junctions = junctions_in_lem b.map banned-b (order_from b) ∙ easier.roads.junctions ∙ sym (junctions_in_lem a.map banned-a (order_from a));
        roads = roads_in_lem b.map banned-b (order_from b) ∙ easier.roads.roads ∙ sym (roads_in_lem a.map banned-a (order_from a));
        from = λ r low high.
            ap (λ (s : Stretch). s.from) (road_b r low high) ∙ easier.roads.from r low (within r high) ∙ sym (ap (λ (s : Stretch). s.from) (road_a r low high));
        to = λ r low high.
            ap (λ (s : Stretch). s.to) (road_b r low high) ∙ easier.roads.to r low (within r high) ∙ sym (ap (λ (s : Stretch). s.to) (road_a r low high));
        seconds = λ r low high.
            omega (arith, ap (λ (s : Stretch). s.seconds) (road_b r low high), ap (λ (s : Stretch). s.seconds) (road_a r low high), easier.map.seconds r low (within r high));
        banned = λ r low high e.
            ap (λ (s : Stretch). s.banned) (road_a r low high) ∙ among r (sym (ap (λ (s : Stretch). s.banned) (road_b r low high)) ∙ e);
        parks = park_any;
        latest = easier.trip.latest;
        rules = easier.order.rules;
      }

module _ (b a : Given) (easier : EasierRun b a) where
  run_eases : Eases (trip_from b) (trip_from a)
  run_eases = eases_with b a easier (listed_in b.bans) (listed_in a.bans) easier.bans

  pub run_starts : T (covers (start_in (trip_from b)) (start_in (trip_from a)))
  unfolding trip_of
  run_starts =
      covers_made _ _ easier.trip.source
      (above_more _ _ _ _ (omega (arith, easier.trip.departure)) (above_both _ _ _ _ easier.order.figures (above_self (1 ∷ []))))

  pub run_targets : (trip_from b).order.target ≡ (trip_from a).order.target
  unfolding trip_of
  run_targets = easier.trip.target

  module _ (map-a : AcceptedMap a.map) (order-a : NoneFits (order_tests (junction_count a.map) a.order))
      (map-b : AcceptedMap b.map) (order-b : NoneFits (order_tests (junction_count b.map) b.order)) where
    -- of accepted runs, where A has an answer
    pub run_answer : {answer : State} → answer_in (trip_from a) ≡ some answer → EasedAnswer (trip_from b) (trip_from a) answer
    run_answer e = eased_answer (trip_from b) (trip_from a) run_eases run_starts run_targets (accepted_sound a map-a order-a) (accepted_sound b map-b order-b) e
