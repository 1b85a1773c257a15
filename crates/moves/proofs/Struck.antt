-- A road struck: its drive leads back to its junction and lowers no figure, and every other move comes to what it did. Assumes nothing.
use mathlib.Core.Path.{◌≡◌, refl, sym, ap, ◌∙◌}
use mathlib.Core.Bool.{Bool, true, false, ◌&&◌}
use mathlib.Core.List.{List, [], ◌∷◌}
use mathlib.Core.Logic.{⊎_elim}
use Prim.Native.Nat.{ℕ, zero, suc, ◌-◌, ◌≤◌}
use native.Mathlib.Nat.{add-zero}
use native.Mathlib.Omega.{arith}
use borrow.Author.Tests.{eqb-true, eqb-false}
use lib.Dec.{T, leb, eqb}
use lib.ListN.{get_or, set, length-set}
use lib.Seq.{get_or-set_same, get_or-set_other}
use Rattle.booleans.proofs.Tests.{cases, and_true}
use Rattle.theory.specs.Figures.{none_above}
use Rattle.theory.proofs.Figures.{above_self, above_more}
use Rattle.theory.proofs.Changes.{grows, changed_each, none_changed}
use Rattle.driving.specs.Hours.{driver_figures}
use Rattle.driving.proofs.Hours.{drive_changes}
use Rattle.states.specs.declared.State.{State}
use Rattle.states.specs.States.{figures_of, covers}
use Rattle.states.proofs.Compared.{covers_made}
use Rattle.moves.specs.declared.Move.{Move}
use Rattle.moves.specs.Trip.{Stretch, Trip, no_stretch, road_in, roads_in}
use Rattle.moves.specs.Struck.{struck_stretch, struck_in}
use Rattle.moves.specs.Moves.{leaves, offers, entered, driven, after}
use Rattle.moves.proofs.Entering.{entered_from}
use Rattle.moves.proofs.Stepped.{offered_road}

-- what striking leaves of each road
module _ (f : Stretch → ℕ) (kept : (road : Stretch) → f (struck_stretch road) ≡ f road) where
  field_kept : (roads : List Stretch) (i k : ℕ) → f (get_or (set roads i (struck_stretch (get_or roads i no_stretch))) k no_stretch) ≡ f (get_or roads k no_stretch)
  field_kept [] i k = refl
  field_kept (x ∷ xs) zero zero = kept x
  field_kept (x ∷ xs) zero (suc k) = refl
  field_kept (x ∷ xs) (suc i) zero = refl
  field_kept (x ∷ xs) (suc i) (suc k) = field_kept xs i k

-- a drive lowers no figure: one of no seconds and no queue would leave each
drive_lowers_none : (road : Stretch) (s : State) → T (none_above (figures_of s) (figures_of (driven road s)))
unfolding changed_each
drive_lowers_none road s =
    let entering : State = record { junction = s.junction; clock = record { 0 = entered road s.clock.0 }; figures = s.figures } in
    simp add-zero at
    (none_changed (grows ∷ drive_changes) 0 road.seconds (figures_of s) (figures_of entering) (omega arith)
    (above_more _ _ _ _ (entered_from road.banned s.clock.0) (above_self (driver_figures s.figures))))

-- whether a move is the drive of this road
abbrev pub drives : ℕ → Move → Bool
drives road m = eqb m.kind 1 && eqb m.number road

module _ (trip : Trip) where
  -- how many roads there are, the car parks and the order stay
  pub struck_roads : (road : ℕ) → roads_in (struck_in road trip) ≡ roads_in trip
  unfolding struck_in
  struck_roads zero = refl
  struck_roads (suc i) = length-set trip.roads i _

  pub struck_parks : (road : ℕ) → (struck_in road trip).parks ≡ trip.parks
  unfolding struck_in
  struck_parks zero = refl
  struck_parks (suc i) = refl

  pub struck_order : (road : ℕ) → (struck_in road trip).order ≡ trip.order
  unfolding struck_in
  struck_order zero = refl
  struck_order (suc i) = refl

  -- every road begins where it did, and takes as long
  pub struck_from : (road r : ℕ) → (road_in (struck_in road trip) r).from ≡ (road_in trip r).from
  unfolding struck_in
  struck_from zero r = refl
  struck_from (suc i) r = field_kept (λ w. w.from) (λ w. refl) trip.roads i (r - 1)

  pub struck_seconds : (road r : ℕ) → (road_in (struck_in road trip) r).seconds ≡ (road_in trip r).seconds
  unfolding struck_in
  struck_seconds zero r = refl
  struck_seconds (suc i) r = field_kept (λ w. w.seconds) (λ w. refl) trip.roads i (r - 1)

  -- the struck one leads back there
  pub struck_own : (road : ℕ) → 1 ≤ road → road ≤ roads_in trip → road_in (struck_in road trip) road ≡ struck_stretch (road_in trip road)
  unfolding struck_in
  struck_own zero low high = absurd (omega arith)
  struck_own (suc i) low high =
      let here : suc i - 1 ≡ i = omega arith in rw here (get_or-set_same trip.roads i _ no_stretch (omega arith))

  -- and every other stays as it was
  pub struck_other : (road r : ℕ) → 1 ≤ r → (r ≡ road → ⊥) → road_in (struck_in road trip) r ≡ road_in trip r
  unfolding struck_in
  struck_other zero r low other = refl
  struck_other (suc i) r low other = get_or-set_other trip.roads i (r - 1) _ no_stretch (λ e. other (omega arith))

  module _ (road : ℕ) (s : State) (m : Move) where
    -- the same moves are offered
    pub struck_offers : offers (struck_in road trip) s m ≡ offers trip s m
    unfolding offers
    struck_offers =
        ⊎_elim
        (λ (drive : eqb m.kind 1 ≡ true). rw (drive, struck_roads road, struck_from road m.number))
        (λ (pause : eqb m.kind 1 ≡ false). rw (pause, struck_parks road, struck_order road))
        (cases (eqb m.kind 1))

    -- one that is not the struck road's drive leads to the same state
    pub struck_after : offers (struck_in road trip) s m ≡ true → drives road m ≡ false → after (struck_in road trip) s m ≡ after trip s m
    unfolding after
    struck_after offered differs =
        ⊎_elim
        (λ (drive : eqb m.kind 1 ≡ true).
        rw (drive, struck_other road m.number (offered_road (struck_in road trip) s m offered drive).0 (eqb-false _ _ (rw drive at differs))))
        (λ (pause : eqb m.kind 1 ≡ false). rw (pause, struck_order road))
        (cases (eqb m.kind 1))

    -- and the struck road's drive to one that is no better than the state before
    pub struck_drive : offers (struck_in road trip) s m ≡ true → drives road m ≡ true → T (covers s (after (struck_in road trip) s m))
    unfolding offers after
    struck_drive offered is =
        let both = and_true {a = eqb m.kind 1} is in
        let same : m.number ≡ road = eqb-true _ _ both.1 in
        let range = offered_road (struck_in road trip) s m offered both.0 in
        let own = struck_own road (omega (arith, range.0)) (omega (arith, range.1, struck_roads road)) in
        let back : (road_in (struck_in road trip) m.number).to ≡ (road_in (struck_in road trip) m.number).from =
        rw same (ap (λ (w : Stretch). w.to) own ∙ sym (ap (λ (w : Stretch). w.from) own)) in
        let leaving : leaves (struck_in road trip) s.junction m.number ≡ true = rw both.0 at offered in
        let here = eqb-true _ _ (and_true {a = leb 1 m.number && leb m.number (roads_in (struck_in road trip))} leaving).1 in
        rw both.0
        (covers_made s _ (sym (back ∙ here)) (drive_lowers_none (road_in (struck_in road trip) m.number) s))
