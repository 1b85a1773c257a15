-- Every move raises the clock by its queue and its own time, at least 1, and a legal one keeps the state in range. Assumes nothing.
use mathlib.Core.Path.{◌≡◌, sym, ap, subst}
use mathlib.Core.Bool.{Bool, true, false}
use mathlib.Core.List.{List}
use mathlib.Core.Logic.{⊎_elim}
use Prim.Native.Nat.{ℕ, ◌+◌, ◌≤◌}
use native.Mathlib.Omega.{arith}
use borrow.Author.Tests.{eqb-true, eqb-false}
use lib.Dec.{T, eqb}
use lib.ListN.{length}
use Rattle.booleans.proofs.Tests.{cases, and_true}
use Rattle.theory.specs.Figures.{none_above}
use Rattle.theory.proofs.Figures.{above_tail, above_more, above_trans}
use Rattle.roadmap.specs.Format.{junction_count, road_count}
use Rattle.roadmap.proofs.RoadTime.{at_least_1}
use Rattle.mapcheck.specs.MapCheck.{AcceptedMap}
use Rattle.mapcheck.proofs.Sound.{sound_map}
use Rattle.driving.specs.declared.Order.{Order}
use Rattle.driving.specs.Accepted.{AcceptedOrder, FiguresRise}
use Rattle.driving.specs.Hours.{wheel_figures, highest_limits}
use Rattle.driving.proofs.Hours.{figures_within, limits_within, driven_rise, cleared_rise, pause_takes}
use Rattle.states.specs.declared.State.{State}
use Rattle.states.specs.States.{start_of, legal}
use Rattle.states.proofs.Compared.{legal_within, within_legal, legal_clock}
use Rattle.moves.specs.declared.Move.{Move}
use Rattle.moves.specs.declared.Run.{Run}
use Rattle.moves.specs.Trip.{Stretch, Trip, trip_of, road_in, roads_in, junctions_in}
use Rattle.moves.specs.Struck.{struck_in}
use Rattle.moves.specs.Moves.{offers, after, begins, move_seconds}
use Rattle.moves.specs.Runs.{Accepted, struck_of, trip_in, Tied, InRange, RangeIn}
pub use Rattle.moves.specs.Runs.{SoundTrip}
use Rattle.moves.proofs.Trips.{roads_in_lem, junctions_in_lem, order_in, road_in_lem}
use Rattle.moves.proofs.Struck.{struck_roads, struck_parks, struck_order, struck_seconds, struck_other, struck_own}
use Rattle.moves.proofs.Entering.{begins_from}
use Rattle.moves.proofs.Stepped.{offered_road}
use Rattle.moves.proofs.Offered.{pause_allowed}

pub sound_trip : (map : List ℕ) (banned : ℕ → Bool) (o : Order) → AcceptedMap map → AcceptedOrder (junction_count map) o → SoundTrip (trip_of map banned o)
sound_trip map banned o accepted ordered =
    let sound = sound_map map accepted in
    record {
      few = rw (junctions_in_lem map banned o) sound.counts.few_junctions;
      few_roads = rw (roads_in_lem map banned o) sound.counts.few_roads;
      to_low = λ r low high. let top = within r high in rw (road_in_lem map banned o r low top) (sound.roads r low top).to.above;
      to_high = λ r low high.
          let top = within r high in rw (road_in_lem map banned o r low top, junctions_in_lem map banned o) (sound.roads r low top).to.below;
      seconds = λ r low high.
          let top = within r high in
          let road = sound.roads r low top in
          rw (road_in_lem map banned o r low top) (at_least_1 _ _ (omega (arith, road.speed.above)) road.metres.above);
      ordered = rw (junctions_in_lem map banned o, order_in map banned o) ordered;
    }
  where
    within : (r : ℕ) → r ≤ roads_in (trip_of map banned o) → r ≤ road_count map
    within r high = rw (roads_in_lem map banned o) at high

-- a struck road leads to the junction where it begins
module _ (trip : Trip) (sound : SoundTrip trip) (k : ℕ) (known : 1 ≤ k → k ≤ roads_in trip → (1 ≤ (road_in trip k).from) × ((road_in trip k).from ≤ junctions_in trip)) where
  struck_ends : (P : ℕ → Type 0) → (r : ℕ) → 1 ≤ r → r ≤ roads_in trip → P (road_in trip r).to → (r ≡ k → P (road_in trip r).from) → P (road_in (struck_in k trip) r).to
  struck_ends P r low high to from =
      ⊎_elim
      (λ (own : eqb r k ≡ true).
      let same = eqb-true r k own in
      subst (λ (z : ℕ). P (road_in (struck_in z trip) r).to) same (subst (λ (w : Stretch). P w.to) (sym (struck_own trip r low high)) (from same)))
      (λ (other : eqb r k ≡ false). subst (λ (w : Stretch). P w.to) (sym (struck_other trip k r low (eqb-false r k other))) to)
      (cases (eqb r k))

  pub struck_sound : SoundTrip (struck_in k trip)
  struck_sound =
      let junctions : junctions_in (struck_in k trip) ≡ junctions_in trip = ap length (struck_parks trip k) in
      let roads = struck_roads trip k in
      record {
        few = rw junctions sound.few;
        few_roads = rw roads sound.few_roads;
        to_low = λ r low high.
            let top = rw roads at high in
            struck_ends (λ j. 1 ≤ j) r low top (sound.to_low r low top) (λ e. rw e (known (rw e at low) (rw e at top)).0);
        to_high = λ r low high.
            let top = rw roads at high in
            rw junctions
            (struck_ends (λ j. j ≤ junctions_in trip) r low top (sound.to_high r low top) (λ e. rw e (known (rw e at low) (rw e at top)).1));
        seconds = λ r low high. let top = rw roads at high in rw (struck_seconds trip k r) (sound.seconds r low top);
        ordered = rw (junctions, struck_order trip k) sound.ordered;
      }

pub run_sound : (map : List ℕ) (banned : ℕ → Bool) (run : Run) → Accepted map run → SoundTrip (trip_in map banned run)
run_sound map banned run accepted =
    let trip : Trip = trip_of map banned run.order in
    let roads = (sound_map map accepted.mapped).roads in
    struck_sound trip (sound_trip map banned run.order accepted.mapped accepted.ordered) (struck_of run)
    (λ low high.
    let top : struck_of run ≤ road_count map = accepted.known in
    rw (road_in_lem map banned run.order (struck_of run) low top, junctions_in_lem map banned run.order) ((roads (struck_of run) low top).from.above, (roads (struck_of run) low top).from.below))

-- clock after a move: when it begins and its seconds, a road time, a break, a rest, a part of a break or a weekly rest
pub clock_after : (trip : Trip) (s : State) (m : Move) → (after trip s m).clock.0 ≡ begins trip s.clock.0 m + move_seconds trip m
unfolding after begins move_seconds
clock_after trip s m =
    ⊎_elim (λ (drive : eqb m.kind 1 ≡ true). rw drive) (λ (pause : eqb m.kind 1 ≡ false). rw pause) (cases (eqb m.kind 1))

-- spell ≤ shift ≤ week is kept by every move
pub after_rise : (trip : Trip) (s : State) (m : Move) → FiguresRise s.figures → FiguresRise (after trip s m).figures
unfolding after
after_rise trip s m rise =
    ⊎_elim
    (λ (drive : eqb m.kind 1 ≡ true). rw drive (driven_rise _ s.figures rise))
    (λ (pause : eqb m.kind 1 ≡ false). rw pause (cleared_rise m.kind s.figures rise))
    (cases (eqb m.kind 1))

module _ (trip : Trip) (sound : SoundTrip trip) (s : State) (m : Move) (offered : offers trip s m ≡ true) where
  pub takes_time : 1 ≤ move_seconds trip m
  unfolding offers move_seconds
  takes_time =
      ⊎_elim
      (λ (drive : eqb m.kind 1 ≡ true).
      let range = offered_road trip s m offered drive in rw drive (sound.seconds m.number range.0 range.1))
      (λ (pause : eqb m.kind 1 ≡ false).
      let may = (and_true {a = eqb m.number s.junction} (rw pause at offered)).1 in
      rw pause (pause_takes trip.order.rules sound.ordered.sound_rules s.figures m.kind (pause_allowed trip s m.kind may)))
      (cases (eqb m.kind 1))

  -- every move raises the clock by at least 1
  pub raises : s.clock.0 + 1 ≤ (after trip s m).clock.0
  raises = rw (clock_after trip s m) (omega (arith, takes_time, begins_from trip s.clock.0 m))

  junction_after : 1 ≤ s.junction → s.junction ≤ junctions_in trip → (1 ≤ (after trip s m).junction) × ((after trip s m).junction ≤ junctions_in trip)
  unfolding after
  junction_after low high =
      ⊎_elim
      (λ (drive : eqb m.kind 1 ≡ true).
      let range = offered_road trip s m offered drive in
      rw drive (sound.to_low m.number range.0 range.1, sound.to_high m.number range.0 range.1))
      (λ (pause : eqb m.kind 1 ≡ false). rw pause (low, high))
      (cases (eqb m.kind 1))

  -- and a legal one leads to a state in range
  pub range_after : RangeIn trip s → legal trip.order (after trip s m) ≡ true → RangeIn trip (after trip s m)
  range_after range lawful =
      let junction = junction_after range.low range.high in
      record { low = junction.0; high = junction.1; lawful = lawful }

pub start_range : (junctions : ℕ) (o : Order) → AcceptedOrder junctions o → InRange junctions o (start_of o)
start_range junctions o ordered =
    record {
      low = ordered.source_low;
      high = ordered.source_high;
      lawful =
          within_legal o (start_of o)
          (above_more _ _ _ _ ordered.times_rise (figures_within o.figures o.rules ordered.sound_figures));
    }

-- so is the start of a run
pub run_starts : {map : List ℕ} {banned : ℕ → Bool} {run : Run} {trip : Trip} → Tied map banned run trip → SoundTrip trip → RangeIn trip (start_of run.order)
run_starts {trip = trip} tied sound = rw (← tied.order) (start_range (junctions_in trip) trip.order sound.ordered)

-- a state in range has figures that one road time can be added to
module _ (trip : Trip) (sound : SoundTrip trip) (s : State) (range : RangeIn trip s) where
  pub clock_high : s.clock.0 ≤ 2000000000
  clock_high = omega (arith, legal_clock trip.order s range.lawful, sound.ordered.latest_high)

  pub figures_high : T (none_above (wheel_figures s.figures) highest_limits)
  figures_high =
      above_trans _ _ _ (above_tail _ _ _ _ (legal_within trip.order s range.lawful)) (limits_within trip.order.rules sound.ordered.sound_rules)

-- the same, of a run whose map and order are accepted
pub drives_on : (map : List ℕ) (banned : ℕ → Bool) (run : Run) (s : State) → Accepted map run → RangeIn (trip_in map banned run) s
    → (s.clock.0 ≤ 2000000000) × T (none_above (wheel_figures s.figures) highest_limits)
drives_on map banned run s accepted range =
    let sound = run_sound map banned run accepted in (clock_high _ sound s range, figures_high _ sound s range)

-- the range of a trip's states, by the map and the run
pub range_in : {map : List ℕ} {banned : ℕ → Bool} {run : Run} {trip : Trip} {s : State} → Tied map banned run trip → RangeIn trip s
    → InRange (junction_count map) run.order s
range_in tied range = rw (← tied.junctions, ← tied.order) range
