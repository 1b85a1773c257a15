-- What the code knows of a run: the map and the order are accepted; what its trip is in the map's bytes, and what is sound of it; a
-- state's figures are in range. Assumes nothing.
use Rattle.std.specs.Prelude.{Option, Some, None, ◌≡◌, Bool, true, false, List, ℕ, ◌≤◌, eqb}
use Rattle.roadmap.specs.Format.{HasSizes, most_junctions, most_roads, junction_count, road_count, car_park, road_from, road_to}
use Rattle.mapcheck.specs.MapCheck.{AcceptedMap}
use Rattle.driving.specs.declared.Order.{Order}
use Rattle.driving.specs.Accepted.{AcceptedOrder}
use Rattle.moves.specs.declared.Run.{Run}
use Rattle.states.specs.declared.State.{State}
use Rattle.states.specs.States.{legal}
use Rattle.moves.specs.Trip.{Stretch, Trip, road_time, trip_of, road_in, park_in, roads_in, junctions_in}
use Rattle.moves.specs.Struck.{struck_in}

-- the number of the road that is struck for a run, 0 for none
abbrev pub struck_number : Option ℕ → ℕ
struck_number None = 0
struck_number (Some road) = road

abbrev pub struck_of : Run → ℕ
struck_of run = struck_number run.struck

pub record Accepted (map : List ℕ) (run : Run) : Type 0 where
  pub sized : HasSizes map run.sizes
  pub mapped : AcceptedMap map
  pub ordered : AcceptedOrder (junction_count map) run.order
  pub known : struck_of run ≤ road_count map

-- accepted, and no road is struck
pub record Unstruck (map : List ℕ) (run : Run) : Type 0 where
  pub accepted : Accepted map run
  pub none_struck : run.struck ≡ None

-- the trip of the map's bytes, the banned roads and the run's order, with the run's road struck
abbrev pub trip_in : List ℕ → (ℕ → Bool) → Run → Trip
trip_in map banned run = struck_in (struck_of run) (trip_of map banned run.order)

-- where a road of the map's bytes leads: a struck one back to where it begins
abbrev pub end_when : Bool → List ℕ → ℕ → ℕ
end_when true map r = road_from map r
end_when false map r = road_to map r

-- the road, as the run has it
abbrev pub stretch_in : List ℕ → (ℕ → Bool) → Run → ℕ → Stretch
stretch_in map banned run r =
    record {
      from = road_from map r;
      to = end_when (eqb r (struck_of run)) map r;
      seconds = road_time map r;
      banned = banned r;
    }

-- the trip is that of the map's bytes, the banned roads and the run
pub record Tied (map : List ℕ) (banned : ℕ → Bool) (run : Run) (trip : Trip) : Type 0 where
  pub junctions : junctions_in trip ≡ junction_count map
  pub roads : roads_in trip ≡ road_count map
  pub road : (r : ℕ) → 1 ≤ r → r ≤ road_count map → road_in trip r ≡ stretch_in map banned run r
  pub park : (j : ℕ) → 1 ≤ j → j ≤ junction_count map → park_in trip j ≡ eqb (car_park map j) 1
  pub order : trip.order ≡ run.order

-- what is sound of a trip: its junctions and roads are few enough, its roads lead to junctions and take time, and so do its pauses
pub record SoundTrip (trip : Trip) : Type 0 where
  pub few : junctions_in trip ≤ most_junctions
  pub few_roads : roads_in trip ≤ most_roads
  pub to_low : (r : ℕ) → 1 ≤ r → r ≤ roads_in trip → 1 ≤ (road_in trip r).to
  pub to_high : (r : ℕ) → 1 ≤ r → r ≤ roads_in trip → (road_in trip r).to ≤ junctions_in trip
  pub seconds : (r : ℕ) → 1 ≤ r → r ≤ roads_in trip → 1 ≤ (road_in trip r).seconds
  pub ordered : AcceptedOrder (junctions_in trip) trip.order

-- a state that a legal move, or the start, leads to
pub record InRange (junctions : ℕ) (o : Order) (s : State) : Type 0 where
  pub low : 1 ≤ s.junction
  pub high : s.junction ≤ junctions
  pub lawful : legal o s ≡ true

-- the same, of a trip
abbrev pub RangeIn : Trip → State → Type 0
RangeIn trip s = InRange (junctions_in trip) trip.order s
