-- Everything that a run is about, in one record made from the map's and the order's bytes. Assumes nothing.
use Rattle.std.specs.Prelude.{Bool, false, List, [], ◌∷◌, ℕ, zero, suc, ◌+◌, ◌-◌, eqb, length, get_or}
use Rattle.roadmap.specs.Format.{junction_count, road_count, car_park, road_from, road_to, road_metres, road_speed}
use Rattle.roadmap.specs.RoadTime.{road_seconds}
use Rattle.driving.specs.declared.Order.{Order}

-- a road: its ends, its road time, and whether it is banned
pub record Stretch : Type 0 where
  pub from : ℕ
  pub to : ℕ
  pub seconds : ℕ
  pub banned : Bool

-- the roads by number and, of each junction by number, whether it is a car park; the order
pub record Trip : Type 0 where
  pub roads : List Stretch
  pub parks : List Bool
  pub order : Order

abbrev pub road_time : List ℕ → ℕ → ℕ
road_time map r = road_seconds (road_metres map r) (road_speed map r)

-- road r of the map's bytes; the test says which road numbers are banned
abbrev pub stretch_of : List ℕ → (ℕ → Bool) → ℕ → Stretch
stretch_of map banned r =
    record { from = road_from map r; to = road_to map r; seconds = road_time map r; banned = banned r }

-- f of the n numbers from k on
unfoldable pub counted : {A : Type 0} → (ℕ → A) → ℕ → ℕ → List A
counted f k zero = []
counted f k (suc n) = f k ∷ counted f (k + 1) n

-- the test that no road number passes
abbrev pub none_banned : ℕ → Bool
none_banned r = false

unfoldable pub trip_of : List ℕ → (ℕ → Bool) → Order → Trip
unfolding counted
trip_of map banned order =
    record {
      roads = counted (stretch_of map banned) 1 (road_count map);
      parks = counted (λ j. eqb (car_park map j) 1) 1 (junction_count map);
      order = order;
    }

-- in place of a road that the map does not have
abbrev pub no_stretch : Stretch
no_stretch = record { from = 0; to = 0; seconds = 0; banned = false }

-- road r, from 1
abbrev pub road_in : Trip → ℕ → Stretch
road_in trip r = get_or trip.roads (r - 1) no_stretch

-- whether junction j, from 1, is a car park
abbrev pub park_in : Trip → ℕ → Bool
park_in trip j = get_or trip.parks (j - 1) false

abbrev pub roads_in : Trip → ℕ
roads_in trip = length trip.roads

abbrev pub junctions_in : Trip → ℕ
junctions_in trip = length trip.parks
