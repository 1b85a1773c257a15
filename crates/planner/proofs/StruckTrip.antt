-- A trip of a struck map is the trip with that road struck. Assumes nothing.
use mathlib.Core.Path.{◌≡◌, ◌∙◌, refl, ap, ap₂}
use mathlib.Core.Bool.{Bool}
use mathlib.Core.List.{List}
use mathlib.Core.Logic.{inl, inr}
use Prim.Native.Nat.{ℕ, zero, suc, ◌-◌, ◌≤◌}
use native.Mathlib.Omega.{arith}
use lib.Dec.{eqb}
use lib.ListN.{length, get_or, set}
use Rattle.roadmap.specs.Format.{junction_count, road_count, length_needed, car_park, road_from}
use Rattle.roadmap.specs.RoadTime.{road_seconds}
use Rattle.striking.specs.Striking.{struck}
use Rattle.striking.proofs.Struck.{struck_junctions, struck_roads, struck_junction, struck_road, struck_other, struck_to}
use Rattle.driving.specs.declared.Order.{Order}
use Rattle.moves.specs.Trip.{Stretch, road_time, stretch_of, counted, trip_of, no_stretch}
use Rattle.moves.specs.Struck.{struck_stretch, struck_in}
use Rattle.moves.proofs.Trips.{counted_at, counted_same, counted_set}

module _ (map : List ℕ) (banned : ℕ → Bool) (whole : length map ≡ length_needed map) where
  module _ (road : ℕ) (low : 1 ≤ road) (high : road ≤ road_count map) where
    -- the fields of a road, apart from where it leads
    seconds_same : (r : ℕ) → 1 ≤ r → r ≤ road_count map → road_time (struck map road) r ≡ road_time map r
    seconds_same r l h =
        ap₂ road_seconds
        (struck_road map whole road low high r 8 l h (inr (omega arith)) (omega arith))
        (struck_road map whole road low high r 12 l h (inr (omega arith)) (omega arith))

    from_same : (r : ℕ) → 1 ≤ r → r ≤ road_count map → road_from (struck map road) r ≡ road_from map r
    from_same r l h = struck_road map whole road low high r 0 l h (inl refl) (omega arith)

    other_same : (r : ℕ) → 1 ≤ r → r ≤ road_count map → (r ≡ road → ⊥) → stretch_of (struck map road) banned r ≡ stretch_of map banned r
    other_same r l h other = rw (from_same r l h, struck_other map whole road low high r l h other, seconds_same r l h)

    own_struck : stretch_of (struck map road) banned road ≡ struck_stretch (stretch_of map banned road)
    own_struck = rw (from_same road low high, struck_to map whole road low high, seconds_same road low high)

    parks_same : counted (λ j. eqb (car_park (struck map road) j) 1) 1 (junction_count (struck map road)) ≡ counted (λ j. eqb (car_park map j) 1) 1 (junction_count map)
    parks_same =
        rw (struck_junctions map whole road low high)
        (counted_same _ _ 1 (junction_count map)
        (λ j l h. ap (λ (w : ℕ). eqb w 1) (struck_junction map whole road low high j 4 l (omega arith) (omega arith))))

    roads_same : counted (stretch_of (struck map road) banned) 1 (road_count (struck map road)) ≡ set (counted (stretch_of map banned) 1 (road_count map)) (road - 1) (struck_stretch (stretch_of map banned road))
    roads_same =
        rw (struck_roads map whole road low high, ← own_struck)
        (counted_set (stretch_of (struck map road) banned) (stretch_of map banned) 1 (road_count map) road low (omega arith)
        (λ r l h other. other_same r l (omega arith) other))

  pub struck_trip : (order : Order) (road : ℕ) → 1 ≤ road → road ≤ road_count map → trip_of (struck map road) banned order ≡ struck_in road (trip_of map banned order)
  unfolding trip_of struck_in
  struck_trip order zero low high = absurd (omega arith)
  struck_trip order (suc i) low high =
      let back : suc i - 1 ≡ i = omega arith in
      let own : get_or (counted (stretch_of map banned) 1 (road_count map)) i no_stretch ≡ stretch_of map banned (suc i) =
      counted_at (stretch_of map banned) no_stretch 1 (road_count map) i (omega arith) ∙ ap (stretch_of map banned) (omega arith) in
      ap₂ (λ (roads : List Stretch) (parks : List Bool). record { roads = roads; parks = parks; order = order })
      (roads_same (suc i) low high ∙ rw (back, own) refl)
      (parks_same (suc i) low high)
