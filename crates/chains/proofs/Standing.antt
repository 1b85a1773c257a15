-- Where a chain reader may stand, from the sizes that a caller has. Assumes nothing.
use mathlib.Core.Path.{refl}
use mathlib.Core.List.{List}
use Prim.Native.Nat.{ℕ, ◌≤◌}
use native.Mathlib.Omega.{arith}
use Rattle.roadmap.specs.declared.Sizes.{Sizes}
use Rattle.roadmap.specs.Format.{HasSizes, junction_count, road_count}
use Rattle.chains.specs.Reached.{counts_of, JunctionOn, RoadOn}

module _ {map : List ℕ} {sizes : Sizes} (sized : HasSizes map sizes) where
  counted : HasSizes map (counts_of map)
  counted =
      record {
        junctions = refl;
        roads = refl;
        names = refl;
        few_junctions = omega arith;
        few_roads = omega arith;
        few_names = omega arith;
        whole = sized.whole;
      }

  pub junction_on : {j : ℕ} → 1 ≤ j → j ≤ junction_count map → JunctionOn map j
  junction_on low high = record { sized = counted; low = low; high = high }

  pub road_on : {r : ℕ} → 1 ≤ r → r ≤ road_count map → RoadOn map r
  road_on low high = record { sized = counted; low = low; high = high }
