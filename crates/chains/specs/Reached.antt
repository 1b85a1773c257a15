-- Where a chain reader may stand: at a junction or at a road of a map with its counts in range. Assumes nothing.
use Rattle.std.specs.Prelude.{List, ℕ, ◌≤◌}
use Rattle.roadmap.specs.declared.Sizes.{Sizes}
use Rattle.roadmap.specs.Format.{HasSizes, junction_count, road_count, name_bytes}

-- the header's counts
abbrev pub counts_of : List ℕ → Sizes
counts_of map = record { junctions = junction_count map; roads = road_count map; names = name_bytes map }

pub record JunctionOn (map : List ℕ) (j : ℕ) : Type 0 where
  pub sized : HasSizes map (counts_of map)
  pub low : 1 ≤ j
  pub high : j ≤ junction_count map

pub record RoadOn (map : List ℕ) (road : ℕ) : Type 0 where
  pub sized : HasSizes map (counts_of map)
  pub low : 1 ≤ road
  pub high : road ≤ road_count map
