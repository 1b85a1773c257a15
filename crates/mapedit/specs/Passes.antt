-- The two passes of chain making. Assumes nothing.
use Rattle.std.specs.Prelude.{List, ℕ, ◌≤◌}
use Rattle.words.specs.Word.{put_at}
use Rattle.roadmap.specs.Format.{junction_count, junction_at, first_road, road_from}
use Rattle.mapedit.specs.Chaining.{put_all, next_at}

-- no junction has a first road
unfoldable pub cleared : List ℕ → List ℕ
cleared map = put_all junction_at (λ j. 0) 1 (junction_count map) map

-- road r goes before all other roads of its junction
unfoldable pub linked_before : List ℕ → ℕ → List ℕ
linked_before map r =
    put_at (put_at map (next_at map r) (first_road map (road_from map r))) (junction_at (road_from map r)) r

-- the road's from-junction is one of the map's
pub record FromKnown (map : List ℕ) (r : ℕ) : Type 0 where
  pub low : 1 ≤ road_from map r
  pub high : road_from map r ≤ junction_count map
