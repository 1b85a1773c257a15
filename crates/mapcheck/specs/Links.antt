-- The links of a map as functions: each junction's first road, each road's next and from-junction; J junctions, R roads.
-- Assumes nothing.
use Rattle.std.specs.Prelude.{◌≡◌, List, ◌⊎◌, ℕ, ◌≤◌, ◌<◌}
use Rattle.roadmap.specs.Format.{junction_count, road_count, first_road, next_road, road_from}

-- v stands on the chain that begins with road a
pub data Reaches (next : ℕ → ℕ) : ℕ → ℕ → Type 0 where
  here : {a : ℕ} → 1 ≤ a → Reaches next a a
  later : {a v : ℕ} → 1 ≤ a → Reaches next (next a) v → Reaches next a v

-- each road's next is 0 or a later road
pub record Rising (next : ℕ → ℕ) (R : ℕ) : Type 0 where
  -- next is at most the last road
  pub within : (r : ℕ) → 1 ≤ r → r ≤ R → next r ≤ R
  -- a next that is a road is above it
  pub rises : (r : ℕ) → 1 ≤ r → r ≤ R → 1 ≤ next r → r < next r

-- the links are sound: they name roads and junctions that are there, and next rises
pub record Links (first next from : ℕ → ℕ) (J R : ℕ) : Type 0 where
  -- a junction's first road is 0 or a road
  pub firsts : (j : ℕ) → 1 ≤ j → j ≤ J → first j ≤ R
  -- a road's from-junction is at least 1
  pub from_low : (r : ℕ) → 1 ≤ r → r ≤ R → 1 ≤ from r
  -- and at most J
  pub from_high : (r : ℕ) → 1 ≤ r → r ≤ R → from r ≤ J
  -- next rises
  pub rising : Rising next R

-- road v stands on the chain of a junction that is not its from-junction
abbrev pub Foreign : (ℕ → ℕ) → (ℕ → ℕ) → (ℕ → ℕ) → ℕ → ℕ → Type 0
Foreign first next from J v = (j : ℕ) × (1 ≤ j) × (j ≤ J) × (j ≡ from v → ⊥) × Reaches next (first j) v

-- road r is off its own chain or on another's
abbrev pub Broken : (ℕ → ℕ) → (ℕ → ℕ) → (ℕ → ℕ) → ℕ → ℕ → Type 0
Broken first next from J r = (Reaches next (first (from r)) r → ⊥) ⊎ Foreign first next from J r

-- no road of the map is off its own chain or on another's
abbrev pub Unbroken : (ℕ → ℕ) → (ℕ → ℕ) → (ℕ → ℕ) → ℕ → ℕ → Type 0
Unbroken first next from J R = (r : ℕ) → 1 ≤ r → r ≤ R → Broken first next from J r → ⊥

-- the links of the map's bytes are sound
abbrev pub MapLinks : List ℕ → Type 0
MapLinks map = Links (first_road map) (next_road map) (road_from map) (junction_count map) (road_count map)

-- road r of the map is off its own chain or on another's
abbrev pub MapBroken : List ℕ → ℕ → Type 0
MapBroken map r = Broken (first_road map) (next_road map) (road_from map) (junction_count map) r
