-- One pass over the roads: what is due on each chain, and the least road noticed on a chain that is not its from-junction's.
-- Assumes nothing.
use Rattle.std.specs.Prelude.{◌≡◌, true, false, ◌||◌, List, ℕ, ◌+◌, ◌≤◌, ◌<◌, eqb, ltb, get_or}
use Rattle.roadmap.specs.Format.{junction_count, road_count, first_road, next_road, road_from}
use Rattle.mapcheck.specs.Links.{Reaches, Foreign}

-- road v falls due on the chain of junction j, and D was the least noticed so far: the least now
unfoldable pub note : (ℕ → ℕ) → ℕ → ℕ → ℕ → ℕ
note from j v D =
    elim (eqb v 0 || eqb (from v) j) [ true ↦ D | false ↦ elim (ltb v D) [ true ↦ v | false ↦ D ] ]

-- what is left of the chain that began with a, from road r on, begins with d
pub record Rest (next : ℕ → ℕ) (R r a d : ℕ) : Type 0 where
  -- d is 0 or a road
  pub within : d ≤ R
  -- a road that is due lies ahead
  pub ahead : 1 ≤ d → r ≤ d
  -- a road of the chain from r on is left
  pub left : (v : ℕ) → r ≤ v → Reaches next a v → Reaches next d v
  -- what is left is of the chain
  pub of_chain : (v : ℕ) → r ≤ v → Reaches next d v → Reaches next a v

-- the pass before road r, with the chains of the junctions below b begun: due[j] is what is due on j's chain, and D the
-- least road noticed on another's chain, R + 1 where none is
pub record Due (first next from : ℕ → ℕ) (J R : ℕ) (due : List ℕ) (b r D : ℕ) : Type 0 where
  -- what is left of each chain begins with the road due
  pub rest : (j : ℕ) → 1 ≤ j → j < b → Rest next R r (first j) (get_or due j 0)
  -- D is r or above
  pub above : r ≤ D
  -- and at most R + 1
  pub most : D ≤ R + 1
  -- D, where it is a road, is on another junction's chain
  pub foreign : D ≤ R → Foreign first next from J D
  -- every road due on another's chain has been noticed
  pub noticed : (j : ℕ) → 1 ≤ j → j < b → 1 ≤ get_or due j 0 → (from (get_or due j 0) ≡ j → ⊥) → D ≤ get_or due j 0

-- the pass over the map's bytes before road r, with the chains below b begun
abbrev pub MapDue : List ℕ → List ℕ → ℕ → ℕ → ℕ → Type 0
MapDue map due b r D = Due (first_road map) (next_road map) (road_from map) (junction_count map) (road_count map) due b r D
