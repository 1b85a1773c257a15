-- Which bytes of a map are links. Document 01, "Map". Assumes nothing.
use Rattle.std.specs.Prelude.{List, ℕ, ◌+◌, ◌≤◌, ◌<◌}
use Rattle.roadmap.specs.Format.{junction_count, road_count, junction_at, road_at}

-- one of the four bytes of the word at this offset
abbrev pub InWord : ℕ → ℕ → Type 0
InWord at p = (at ≤ p) × (p < at + 4)

-- a byte of first, the first word of each junction, or of next, the fifth word of each road
pub data LinkByte (map : List ℕ) (p : ℕ) : Type 0 where
  of_first : (j : ℕ) → 1 ≤ j → j ≤ junction_count map → InWord (junction_at j) p → LinkByte map p
  of_next : (r : ℕ) → 1 ≤ r → r ≤ road_count map → InWord (road_at map r + 16) p → LinkByte map p
