-- What the map checks' answers say, and the counts of a map that refusals 1 to 4 pass over. Assumes nothing.
use mathlib.Core.Path.{◌≡◌}
use mathlib.Core.Bool.{true, false}
use mathlib.Core.List.{List}
use Prim.Native.Nat.{ℕ, ◌≤◌}
use borrow.Author.Tests.{ltb-false, eqb-true, not-false}
use lib.Dec.{eqb}
use lib.ListN.{length}
use Rattle.std.specs.Prelude.{Result}
use Rattle.replies.specs.declared.Refusal.{Refusal}
use Rattle.replies.specs.First.{first_of, NoneFits, Tried}
use Rattle.replies.specs.Told.{succeeded, told_check}
use Rattle.replies.proofs.First.{tried, none_before, none_under}
use Rattle.roadmap.specs.declared.Sizes.{Sizes}
use Rattle.roadmap.specs.Format.{HasSizes, map_header_bytes, junction_count, road_count, name_bytes, length_needed}
use Rattle.mapcheck.specs.MapCheck.{oversize, size_tests, map_tests, chaining_tests}
use Rattle.mapcheck.specs.Found.{content_tests}
use Rattle.mapcheck.proofs.Counts.{placed_none, in_range}

module _ (map : List ℕ) where
  -- the map check's answer
  pub map_tried : (answer : Result (Unit {0}) Refusal) → told_check answer ≡ first_of (map_tests map) (succeeded 0 0) → Tried (map_tests map) answer
  map_tried answer told = tried (map_tests map) answer tt told

  -- and that of a map whose links are not made yet
  pub chaining_tried : (answer : Result (Unit {0}) Refusal) → told_check answer ≡ first_of (chaining_tests map) (succeeded 0 0) → Tried (chaining_tests map) answer
  chaining_tried answer told = tried (chaining_tests map) answer tt told

  -- 1 to 4 leave a header
  pub has_header : NoneFits (size_tests map) → map_header_bytes ≤ length map
  has_header none = ltb-false _ _ (placed_none (length map) (none_under 1 (size_tests map) none))

  -- a map as long as its counts need
  pub has_whole : NoneFits (size_tests map) → length map ≡ length_needed map
  has_whole none =
      eqb-true _ _ (not-false (eqb (length map) (length_needed map)) (placed_none (length_needed map) (none_under 4 (size_tests map) none)))

  -- and counts that fit the map
  pub has_sizes : (sizes : Sizes) → NoneFits (size_tests map)
      → (sizes.junctions ≡ junction_count map) × (sizes.roads ≡ road_count map) × (sizes.names ≡ name_bytes map) → HasSizes map sizes
  unfolding oversize
  has_sizes sizes none read =
      let range = in_range _ _ _ (none_under 3 (size_tests map) none) in
      record {
        junctions = read.0;
        roads = read.1;
        names = read.2;
        few_junctions = rw read.0 range.few_junctions;
        few_roads = rw read.1 range.few_roads;
        few_names = rw read.2 range.few_names;
        whole = has_whole none;
      }

-- the first four of a map's refusals
pub accepted_sizes : (map : List ℕ) → NoneFits (map_tests map) → NoneFits (size_tests map)
accepted_sizes map none = none_before (size_tests map) (content_tests true map) none

pub unchained_sizes : (map : List ℕ) → NoneFits (chaining_tests map) → NoneFits (size_tests map)
unchained_sizes map none = none_before (size_tests map) (content_tests false map) none
