-- Striking a road: its to-junction becomes its from-junction, and nothing else changes. Document 02, P6. Assumes nothing.
use Rattle.std.specs.Prelude.{Result, ◌≡◌, List, [], ◌∷◌, ◌++◌, ℕ, ◌+◌, eqb}
use Rattle.std.proofs.Math.Option.{Option}
use Rattle.words.specs.Word.{put_at}
use Rattle.replies.specs.declared.Reply.{Reply}
use Rattle.replies.specs.declared.Refusal.{Refusal}
use Rattle.replies.specs.First.{Test, ◌at◌, placed, first_of}
use Rattle.replies.specs.Told.{succeeded, told_check}
use Rattle.booleans.specs.Pick.{pick}
use Rattle.roadmap.specs.Format.{road_count, road_at, road_from}
use Rattle.mapcheck.specs.MapCheck.{outside, map_tests}

-- where a road's to-junction stands
abbrev pub to_at : List ℕ → ℕ → ℕ
to_at map road = road_at map road + 4

-- the map with this road struck: the road leads back to where it begins, and all else is as it was
unfoldable pub struck : List ℕ → ℕ → List ℕ
struck map road = put_at map (to_at map road) (road_from map road)

-- 24 unknown road: number 0 or above R; the number
abbrev pub unknown_road : List ℕ → ℕ → Option ℕ
unknown_road map road = placed (outside 1 (road_count map) road) road

-- striking: 1 to 8, 24; else 0, 0, 0
abbrev pub striking_tests : List ℕ → ℕ → List Test
striking_tests map road = map_tests map ++ ((24 at unknown_road map road) ∷ [])

unfoldable pub striking_reply : List ℕ → ℕ → Reply
striking_reply map road = first_of (striking_tests map road) (succeeded 0 0)

-- the map's bytes afterwards: a refusal changes none
unfoldable pub after_striking : List ℕ → ℕ → List ℕ
after_striking map road = pick (eqb (striking_reply map road).number 0) (struck map road) map

-- what striking owes: the reply, and every byte afterwards
pub record Striking (map : List ℕ) (road : ℕ) (map' : List ℕ) (answer : Result (Unit {0}) Refusal) : Type 0 where
  pub reply : told_check answer ≡ striking_reply map road
  pub bytes : map' ≡ after_striking map road
