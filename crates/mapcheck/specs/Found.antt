-- What the parts of the check find. Assumes nothing.
use Rattle.std.specs.Prelude.{Bool, true, false, List, [], ◌∷◌, ◌++◌, ◌≡◌, ℕ, Some, None, Result, Ok, Err}
use Rattle.std.specs.Prelude.{Option as Maybe}
use Rattle.std.proofs.Math.Option.{Option, none, some}
use Rattle.replies.specs.declared.Refusal.{Refusal}
use Rattle.replies.specs.First.{Test, ◌at◌, NoneFits, Refuses}
use Rattle.roadmap.specs.declared.RoadMap.{RoadMap}
use Rattle.roadmap.specs.Format.{HasSizes}
use Rattle.mapcheck.specs.MapCheck.{size_tests, bad_junction, bad_road, broken_chain, bad_lettering}

abbrev pub found : Maybe ℕ → Option ℕ
found (Some place) = some place
found None = none

-- the header's answer: the map's bytes with their counts where none of 1 to 4 fits, else the one that does
abbrev pub HeaderSays : List ℕ → Result RoadMap Refusal → Type 0
HeaderSays map (Ok read) = (read.bytes.now ≡ map) × HasSizes map read.sizes × NoneFits (size_tests map)
HeaderSays map (Err why) = Refuses (size_tests map) why

-- what follows 6: the chains, where the links are judged, and the letters
abbrev pub late_tests : Bool → List ℕ → List Test
late_tests true map = (7 at broken_chain map) ∷ (8 at bad_lettering map) ∷ []
late_tests false map = (8 at bad_lettering map) ∷ []

abbrev pub content_tests : Bool → List ℕ → List Test
content_tests links map = (5 at bad_junction links map) ∷ (6 at bad_road links map) ∷ late_tests links map

abbrev pub part_tests : Bool → List ℕ → List Test
part_tests links map = size_tests map ++ content_tests links map
