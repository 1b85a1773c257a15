-- The map check: each refusal with its place, and their order. Document 01, "Map" and "Replies". Assumes nothing.
use Rattle.std.specs.Prelude.{ℕ, ◌+◌, Bool, true, false, not, ◌||◌, ◌&&◌, List, [], ◌∷◌, ◌++◌, leb, ltb, eqb, length, get_or}
use Rattle.std.proofs.Math.Option.{Option, none, some}
use Rattle.replies.specs.First.{Test, ◌at◌, placed, lowest, NoneFits}
use Rattle.roadmap.specs.declared.Junction.{Junction}
use Rattle.roadmap.specs.declared.Road.{Road}
use Rattle.roadmap.specs.Format.{format, junction_count, road_count, name_bytes, most_junctions, most_roads, most_name_bytes, map_header_bytes, names_at, length_needed, junction_of, road_of}
use Rattle.roadmap.specs.RoadTime.{most_metres, least_speed, most_speed}
use Rattle.mapcheck.specs.Chain.{broken_chain_at}

unfoldable pub outside : ℕ → ℕ → ℕ → Bool
outside low high value = ltb value low || ltb high value

-- 1 short map: under 16 bytes; length
abbrev pub short_map : List ℕ → Option ℕ
short_map map = placed (ltb (length map) map_header_bytes) (length map)

-- 2 strange map: format not 1; 0
abbrev pub strange_map : List ℕ → Option ℕ
strange_map map = placed (not (eqb (format map) 1)) 0

abbrev pub or_else : Option ℕ → Option ℕ → Option ℕ
or_else none other = other
or_else (some place) other = some place

-- 3 oversize: J, R or L out of range; 4, 8 or 12, first
abbrev pub oversize_counts : ℕ → ℕ → ℕ → Option ℕ
oversize_counts junctions roads names =
    or_else (placed (outside 1 most_junctions junctions) 4)
    (or_else (placed (outside 0 most_roads roads) 8) (placed (outside 0 most_name_bytes names) 12))

unfoldable pub oversize : List ℕ → Option ℕ
oversize map = oversize_counts (junction_count map) (road_count map) (name_bytes map)

-- 4 misfit: length differs; length needed
abbrev pub misfit : List ℕ → Option ℕ
misfit map = placed (not (eqb (length map) (length_needed map))) (length_needed map)

-- 5 bad junction: first road above R, flag, name place; lowest junction. Chain making does not judge the links.
abbrev pub bad_place : ℕ → Junction → Bool
bad_place names junction =
    ltb 1 junction.parking
    || (outside 1 32 junction.length || ltb names (junction.start + junction.length))

abbrev pub bad_junction_fields : Bool → ℕ → ℕ → Junction → Bool
bad_junction_fields links roads names junction = (links && ltb roads junction.first) || bad_place names junction

unfoldable pub bad_junction_at : Bool → List ℕ → ℕ → Bool
bad_junction_at links map j = bad_junction_fields links (road_count map) (name_bytes map) (junction_of map j)

abbrev pub bad_junction : Bool → List ℕ → Option ℕ
bad_junction links map = lowest (bad_junction_at links map) 1 (junction_count map)

-- 6 bad road: any field; lowest road. Next is 0, or above the road's own number and at most R.
abbrev pub bad_stretch : ℕ → Road → Bool
bad_stretch junctions road =
    outside 1 junctions road.from
    || (outside 1 junctions road.to
    || (outside 1 most_metres road.metres || outside least_speed most_speed road.speed))

abbrev pub bad_next : ℕ → ℕ → ℕ → Bool
bad_next roads r next = not (eqb next 0) && (leb next r || ltb roads next)

abbrev pub bad_road_fields : Bool → ℕ → ℕ → ℕ → Road → Bool
bad_road_fields links junctions roads r road = (links && bad_next roads r road.next) || bad_stretch junctions road

unfoldable pub bad_road_at : Bool → List ℕ → ℕ → Bool
bad_road_at links map r = bad_road_fields links (junction_count map) (road_count map) r (road_of map r)

abbrev pub bad_road : Bool → List ℕ → Option ℕ
bad_road links map = lowest (bad_road_at links map) 1 (road_count map)

-- 7 broken chain: road off its chain or on another's; lowest road
abbrev pub broken_chain : List ℕ → Option ℕ
broken_chain map = lowest (broken_chain_at map) 1 (road_count map)

-- 8 bad lettering: name byte; lowest map offset
unfoldable pub bad_letter_at : List ℕ → ℕ → Bool
bad_letter_at map i = outside 0x20 0x7E (get_or map i 0)

abbrev pub bad_lettering : List ℕ → Option ℕ
bad_lettering map = lowest (bad_letter_at map) (names_at map) (name_bytes map)

-- 1 to 4
abbrev pub size_tests : List ℕ → List Test
size_tests map =
    (1 at short_map map) ∷ (2 at strange_map map) ∷ (3 at oversize map) ∷ (4 at misfit map) ∷ []

-- map check: 1 to 8
abbrev pub map_tests : List ℕ → List Test
map_tests map =
    size_tests map
    ++ ((5 at bad_junction true map)
    ∷ (6 at bad_road true map)
    ∷ (7 at broken_chain map)
    ∷ (8 at bad_lettering map)
    ∷ [])

-- chain making: 1 to 6 (first and next aside), 8
abbrev pub chaining_tests : List ℕ → List Test
chaining_tests map =
    size_tests map
    ++ ((5 at bad_junction false map) ∷ (6 at bad_road false map) ∷ (8 at bad_lettering map) ∷ [])

-- a map is accepted when none of refusals 1 to 8 fits it
abbrev pub AcceptedMap : List ℕ → Type 0
AcceptedMap map = NoneFits (map_tests map)
