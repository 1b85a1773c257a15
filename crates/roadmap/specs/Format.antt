-- The map's format: where each field stands. All numbers are words; junctions and roads count from 1.
-- Document 01, "Map". Assumes nothing.
use Rattle.std.specs.Prelude.{◌≡◌, List, ℕ, ◌+◌, ◌*◌, ◌-◌, ◌≤◌, length}
use Rattle.words.specs.Word.{word_at}
use Rattle.roadmap.specs.declared.Sizes.{Sizes}
use Rattle.roadmap.specs.declared.Junction.{Junction}
use Rattle.roadmap.specs.declared.Road.{Road}

-- the header: format, junction count J, road count R, name bytes L
unfoldable pub format : List ℕ → ℕ
format map = word_at map 0

unfoldable pub junction_count : List ℕ → ℕ
junction_count map = word_at map 4

unfoldable pub road_count : List ℕ → ℕ
road_count map = word_at map 8

unfoldable pub name_bytes : List ℕ → ℕ
name_bytes map = word_at map 12

-- the largest counts; those of junctions and roads are document 02's (P1)
abbrev pub most_junctions : ℕ
most_junctions = 12288

abbrev pub most_roads : ℕ
most_roads = 40960

abbrev pub most_name_bytes : ℕ
most_name_bytes = 1048576

-- the bytes of the header, of a junction and of a road
abbrev pub map_header_bytes : ℕ
map_header_bytes = 16

abbrev pub junction_bytes : ℕ
junction_bytes = 16

abbrev pub road_bytes : ℕ
road_bytes = 20

-- then J junctions of 4 words, R roads of 5 words and L name bytes
abbrev pub junction_at : ℕ → ℕ
junction_at j = map_header_bytes + junction_bytes * (j - 1)

abbrev pub road_at : List ℕ → ℕ → ℕ
road_at map r = map_header_bytes + junction_bytes * junction_count map + road_bytes * (r - 1)

abbrev pub names_at : List ℕ → ℕ
names_at map = map_header_bytes + junction_bytes * junction_count map + road_bytes * road_count map

abbrev pub length_needed : List ℕ → ℕ
length_needed map = names_at map + name_bytes map

-- a junction: first road, car park, name start, name length
unfoldable pub junction_word : List ℕ → ℕ → ℕ → ℕ
junction_word map j offset = word_at map (junction_at j + offset)

abbrev pub first_road : List ℕ → ℕ → ℕ
first_road map j = junction_word map j 0

abbrev pub car_park : List ℕ → ℕ → ℕ
car_park map j = junction_word map j 4

abbrev pub name_start : List ℕ → ℕ → ℕ
name_start map j = junction_word map j 8

abbrev pub name_length : List ℕ → ℕ → ℕ
name_length map j = junction_word map j 12

-- a road: from, to, metres, speed, next road
unfoldable pub road_word : List ℕ → ℕ → ℕ → ℕ
road_word map r offset = word_at map (road_at map r + offset)

abbrev pub road_from : List ℕ → ℕ → ℕ
road_from map r = road_word map r 0

abbrev pub road_to : List ℕ → ℕ → ℕ
road_to map r = road_word map r 4

abbrev pub road_metres : List ℕ → ℕ → ℕ
road_metres map r = road_word map r 8

abbrev pub road_speed : List ℕ → ℕ → ℕ
road_speed map r = road_word map r 12

abbrev pub next_road : List ℕ → ℕ → ℕ
next_road map r = road_word map r 16

-- all fields at once
abbrev pub junction_of : List ℕ → ℕ → Junction
junction_of map j =
    record { first = first_road map j; parking = car_park map j; start = name_start map j; length = name_length map j }

abbrev pub road_of : List ℕ → ℕ → Road
road_of map r =
    record {
      from = road_from map r;
      to = road_to map r;
      metres = road_metres map r;
      speed = road_speed map r;
      next = next_road map r;
    }

-- the counts are the header's, in range, and the map is as long as they need
pub record HasSizes (map : List ℕ) (sizes : Sizes) : Type 0 where
  pub junctions : sizes.junctions ≡ junction_count map
  pub roads : sizes.roads ≡ road_count map
  pub names : sizes.names ≡ name_bytes map
  pub few_junctions : sizes.junctions ≤ most_junctions
  pub few_roads : sizes.roads ≤ most_roads
  pub few_names : sizes.names ≤ most_name_bytes
  pub whole : length map ≡ length_needed map
