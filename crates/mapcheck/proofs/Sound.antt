-- What refusals 5 to 7 leave where they do not fit: sound fields, sound links, and chains that list each junction's roads.
-- Assumes nothing.
use mathlib.Core.Path.{◌≡◌}
use mathlib.Core.Bool.{Bool, true, false, ◌&&◌}
use mathlib.Core.List.{List}
use mathlib.Core.Logic.{⊎_elim}
use mathlib.Core.Option.{none}
use Prim.Native.Nat.{ℕ, ◌+◌, ◌≤◌, ◌<◌}
use native.Mathlib.Omega.{arith}
use borrow.Author.Tests.{eqb-true, ltb-false, leb-false}
use lib.Dec.{eqb, leb, ltb}
use lib.ListN.{length}
use Rattle.booleans.proofs.Tests.{cases, or_false}
use Rattle.replies.proofs.First.{NoneBelow, lowest_is_none, none_under}
use Rattle.roadmap.specs.Format.{junction_count, road_count, name_bytes, first_road, car_park, name_start, name_length, next_road, road_from, road_to, road_metres, road_speed, length_needed}
use Rattle.roadmap.specs.RoadTime.{most_metres, least_speed, most_speed}
use Rattle.mapcheck.specs.Chain.{chain}
use Rattle.mapcheck.specs.Links.{MapLinks}
use Rattle.mapcheck.specs.Listed.{roads_from}
use Rattle.mapcheck.specs.MapCheck.{bad_junction_at, bad_junction, bad_next, bad_road_at, bad_road, oversize, map_tests, AcceptedMap}
use Rattle.mapcheck.proofs.Counts.{Within, within, CountsInRange, in_range}
use Rattle.mapcheck.proofs.Listed.{MapMade, map_listed, map_made}
use Rattle.mapcheck.proofs.Tried.{has_whole, accepted_sizes}

module _ (map : List ℕ) where
  -- a junction's flag and name place
  pub record SoundJunction (j : ℕ) : Type 0 where
    pub parking : car_park map j ≤ 1
    pub length : Within 1 32 (name_length map j)
    pub inside : name_start map j + name_length map j ≤ name_bytes map

  pub sound_junction : (links : Bool) (j : ℕ) → bad_junction_at links map j ≡ false → SoundJunction j
  unfolding bad_junction_at
  sound_junction links j e =
      let place = or_false (or_false {a = links && ltb (road_count map) (first_road map j)} e).1 in
      let name = or_false place.1 in
      record { parking = ltb-false _ _ place.0; length = within name.0; inside = ltb-false _ _ name.1 }

  -- and its first road: one that is there, or none
  pub sound_first : (j : ℕ) → bad_junction_at true map j ≡ false → first_road map j ≤ road_count map
  unfolding bad_junction_at
  sound_first j e = ltb-false _ _ (or_false e).0

  -- a road's ends, length and speed
  pub record SoundRoad (r : ℕ) : Type 0 where
    pub from : Within 1 (junction_count map) (road_from map r)
    pub to : Within 1 (junction_count map) (road_to map r)
    pub metres : Within 1 most_metres (road_metres map r)
    pub speed : Within least_speed most_speed (road_speed map r)

  pub sound_road : (links : Bool) (r : ℕ) → bad_road_at links map r ≡ false → SoundRoad r
  unfolding bad_road_at
  sound_road links r e =
      let ends = or_false (or_false {a = links && bad_next (road_count map) r (next_road map r)} e).1 in
      let rest = or_false ends.1 in
      let last = or_false rest.1 in
      record { from = within ends.0; to = within rest.0; metres = within last.0; speed = within last.1 }

  -- and its next: 0, or above it and there
  pub record SoundNext (r : ℕ) : Type 0 where
    pub within : next_road map r ≤ road_count map
    pub rises : 1 ≤ next_road map r → r < next_road map r

  pub sound_next : (r : ℕ) → bad_road_at true map r ≡ false → SoundNext r
  unfolding bad_road_at
  sound_next r e =
      ⊎_elim
      (λ (is_none : eqb (next_road map r) 0 ≡ true).
      let zero : next_road map r ≡ 0 = eqb-true (next_road map r) 0 is_none in
      record { within = omega arith; rises = λ road. absurd (omega arith) })
      (λ (is-road : eqb (next_road map r) 0 ≡ false).
      let judged : bad_next (road_count map) r (next_road map r) ≡ false = (or_false e).0 in
      let both = or_false {a = leb (next_road map r) r} (rw is-road at judged) in
      record { within = ltb-false _ _ both.1; rises = λ low. leb-false _ _ both.0 })
      (cases (eqb (next_road map r) 0))

  -- a map that refusals 5 and 6 pass over has sound links
  pub sound_links : NoneBelow (bad_junction_at true map) 1 (1 + junction_count map) → NoneBelow (bad_road_at true map) 1 (1 + road_count map) → MapLinks map
  sound_links junctions roads =
      record {
        firsts = λ j low high. sound_first j (junctions j low (omega arith));
        from_low = λ r low high. (sound_road true r (roads r low (omega arith))).from.above;
        from_high = λ r low high. (sound_road true r (roads r low (omega arith))).from.below;
        rising = record {
          within = λ r low high. (sound_next r (roads r low (omega arith))).within;
          rises = λ r low high. (sound_next r (roads r low (omega arith))).rises;
        };
      }

  pub links_of : bad_junction true map ≡ none → bad_road true map ≡ none → MapLinks map
  links_of junctions roads = sound_links (lowest_is_none _ 1 _ junctions) (lowest_is_none _ 1 _ roads)

  -- what an accepted map is
  pub record SoundMap : Type 0 where
    pub counts : CountsInRange (junction_count map) (road_count map) (name_bytes map)
    pub whole : length map ≡ length_needed map
    pub junctions : (j : ℕ) → 1 ≤ j → j ≤ junction_count map → SoundJunction j
    pub roads : (r : ℕ) → 1 ≤ r → r ≤ road_count map → SoundRoad r
    pub links : MapLinks map
    -- the chain of a junction lists exactly the roads from it, rising
    pub chains : (j : ℕ) → 1 ≤ j → j ≤ junction_count map → chain map j ≡ roads_from (road_from map) j 1 (road_count map)

  pub sound_map : AcceptedMap map → SoundMap
  unfolding oversize
  sound_map accepted =
      let no_junction = lowest_is_none _ 1 _ (none_under 5 (map_tests map) accepted) in
      let roads_pass = lowest_is_none _ 1 _ (none_under 6 (map_tests map) accepted) in
      let linked = sound_links no_junction roads_pass in
      record {
        counts = in_range _ _ _ (none_under 3 (map_tests map) accepted);
        whole = has_whole map (accepted_sizes map accepted);
        junctions = λ j low high. sound_junction true j (no_junction j low (omega arith));
        roads = λ r low high. sound_road true r (roads_pass r low (omega arith));
        links = linked;
        chains = map_listed map linked (lowest_is_none _ 1 _ (none_under 7 (map_tests map) accepted));
      }

  -- its chains are made of the lowest roads
  pub accepted_made : AcceptedMap map → MapMade map
  accepted_made accepted =
      map_made map (links_of (none_under 5 (map_tests map) accepted) (none_under 6 (map_tests map) accepted))
      (lowest_is_none _ 1 _ (none_under 7 (map_tests map) accepted))
