-- A map that keeps another's counts, places, lengths and letters, and whose chains are made: where the other passes, links
-- aside, it passes the whole map check. Assumes nothing.
use mathlib.Core.Path.{◌≡◌, ◌∙◌, ap}
use mathlib.Core.Bool.{Bool, true, false, ◌&&◌}
use mathlib.Core.List.{List}
use mathlib.Core.Logic.{◌⊎◌, ⊎_elim}
use mathlib.Core.Option.{none}
use Prim.Native.Nat.{ℕ, ◌+◌, ◌-◌, ◌≤◌, ◌<◌}
use native.Mathlib.Omega.{arith}
use borrow.Author.Tests.{eqb-true, eqb-false, not-false, le-ltb, lt-leb}
use lib.Dec.{eqb, ltb}
use lib.ListN.{length, get_or}
use Rattle.booleans.proofs.Tests.{cases, or_false}
use Rattle.replies.specs.First.{NoneFits}
use Rattle.replies.proofs.First.{lowest_none, lowest_is_none, none_of_both, none_before, none_under}
use Rattle.roadmap.specs.Format.{format, map_header_bytes, junction_count, road_count, name_bytes, names_at, length_needed, junction_word, road_word, first_road, next_road, road_from, road_to}
use Rattle.mapcheck.specs.Links.{MapLinks}
use Rattle.mapcheck.specs.Listed.{lowest_from}
use Rattle.mapcheck.specs.MapCheck.{outside, oversize, bad_junction_at, bad_junction, bad_next, bad_road_at, bad_road, broken_chain, bad_letter_at, bad_lettering, size_tests, map_tests, chaining_tests, AcceptedMap}
use Rattle.mapcheck.specs.Found.{content_tests, part_tests}
use Rattle.mapcheck.proofs.Counts.{placed_none, none_of_1_to_4}
use Rattle.mapcheck.proofs.Sound.{SoundRoad, sound_road}
use Rattle.mapcheck.proofs.Listed.{MapMade, made_map_links, made_map_unbroken}
use Rattle.mapcheck.proofs.Tried.{has_header, has_whole}

-- what a map s keeps of the map, and the links that it has
pub record Kept (map s : List ℕ) : Type 0 where
  pub size : length s ≡ length map
  pub format : format s ≡ format map
  pub junctions : junction_count s ≡ junction_count map
  pub roads : road_count s ≡ road_count map
  pub names : name_bytes s ≡ name_bytes map
  -- a junction's flag and name place
  pub junction : (j offset : ℕ) → 1 ≤ j → j ≤ junction_count map → 4 ≤ offset → offset ≤ 12 → junction_word s j offset ≡ junction_word map j offset
  -- a road's length and speed
  pub road : (r offset : ℕ) → 1 ≤ r → r ≤ road_count map → 8 ≤ offset → offset ≤ 12 → road_word s r offset ≡ road_word map r offset
  pub letter : (i : ℕ) → names_at map ≤ i → get_or s i 0 ≡ get_or map i 0
  pub from : road_from s ≡ road_from map
  -- a road leads where it led, or back to where it begins
  pub to : (r : ℕ) → 1 ≤ r → r ≤ road_count map → (road_to s r ≡ road_to map r) ⊎ (road_to s r ≡ road_from map r)
  -- the chains are made of the lowest roads
  pub first : (j : ℕ) → 1 ≤ j → j ≤ junction_count map → first_road s j ≡ lowest_from (road_from map) j 1 (road_count map)
  pub next : (r : ℕ) → 1 ≤ r → r ≤ road_count map → next_road s r ≡ lowest_from (road_from map) (road_from map r) (r + 1) (road_count map - r)

-- a next that rises is not bad
next_good : (roads r next : ℕ) → next ≤ roads → (1 ≤ next → r < next) → bad_next roads r next ≡ false
next_good roads r next within rises =
    ⊎_elim
    (λ (end : eqb next 0 ≡ true). rw end)
    (λ (road : eqb next 0 ≡ false).
    let low : 1 ≤ next = omega (arith, eqb-false next 0 road) in
    rw (road, lt-leb next r (rises low), le-ltb roads next within))
    (cases (eqb next 0))

-- the letters are judged with the links and without
lettered : (map : List ℕ) (links : Bool) → NoneFits (part_tests links map) → bad_lettering map ≡ none
lettered map true fine = none_under 8 (map_tests map) fine
lettered map false fine = none_under 8 (chaining_tests map) fine

module _ (map s : List ℕ) (kept : Kept map s) (links : Bool) (fine : NoneFits (part_tests links map)) where
  from_same : (r : ℕ) → road_from s r ≡ road_from map r
  from_same r = ap (λ (f : ℕ → ℕ). f r) kept.from

  road_passed : (r : ℕ) → 1 ≤ r → r ≤ road_count map → bad_road_at links map r ≡ false
  road_passed r low high = lowest_is_none _ 1 _ (none_under 6 (part_tests links map) fine) r low (omega arith)

  road_sound : (r : ℕ) → 1 ≤ r → r ≤ road_count map → SoundRoad map r
  road_sound r low high = sound_road map links r (road_passed r low high)

  made : MapMade s
  made =
      record {
        first_lowest = λ j low high. rw (kept.from, kept.roads) (kept.first j low (omega (arith, kept.junctions)));
        next_lowest = λ r low high. rw (kept.from, from_same r, kept.roads) (kept.next r low (omega (arith, kept.roads)));
        from_low = λ r low high. rw (from_same r) (road_sound r low (omega (arith, kept.roads))).from.above;
        from_high = λ r low high. rw (from_same r, kept.junctions) (road_sound r low (omega (arith, kept.roads))).from.below;
      }

  sound : MapLinks s
  sound = made_map_links s made

  good_junction : (j : ℕ) → 1 ≤ j → j ≤ junction_count map → bad_junction_at true s j ≡ false
  unfolding bad_junction_at
  good_junction j low high =
      let passed : bad_junction_at links map j ≡ false = lowest_is_none _ 1 _ (none_under 5 (part_tests links map) fine) j low (omega arith) in
      rw (
        le-ltb (road_count s) (first_road s j) (sound.firsts j low (omega (arith, kept.junctions))),
        kept.names,
        kept.junction j 4 low high (omega arith) (omega arith),
        kept.junction j 8 low high (omega arith) (omega arith),
        kept.junction j 12 low high (omega arith) (omega arith),
      )
      (or_false {a = links && ltb (road_count map) (first_road map j)} passed).1

  good_road : (r : ℕ) → 1 ≤ r → r ≤ road_count map → bad_road_at true s r ≡ false
  unfolding bad_road_at
  good_road r low high =
      let high' : r ≤ road_count s = omega (arith, kept.roads) in
      let ends = or_false (or_false {a = links && bad_next (road_count map) r (next_road map r)} (road_passed r low high)).1 in
      let rest = or_false ends.1 in
      let to_good : outside 1 (junction_count map) (road_to s r) ≡ false =
      ⊎_elim (λ (same : road_to s r ≡ road_to map r). rw same rest.0) (λ (back : road_to s r ≡ road_from map r). rw back ends.0) (kept.to r low high) in
      rw (
        next_good (road_count s) r (next_road s r) (sound.rising.within r low high') (sound.rising.rises r low high'),
        kept.junctions,
        from_same r,
        ends.0,
        to_good,
        kept.road r 8 low high (omega arith) (omega arith),
        kept.road r 12 low high (omega arith) (omega arith),
      )
      rest.1

  good_letter : (i : ℕ) → names_at map ≤ i → i < names_at map + name_bytes map → bad_letter_at s i ≡ false
  unfolding bad_letter_at
  good_letter i low high = rw (kept.letter i low) (lowest_is_none _ (names_at map) _ (lettered map links fine) i low high)

  no_bad_junction : bad_junction true s ≡ none
  no_bad_junction = rw kept.junctions (lowest_none _ 1 _ (λ j low high. good_junction j low (omega arith)))

  no_bad_road : bad_road true s ≡ none
  no_bad_road = rw kept.roads (lowest_none _ 1 _ (λ r low high. good_road r low (omega arith)))

  no_bad_letter : bad_lettering s ≡ none
  no_bad_letter = rw (kept.junctions, kept.roads, kept.names) (lowest_none _ _ _ good_letter)

  no_broken_chain : broken_chain s ≡ none
  no_broken_chain = lowest_none _ 1 _ (made_map_unbroken s made)

  not_oversize : oversize s ≡ none
  unfolding oversize
  not_oversize = rw (kept.junctions, kept.roads, kept.names) (none_under 3 (part_tests links map) fine)

  kept_format : format s ≡ 1
  kept_format = kept.format ∙ eqb-true _ _ (not-false (eqb (format map) 1) (placed_none 0 (none_under 2 (part_tests links map) fine)))

  pub kept_accepted : AcceptedMap s
  kept_accepted =
      let sizes = none_before (size_tests map) (content_tests links map) fine in
      let long : map_header_bytes ≤ length s = omega (arith, has_header map sizes, kept.size) in
      let whole : length s ≡ length_needed s =
      omega (arith, has_whole map sizes, kept.size, kept.junctions, kept.roads, kept.names) in
      none_of_both (size_tests s) (content_tests true s) (none_of_1_to_4 s long kept_format not_oversize whole)
      (no_bad_junction, (no_bad_road, (no_broken_chain, (no_bad_letter, tt))))
