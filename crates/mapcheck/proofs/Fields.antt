-- What was read is judged as the definitions judge it. Assumes nothing.
use mathlib.Core.Path.{◌≡◌, ◌∙◌, sym, ap}
use mathlib.Core.Bool.{Bool}
use mathlib.Core.List.{List}
use mathlib.Core.Option.{Option, none}
use Prim.Native.Nat.{ℕ, ◌+◌, ◌*◌, ◌-◌}
use native.Mathlib.Omega.{arith}
use lib.ListN.{length, get_or}
use Rattle.replies.specs.First.{first_of, lowest}
use Rattle.replies.specs.declared.Reply.{Reply}
use Rattle.replies.specs.Told.{succeeded}
use Rattle.replies.proofs.First.{passed_over}
use Rattle.roadmap.specs.declared.Junction.{Junction}
use Rattle.roadmap.specs.declared.Road.{Road}
use Rattle.roadmap.specs.declared.RoadMap.{RoadMap}
use Rattle.roadmap.specs.Format.{map_header_bytes, junction_bytes, road_bytes, name_bytes, names_at, junction_of, road_of}
use Rattle.mapcheck.specs.MapCheck.{outside, bad_junction_fields, bad_junction_at, bad_road_fields, bad_road_at, bad_junction, bad_road, bad_letter_at, bad_lettering}
use Rattle.mapcheck.specs.Found.{late_tests, content_tests}

module _ (links : Bool) (map : RoadMap) (i : ℕ) where
  pub judged_junction : {junction : Junction} {bad : Bool} → junction ≡ junction_of map.bytes.now i →
      bad ≡ bad_junction_fields links map.sizes.roads map.sizes.names junction → bad_junction_at links map.bytes.now i ≡ bad
  unfolding bad_junction_at
  judged_junction {junction} read judged =
      rw (← map.has_sizes.roads, ← map.has_sizes.names)
      (sym (judged ∙ ap (λ (j : Junction). bad_junction_fields links map.sizes.roads map.sizes.names j) read))

  pub judged_road : {road : Road} {bad : Bool} → road ≡ road_of map.bytes.now i →
      bad ≡ bad_road_fields links map.sizes.junctions map.sizes.roads i road → bad_road_at links map.bytes.now i ≡ bad
  unfolding bad_road_at
  judged_road {road} read judged =
      rw (← map.has_sizes.junctions, ← map.has_sizes.roads)
      (sym (judged ∙ ap (λ (r : Road). bad_road_fields links map.sizes.junctions map.sizes.roads i r) read))

-- a byte that was read is judged as the definition judges it
pub judged_letter : (map : List ℕ) (i : ℕ) {bad : Bool} → bad ≡ outside 0x20 0x7E (get_or map i 0) → bad_letter_at map i ≡ bad
unfolding bad_letter_at
judged_letter map i judged = sym judged

-- the letters are all that follows the roads
pub judged_letters : (map : RoadMap) {from : ℕ} {fault : Option ℕ} →
    from ≡ map_header_bytes + junction_bytes * map.sizes.junctions + road_bytes * map.sizes.roads →
    fault ≡ lowest (bad_letter_at map.bytes.now) from (length map.bytes.now - from) → bad_lettering map.bytes.now ≡ fault
judged_letters map start judged =
    let at : map_header_bytes + junction_bytes * map.sizes.junctions + road_bytes * map.sizes.roads ≡ names_at map.bytes.now = omega (arith, map.has_sizes) in
    let count : length map.bytes.now - names_at map.bytes.now ≡ name_bytes map.bytes.now = omega (arith, map.has_sizes) in
    sym (rw (start, at, count) at judged)

-- where neither a junction nor a road is bad, what follows decides
pub content_passed : {links linked : Bool} (map : List ℕ) {reply : Reply} → bad_junction links map ≡ none → bad_road links map ≡ none → links ≡ linked →
    reply ≡ first_of (late_tests linked map) (succeeded 0 0) → reply ≡ first_of (content_tests links map) (succeeded 0 0)
content_passed map no_junction roads_pass links late =
    rw (← links) at late ∙ sym (passed_over _ _ _ no_junction ∙ passed_over _ _ _ roads_pass)
