-- Refusals 1 to 4, one after the other, and what the counts are where none of them fits. Assumes nothing.
use mathlib.Core.Path.{◌≡◌, refl, sym}
use mathlib.Core.Bool.{Bool, true, false}
use mathlib.Core.List.{List}
use mathlib.Core.Option.{Option, none, some}
use Prim.Native.Nat.{ℕ, ◌≤◌, ◌<◌}
use borrow.Author.Tests.{lt-ltb, le-ltb, ltb-false, eq-eqb, ne_eqb}
use lib.ListN.{length}
use Rattle.booleans.proofs.Tests.{some_not_none, or_false}
use Rattle.replies.specs.declared.Refusal.TheVariants.{ShortMap, StrangeMap, Oversize, Misfit}
use Rattle.replies.specs.First.{first_of, placed, NoneFits, Refuses}
use Rattle.roadmap.specs.declared.Sizes.{Sizes}
use Rattle.roadmap.specs.Format.{format, map_header_bytes, junction_count, road_count, name_bytes, length_needed, most_junctions, most_roads, most_name_bytes}
use Rattle.mapcheck.specs.MapCheck.{outside, or_else, oversize_counts, oversize, size_tests}

-- a number that is not outside a range is within it
pub record Within (low high value : ℕ) : Type 0 where
  pub above : low ≤ value
  pub below : value ≤ high

pub within : {low high value : ℕ} → outside low high value ≡ false → Within low high value
unfolding outside
within {low} {high} {value} e =
    let both = or_false e in
    record { above = ltb-false _ _ both.0; below = ltb-false _ _ both.1 }

pub placed_none : {b : Bool} (place : ℕ) → placed b place ≡ none → b ≡ false
placed_none {b = true} place e = absurd (some_not_none e)
placed_none {b = false} place e = refl

or_else_none : {a b : Option ℕ} → or_else a b ≡ none → (a ≡ none) × (b ≡ none)
or_else_none {a = none} e = (refl, e)
or_else_none {a = some x} e = absurd (some_not_none e)

-- counts that are not oversize are in range
pub record CountsInRange (junctions roads names : ℕ) : Type 0 where
  pub some_junctions : 1 ≤ junctions
  pub few_junctions : junctions ≤ most_junctions
  pub few_roads : roads ≤ most_roads
  pub few_names : names ≤ most_name_bytes

pub in_range : (junctions roads names : ℕ) → oversize_counts junctions roads names ≡ none → CountsInRange junctions roads names
in_range junctions roads names e =
    let first = or_else_none e in
    let rest = or_else_none first.1 in
    let j = within (placed_none 4 first.0) in
    record {
      some_junctions = j.above;
      few_junctions = j.below;
      few_roads = (within (placed_none 8 rest.0)).below;
      few_names = (within (placed_none 12 rest.1)).below;
    }

module _ (map : List ℕ) where
  -- counts that were read are judged as the definition judges the header's
  pub judged_counts : (sizes : Sizes) → sizes.junctions ≡ junction_count map → sizes.roads ≡ road_count map → sizes.names ≡ name_bytes map →
      {fault : Option ℕ} → fault ≡ oversize_counts sizes.junctions sizes.roads sizes.names → oversize map ≡ fault
  unfolding oversize
  judged_counts sizes is-j is-r is-l judged = rw (← is-j, ← is-r, ← is-l) (sym judged)

  pub refuses_short : length map < map_header_bytes → Refuses (size_tests map) (ShortMap (length map))
  unfolding first_of
  refuses_short short rest success = rw (lt-ltb _ _ short)

  module _ (long : map_header_bytes ≤ length map) where
    pub refuses_strange : (format map ≡ 1 → ⊥) → Refuses (size_tests map) StrangeMap
    unfolding first_of
    refuses_strange strange rest success = rw (le-ltb _ _ long, ne_eqb _ _ strange)

    module _ (known : format map ≡ 1) where
      pub refuses_oversize : {offset : ℕ} → oversize map ≡ some offset → Refuses (size_tests map) (Oversize offset)
      unfolding first_of
      refuses_oversize fault rest success = rw (le-ltb _ _ long, eq-eqb _ _ known, fault)

      module _ (sized : oversize map ≡ none) where
        pub refuses_misfit : (length map ≡ length_needed map → ⊥) → Refuses (size_tests map) (Misfit (length_needed map))
        unfolding first_of
        refuses_misfit differs rest success = rw (le-ltb _ _ long, eq-eqb _ _ known, sized, ne_eqb _ _ differs)

        pub none_of_1_to_4 : length map ≡ length_needed map → NoneFits (size_tests map)
        none_of_1_to_4 fits = (rw (le-ltb _ _ long), (rw (eq-eqb _ _ known), (sized, (rw (eq-eqb _ _ fits), tt))))
