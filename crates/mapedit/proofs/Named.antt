-- The cases of a name's reply, and what a name is where the reply does not refuse. Assumes nothing.
use mathlib.Core.Path.{◌≡◌, ◌∙◌, sym, ap}
use mathlib.Core.Bool.{true, false}
use mathlib.Core.List.{List, [], ◌∷◌, ◌++◌}
use Prim.Native.Nat.{ℕ, ◌+◌, ◌-◌, ◌≤◌}
use native.Mathlib.Omega.{arith}
use borrow.Author.Tests.{ne_eqb}
use lib.ListN.{take, drop}
use Rattle.replies.specs.declared.Reply.{Reply}
use Rattle.replies.specs.declared.Refusal.{Refusal}
use Rattle.replies.specs.First.{Test, first_of, ◌at◌, Refuses}
use Rattle.replies.specs.Told.{succeeded, refused_at, told_refusal}
use Rattle.replies.proofs.First.{none_fits, none_fitted, none_before, none_behind, stops_at, passed_over, refusal_number}
use Rattle.roadmap.specs.Format.{junction_count, name_length, length_needed}
use Rattle.mapcheck.specs.MapCheck.{outside, map_tests, AcceptedMap}
use Rattle.mapcheck.proofs.Counts.{placed_none, Within, within}
use Rattle.mapcheck.proofs.Sound.{sound_map}
use Rattle.mapedit.specs.Name.{unknown_name, name_reply, name_at, name_part}

module _ (map : List ℕ) (junction : ℕ) where
  -- what refuses the map refuses the name
  pub refused_map : (why : Refusal) → Refuses (map_tests map) why → told_refusal why ≡ name_reply map junction
  unfolding name_reply
  refused_map why refuses = sym (refuses ((20 at unknown_name map junction) ∷ []) (succeeded (name_length map junction) 0))

  module _ (accepted : AcceptedMap map) where
    -- and on a map that passes, a junction that is none of its own does
    pub unknown : outside 1 (junction_count map) junction ≡ true → refused_at 20 junction ≡ name_reply map junction
    unfolding name_reply
    unknown judged = sym (none_fits (map_tests map) _ _ accepted ∙ stops_at _ _ _ (rw judged))

    pub named : outside 1 (junction_count map) junction ≡ false → succeeded (name_length map junction) 0 ≡ name_reply map junction
    unfolding name_reply first_of
    named judged =
        sym
        (none_fits (map_tests map) ((20 at unknown_name map junction) ∷ []) (succeeded (name_length map junction) 0) accepted
        ∙ passed_over (20 at unknown_name map junction) [] _ (rw judged))

  -- the tests of a name
  abbrev last : List Test
  last = (20 at unknown_name map junction) ∷ []

  abbrev name_tests : List Test
  name_tests = map_tests map ++ last

  -- what a reply of number 0 says
  pub record Named : Type 0 where
    pub accepted : AcceptedMap map
    pub judged : outside 1 (junction_count map) junction ≡ false
    pub known : Within 1 (junction_count map) junction
    -- the name ends within the map
    pub inside : name_at map junction + name_length map junction ≤ length_needed map

  pub number_named : (name_reply map junction).number ≡ 0 → Named
  unfolding name_reply
  number_named zero =
      let none = none_fitted name_tests (succeeded (name_length map junction) 0) tt zero in
      let accepted = none_before (map_tests map) last none in
      let judged = placed_none junction (none_behind (map_tests map) last none).0 in
      let known : Within 1 (junction_count map) junction = within judged in
      let inside = ((sound_map map accepted).junctions junction known.above known.below).inside in
      record { accepted = accepted; judged = judged; known = known; inside = omega arith }

  pub length_named : {length : ℕ} → succeeded length 0 ≡ name_reply map junction → length ≡ name_length map junction
  length_named told =
      let named-so = number_named (sym (ap (λ (r : Reply). r.number) told)) in
      ap (λ (r : Reply). r.place) (told ∙ sym (named named-so.accepted named-so.judged))

  -- the part where the reply does not refuse
  pub part_named : {length : ℕ} (from end : ℕ) → succeeded length 0 ≡ name_reply map junction
      → from ≡ name_at map junction → end ≡ from + length → take (end - from) (drop from map) ≡ name_part map junction
  unfolding name_part
  part_named {length} from end told is-from is-end =
      let count : end - from ≡ name_length map junction = omega (arith, length_named told) in
      rw (← told, count, is-from)

  -- and where it does
  pub part_refused : (why : Refusal) → told_refusal why ≡ name_reply map junction → [] ≡ name_part map junction
  unfolding name_part
  part_refused why told =
      rw (← told, ne_eqb (told_refusal why).number 0 (λ e. omega (arith, refusal_number why)))
