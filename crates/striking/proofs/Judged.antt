-- The cases of striking. Assumes nothing.
use mathlib.Core.Path.{◌≡◌, ◌∙◌, sym}
use mathlib.Core.Bool.{true, false}
use mathlib.Core.List.{List, [], ◌∷◌}
use Prim.Native.Nat.{ℕ}
use native.Mathlib.Omega.{arith}
use borrow.Author.Tests.{ne_eqb}
use Rattle.words.specs.Word.{put_at}
use Rattle.std.specs.Prelude.{Ok, Err}
use Rattle.replies.specs.declared.Refusal.{Refusal}
use Rattle.replies.specs.declared.Refusal.TheVariants.{UnknownRoad}
use Rattle.replies.specs.First.{first_of, ◌at◌, Refuses}
use Rattle.replies.specs.Told.{succeeded, told_refusal}
use Rattle.replies.proofs.First.{none_fits, stops_at, passed_over, refusal_number}
use Rattle.roadmap.specs.Format.{road_count, road_from}
use Rattle.mapcheck.specs.MapCheck.{outside, map_tests, AcceptedMap}
use Rattle.striking.specs.Striking.{to_at, struck, unknown_road, striking_reply, after_striking, Striking}

module _ (map : List ℕ) (road : ℕ) where
  -- a refusal changes no byte
  refused : (why : Refusal) → told_refusal why ≡ striking_reply map road → Striking map road map (Err why)
  unfolding after_striking
  refused why told =
      record {
        reply = told;
        bytes = rw (← told, ne_eqb (told_refusal why).number 0 (λ e. omega (arith, refusal_number why)));
      }

  -- what refuses the map refuses the striking
  pub map_refused : (why : Refusal) → Refuses (map_tests map) why → Striking map road map (Err why)
  unfolding striking_reply
  map_refused why refuses = refused why (sym (refuses ((24 at unknown_road map road) ∷ []) (succeeded 0 0)))

  module _ (accepted : AcceptedMap map) where
    -- then an unknown road does
    pub road_unknown : outside 1 (road_count map) road ≡ true → Striking map road map (Err (UnknownRoad road))
    unfolding striking_reply
    road_unknown out = refused (UnknownRoad road) (sym (none_fits (map_tests map) _ _ accepted ∙ stops_at _ _ _ (rw out)))

    -- a known one is struck: its from-junction is put where its to-junction stands
    pub road_struck : outside 1 (road_count map) road ≡ false → {place from : ℕ} {after : List ℕ}
        → after ≡ put_at map place from → place ≡ to_at map road → from ≡ road_from map road → Striking map road after (Ok tt)
    unfolding striking_reply after_striking struck first_of
    road_struck inside is-after is-place is-from =
        let told : succeeded 0 0 ≡ striking_reply map road =
        sym
        (none_fits (map_tests map) ((24 at unknown_road map road) ∷ []) (succeeded 0 0) accepted
        ∙ passed_over (24 at unknown_road map road) [] (succeeded 0 0) (rw inside)) in
        record { reply = told; bytes = rw (← told) (is-after ∙ λ i. put_at map (is-place i) (is-from i)) }
