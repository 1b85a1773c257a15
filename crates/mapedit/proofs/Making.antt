-- The cases of chain making. Assumes nothing.
use mathlib.Core.Path.{◌≡◌}
use mathlib.Core.Bool.{false}
use mathlib.Core.List.{List}
use Prim.Native.Nat.{ℕ, ◌≤◌}
use native.Mathlib.Omega.{arith}
use borrow.Author.Tests.{ne_eqb}
use Rattle.std.specs.Prelude.{Ok, Err}
use Rattle.replies.specs.declared.Refusal.{Refusal}
use Rattle.replies.specs.First.{first_of, NoneFits}
use Rattle.replies.specs.Told.{succeeded, told_refusal}
use Rattle.replies.proofs.First.{lowest_is_none, none_under, refusal_number}
use Rattle.roadmap.specs.Format.{road_count}
use Rattle.mapcheck.specs.MapCheck.{chaining_tests}
use Rattle.mapcheck.proofs.Sound.{SoundRoad, sound_road}
use Rattle.mapedit.specs.Chaining.{chained, chaining_reply, after_chaining, ChainMaking}
use Rattle.mapedit.specs.Passes.{FromKnown}

module _ (map : List ℕ) where
  -- a refusal changes no byte
  pub made_refused : (why : Refusal) → told_refusal why ≡ first_of (chaining_tests map) (succeeded 0 0) → ChainMaking map map (Err why)
  unfolding chaining_reply after_chaining
  made_refused why told =
      record {
        reply = told;
        bytes = rw (← told, ne_eqb (told_refusal why).number 0 (λ e. omega (arith, refusal_number why)));
      }

  -- a success makes the chains
  pub made_passed : {after : List ℕ} → succeeded 0 0 ≡ first_of (chaining_tests map) (succeeded 0 0) → after ≡ chained map → ChainMaking map after (Ok tt)
  unfolding chaining_reply after_chaining
  made_passed told is-after = record { reply = told; bytes = rw (← told) is-after }

  -- the ends and the length of each road are sound
  pub road_sound : NoneFits (chaining_tests map) → (r : ℕ) → 1 ≤ r → r ≤ road_count map → SoundRoad map r
  road_sound none r low high = sound_road map false r (lowest_is_none _ 1 _ (none_under 6 (chaining_tests map) none) r low (omega arith))

  pub from_known : NoneFits (chaining_tests map) → (r : ℕ) → 1 ≤ r → r ≤ road_count map → FromKnown map r
  from_known none r low high =
      let from = (road_sound none r low high).from in
      record { low = from.above; high = from.below }
