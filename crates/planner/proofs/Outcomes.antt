-- What the search's ends say: the words hold the labels of an answer, or planning is refused. Assumes nothing.
use mathlib.Core.Path.{◌≡◌, ◌∙◌, refl, sym, ap}
use mathlib.Core.List.{List}
use mathlib.Core.Option.{none}
use Prim.Native.Nat.{ℕ, ◌≤◌}
use native.Mathlib.Omega.{arith}
use lib.ListN.{length}
use Rattle.std.specs.Prelude.{Result, Ok, Err}
use Rattle.replies.specs.declared.Refusal.{Refusal}
use Rattle.replies.specs.declared.Plan.{Plan}
use Rattle.replies.specs.declared.Refusal.TheVariants.{Full, NoRoad}
use Rattle.replies.specs.Told.{refused_at}
use Rattle.states.specs.declared.State.{State}
use Rattle.moves.specs.Trip.{Trip}
use Rattle.moves.specs.Runs.{SoundTrip}
use Rattle.journeys.specs.Planning.{search_reply}
use Rattle.journeys.proofs.Planning.{reply_full, reply_no_road}
use Rattle.labels.specs.LabelWords.{settled}
use Rattle.settling.specs.Settling.{Ended}
use Rattle.readback.specs.Held.{Found}
use Rattle.readback.proofs.Ending.{ended_found}
use Rattle.search.specs.Underway.{parents_of}
use Rattle.search.specs.declared.Unfound.{Unfound}
use Rattle.search.specs.Turns.{EndsFound, EndsWithout, OutcomeSays}
use Rattle.search.specs.Turns as turns
use Rattle.search.proofs.Columns.{states_length}
use Rattle.planner.specs.Parts.{HandedBack, Concluded}

-- 13: no legal journey, and N labels
pub ended_no_road : (trip : Trip) (L : List State) (P : List ℕ) → Ended trip none L P → (fit sheet : ℕ) → length L ≤ fit → search_reply trip fit sheet ≡ refused_at 13 (length L)
ended_no_road trip L P ended fit sheet room =
    reply_no_road trip fit sheet (omega (arith, ended.count)) ended.answer ∙ ap (refused_at 13) ended.count

module _ (trip : Trip) (ws : List ℕ) (n : ℕ) where
  pub found_held : SoundTrip trip → EndsFound trip ws n → Found trip ws n
  found_held sound ends = ended_found trip sound ws n ends.ended ends.room

  pub exhausted_reply : EndsWithout trip ws n → (fit sheet : ℕ) → n ≤ fit → search_reply trip fit sheet ≡ refused_at 13 n
  exhausted_reply ended fit sheet room =
      ended_no_road trip (settled ws n) (parents_of ws n) ended fit sheet (omega (arith, states_length trip ws n))
      ∙ ap (refused_at 13) (states_length trip ws n)

-- Each outcome.
module _ {trip : Trip} {fit : ℕ} {ws : List ℕ} where
  pub outcome_found : {n : ℕ} → OutcomeSays trip fit ws (Ok n) → EndsFound trip ws n × (n ≤ fit)
  outcome_found (turns.found ends room) = (ends, room)

  module _ (before : List ℕ) where
    pub concluded_found : {n : ℕ} {after : List ℕ} {answer : Result Plan Refusal} → OutcomeSays trip fit ws (Ok n)
        → HandedBack trip before after answer → Concluded trip fit before after answer
    concluded_found {n} (turns.found ends room) handed =
        record {
          reply = handed.reply fit (omega (arith, ends.ended.count, states_length trip ws n));
          bytes = handed.bytes;
        }

    pub concluded_exhausted : {n : ℕ} → OutcomeSays trip fit ws (Err (Unfound.Exhausted n)) → Concluded trip fit before before (Err (NoRoad n))
    concluded_exhausted {n} (turns.exhausted ends room) =
        record { reply = sym (exhausted_reply trip ws n ends fit (length before) room); bytes = refl }

    pub concluded_full : OutcomeSays trip fit ws (Err Unfound.Full) → Concluded trip fit before before (Err (Full fit))
    concluded_full (turns.full above) = record { reply = sym (reply_full trip fit (length before) above); bytes = refl }
