-- Two runs compared: where B eases A, A's journey timed under B is legal and arrives no later, and B's answer is no later than that.
-- Assumes nothing.
use mathlib.Core.Path.{◌≡◌}
use mathlib.Core.List.{List}
use mathlib.Core.Option.{some}
use Prim.Native.Nat.{◌≤◌}
use native.Mathlib.Omega.{arith}
use lib.Dec.{T}
use Rattle.states.specs.declared.State.{State}
use Rattle.moves.specs.declared.Move.{Move}
use Rattle.moves.specs.Trip.{Trip}
use Rattle.moves.specs.Compared.{Eases}
use Rattle.moves.proofs.Rising.{SoundTrip}
use Rattle.journeys.specs.Journeys.{start_in, at_target, Journey}
use Rattle.states.specs.States.{covers, ranks_no_higher}
use Rattle.states.proofs.Compared.{covers_junction, covers_clock}
use Rattle.journeys.specs.Labels.{answer_in}
use Rattle.journeys.specs.Plan.{plan_moves}
use Rattle.journeys.proofs.Journeys.{eased_leads}
use Rattle.journeys.proofs.Labels.{some_answered, answer_lowest, answer_earliest}
use Rattle.journeys.proofs.Plan.{plan_journey}

-- the moves are a legal journey in B, to a state that is no worse than t
pub record EasedJourney (tb : Trip) (ms : List Move) (t : State) : Type 0 where
  pub reached : State
  pub journey : Journey tb ms reached
  pub over : T (covers reached t)

-- A's answer is a: its plan's moves are a legal journey in B that arrives no later, and B's answer is no later than that
pub record EasedAnswer (tb ta : Trip) (a : State) : Type 0 where
  pub timed_plan : EasedJourney tb (plan_moves ta) a
  pub answer : State
  pub answered : answer_in tb ≡ some answer
  pub lowest : T (ranks_no_higher answer timed_plan.reached)
  pub no_later : answer.clock.0 ≤ timed_plan.reached.clock.0
  pub earlier : answer.clock.0 ≤ a.clock.0

module _ (tb ta : Trip) (eases : Eases tb ta) (starts : T (covers (start_in tb) (start_in ta))) (targets : tb.order.target ≡ ta.order.target) where
  -- A's journey is a legal journey in B that arrives no later
  pub eased_journey : {ms : List Move} {t : State} → Journey ta ms t → EasedJourney tb ms t
  unfolding at_target
  eased_journey j =
      let found = eased_leads tb ta eases starts j.leads in
      record { reached = found.0; journey = record { leads = found.1; ends = rw (covers_junction _ _ found.2, targets) j.ends }; over = found.2 }

  module _ (sound-a : SoundTrip ta) (sound-b : SoundTrip tb) where
    -- where A has an answer B has one, and it is no later than A's plan timed under B
    pub eased_answer : {a : State} → answer_in ta ≡ some a → EasedAnswer tb ta a
    eased_answer e =
        let plan = eased_journey (plan_journey ta sound-a e) in
        let found = some_answered tb sound-b plan.journey in
        let no_later = answer_earliest tb sound-b found.1 plan.journey in
        record {
          timed_plan = plan;
          answer = found.0;
          answered = found.1;
          lowest = answer_lowest tb sound-b found.1 plan.journey;
          no_later = no_later;
          earlier = omega (arith, no_later, covers_clock _ _ plan.over);
        }
