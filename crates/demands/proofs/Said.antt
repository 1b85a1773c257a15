-- What planning says of an accepted run. Assumes nothing.
use mathlib.Core.Path.{◌≡◌, refl, sym, ap, ◌∙◌}
use mathlib.Core.Bool.{Bool, true, false}
use mathlib.Core.List.{List}
use mathlib.Core.Logic.{⊎_elim, ◌↔◌}
use mathlib.Core.Option.{Option, none, some}
use Prim.Native.Nat.{ℕ, ◌≤◌, ◌<◌}
use native.Mathlib.Omega.{arith}
use borrow.Author.Tests.{ltb-true, ltb-false}
use lib.Dec.{eqb, ltb}
use lib.ListN.{length}
use Rattle.std.specs.Prelude.{Result}
use Rattle.replies.specs.declared.Refusal.{Refusal}
use Rattle.replies.specs.declared.Plan.{Plan}
use Rattle.booleans.proofs.Tests.{cases}
use Rattle.replies.specs.declared.Reply.{Reply}
use Rattle.replies.specs.First.{Test, NoneFits}
use Rattle.replies.specs.Told.{refused_at, told_plan}
use Rattle.replies.proofs.First.{none_told, none_before, none_behind}
use Rattle.roadmap.specs.Format.{junction_count, road_count}
use Rattle.mapcheck.specs.MapCheck.{map_tests}
use Rattle.driving.specs.Order.{order_tests}
use Rattle.bans.specs.BanList.{ban_tests}
use Rattle.theory.specs.Lists.{memb}
use Rattle.states.specs.declared.State.{State}
use Rattle.moves.specs.declared.Move.{Move}
use Rattle.moves.specs.Trip.{Trip}
use Rattle.moves.specs.Given.{Given, trip_from}
use Rattle.moves.specs.RunTests.{opening_tests, run_tests}
use Rattle.moves.proofs.Rising.{SoundTrip}
use Rattle.journeys.specs.Journeys.{Journey}
use Rattle.journeys.specs.Labels.{answer_in, label_count}
use Rattle.journeys.specs.Plan.{bytes_needed}
use Rattle.journeys.specs.Planning.{before_search, search_tests, planned, plan_reply, search_reply}
use Rattle.states.specs.LabelSpace.{labels_that_fit}
use Rattle.journeys.proofs.Labels.{none_answered, no_journey}
use Rattle.journeys.proofs.Planning.{accepted_sound, reply_accepted, full_exactly, no_road_exactly, reply_full, reply_no_road, reply_short, reply_planned}
use Rattle.planner.specs.Planned.{Planned}
use Rattle.demands.specs.Runs.{AcceptedRun, Plans, SaysFull, SaysNoRoad}

abbrev early : ℕ → Bool
early number = memb eqb number before_search

-- a run that none of its tests refuses is accepted
pub run_accepted : {given : Given} → NoneFits (run_tests given) → AcceptedRun given
run_accepted {given} all =
    let orders : List Test = order_tests (junction_count given.map) given.order in
    let lists : List Test = ban_tests (road_count given.map) given.bans in
    let opened = none_before (opening_tests given.map given.order) lists all in
    record {
      mapped = none_before (map_tests given.map) orders opened;
      ordered = none_behind (map_tests given.map) orders opened;
      listed = none_behind (opening_tests given.map given.order) lists all;
    }

-- a reply that follows a search says that the map, the order and the list are accepted
pub accepted_by : {given : Given} {words words' sheet sheet' : List ℕ} {answer : Result Plan Refusal} → Planned given words words' sheet sheet' answer →
    early (told_plan answer).number ≡ false → AcceptedRun given
unfolding memb plan_reply
accepted_by {given} {words} {words'} {sheet} run late =
    let trip : Trip = trip_from given in
    let late_tests_lem : List Test = search_tests trip (labels_that_fit (length words)) (length sheet) in
    run_accepted (none_told early (run_tests given) late_tests_lem (planned trip) tt (rw run.reply at late))

module _ {given : Given} {words words' sheet sheet' : List ℕ} {answer : Result Plan Refusal}
    (accepted : AcceptedRun given) (run : Planned given words words' sheet sheet' answer) where
  abbrev trip : Trip
  trip = trip_from given

  abbrev fit : ℕ
  fit = labels_that_fit (length words)

  sound : SoundTrip trip
  sound = accepted_sound given accepted.mapped accepted.ordered

  -- what is told is what the search tells
  pub told : told_plan answer ≡ search_reply trip fit (length sheet)
  told = run.reply ∙ reply_accepted given fit (length sheet) accepted.mapped accepted.ordered accepted.listed

  number_told : (told_plan answer).number ≡ (search_reply trip fit (length sheet)).number
  number_told = ap (λ (r : Reply). r.number) told

  pub full_said : SaysFull answer ↔ (fit < label_count trip)
  full_said =
      let exactly = full_exactly trip fit (length sheet) in
      (λ e. exactly.0 (sym number_told ∙ e), λ h. number_told ∙ exactly.1 h)

  pub full_place : SaysFull answer → (told_plan answer).place ≡ fit
  full_place e = ap (λ (r : Reply). r.place) (told ∙ reply_full trip fit (length sheet) (full_said.0 e))

  -- a run that does not say "full" has room for its labels
  room_left : ¬ SaysFull answer → label_count trip ≤ fit
  room_left not_full =
      ⊎_elim
      (λ (above : ltb fit (label_count trip) ≡ true). absurd (not_full (full_said.1 (ltb-true _ _ above))))
      (λ (room : ltb fit (label_count trip) ≡ false). ltb-false _ _ room)
      (cases (ltb fit (label_count trip)))

  module _ (not_full : ¬ SaysFull answer) where
    pub no_road_said : SaysNoRoad answer ↔ ((ms : List Move) (t : State) → ¬ Journey trip ms t)
    no_road_said =
        let exactly = no_road_exactly trip fit (length sheet) sound (room_left not_full) in
        (λ e. exactly.0 (sym number_told ∙ e), λ f. number_told ∙ exactly.1 f)

    module _ (some-road : ¬ SaysNoRoad answer) where
      answered : (a : State) × (answer_in trip ≡ some a)
      answered = by (answer_in trip) refl
        where
          by : (o : Option State) → answer_in trip ≡ o → (a : State) × (answer_in trip ≡ some a)
          by none e = absurd (some-road (no_road_said.1 (none_answered trip sound e)))
          by (some a) e = (a, e)

      pub plans_said : bytes_needed trip ≤ length sheet → Plans answer
      plans_said long = number_told ∙ ap (λ (r : Reply). r.number) (reply_planned trip fit (length sheet) (room_left not_full) answered.1 long)

      pub short_said : length sheet < bytes_needed trip → told_plan answer ≡ refused_at 14 (bytes_needed trip)
      short_said short = told ∙ reply_short trip fit (length sheet) (room_left not_full) answered.1 short

  pub no_road_place : SaysNoRoad answer → (told_plan answer).place ≡ label_count trip
  no_road_place e =
      let not_full : ¬ SaysFull answer = λ full. omega (arith, full) in
      ap (λ (r : Reply). r.place) (told ∙ reply_no_road trip fit (length sheet) (room_left not_full) (no_journey trip sound ((no_road_said not_full).0 e)))
