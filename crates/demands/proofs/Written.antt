-- What a run of planning that plans has written, decoded from the sheet's bytes. Assumes nothing.
use mathlib.Core.Path.{◌≡◌, refl, sym, ap, ◌∙◌}
use mathlib.Core.List.{List, map}
use mathlib.Core.Option.{Option, none, some}
use Prim.Native.Nat.{ℕ, ◌≤◌}
use native.Mathlib.Omega.{arith}
use lib.Dec.{T}
use lib.ListN.{length, take, drop}
use Rattle.std.specs.Prelude.{Result}
use Rattle.replies.specs.declared.Refusal.{Refusal}
use Rattle.replies.specs.declared.Plan.{Plan}
use Rattle.replies.specs.declared.Reply.{Reply}
use Rattle.replies.specs.Told.{succeeded, told_plan}
use Rattle.states.specs.declared.State.{State}
use Rattle.moves.specs.declared.Move.{Move}
use Rattle.moves.specs.Trip.{Trip}
use Rattle.moves.specs.Given.{Given, trip_from}
use Rattle.moves.proofs.Rising.{SoundTrip}
use Rattle.sheets.specs.declared.Heading.{Heading}
use Rattle.sheets.specs.Sheet.{heading_of, rows_of, sheet_needed, sheet_after, torn_sheet}
use Rattle.sheets.proofs.Reading.{length_after, prefix_heading, prefix_rows, length_prefix, prefix_untorn}
use Rattle.retiming.specs.Walk.{move_of}
use Rattle.retiming.specs.Retiming.{moves_on}
use Rattle.journeys.specs.Journeys.{start_in, Journey}
use Rattle.states.specs.States.{ranks_no_higher}
use Rattle.journeys.specs.Labels.{answer_in, label_count}
use Rattle.journeys.specs.Plan.{plan_moves, bytes_needed, rows_from, plan_rows, heading_at, planned_sheet}
use Rattle.states.specs.LabelSpace.{labels_that_fit}
use Rattle.journeys.proofs.Journeys.{leads_one}
use Rattle.journeys.proofs.Labels.{answer_lowest, answer_earliest}
use Rattle.journeys.proofs.Plan.{plan_journey}
use Rattle.journeys.proofs.Rows.{rows_moves, plan_rows_length}
use Rattle.journeys.proofs.Planning.{accepted_sound, planned_facts, plan_few, sheet_planned}
use Rattle.planner.specs.Planned.{Planned}
use Rattle.demands.specs.Runs.{AcceptedRun, Plans, moves_read, HoldsJourney, header_and_records}
use Rattle.demands.proofs.Said.{told}
use Rattle.demands.proofs.Decoded.{heading_read, count_read, rows_read, rest_stays}

-- the answer's state, the reply and the sheet of a run that plans
pub record Wrote (given : Given) (words sheet sheet' : List ℕ) (answer : Result Plan Refusal) : Type 0 where
  pub sound : SoundTrip (trip_from given)
  pub state : State
  pub answered : answer_in (trip_from given) ≡ some state
  pub room : label_count (trip_from given) ≤ labels_that_fit (length words)
  pub long : bytes_needed (trip_from given) ≤ length sheet
  pub told : told_plan answer ≡ succeeded (label_count (trip_from given)) state.clock.0
  pub written : sheet' ≡ sheet_after (heading_at (trip_from given) state) (plan_rows (trip_from given)) sheet

pub wrote : {given : Given} {words words' sheet sheet' : List ℕ} {answer : Result Plan Refusal} → AcceptedRun given → Planned given words words' sheet sheet' answer → Plans answer →
    Wrote given words sheet sheet' answer
wrote {given} {words} {words'} {sheet} accepted run plans =
    let trip : Trip = trip_from given in
    let fit : ℕ = labels_that_fit (length words) in
    let is = told accepted run in
    let facts = planned_facts trip fit (length sheet) (sym (ap (λ (r : Reply). r.number) is) ∙ plans) in
    record {
      sound = accepted_sound given accepted.mapped accepted.ordered;
      state = facts.answer;
      answered = facts.answered;
      room = facts.room;
      long = facts.long;
      told = is ∙ facts.told;
      written =
          run.bytes
          ∙ sheet_planned given fit sheet (sym (ap (λ (r : Reply). r.number) run.reply) ∙ plans)
          ∙ ap (λ (o : Option State). planned_sheet trip o sheet) facts.answered;
    }

module _ {given : Given} {words sheet sheet' : List ℕ} {answer : Result Plan Refusal} (w : Wrote given words sheet sheet' answer) where
  abbrev trip : Trip
  trip = trip_from given

  abbrev heading : Heading
  heading = heading_at trip w.state

  count : heading.moves ≡ length (plan_rows trip)
  count = sym (plan_rows_length trip)

  pub heading_written : heading_of sheet' ≡ heading
  heading_written = heading_read heading (plan_rows trip) sheet count w.written

  count_written : moves_on sheet' ≡ length (plan_rows trip)
  count_written = count_read heading (plan_rows trip) sheet count w.written

  rows_written : rows_of sheet' 1 (moves_on sheet') ≡ plan_rows trip
  rows_written = rows_read heading (plan_rows trip) sheet count w.written

  pub rest_written : drop (sheet_needed (moves_on sheet')) sheet' ≡ drop (sheet_needed (moves_on sheet')) sheet
  rest_written = rest_stays heading (plan_rows trip) sheet count w.written

  pub length_written : length sheet' ≡ length sheet
  length_written = ap length w.written ∙ length_after heading (plan_rows trip) sheet (omega (arith, w.long, count))

  pub moves_written : moves_read sheet' ≡ plan_moves trip
  unfolding plan_rows
  moves_written = ap (map move_of) rows_written ∙ rows_moves trip (start_in trip) (plan_moves trip)

  -- the sheet's bytes hold the legal journey to the answer
  pub holds_journey : HoldsJourney trip sheet' w.state
  unfolding plan_rows
  holds_journey =
      record {
        long = omega (arith, length_written, w.long, count_written, count);
        journey = rw moves_written (plan_journey trip w.sound w.answered);
        clocks = rows_written ∙ ap (rows_from trip (start_in trip)) (sym moves_written);
        arrival = ap (λ (h : Heading). h.arrival) heading_written;
        spell = ap (λ (h : Heading). h.spell) heading_written;
        shift = ap (λ (h : Heading). h.shift) heading_written;
        week = ap (λ (h : Heading). h.week) heading_written;
      }

  -- no legal journey arrives earlier
  pub none_earlier : {ms : List Move} {t : State} → Journey trip ms t → (told_plan answer).arrival ≤ t.clock.0
  none_earlier journey = omega (arith, ap (λ (r : Reply). r.arrival) w.told, answer_earliest trip w.sound w.answered journey)

  -- the journey that the sheet holds leads to the answer's state alone, and no legal journey ends in one that ranks below
  pub none_lower : {t u : State} {ms : List Move} → HoldsJourney trip sheet' t → Journey trip ms u → T (ranks_no_higher t u)
  none_lower held journey =
      rw (leads_one trip held.journey.leads holds_journey.journey.leads) (answer_lowest trip w.sound w.answered journey)

  -- the header and the M records alone
  kept_is : header_and_records sheet' ≡ take (sheet_needed (length (plan_rows trip))) (sheet_after heading (plan_rows trip) sheet)
  kept_is = rw (count_written, w.written) refl

  pub heading_kept : heading_of (header_and_records sheet') ≡ heading
  heading_kept = ap heading_of kept_is ∙ prefix_heading heading (plan_rows trip) sheet

  pub rows_kept : rows_of (header_and_records sheet') 1 (moves_on (header_and_records sheet')) ≡ plan_rows trip
  rows_kept =
      ap (rows_of (header_and_records sheet') 1) (ap (λ (h : Heading). h.moves) heading_kept ∙ sym (plan_rows_length trip))
      ∙ ap (λ (s : List ℕ). rows_of s 1 (length (plan_rows trip))) kept_is
      ∙ prefix_rows heading (plan_rows trip) sheet

  pub length_kept : length (header_and_records sheet') ≡ sheet_needed (moves_on sheet')
  length_kept = ap length kept_is ∙ length_prefix heading (plan_rows trip) sheet ∙ ap sheet_needed (sym count_written)

  pub kept_untorn : torn_sheet (header_and_records sheet') ≡ none
  kept_untorn =
      ap torn_sheet kept_is
      ∙ prefix_untorn heading (plan_rows trip) sheet (sym (plan_rows_length trip))
      (omega (arith, plan_rows_length trip, plan_few trip w.sound (length words) w.room w.answered))
