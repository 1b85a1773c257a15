-- The user's three demands as theorems over the operations' contracts, and what the documents say beside them. Assumes nothing.
-- The user's words, and the documents', stand in quotes above what says them. The contracts: `Planned` (planner), `Retimed` (retiming),
-- `ChainMaking` (mapedit), `Striking` (striking), `Previewed` (planner), `Replayed` (replay) and, for the other operations, the equation of
-- what is told.
use mathlib.Core.Path.{◌≡◌, refl, sym, ap, ◌∙◌}
use mathlib.Core.Bool.{Bool, true, false, ◌||◌}
use mathlib.Core.List.{List, [], ◌∷◌, ◌++◌}
use mathlib.Core.Logic.{◌↔◌}
use mathlib.Core.Option.{none}
use Prim.Native.Nat.{ℕ, ◌+◌, ◌≤◌, ◌<◌}
use native.Mathlib.Omega.{arith}
use borrow.Author.Tests.{eq-eqb, ne_eqb}
use lib.Dec.{T, eqb}
use lib.ListN.{length, take, drop, get_or}
use Rattle.std.specs.Prelude.{Result}
use Rattle.replies.specs.declared.Refusal.{Refusal}
use Rattle.replies.specs.declared.Timed.{Timed}
use Rattle.replies.specs.declared.Plan.{Plan}
use Rattle.replies.specs.declared.Reply.{Reply}
use Rattle.replies.specs.First.{Test, ◌at◌, first_of}
use Rattle.replies.specs.Told.{succeeded, refused_at, told_check, told_name, told_timing, told_plan, told_replaying}
use Rattle.booleans.specs.Pick.{pick}
use Rattle.roadmap.specs.Format.{road_count, name_length, road_from, road_to}
use Rattle.mapcheck.specs.MapCheck.{map_tests, chaining_tests, AcceptedMap}
use Rattle.mapcheck.specs.Lettered.{bad_word}
use Rattle.striking.specs.Striking.{to_at, struck, striking_tests, striking_reply, after_striking, Striking}
use Rattle.mapedit.specs.Name.{unknown_name, name_reply, name_at, name_part}
use Rattle.mapedit.specs.Chaining.{chained, chaining_reply, after_chaining, ChainMaking}
use Rattle.driving.specs.declared.Figures.{Figures}
use Rattle.driving.specs.declared.Rules.{Rules}
use Rattle.driving.specs.Accepted.{FiguresRise}
use Rattle.driving.specs.Order.{bad_figures}
use Rattle.bans.specs.BanList.{ban_tests}
use Rattle.replay.specs.Trace.{record_count, records_of}
use Rattle.replay.specs.Replay.{up_to_date, torn_trace, replay_tests, Replayed}
use Rattle.replay.specs.InTurn.{none_goes_on, behind}
use Rattle.states.specs.declared.State.{State}
use Rattle.moves.specs.declared.Move.{Move}
use Rattle.moves.specs.Trip.{Trip, trip_of}
use Rattle.moves.specs.Given.{Given, on_map, order_from, trip_from}
use Rattle.moves.specs.RunTests.{opening_tests, order_check_tests}
use Rattle.sheets.specs.declared.Heading.{Heading}
use Rattle.sheets.specs.Sheet.{heading_of, sheet_needed}
use Rattle.retiming.specs.Retiming.{moves_on, timing, retiming_tests, audit_tests, audit_reply, Retimed}
use Rattle.theory.specs.Lists.{memb}
use Rattle.journeys.specs.Journeys.{start_in, Reached, Journey, total_seconds, total_queues}
use Rattle.states.specs.States.{ranks_no_higher}
use Rattle.journeys.specs.Labels.{label_count}
use Rattle.journeys.specs.Plan.{bytes_needed}
use Rattle.journeys.specs.Planning.{before_search, search_tests, plan_tests, plan_reply, plan_sheet}
use Rattle.states.specs.LabelSpace.{labels_that_fit}
use Rattle.journeys.specs.Compared.{EasierRun}
use Rattle.retiming.proofs.Audited.{retiming_numbered, audit_numbered}
use Rattle.journeys.proofs.Journeys.{leads_clock, reached_rise}
use Rattle.journeys.proofs.Planning.{accepted_sound, sheet_refused, reply_any_fit, sheet_any_fit}
use Rattle.planner.specs.Planned.{Planned}
use Rattle.planner.specs.Preview.{struck_given, closure_tests, preview_sheet, Previewed}
use Rattle.planner.proofs.Previewing.{preview_listed}
use Rattle.demands.specs.Refused.{RepliesBy}
use Rattle.demands.specs.Counted.{CountsLabels}
use Rattle.demands.specs.Runs.{AcceptedRun, Plans, SaysFull, SaysNoRoad, moves_read, HoldsJourney, header_and_records, TimedAfresh}
use Rattle.demands.specs.LinkBytes.{InWord, LinkByte}
use Rattle.demands.specs.Letters.{AllLetters}
use Rattle.booleans.proofs.Tests.{or_false}
use Rattle.demands.proofs.Refusals.{replies_by, by_number}
use Rattle.demands.proofs.Counted.{counts_labels}
use Rattle.demands.proofs.Said.{accepted_by, full_said, full_place, no_road_said, no_road_place, plans_said, short_said}
use Rattle.demands.proofs.Chained.{length_chained, chained_passes, chained_else}
use Rattle.replay.proofs.Replays.{left_refused}
use Rattle.demands.proofs.Replayed.{told_accepted, left_accepted, sound_left, told_in_turn, left_in_turn, told_first}
use Rattle.demands.proofs.Retimed.{state, same_moves, same_labels, rest_retimed, length_retimed, told_retimed, retimed_holds, retimed_passes}
use Rattle.demands.proofs.Audited.{reached_by, audited_holds, audited_told}
use Rattle.demands.proofs.Written.{Wrote, wrote, rest_written, length_written, heading_written, holds_journey, none_earlier, none_lower}
use Rattle.demands.proofs.Afresh.{Afresh, afresh}
use Rattle.demands.proofs.Letters.{letters_exactly}
use Rattle.demands.proofs.Struck.{told_struck, leads_back, length_struck, struck_else, still_passes, as_planned, as_refused, no_earlier, never_no_road}

-- DEMAND 1.

-- "Every operation ends and does nothing undefined, for all maps, orders, sheets and lent space": Rattle proves of every function that it ends
-- and does nothing undefined wherever its `requires` hold, and no operation has one (docs/ARCHITECTURE.md, "The operations", lists them).

-- "bad input gets its number and place from document 01": each refusal of the operation's list is told, with its place, exactly when it
-- fits and none before it in the list does
pub map_check_replies : (map : List ℕ) (answer : Result (Unit {0}) Refusal) → told_check answer ≡ first_of (map_tests map) (succeeded 0 0) → RepliesBy (map_tests map) (told_check answer)
map_check_replies map answer told = replies_by (map_tests map) _ refl tt told

-- document 02, P8: "Refused: 25 bad ban list, .. after 11 and 24."
pub order_check_replies : (junctions roads : ℕ) (order bans : List ℕ) (answer : Result (Unit {0}) Refusal) → told_check answer ≡ first_of (order_check_tests junctions roads order bans) (succeeded 0 0) →
    RepliesBy (order_check_tests junctions roads order bans) (told_check answer)
order_check_replies junctions roads order bans answer told = replies_by (order_check_tests junctions roads order bans) _ refl tt told

pub name_replies : (map : List ℕ) (junction : ℕ) (answer : Result ℕ Refusal) → told_name answer ≡ name_reply map junction →
    RepliesBy (map_tests map ++ (20 at unknown_name map junction) ∷ []) (told_name answer)
unfolding name_reply
name_replies map junction answer told = replies_by (map_tests map ++ (20 at unknown_name map junction) ∷ []) _ refl tt told

-- "the answer is the part of the lent map that spells that junction's name"; "whenever that reply refuses, the part is empty."
module _ (map : List ℕ) (junction : ℕ) (answer : Result ℕ Refusal) {part : List ℕ} (told : told_name answer ≡ name_reply map junction) (handed : part ≡ name_part map junction) where
  pub name_spells : (told_name answer).number ≡ 0 → part ≡ take (name_length map junction) (drop (name_at map junction) map)
  unfolding name_part
  name_spells named = handed ∙ rw (eq-eqb _ _ (ap (λ (r : Reply). r.number) (sym told) ∙ named)) refl

  pub name_empty : ¬ ((told_name answer).number ≡ 0) → part ≡ []
  unfolding name_part
  name_empty refused = handed ∙ rw (ne_eqb _ _ (λ e. refused (ap (λ (r : Reply). r.number) told ∙ e))) refl

-- Document 02, P4: "It should take four bytes as one word"; "Show for every word that its test passes exactly when all four bytes are 0x20 to 0x7E."
-- The map check has a test for a word and one for two (`word_is_bad` and `pair_is_bad` of mapcheck); a test passes where it finds nothing bad.
pub word_test_passes : (word : ℕ) → word < 4294967296 → (bad : Bool) → bad ≡ bad_word word → (bad ≡ false) ↔ AllLetters word
word_test_passes word is_word bad tested = let (told, passes) = letters_exactly word is_word in (λ e. told (sym tested ∙ e), λ letters. tested ∙ passes letters)

pub pair_test_passes : (first second : ℕ) → first < 4294967296 → second < 4294967296 → (bad : Bool) → bad ≡ (bad_word first || bad_word second) →
    (bad ≡ false) ↔ (AllLetters first × AllLetters second)
pair_test_passes first second is-first is_second bad tested = (
  λ e. let both = or_false (sym tested ∙ e) in ((letters_exactly first is-first).0 both.0, (letters_exactly second is_second).0 both.1),
  λ letters. tested ∙ rw ((letters_exactly first is-first).1 letters.0, (letters_exactly second is_second).1 letters.1) refl,
)

pub audit_replies : (given : Given) (sheet : List ℕ) (answer : Result Timed Refusal) → told_timing answer ≡ audit_reply given sheet →
    RepliesBy (audit_tests given sheet (timing true (trip_from given) sheet)) (told_timing answer)
audit_replies given sheet answer told = replies_by (audit_tests given sheet (timing true (trip_from given) sheet)) _ refl (audit_numbered given sheet) told

-- "Audit: retiming without writing, comparing clocks and header": the bytes of a sheet that passes hold a legal journey with true figures, whose
-- arrival is the reply's
module _ (given : Given) (sheet : List ℕ) (answer : Result Timed Refusal) (told : told_timing answer ≡ audit_reply given sheet) (done : (told_timing answer).number ≡ 0) where
  pub audit_holds : (t : State) × HoldsJourney (trip_from given) sheet t × ((told_timing answer).arrival ≡ t.clock.0)
  audit_holds =
      let passed = rw told at done in
      (reached_by given sheet passed, audited_holds given sheet passed, ap (λ (r : Reply). r.arrival) (told ∙ audited_told given sheet passed))

  -- "Arrival less departure is the sum of its road times, breaks and rests." A part "counts as a break" (document 02, P5), and a weekly rest as a
  -- rest (P7); "arrival less departure gains the queues" (P8)
  pub audit_seconds : (told_timing answer).arrival ≡ (order_from given).departure.0 + (total_seconds (trip_from given) (moves_read sheet) + total_queues (trip_from given) (start_in (trip_from given)) (moves_read sheet))
  unfolding trip_of
  audit_seconds = audit_holds.2 ∙ leads_clock (trip_from given) audit_holds.1.journey.leads

module _ {map map' : List ℕ} {answer : Result (Unit {0}) Refusal} (made : ChainMaking map map' answer) where
  pub chain_making_replies : RepliesBy (chaining_tests map) (told_check answer)
  unfolding chaining_reply
  chain_making_replies = replies_by (chaining_tests map) _ refl tt made.reply

  -- a refusal changes no map byte
  pub chain_making_leaves : ¬ ((told_check answer).number ≡ 0) → map' ≡ map
  unfolding after_chaining
  chain_making_leaves refused = made.bytes ∙ ap (λ (b : Bool). pick b (chained map) map) (ne_eqb _ _ (λ e. refused (ap (λ (r : Reply). r.number) made.reply ∙ e)))

  -- "nothing else changes": the map keeps its length, and every byte that is none of first or next
  pub chain_making_length : length map' ≡ length map
  chain_making_length = by_number (told_check answer).number (length_chained made) (λ refused. ap length (chain_making_leaves refused))

  pub chain_making_keeps : (p : ℕ) → ¬ LinkByte map p → get_or map' p 0 ≡ get_or map p 0
  chain_making_keeps p no-link =
      by_number (told_check answer).number (λ done. chained_else made done p no-link) (λ refused. ap (λ (s : List ℕ). get_or s p 0) (chain_making_leaves refused))

  -- "and the map passes."
  pub chain_making_passes : (told_check answer).number ≡ 0 → AcceptedMap map'
  chain_making_passes = chained_passes made

-- Document 02, P6: "Striking a road"
module _ {map map' : List ℕ} {road : ℕ} {answer : Result (Unit {0}) Refusal} (run : Striking map road map' answer) where
  pub striking_replies : RepliesBy (striking_tests map road) (told_check answer)
  unfolding striking_reply
  striking_replies = replies_by (striking_tests map road) _ refl tt run.reply

  -- a refusal changes no map byte
  pub striking_leaves : ¬ ((told_check answer).number ≡ 0) → map' ≡ map
  unfolding after_striking
  striking_leaves refused = run.bytes ∙ ap (λ (b : Bool). pick b (struck map road) map) (ne_eqb _ _ (λ e. refused (ap (λ (r : Reply). r.number) run.reply ∙ e)))

  -- "sets its to-junction to its from-junction in the map,"
  pub striking_loops : (told_check answer).number ≡ 0 → road_to map' road ≡ road_from map road
  striking_loops = leads_back run

  -- "changes nothing else": the map keeps its length, and every byte that is none of that to-junction's four
  pub striking_length : length map' ≡ length map
  striking_length = by_number (told_check answer).number (length_struck run) (λ refused. ap length (striking_leaves refused))

  pub striking_keeps : (p : ℕ) → ¬ InWord (to_at map road) p → get_or map' p 0 ≡ get_or map p 0
  striking_keeps p outside =
      by_number (told_check answer).number (λ done. struck_else run done p outside) (λ refused. ap (λ (s : List ℕ). get_or s p 0) (striking_leaves refused))

  -- "and replies 0, 0, 0."
  pub striking_tells : (told_check answer).number ≡ 0 → told_check answer ≡ succeeded 0 0
  striking_tells = told_struck run

  -- the map still passes the map check
  pub striking_passes : (told_check answer).number ≡ 0 → AcceptedMap map'
  striking_passes = still_passes run

-- Document 02, P3: "We want them replayed from a trace"; P5: "The mark joins the lent figures and starts as lent."; P7: "The week joins the
-- replay's lent figures".
module _ {trace : List ℕ} {rules : Rules} {before after : Figures} {answer : Result ℕ Refusal} (replayed : Replayed trace rules before after answer) where
  pub replay_replies : RepliesBy (replay_tests trace rules before) (told_replaying answer)
  replay_replies = replies_by (replay_tests trace rules before) _ refl tt replayed.reply

  -- "a refused trace leaves them as at the start,"
  pub replay_leaves : ¬ ((told_replaying answer).number ≡ 0) → after ≡ before
  replay_leaves refused = left_refused replayed refused

  module _ (done : (told_replaying answer).number ≡ 0) where
    -- "and an accepted one replies 0, records, 0."
    pub replay_tells : told_replaying answer ≡ succeeded (record_count trace) 0
    replay_tells = told_accepted replayed done

    -- "brought up to date by each activity", neighbouring pauses as one
    pub replay_updates : after ≡ up_to_date rules (records_of trace) before
    replay_updates = left_accepted replayed done

    -- the figures that it leaves are such as the next trace, or without the mark an order, may start with
    pub replay_sound : bad_figures after rules ≡ none
    replay_sound = sound_left replayed done

-- A trace and then another from the figures that it left: the same as both in one, where the first does not end in a pause or the second does
-- not begin with one.
module _ {one two : List ℕ} {rules : Rules} {before between after after_both : Figures} {first second both : Result ℕ Refusal}
    (replayed-one : Replayed one rules before between first) (replayed-two : Replayed two rules between after second) (replayed-both : Replayed (one ++ two) rules before after_both both) where
  module _ (done : (told_replaying first).number ≡ 0) (apart : T (none_goes_on (records_of one) (records_of two))) where
    -- the reply is the second's, with what the first has before it
    pub replay_in_turn : told_replaying both ≡ behind one (told_replaying second)
    replay_in_turn = told_in_turn replayed-one replayed-two replayed-both done apart

    pub replay_in_turn_updates : (told_replaying second).number ≡ 0 → after_both ≡ after
    replay_in_turn_updates = left_in_turn replayed-one replayed-two replayed-both done apart

  -- and where the first is refused, both are refused likewise: also where a pause goes on
  pub replay_in_turn_refused : ¬ ((told_replaying first).number ≡ 0) → torn_trace one ≡ none → torn_trace two ≡ none → told_replaying both ≡ told_replaying first
  replay_in_turn_refused = told_first two replayed-one replayed-both

module _ {given : Given} {sheet out out' : List ℕ} {answer : Result Timed Refusal} (retimed : Retimed given sheet out out' answer) where
  pub retiming_replies : RepliesBy (retiming_tests given sheet out (timing false (trip_from given) sheet)) (told_timing answer)
  retiming_replies = replies_by (retiming_tests given sheet out (timing false (trip_from given) sheet)) _ refl (retiming_numbered given sheet out) retimed.reply

  -- "a refusal leaves the sheet's bytes untouched"
  pub retiming_leaves : ¬ ((told_timing answer).number ≡ 0) → out' ≡ out
  retiming_leaves refused = retimed.bytes ∙ rw (ne_eqb _ _ (λ e. refused (ap (λ (r : Reply). r.number) retimed.reply ∙ e))) refl

  -- the other sheet keeps its length
  pub retiming_length : length out' ≡ length out
  retiming_length = by_number (told_timing answer).number (length_retimed retimed) (λ refused. ap length (retiming_leaves refused))

  module _ (done : (told_timing answer).number ≡ 0) where
    -- "writes the same moves with true figures, N copied, to another sheet": its bytes hold a legal journey, whose arrival is the reply's
    pub retiming_writes : (t : State) × HoldsJourney (trip_from given) out' t × ((told_timing answer).arrival ≡ t.clock.0)
    retiming_writes = (state retimed done, retimed_holds retimed done, ap (λ (r : Reply). r.arrival) (told_retimed retimed done))

    pub retiming_copies : (moves_read out' ≡ moves_read sheet) × ((heading_of out').labels ≡ (heading_of sheet).labels)
    retiming_copies = (same_moves retimed done, same_labels retimed done)

    -- "Bytes after 20 + 12M stay.", since document 02 (P7) those after 24 + 12M
    pub retiming_keeps : drop (sheet_needed (moves_on out')) out' ≡ drop (sheet_needed (moves_on out')) out
    retiming_keeps = rest_retimed retimed done

    -- arrival less departure, as of a plan
    pub retiming_seconds : (told_timing answer).arrival ≡ (order_from given).departure.0 + (total_seconds (trip_from given) (moves_read out') + total_queues (trip_from given) (start_in (trip_from given)) (moves_read out'))
    unfolding trip_of
    retiming_seconds = retiming_writes.2 ∙ leads_clock (trip_from given) retiming_writes.1.journey.leads

    -- its header and M records pass the audit, with the same reply
    pub retiming_audited : (audited : Result Timed Refusal) → told_timing audited ≡ audit_reply given (header_and_records out') → told_timing audited ≡ told_timing answer
    retiming_audited audited told = told ∙ retimed_passes retimed done

module _ {given : Given} {words words' sheet sheet' : List ℕ} {answer : Result Plan Refusal} (run : Planned given words words' sheet sheet' answer) where
  abbrev trip : Trip
  trip = trip_from given

  abbrev fit : ℕ
  fit = labels_that_fit (length words)

  pub planning_replies : RepliesBy (plan_tests given fit (length sheet)) (told_plan answer)
  unfolding plan_reply
  planning_replies = replies_by (plan_tests given fit (length sheet)) _ refl tt run.reply

  -- "a refusal leaves the sheet's bytes untouched"
  pub planning_leaves : ¬ Plans answer → sheet' ≡ sheet
  planning_leaves refused = run.bytes ∙ sheet_refused given fit sheet (λ e. refused (ap (λ (r : Reply). r.number) run.reply ∙ e))

  wrote_plan : Plans answer → Wrote given words sheet sheet' answer
  unfolding memb
  wrote_plan plans = wrote (accepted_by run (rw plans refl)) run plans

  -- the sheet keeps its length
  pub planning_length : length sheet' ≡ length sheet
  planning_length = by_number (told_plan answer).number (λ plans. length_written (wrote_plan plans)) (λ refused. ap length (planning_leaves refused))

  -- "Bytes after 20 + 12M stay.", since document 02 (P7) those after 24 + 12M
  pub planning_keeps : Plans answer → drop (sheet_needed (moves_on sheet')) sheet' ≡ drop (sheet_needed (moves_on sheet')) sheet
  planning_keeps plans = rest_written (wrote_plan plans)

  -- "the label space changes only once a search has begun": the refusals before it leave every word of it
  pub planning_leaves_labels : T (memb eqb (told_plan answer).number before_search) → words' ≡ words
  planning_leaves_labels = run.kept

  -- DEMAND 2.

  -- "A plan obeys the roads, car parks, limits and pauses of document 01": the records that the sheet's bytes hold are a legal journey with true
  -- figures, and its arrival is the reply's
  pub plan_obeys : Plans answer → (t : State) × HoldsJourney trip sheet' t × ((told_plan answer).arrival ≡ t.clock.0)
  plan_obeys plans = let w = wrote_plan plans in (w.state, holds_journey w, ap (λ (r : Reply). r.arrival) w.told)

  -- "Arrival less departure is the sum of its road times, breaks and rests." A part "counts as a break" (document 02, P5), and a weekly rest as a
  -- rest (P7); "arrival less departure gains the queues" (P8)
  pub plan_seconds : Plans answer → (told_plan answer).arrival ≡ (order_from given).departure.0 + (total_seconds trip (moves_read sheet') + total_queues trip (start_in trip) (moves_read sheet'))
  unfolding trip_of
  plan_seconds plans = (plan_obeys plans).2 ∙ leads_clock trip (plan_obeys plans).1.journey.leads

  -- "and no legal journey arrives earlier."
  pub plan_earliest : Plans answer → (ms : List Move) (t : State) → Journey trip ms t → (told_plan answer).arrival ≤ t.clock.0
  plan_earliest plans ms t journey = none_earlier (wrote_plan plans) journey

  -- "The answer's state is the lowest-ranked reachable one at target.": no legal journey ends in a state that ranks below the end of the sheet's
  pub plan_lowest : Plans answer → (t : State) → HoldsJourney trip sheet' t → (ms : List Move) (u : State) → Journey trip ms u → T (ranks_no_higher t u)
  plan_lowest plans t held ms u journey = none_lower (wrote_plan plans) held journey

  module _ (accepted : AcceptedRun given) where
    -- "For an accepted map and order, 'full' is said exactly when the label count of document 01 exceeds the label space;"
    pub full_exactly : SaysFull answer ↔ (fit < label_count trip)
    full_exactly = full_said accepted run

    -- "otherwise 'no road' is said exactly when no legal journey exists,"
    pub no_road_exactly : ¬ SaysFull answer → SaysNoRoad answer ↔ ((ms : List Move) (t : State) → ¬ Journey trip ms t)
    no_road_exactly not_full = no_road_said accepted run not_full

    -- "and every other run plans if its sheet is long enough." If not, it is told how many bytes are needed.
    pub others_plan : ¬ SaysFull answer → ¬ SaysNoRoad answer → bytes_needed trip ≤ length sheet → Plans answer
    others_plan not_full some-road = plans_said accepted run not_full some-road

    pub others_short : ¬ SaysFull answer → ¬ SaysNoRoad answer → length sheet < bytes_needed trip → told_plan answer ≡ refused_at 14 (bytes_needed trip)
    others_short not_full some-road = short_said accepted run not_full some-road

    -- the label count of document 01: how many distinct reachable undominated states rank no higher than the answer's; with no journey, all of them
    pub label_count_lem : (n : ℕ) → CountsLabels trip n ↔ (n ≡ label_count trip)
    label_count_lem = counts_labels trip (accepted_sound given accepted.mapped accepted.ordered)

    -- spell ≤ shift ≤ week holds in every reachable state (document 02, P7)
    pub figures_rise : (s : State) → Reached trip s → FiguresRise s.figures
    figures_rise s reached = reached_rise trip (accepted_sound given accepted.mapped accepted.ordered) reached

  -- "full" is told with the labels that fit
  pub full_told : SaysFull answer → (told_plan answer).place ≡ fit
  unfolding memb
  full_told full = full_place (accepted_by run (rw full refl)) run full

  -- "The N that planning reports is that label count.": in the reply of a plan, in its sheet, and with "no road"
  pub count_planned : Plans answer → ((told_plan answer).place ≡ label_count trip) × ((heading_of sheet').labels ≡ label_count trip)
  count_planned plans = let w = wrote_plan plans in (ap (λ (r : Reply). r.place) w.told, ap (λ (h : Heading). h.labels) (heading_written w))

  pub count_no_road : SaysNoRoad answer → (told_plan answer).place ≡ label_count trip
  unfolding memb
  count_no_road says_no_road = no_road_place (accepted_by run (rw says_no_road refl)) run says_no_road

-- DEMAND 3.

-- "Take any two planning runs A and B with accepted maps and orders that share the junctions, the numbers and ends of the roads, source, target,
-- departure and latest arrival. Suppose that in B no road takes longer, no limit is lower, no break or rest is longer, no starting figure is
-- higher, and each car park of A is one." Document 02, P5: "where A has a split so has B, with parts no longer than A's." P7: "week limit is one
-- of the limits, week figure one of the starting figures, and B's weekly rest is no longer than A's." P8: "Two compared runs share the clock, and
-- B's banned roads are among A's." "Whenever A plans,"
module _ {a b : Given} (accepted-a : AcceptedRun a) (accepted-b : AcceptedRun b) (easier : EasierRun b a)
    {wordsA wordsA' sheetA sheetA' : List ℕ} {answerA : Result Plan Refusal} (run-a : Planned a wordsA wordsA' sheetA sheetA' answerA) (plans-a : Plans answerA) where
  under_b : Afresh b sheetA' answerA
  under_b = afresh accepted-a accepted-b easier run-a plans-a

  -- "A's moves timed afresh under B are legal and arrive no later than A."
  pub timed_afresh : {out out' : List ℕ} {answer : Result Timed Refusal} → TimedAfresh b sheetA' out out' answer →
      ((told_timing answer).number ≡ 0) × ((told_timing answer).place ≡ moves_on sheetA') × ((told_timing answer).arrival ≤ (told_plan answerA).arrival)
  timed_afresh timed =
      let told = under_b.told timed in
      (ap (λ (r : Reply). r.number) told, ap (λ (r : Reply). r.place) told, omega (arith, ap (λ (r : Reply). r.arrival) told, under_b.no_later))

  module _ {wordsB wordsB' sheetB sheetB' : List ℕ} {answerB : Result Plan Refusal} (run-b : Planned b wordsB wordsB' sheetB sheetB' answerB) where
    -- "B then never says 'no road',"
    pub easier_never_no_road : ¬ SaysNoRoad answerB
    easier_never_no_road says_no_road = (no_road_said accepted-b run-b (λ full. omega (arith, full))).0 says_no_road _ _ under_b.journey

    -- "and says 'full' exactly when B's own label count exceeds B's label space."
    pub easier_full_exactly : SaysFull answerB ↔ (labels_that_fit (length wordsB) < label_count (trip_from b))
    easier_full_exactly = full_said accepted-b run-b

    -- "If B isn't full and its sheet is long enough, B plans,"
    pub easier_plans : ¬ SaysFull answerB → bytes_needed (trip_from b) ≤ length sheetB → Plans answerB
    easier_plans not_full = plans_said accepted-b run-b not_full easier_never_no_road

    -- "and arrives no later than those moves timed afresh."
    pub easier_no_later : Plans answerB → {out out' : List ℕ} {answer : Result Timed Refusal} → TimedAfresh b sheetA' out out' answer →
        (told_plan answerB).arrival ≤ (told_timing answer).arrival
    easier_no_later plans-b timed =
        omega (arith, ap (λ (r : Reply). r.arrival) (under_b.told timed), none_earlier (wrote accepted-b run-b plans-b) under_b.journey)

not_full_told : {given : Given} {words words' sheet sheet' : List ℕ} {answer : Result Plan Refusal} → Planned given words words' sheet sheet' answer → ¬ SaysFull answer →
    ¬ ((plan_reply given (labels_that_fit (length words)) (length sheet)).number ≡ 12)
not_full_told run not_full e = not_full (ap (λ (r : Reply). r.number) run.reply ∙ e)

-- "Also, for any two planning runs that differ only in label space, where neither says 'full', their answers are equal and so is every byte of
-- their sheets."
pub any_label_space : {given : Given} {words₁ words₁' words₂ words₂' sheet sheet₁' sheet₂' : List ℕ} {answer₁ answer₂ : Result Plan Refusal} →
    Planned given words₁ words₁' sheet sheet₁' answer₁ → Planned given words₂ words₂' sheet sheet₂' answer₂ → ¬ SaysFull answer₁ → ¬ SaysFull answer₂ →
    (told_plan answer₁ ≡ told_plan answer₂) × (sheet₁' ≡ sheet₂')
any_label_space {given} {sheet = sheet} run₁ run₂ not-full₁ not-full₂ =
    let one = not_full_told run₁ not-full₁ in
    let two = not_full_told run₂ not-full₂ in
    (run₁.reply ∙ reply_any_fit given _ _ (length sheet) one two ∙ sym run₂.reply, run₁.bytes ∙ sheet_any_fit given _ _ sheet one two ∙ sym run₂.bytes)

-- PREVIEW OF A CLOSURE. Document 02, P6.

module _ {given : Given} {road : ℕ} {words words' sheet sheet' : List ℕ} {answer : Result Plan Refusal} (run : Previewed given road words words' sheet sheet' answer) where
  -- the refusals in order: 1 to 11, "24 unknown road .. after 11 in the preview", 25 "after 11 and 24" (P8), then 12 to 14 of the map so struck
  abbrev preview_tests : List Test
  preview_tests =
      closure_tests given road
      ++ (ban_tests (road_count given.map) given.bans ++ search_tests (trip_from (struck_given given road)) (labels_that_fit (length words)) (length sheet))

  pub preview_replies : RepliesBy preview_tests (told_plan answer)
  preview_replies = replies_by preview_tests _ refl tt (run.reply ∙ preview_listed given road words sheet)

  -- a refusal leaves the sheet's bytes untouched, and one before the search every word of the label space
  pub preview_leaves : ¬ Plans answer → sheet' ≡ sheet
  unfolding preview_sheet
  preview_leaves refused = run.bytes ∙ rw (ne_eqb _ _ (λ e. refused (ap (λ (r : Reply). r.number) run.reply ∙ e))) refl

  pub preview_leaves_labels : T (memb eqb (told_plan answer).number before_search) → words' ≡ words
  preview_leaves_labels = run.kept

  -- "The preview answers and writes exactly what planning would on a copy so struck": where the copy is struck, a run of the preview is a run of
  -- planning on it, so demands 1 to 3 hold of it as of planning there
  module _ {map' : List ℕ} {check : Result (Unit {0}) Refusal} (striking : Striking given.map road map' check) where
    pub preview_is_planning : (told_check check).number ≡ 0 → Planned (on_map map' given) words words' sheet sheet' answer
    preview_is_planning done = as_planned striking done run

    -- so every run of planning there with as much label space has the same reply and every byte of the sheet
    pub preview_as_planning : (told_check check).number ≡ 0 → {words₂ words₂' sheet₂' : List ℕ} {planning : Result Plan Refusal} → length words₂ ≡ length words
        → Planned (on_map map' given) words₂ words₂' sheet sheet₂' planning → (told_plan answer ≡ told_plan planning) × (sheet' ≡ sheet₂')
    preview_as_planning done room planned =
        let here = preview_is_planning done in (
          here.reply ∙ ap (λ (n : ℕ). plan_reply (on_map map' given) (labels_that_fit n) (length sheet)) (sym room) ∙ sym planned.reply,
          here.bytes ∙ ap (λ (n : ℕ). plan_sheet (on_map map' given) (labels_that_fit n) sheet) (sym room) ∙ sym planned.bytes,
        )

    -- and where striking is refused so is the preview, an order's faults before the road's
    pub preview_refused : ¬ ((told_check check).number ≡ 0) → told_plan answer ≡ first_of (opening_tests given.map given.order) (told_check check)
    preview_refused refused = as_refused striking refused run

  -- beside planning on the lent map, with any label space and sheet: a closure makes no plan earlier, and opens no road
  module _ {words₁ words₁' sheet₁ sheet₁' : List ℕ} {planning : Result Plan Refusal} (lent : Planned given words₁ words₁' sheet₁ sheet₁' planning) where
    pub preview_no_earlier : Plans planning → Plans answer → (told_plan planning).arrival ≤ (told_plan answer).arrival
    preview_no_earlier planned previewed = no_earlier run previewed lent planned

    pub preview_no_road : SaysNoRoad planning → ¬ Plans answer
    preview_no_road says_no_road previewed = never_no_road run previewed lent says_no_road
