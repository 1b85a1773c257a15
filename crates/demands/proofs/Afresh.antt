-- The moves of a plan timed afresh: retiming walks over its records to where the same moves lead. Assumes nothing.
use mathlib.Core.Path.{◌≡◌, refl, sym, ap, ◌∙◌}
use mathlib.Core.Bool.{false}
use mathlib.Core.List.{List, [], ◌∷◌, ◌++◌}
use mathlib.Core.Option.{none}
use Prim.Native.Nat.{ℕ, ◌+◌, ◌≤◌}
use native.Mathlib.Omega.{arith}
use borrow.Author.Tests.{le-ltb}
use lib.ListN.{length}
use Rattle.std.specs.Prelude.{Result}
use Rattle.replies.specs.declared.Refusal.{Refusal}
use Rattle.replies.specs.declared.Timed.{Timed}
use Rattle.replies.specs.declared.Plan.{Plan}
use Rattle.replies.specs.declared.Reply.{Reply}
use Rattle.replies.specs.First.{Test, ◌at◌, first_of, NoneFits}
use Rattle.replies.specs.Told.{succeeded, told_timing, told_plan}
use Rattle.replies.proofs.First.{none_of_both, none_at_all}
use Rattle.roadmap.specs.Format.{junction_count, road_count}
use Rattle.mapcheck.specs.MapCheck.{map_tests}
use Rattle.driving.specs.Order.{order_tests}
use Rattle.bans.specs.BanList.{ban_tests}
use Rattle.states.specs.declared.State.{State}
use Rattle.states.proofs.Compared.{covers_clock}
use Rattle.moves.specs.declared.Move.{Move}
use Rattle.moves.specs.Trip.{Trip, trip_of}
use Rattle.moves.specs.Moves.{after}
use Rattle.moves.specs.Given.{Given, order_from, trip_from}
use Rattle.moves.specs.RunTests.{opening_tests, run_tests}
use Rattle.sheets.specs.declared.Heading.{Heading}
use Rattle.sheets.specs.declared.Row.{Row}
use Rattle.sheets.specs.Sheet.{short_sheet}
use Rattle.retiming.specs.Walk.{Walk, reached, recorded, walk, arrival_reached, stray}
use Rattle.retiming.specs.Retiming.{moves_on, timing, sheet_tests, retiming_tests, retiming_reply}
use Rattle.retiming.proofs.Walking.{walk_end, walk_moved}
use Rattle.journeys.specs.Journeys.{start_in, at_target, Leads, stay, go, Journey}
use Rattle.journeys.specs.Plan.{plan_moves, rows_from, plan_rows}
use Rattle.journeys.specs.Compared.{EasierRun}
use Rattle.journeys.proofs.Journeys.{moved}
use Rattle.journeys.proofs.Runs.{run_answer}
use Rattle.planner.specs.Planned.{Planned}
use Rattle.demands.specs.Runs.{AcceptedRun, Plans, moves_read, header_and_records, TimedAfresh}
use Rattle.demands.proofs.Written.{Wrote, wrote, heading_written, moves_written, heading_kept, rows_kept, length_kept, kept_untorn}

-- whatever clocks the records have, a walk over them without comparing clocks reaches the state that the moves lead to
pub walk_leads : (tb ta : Trip) (k : ℕ) (a : State) {b u : State} {ms : List Move} → Leads tb b ms u →
    walk false tb k b (rows_from ta a ms) ≡ reached u (rows_from tb b ms)
unfolding rows_from
walk_leads tb ta k a {b} stay = walk_end false tb k b
walk_leads tb ta k a {b} (go {m = m} {ms = ms} offered lawful rest) =
    walk_moved false tb k b _ (rows_from ta (after ta a m) ms) (moved tb b m offered lawful)
    ∙ ap (recorded _) (walk_leads tb ta (k + 1) (after ta a m) rest)

-- the tests of an accepted run
pub none_run : {given : Given} → AcceptedRun given → NoneFits (run_tests given)
none_run {given} accepted =
    none_of_both (opening_tests given.map given.order) (ban_tests (road_count given.map) given.bans)
    (none_of_both (map_tests given.map) (order_tests (junction_count given.map) given.order) accepted.mapped accepted.ordered)
    accepted.listed

module _ {a : Given} {words sheet sheet' : List ℕ} {answer : Result Plan Refusal} (w : Wrote a words sheet sheet' answer)
    {b : Given} (accepted-b : AcceptedRun b)
    {u : State} (journey : Journey (trip_from b) (plan_moves (trip_from a)) u)
    (out : List ℕ) (long : length (header_and_records sheet') ≤ length out) where
  abbrev ta : Trip
  ta = trip_from a

  abbrev tb : Trip
  tb = trip_from b

  abbrev true_rows : List Row
  true_rows = rows_from tb (start_in tb) (plan_moves ta)

  walked : timing false tb (header_and_records sheet') ≡ reached u true_rows
  unfolding timing plan_rows
  walked = ap (walk false tb 1 (start_in tb)) (rows_kept w) ∙ walk_leads tb ta 1 (start_in ta) journey.leads

  count_kept : moves_on (header_and_records sheet') ≡ moves_on sheet'
  count_kept = ap (λ (h : Heading). h.moves) (heading_kept w ∙ sym (heading_written w))

  at_target_lem : stray (order_from b).target (reached u true_rows) ≡ none
  unfolding trip_of at_target
  at_target_lem = rw journey.ends refl

  abbrev late_tests_lem : List Test
  late_tests_lem = sheet_tests (order_from b) (header_and_records sheet') (reached u true_rows) ++ ((14 at short_sheet (moves_on (header_and_records sheet')) (length out)) ∷ [])

  none_late : NoneFits late_tests_lem
  none_late = (kept_untorn w, (refl, (at_target_lem, (rw (count_kept, ← length_kept w, le-ltb _ _ long) refl, tt))))

  -- retiming them under B replies 0, A's M and the clock that they lead to
  retimed_afresh : retiming_reply b (header_and_records sheet') out ≡ succeeded (moves_on sheet') u.clock.0
  retimed_afresh =
      ap (λ (t : Walk). first_of (retiming_tests b (header_and_records sheet') out t) (succeeded (moves_on (header_and_records sheet')) (arrival_reached t))) walked
      ∙ none_at_all (run_tests b ++ late_tests_lem) _ (none_of_both (run_tests b) late_tests_lem (none_run accepted-b) none_late)
      ∙ ap (λ (m : ℕ). succeeded m u.clock.0) count_kept

-- A's moves under B: where they lead, and what retiming replies
pub record Afresh (b : Given) (sheetA' : List ℕ) (answerA : Result Plan Refusal) : Type 0 where
  pub state : State
  pub journey : Journey (trip_from b) (moves_read sheetA') state
  pub no_later : state.clock.0 ≤ (told_plan answerA).arrival
  pub told : {out out' : List ℕ} {answer : Result Timed Refusal} → TimedAfresh b sheetA' out out' answer → told_timing answer ≡ succeeded (moves_on sheetA') state.clock.0

pub afresh : {a b : Given} → AcceptedRun a → AcceptedRun b → EasierRun b a →
    {wordsA wordsA' sheetA sheetA' : List ℕ} {answerA : Result Plan Refusal} → Planned a wordsA wordsA' sheetA sheetA' answerA → Plans answerA →
    Afresh b sheetA' answerA
afresh {a} {b} accepted-a accepted-b easier run plans =
    let w = wrote accepted-a run plans in
    let eased = run_answer b a easier accepted-a.mapped accepted-a.ordered accepted-b.mapped accepted-b.ordered w.answered in
    record {
      state = eased.timed_plan.reached;
      journey = rw (moves_written w) eased.timed_plan.journey;
      no_later = omega (arith, ap (λ (r : Reply). r.arrival) w.told, covers_clock _ _ eased.timed_plan.over);
      told = λ {out} timed. timed.retimed.reply ∙ retimed_afresh w accepted-b eased.timed_plan.journey out timed.long;
    }
