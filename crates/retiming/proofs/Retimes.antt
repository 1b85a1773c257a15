-- Retiming's answer and the other sheet afterwards, by where the walk ends. Assumes nothing.
use mathlib.Core.Path.{◌≡◌, ◌∙◌, refl, sym, ap, subst}
use mathlib.Core.Bool.{false}
use mathlib.Core.List.{List, [], ◌∷◌}
use Prim.Native.Nat.{ℕ, ◌≤◌, ◌<◌}
use native.Mathlib.Omega.{arith}
use borrow.Author.Tests.{ne_eqb, lt-ltb, le-ltb}
use lib.ListN.{length}
use Rattle.std.specs.Prelude.{Result, Ok, Err}
use Rattle.replies.specs.declared.Refusal.{Refusal}
use Rattle.replies.specs.declared.Refusal.TheVariants.{ShortSheet}
use Rattle.replies.specs.declared.Timed.{Timed}
use Rattle.replies.specs.First.{◌at◌, first_of, NoneFits, Refuses}
use Rattle.replies.specs.Told.{succeeded, told_refusal, told_timing}
use Rattle.replies.proofs.First.{none_fits, stops_at, passed_over, refusal_number}
use Rattle.moves.specs.Trip.{Trip, trip_of}
use Rattle.moves.specs.Given.{Given, trip_from}
use Rattle.moves.specs.RunTests.{run_tests}
use Rattle.states.specs.declared.State.{State}
use Rattle.sheets.specs.declared.Heading.{Heading}
use Rattle.sheets.specs.Sheet.{heading_for, heading_of, sheet_needed, sheet_after, with_heading, short_sheet}
use Rattle.sheets.specs.Written.{rows_put}
use Rattle.sheets.proofs.Writing.{heading_last}
use Rattle.sheets.proofs.Reading.{length_rows_of}
use Rattle.retiming.specs.Walk.{Walk, arrival_reached}
use Rattle.retiming.specs.Retiming.{moves_on, timing, sheet_tests, retimed_to, retiming_reply, Retimed}
use Rattle.retiming.specs.Parts.{SheetSays, rows_reached, RetimedRun}
use Rattle.retiming.proofs.Judging.{arrival_reached_lem}
use Rattle.retiming.proofs.Rewriting.{reached_is, walk_length}

-- the header with true figures
abbrev pub retimed_heading : Heading → State → Heading
retimed_heading given s = heading_for given.moves s given.labels

module _ (trip : Trip) (sheet before : List ℕ) where
  abbrev timed : Walk
  timed = timing false trip sheet

  pub retimed_refused : (why : Refusal) → SheetSays false trip sheet (Err why) → RetimedRun trip sheet before before (Err why)
  retimed_refused why says =
      record { reply = sym (says _ _); bytes = rw (ne_eqb (told_refusal why).number 0 (λ e. omega (arith, refusal_number why))) refl }

  module _ (s : State) (ended : SheetSays false trip sheet (Ok s)) (given : Heading) (is : given ≡ heading_of sheet) (needed : ℕ) (counts : needed ≡ sheet_needed given.moves) where
    pub retimed_short : length before < needed → RetimedRun trip sheet before before (Err (ShortSheet needed))
    retimed_short short =
        let needs : length before < sheet_needed (moves_on sheet) = rw (counts, is) at short in
        record {
          reply = rw (counts, is)
              (sym
              (none_fits (sheet_tests trip.order sheet timed) _ _ ended.1
              ∙ stops_at (14 at short_sheet (moves_on sheet) (length before)) [] _ (rw (lt-ltb _ _ needs))));
          bytes = refl;
        }

    -- as many records are written as the sheet has moves
    count : length (rows_reached timed) ≡ moves_on sheet
    unfolding timing
    count = walk_length false _ 1 _ _ (reached_is timed s ended.2) ∙ length_rows_of sheet 1 (moves_on sheet)

    pub retimed_written : needed ≤ length before → (after : List ℕ) →
        after ≡ with_heading (rows_put 0 (rows_reached timed) before) (retimed_heading given s) →
        RetimedRun trip sheet before after (Ok (record { moves = given.moves; arrival = s.clock }))
    unfolding first_of
    retimed_written fits after written =
        let enough : sheet_needed (moves_on sheet) ≤ length before = rw (counts, is) at fits in
        record {
          reply = rw (is, ← arrival_reached_lem timed s ended.2)
              (sym
              (none_fits (sheet_tests trip.order sheet timed) ((14 at short_sheet (moves_on sheet) (length before)) ∷ []) (succeeded (moves_on sheet) (arrival_reached timed)) ended.1
              ∙ passed_over (14 at short_sheet (moves_on sheet) (length before)) [] (succeeded (moves_on sheet) (arrival_reached timed)) (rw (le-ltb _ _ enough))));
          bytes = written
              ∙ heading_last (retimed_heading given s) (rows_reached timed) before (rw count enough)
              ∙ ap (λ (h : Heading). sheet_after (retimed_heading h s) (rows_reached timed) before) is
              ∙ ap (λ (w : Walk). retimed_to (heading_of sheet) w before) (sym (reached_is timed s ended.2));
        }

-- and of what a run is given
module _ (given : Given) (sheet before : List ℕ) where
  pub retimed_unopened : (why : Refusal) → Refuses (run_tests given) why → Retimed given sheet before before (Err why)
  retimed_unopened why says =
      let told = says _ _ in
      record {
        reply = sym told;
        bytes = rw (told, ne_eqb (told_refusal why).number 0 (λ e. omega (arith, refusal_number why))) refl;
      }

  pub retimed_opened : {trip : Trip} {after : List ℕ} {answer : Result Timed Refusal} → trip ≡ trip_from given → NoneFits (run_tests given) →
      RetimedRun trip sheet before after answer → Retimed given sheet before after answer
  unfolding trip_of
  retimed_opened {after = after} {answer = answer} is passed run =
      let opened = subst (λ (t : Trip). RetimedRun t sheet before after answer) is run in
      let told : told_timing answer ≡ retiming_reply given sheet before = opened.reply ∙ sym (none_fits (run_tests given) _ _ passed) in
      record { reply = told; bytes = opened.bytes ∙ rw told refl }
