-- Retiming and audit: the reply for any input, and the sheet afterwards. Document 01, "Retiming" and "Afterwards". Assumes nothing.
use Rattle.std.specs.Prelude.{◌≡◌, Result, Bool, true, false, not, ◌||◌, List, [], ◌∷◌, ◌++◌, ℕ, ◌+◌, eqb, length}
use Rattle.std.proofs.Math.Option.{Option, none}
use Rattle.replies.specs.declared.Reply.{Reply}
use Rattle.replies.specs.declared.Refusal.{Refusal}
use Rattle.replies.specs.declared.Timed.{Timed}
use Rattle.replies.specs.First.{Test, ◌at◌, first_of, placed}
use Rattle.replies.specs.Told.{succeeded, told_timing}
use Rattle.booleans.specs.Pick.{pick}
use Rattle.driving.specs.declared.Order.{Order}
use Rattle.states.specs.declared.State.{State}
use Rattle.moves.specs.Trip.{Trip}
use Rattle.states.specs.States.{start_of}
use Rattle.moves.specs.Given.{Given, order_from, trip_from}
use Rattle.moves.specs.RunTests.{run_tests}
use Rattle.sheets.specs.declared.Heading.{Heading}
use Rattle.sheets.specs.Sheet.{heading_for, heading_of, rows_of, sheet_after, short_sheet, torn_sheet}
use Rattle.retiming.specs.Walk.{Walk, refused, reached, walk, move_test, stray, arrival_reached}

abbrev pub moves_on : List ℕ → ℕ
moves_on sheet = (heading_of sheet).moves

-- the sheet's moves, from the start that the trip's order gives
unfoldable pub timing : Bool → Trip → List ℕ → Walk
timing clocks trip sheet = walk clocks trip 1 (start_of trip.order) (rows_of sheet 1 (moves_on sheet))

-- 15, then 16 and 17 move by move (with 18, where clocks are compared), 19
abbrev pub sheet_tests : Order → List ℕ → Walk → List Test
sheet_tests order sheet timed =
    (15 at torn_sheet sheet) ∷ move_test timed ∷ (19 at stray order.target timed) ∷ []

-- retiming: 1 to 11, 25, 15, then 16 and 17 move by move, 19, 14
abbrev pub retiming_tests : Given → List ℕ → List ℕ → Walk → List Test
retiming_tests given sheet out timed =
    run_tests given
    ++ (sheet_tests (order_from given) sheet timed ++ ((14 at short_sheet (moves_on sheet) (length out)) ∷ []))

abbrev pub retiming_reply : Given → List ℕ → List ℕ → Reply
retiming_reply given sheet out =
    first_of (retiming_tests given sheet out (timing false (trip_from given) sheet))
    (succeeded (moves_on sheet) (arrival_reached (timing false (trip_from given) sheet)))

-- the same moves with true figures, N copied
abbrev pub retimed_to : Heading → Walk → List ℕ → List ℕ
retimed_to heading (refused number move) out = out
retimed_to heading (reached s rows) out = sheet_after (heading_for heading.moves s heading.labels) rows out

-- the other sheet afterwards: a refusal leaves it
abbrev pub retimed_sheet : Given → List ℕ → List ℕ → List ℕ
retimed_sheet given sheet out =
    pick (eqb (retiming_reply given sheet out).number 0)
    (retimed_to (heading_of sheet) (timing false (trip_from given) sheet) out)
    out

-- what retiming owes: its answer, and every byte of the other sheet
pub record Retimed (given : Given) (sheet before after : List ℕ) (answer : Result Timed Refusal) : Type 0 where
  pub reply : told_timing answer ≡ retiming_reply given sheet before
  pub bytes : after ≡ retimed_sheet given sheet before

-- 18 false figure in the header: arrival, spell, shift or week; M + 1
unfoldable pub false_figures : Heading → State → Bool
false_figures heading s =
    not (eqb heading.arrival.0 s.clock.0)
    || (not (eqb heading.spell.0 s.figures.spell.0)
    || (not (eqb heading.shift.0 s.figures.shift.0) || not (eqb heading.week.0 s.figures.week.0)))

abbrev pub false_header : Heading → Walk → Option ℕ
false_header heading (refused number move) = none
false_header heading (reached s rows) = placed (false_figures heading s) (heading.moves + 1)

-- audit: the same without 14, with 18 after 17 in each move and for the header last
abbrev pub audit_tests : Given → List ℕ → Walk → List Test
audit_tests given sheet timed =
    run_tests given
    ++ (sheet_tests (order_from given) sheet timed ++ ((18 at false_header (heading_of sheet) timed) ∷ []))

abbrev pub audit_reply : Given → List ℕ → Reply
audit_reply given sheet =
    first_of (audit_tests given sheet (timing true (trip_from given) sheet))
    (succeeded (moves_on sheet) (arrival_reached (timing true (trip_from given) sheet)))
