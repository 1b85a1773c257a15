-- What the parts of retiming and audit find. Assumes nothing.
use Rattle.std.specs.Prelude.{◌≡◌, Result, Ok, Err, Bool, true, false, not, ◌&&◌, List, [], ◌∷◌, ◌++◌, ℕ, eqb, length}
use Rattle.seconds.specs.declared.Clock.{Clock}
use Rattle.replies.specs.declared.Reply.{Reply}
use Rattle.replies.specs.declared.Refusal.{Refusal}
use Rattle.replies.specs.declared.Timed.{Timed}
use Rattle.replies.specs.First.{◌at◌, first_of, NoneFits, Refuses}
use Rattle.replies.specs.Told.{refused_at, succeeded, told_refusal, told_timing}
use Rattle.booleans.specs.Pick.{pick}
use Rattle.sheets.specs.declared.Row.{Row}
use Rattle.sheets.specs.Sheet.{heading_of, short_sheet}
use Rattle.sheets.specs.Written.{Whole}
use Rattle.states.specs.declared.State.{State}
use Rattle.moves.specs.Trip.{Trip}
use Rattle.retiming.specs.Walk.{Walk, refused, reached, arrival_reached}
use Rattle.retiming.specs.Retiming.{moves_on, timing, sheet_tests, false_header, retimed_to}

-- a state that a legal move led to, and the record's clock
abbrev pub clock_walk : Bool → ℕ → Clock → State → Walk
clock_walk clocks k clock s = pick (clocks && not (eqb clock.0 s.clock.0)) (refused 18 k) (reached s [])

-- the walk's end, without its records
abbrev pub WalkSays : Walk → Result State Refusal → Type 0
WalkSays (refused number move) (Err why) = told_refusal why ≡ refused_at number move
WalkSays (refused number move) (Ok s) = ⊥
WalkSays (reached t rows) (Err why) = ⊥
WalkSays (reached t rows) (Ok s) = s ≡ t

-- 15 to 17 (18) and 19: the refusal, or the state reached
abbrev pub SheetSays : Bool → Trip → List ℕ → Result State Refusal → Type 0
SheetSays clocks trip sheet (Err why) = Refuses (sheet_tests trip.order sheet (timing clocks trip sheet)) why
SheetSays clocks trip sheet (Ok s) =
    Whole sheet × NoneFits (sheet_tests trip.order sheet (timing clocks trip sheet)) × WalkSays (timing clocks trip sheet) (Ok s)

-- audit's reply, once a run is opened
abbrev pub audited_run : Trip → List ℕ → Reply
audited_run trip sheet =
    first_of (sheet_tests trip.order sheet (timing true trip sheet) ++ ((18 at false_header (heading_of sheet) (timing true trip sheet)) ∷ []))
    (succeeded (moves_on sheet) (arrival_reached (timing true trip sheet)))

-- no refusal met the walk
abbrev pub Ends : Walk → Type 0
Ends (refused number move) = ⊥
Ends (reached s rows) = Unit {0}

abbrev pub last_reached : State → Walk → State
last_reached start (refused number move) = start
last_reached start (reached s rows) = s

-- the records that a walk gives their true clocks
abbrev pub rows_reached : Walk → List Row
rows_reached (refused number move) = []
rows_reached (reached s rows) = rows

-- retiming's reply, once a run is opened
abbrev pub retimed_run : Trip → List ℕ → List ℕ → Reply
retimed_run trip sheet before =
    first_of (sheet_tests trip.order sheet (timing false trip sheet) ++ ((14 at short_sheet (moves_on sheet) (length before)) ∷ []))
    (succeeded (moves_on sheet) (arrival_reached (timing false trip sheet)))

-- the answer and the other sheet afterwards, once a run is opened
pub record RetimedRun (trip : Trip) (sheet before after : List ℕ) (answer : Result Timed Refusal) : Type 0 where
  pub reply : told_timing answer ≡ retimed_run trip sheet before
  pub bytes : after ≡ pick (eqb (told_timing answer).number 0) (retimed_to (heading_of sheet) (timing false trip sheet) before) before
