-- Runs of planning: accepted, what they say, the journey that a sheet holds, and moves timed afresh.
-- Document 01, "Plan sheet", "Two runs compared", and document 02, P8. Assumes nothing.
use Rattle.std.specs.Prelude.{◌≡◌, List, map, ℕ, ◌≤◌, length, take, Result}
use Rattle.replies.specs.declared.Refusal.{Refusal}
use Rattle.replies.specs.declared.Timed.{Timed}
use Rattle.replies.specs.declared.Plan.{Plan}
use Rattle.replies.specs.First.{NoneFits}
use Rattle.replies.specs.Told.{told_plan}
use Rattle.roadmap.specs.Format.{junction_count, road_count}
use Rattle.mapcheck.specs.MapCheck.{AcceptedMap}
use Rattle.driving.specs.Order.{order_tests}
use Rattle.bans.specs.BanList.{ban_tests}
use Rattle.states.specs.declared.State.{State}
use Rattle.moves.specs.declared.Move.{Move}
use Rattle.moves.specs.Trip.{Trip}
use Rattle.moves.specs.Given.{Given}
use Rattle.sheets.specs.Sheet.{heading_of, rows_of, sheet_needed}
use Rattle.retiming.specs.Walk.{move_of}
use Rattle.retiming.specs.Retiming.{moves_on, Retimed}
use Rattle.journeys.specs.Journeys.{start_in, Journey}
use Rattle.journeys.specs.Plan.{rows_from}

-- a map is accepted when none of refusals 1 to 8 fits it, an order when none of 9 to 11 fits it with its map; wherever an order is called
-- accepted, its ban list passes too (document 02, P8)
pub record AcceptedRun (given : Given) : Type 0 where
  pub mapped : AcceptedMap given.map
  pub ordered : NoneFits (order_tests (junction_count given.map) given.order)
  pub listed : NoneFits (ban_tests (road_count given.map) given.bans)

-- a run plans when its reply's number is 0
abbrev pub Plans : Result Plan Refusal → Type 0
Plans answer = (told_plan answer).number ≡ 0

abbrev pub SaysFull : Result Plan Refusal → Type 0
SaysFull answer = (told_plan answer).number ≡ 12

abbrev pub SaysNoRoad : Result Plan Refusal → Type 0
SaysNoRoad answer = (told_plan answer).number ≡ 13

-- the moves on a sheet: kind and number of each of its M records
abbrev pub moves_read : List ℕ → List Move
moves_read sheet = map move_of (rows_of sheet 1 (moves_on sheet))

-- the bytes of a sheet hold a legal journey to t, with its true figures
pub record HoldsJourney (trip : Trip) (sheet : List ℕ) (t : State) : Type 0 where
  pub long : sheet_needed (moves_on sheet) ≤ length sheet
  pub journey : Journey trip (moves_read sheet) t
  -- each record has the clock after its move
  pub clocks : rows_of sheet 1 (moves_on sheet) ≡ rows_from trip (start_in trip) (moves_read sheet)
  pub arrival : (heading_of sheet).arrival ≡ t.clock
  pub spell : (heading_of sheet).spell ≡ t.figures.spell
  pub shift : (heading_of sheet).shift ≡ t.figures.shift
  pub week : (heading_of sheet).week ≡ t.figures.week

-- the header and the M records of a written sheet
abbrev pub header_and_records : List ℕ → List ℕ
header_and_records sheet = take (sheet_needed (moves_on sheet)) sheet

-- a sheet's moves are timed afresh by retiming its header and its M records, with this map, order and ban list, into any sheet at least as long
pub record TimedAfresh (given : Given) (sheet out out' : List ℕ) (answer : Result Timed Refusal) : Type 0 where
  pub long : length (header_and_records sheet) ≤ length out
  pub retimed : Retimed given (header_and_records sheet) out out' answer
