-- The plan: its moves, its figures and the rows of its sheet. Document 01, "Labels", "Plan sheet". Assumes nothing.
use Rattle.std.specs.Prelude.{Bool, true, false, ◌&&◌, List, [], ◌∷◌, ◌++◌, ℕ, zero, suc, ltb, length, get_or}
use Rattle.std.proofs.Math.Option.{Option, none, some}
use Rattle.states.specs.declared.State.{State}
use Rattle.moves.specs.declared.Move.{Move}
use Rattle.moves.specs.Trip.{Trip}
use Rattle.moves.specs.Moves.{offered, after}
use Rattle.states.specs.States.{legal, same_state}
use Rattle.sheets.specs.declared.Row.{Row}
use Rattle.sheets.specs.declared.Heading.{Heading}
use Rattle.sheets.specs.Sheet.{heading_for, sheet_needed, sheet_after}
use Rattle.theory.specs.Labels.{parent}
use Rattle.journeys.specs.Journeys.{start_in, succs}
use Rattle.journeys.specs.Labels.{answer_in, labels_in, label_count}

-- the move leads legally from p to t
abbrev pub moves_to : Trip → State → State → Move → Bool
moves_to trip p t m = legal trip.order (after trip p m) && same_state (after trip p m) t

-- the first of the moves that leads legally from p to t
unfoldable pub first_to : Trip → State → State → List Move → Option Move
unfolding legal after same_state
first_to trip p t [] = none
first_to trip p t (m ∷ ms) = elim (moves_to trip p t m) [ true ↦ some m | false ↦ first_to trip p t ms ]

-- of the parent's moves to t the lowest kind wins, then the lowest road number: the offered moves stand in that order
unfoldable pub move_to : Trip → State → State → Option Move
unfolding first_to offered
move_to trip p t = first_to trip p t (offered trip p)

abbrev pub one_move : Option Move → List Move
one_move none = []
one_move (some m) = m ∷ []

-- the moves to t along the parents in the labels L, at most so many
unfoldable pub moves_back : Trip → List State → ℕ → State → List Move
unfolding parent succs same_state move_to
moves_back trip L zero t = []
moves_back trip L (suc most) t =
    let i = parent (succs trip) same_state L t in
    let p = get_or L i (start_in trip) in
    elim (ltb i (length L)) [ true ↦ moves_back trip L most p ++ one_move (move_to trip p t) | false ↦ [] ]

-- the plan follows parents back from the answer
abbrev pub moves_of : Trip → List State → Option State → List Move
moves_of trip L none = []
moves_of trip L (some a) = moves_back trip L (length L) a

unfoldable pub plan_moves : Trip → List Move
unfolding moves_back labels_in answer_in
plan_moves trip = let L = labels_in trip in moves_of trip L (answer_in trip)

-- M
abbrev pub move_count : Trip → ℕ
move_count trip = length (plan_moves trip)

-- the sheet's length: six words, then M records of three words
abbrev pub bytes_needed : Trip → ℕ
bytes_needed trip = sheet_needed (move_count trip)

-- a record of the sheet: kind, road number or pausing junction, clock after
unfoldable pub rows_from : Trip → State → List Move → List Row
unfolding after
rows_from trip s [] = []
rows_from trip s (m ∷ ms) =
    let t = after trip s m in
    record { kind = m.kind; number = m.number; clock = t.clock } ∷ rows_from trip t ms

unfoldable pub plan_rows : Trip → List Row
unfolding rows_from plan_moves
plan_rows trip = rows_from trip (start_in trip) (plan_moves trip)

-- the header: moves M, arrival, spell, shift, week, N
abbrev pub heading_at : Trip → State → Heading
heading_at trip a = heading_for (move_count trip) a (label_count trip)

-- the sheet afterwards, where there is an answer: header and records, bytes after 24 + 12M stay
abbrev pub planned_sheet : Trip → Option State → List ℕ → List ℕ
planned_sheet trip none before = before
planned_sheet trip (some a) before = sheet_after (heading_at trip a) (plan_rows trip) before
