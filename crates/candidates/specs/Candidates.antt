-- A label's candidate: the successor that its cursor names. Assumes nothing.
use Rattle.std.specs.Prelude.{◌≡◌, Bool, true, false, ℕ, zero, suc, ◌+◌, ◌-◌, ◌≤◌, ◌<◌, leb}
use Rattle.driving.specs.Hours.{last_pause}
use Rattle.states.specs.declared.State.{State}
use Rattle.states.specs.States.{legal}
use Rattle.labels.specs.declared.Candidate.{Candidate}
use Rattle.moves.specs.declared.Move.{Move}
use Rattle.moves.specs.Trip.{Trip, roads_in}
use Rattle.moves.specs.Moves.{move, offers, after}

-- the move that a cursor names: 1 to R a drive; above R a pause by its kind, R + 1 the first
abbrev pub move_kind : Bool → Trip → State → ℕ → Move
move_kind true trip s cursor = move 1 cursor
move_kind false trip s cursor = move (cursor - roads_in trip + 1) s.junction

unfoldable pub move_at : Trip → State → ℕ → Move
move_at trip s cursor = move_kind (leb cursor (roads_in trip)) trip s cursor

abbrev pub result_at : Trip → State → ℕ → State
result_at trip s cursor = after trip s (move_at trip s cursor)

-- a cursor that names a legal move
pub record Names (trip : Trip) (s : State) (cursor : ℕ) : Type 0 where
  pub low : 1 ≤ cursor
  pub high : cursor < roads_in trip + last_pause
  pub offered : offers trip s (move_at trip s cursor) ≡ true
  pub lawful : legal trip.order (result_at trip s cursor) ≡ true

-- the cursor is 0 or names a legal move
abbrev pub Cursor : Trip → State → ℕ → Type 0
Cursor trip s cursor = 1 ≤ cursor → Names trip s cursor

-- above every clock
abbrev pub no_clock : ℕ
no_clock = 4294967295

-- no candidate
abbrev pub no_candidate : Candidate
no_candidate = record { cursor = 0; junction = 0; clock = record { 0 = no_clock }; more = false }

-- the clock of the state that a cursor's move leads to; none without a cursor
unfoldable pub candidate_clock : Trip → State → ℕ → ℕ
candidate_clock trip s zero = no_clock
candidate_clock trip s (suc cursor) = (result_at trip s (suc cursor)).clock.0

-- its junction; 0 without a cursor
unfoldable pub candidate_junction : Trip → State → ℕ → ℕ
candidate_junction trip s zero = 0
candidate_junction trip s (suc cursor) = (result_at trip s (suc cursor)).junction

-- a candidate of a state: its cursor is 0 or names a legal move, and its clock and junction are those of the state after it
pub record Fitting (trip : Trip) (s : State) (c : Candidate) : Type 0 where
  pub named : Cursor trip s c.cursor
  pub clock : c.clock.0 ≡ candidate_clock trip s c.cursor
  pub junction : c.junction ≡ candidate_junction trip s c.cursor
