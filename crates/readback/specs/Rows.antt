-- The record of one move. Assumes nothing.
use Rattle.std.specs.Prelude.{◌≡◌}
use Rattle.std.proofs.Math.Option.{some}
use Rattle.states.specs.declared.State.{State}
use Rattle.moves.specs.declared.Move.{Move}
use Rattle.moves.specs.Trip.{Trip}
use Rattle.sheets.specs.declared.Row.{Row}
use Rattle.journeys.specs.Plan.{move_to}

-- the record of the parent's move from p to t
pub record RowFor (trip : Trip) (p t : State) (row : Row) : Type 0 where
  pub by : Move
  pub lowest : move_to trip p t ≡ some by
  pub is : row ≡ record { kind = by.kind; number = by.number; clock = t.clock }
