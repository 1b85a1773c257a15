-- The walk over a sheet's records: the first refusal that a move meets, or the state reached with true clocks. Assumes nothing.
use Rattle.std.specs.Prelude.{Ok, Err, Bool, true, false, not, ◌&&◌, List, [], ◌∷◌, ℕ, ◌+◌, eqb}
use Rattle.std.proofs.Math.Option.{Option, none, some}
use Rattle.replies.specs.First.{Test, ◌at◌, placed}
use Rattle.states.specs.declared.State.{State}
use Rattle.moves.specs.declared.Move.{Move}
use Rattle.moves.specs.declared.Fault.TheVariants.{Foreign, Overrun}
use Rattle.moves.specs.Trip.{Trip}
use Rattle.moves.specs.Moves.{move, stepped}
use Rattle.sheets.specs.declared.Row.{Row}

-- refused: the refusal's number and the move; reached: the last state, and the records with their true clocks
pub data Walk : Type 0 where
  refused : ℕ → ℕ → Walk
  reached : State → List Row → Walk

abbrev pub move_of : Row → Move
move_of row = move row.kind row.number

abbrev pub true_row : Row → State → Row
true_row row s = record { kind = row.kind; number = row.number; clock = s.clock }

abbrev pub recorded : Row → Walk → Walk
recorded row (refused number move) = refused number move
recorded row (reached s rows) = reached s (row ∷ rows)

-- from move k on, in state s: 16 where the move is not offered, 17 where it is not legal and, where clocks are compared, 18
unfoldable pub walk : Bool → Trip → ℕ → State → List Row → Walk
walk clocks trip k s [] = reached s []
walk clocks trip k s (row ∷ rows) =
    elim (stepped trip s (move_of row)) [
      | Err Foreign ↦ refused 16 k
      | Err Overrun ↦ refused 17 k
      | Ok t ↦
          elim (clocks && not (eqb row.clock.0 t.clock.0))
          [ true ↦ refused 18 k | false ↦ recorded (true_row row t) (walk clocks trip (k + 1) t rows) ]
    ]

-- the refusal that the walk meets
abbrev pub move_test : Walk → Test
move_test (refused number move) = number at some move
move_test (reached s rows) = 16 at none

-- 19 stray: ends off target; junction reached
abbrev pub stray : ℕ → Walk → Option ℕ
stray target (refused number move) = none
stray target (reached s rows) = placed (not (eqb s.junction target)) s.junction

abbrev pub arrival_reached : Walk → ℕ
arrival_reached (refused number move) = 0
arrival_reached (reached s rows) = s.clock.0
