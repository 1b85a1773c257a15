-- One step back along the parents: the rows to a label are its parent's rows and one more. Assumes nothing.
use mathlib.Core.Path.{◌≡◌, ◌∙◌, ap}
use mathlib.Core.List.{List, [], ◌∷◌, ◌++◌}
use mathlib.Core.Option.{some}
use Prim.Native.Nat.{ℕ, suc, ◌-◌, ◌≤◌, ◌<◌}
use native.Mathlib.Omega.{arith}
use Rattle.moves.specs.declared.Move.{Move}
use Rattle.moves.specs.Trip.{Trip}
use Rattle.moves.proofs.Rising.{SoundTrip}
use Rattle.sheets.specs.declared.Row.{Row}
use Rattle.journeys.specs.Journeys.{start_in}
use Rattle.journeys.specs.Labels.{label_count, label, parent_in}
use Rattle.journeys.specs.Plan.{move_to, rows_from, plan_rows}
use Rattle.journeys.proofs.Plan.{moves_enough, parent_lower, answer_last, plan_from}
use Rattle.journeys.proofs.Rows.{row_at, rows_to, rows_first, rows_next}
use Rattle.readback.specs.Held.{Answered}

-- the rows to the label at index i
abbrev pub rows_back : Trip → ℕ → List Row
rows_back trip i = rows_to trip (label_count trip) i

-- the parent's rows, and then the row of the parent's move with the label's own clock
pub record StepBack (trip : Trip) (i : ℕ) : Type 0 where
  pub by_move : Move
  pub is_lowest : move_to trip (label trip (parent_in trip (label trip i))) (label trip i) ≡ some by_move
  pub rows : rows_back trip i ≡ rows_back trip (parent_in trip (label trip i)) ++ row_at by_move (label trip i) ∷ []

module _ (trip : Trip) (sound : SoundTrip trip) where
  pub back_first : rows_back trip 0 ≡ []
  back_first = rows_first trip sound (label_count trip)

  rows_enough : (most more i : ℕ) → i ≤ most → i ≤ more → i < label_count trip → rows_to trip most i ≡ rows_to trip more i
  rows_enough most more i h g k = ap (rows_from trip (start_in trip)) (moves_enough trip sound most more i h g k)

  pub back_next : (i : ℕ) → 0 < i → i < label_count trip → StepBack trip i
  back_next i h k =
      let most : ℕ = label_count trip - 1 in
      let p : ℕ = parent_in trip (label trip i) in
      let lower = parent_lower trip sound i h k in
      let next = rows_next trip sound most i h (omega arith) k in
      record {
        by_move = next.by_move;
        is_lowest = next.is_lowest;
        rows =
            rows_enough (label_count trip) (suc most) i (omega arith) (omega arith) k
            ∙ next.rows
            ∙ ap (λ (rs : List Row). rs ++ row_at next.by_move (label trip i) ∷ [])
            (rows_enough most (label_count trip) p (omega arith) (omega arith) (omega arith));
      }

  -- the plan's rows are those to the last label
  pub plan_back : Answered trip → (n : ℕ) → label_count trip ≡ suc n → plan_rows trip ≡ rows_back trip n
  unfolding plan_rows
  plan_back found n size =
      ap (rows_from trip (start_in trip)) (plan_from trip sound found.1 n (answer_last trip sound found.1 n size))
