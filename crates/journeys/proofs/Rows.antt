-- The rows of the plan's sheet: one for each move, in order, with the clock of the label that the move leads to. Assumes nothing.
use mathlib.Core.Path.{◌≡◌, refl, ap, ◌∙◌}
use mathlib.Core.List.{List, [], ◌∷◌, ◌++◌, map}
use mathlib.Core.Option.{Option, some}
use Prim.Native.Nat.{ℕ, suc, ◌≤◌, ◌<◌}
use native.Mathlib.Omega.{arith}
use lib.ListN.{length}
use Rattle.states.specs.declared.State.{State}
use Rattle.moves.specs.declared.Move.{Move}
use Rattle.moves.specs.Trip.{Trip}
use Rattle.moves.specs.Moves.{move, after}
use Rattle.moves.proofs.Rising.{SoundTrip}
use Rattle.sheets.specs.declared.Row.{Row}
use Rattle.journeys.specs.Journeys.{start_in, Leads, stay, go}
use Rattle.journeys.specs.Labels.{label_count, label, parent_in}
use Rattle.journeys.specs.Plan.{one_move, move_to, plan_moves, move_count, rows_from, plan_rows}
use Rattle.journeys.proofs.ParentMove.{move_some}
use Rattle.journeys.proofs.Plan.{moves_at, moves_first, moves_next, parent_lower, parent_move, moves_lead}

-- a row's move
abbrev pub row_move : Row → Move
row_move r = move r.kind r.number

-- the row of a move that leads to t
abbrev pub row_at : Move → State → Row
row_at m t = record { kind = m.kind; number = m.number; clock = t.clock }

module _ (trip : Trip) where
  pub rows_length : (s : State) (ms : List Move) → length (rows_from trip s ms) ≡ length ms
  unfolding rows_from
  rows_length s [] = refl
  rows_length s (m ∷ ms) = ap suc (rows_length (after trip s m) ms)

  -- the rows' moves are the moves
  pub rows_moves : (s : State) (ms : List Move) → map row_move (rows_from trip s ms) ≡ ms
  unfolding rows_from
  rows_moves s [] = refl
  rows_moves s (m ∷ ms) = ap (λ (l : List Move). m ∷ l) (rows_moves (after trip s m) ms)

  pub rows_append : {s t : State} {ms : List Move} → Leads trip s ms t → (ns : List Move) → rows_from trip s (ms ++ ns) ≡ rows_from trip s ms ++ rows_from trip t ns
  unfolding rows_from
  rows_append stay ns = refl
  rows_append (go {s = s} {m = m} o l p) ns = ap (λ (rs : List Row). row_at m (after trip s m) ∷ rs) (rows_append p ns)

  -- M rows
  pub plan_rows_length : length (plan_rows trip) ≡ move_count trip
  unfolding plan_rows
  plan_rows_length = rows_length (start_in trip) (plan_moves trip)

  -- the rows back from label i
  abbrev pub rows_to : ℕ → ℕ → List Row
  rows_to most i = rows_from trip (start_in trip) (moves_at trip most i)

  -- the parent's rows, and then the row of the parent's move with the label's own clock
  pub record RowsNext (most i : ℕ) : Type 0 where
    pub by_move : Move
    pub is_lowest : move_to trip (label trip (parent_in trip (label trip i))) (label trip i) ≡ some by_move
    pub rows : rows_to (suc most) i ≡ rows_to most (parent_in trip (label trip i)) ++ row_at by_move (label trip i) ∷ []

module _ (trip : Trip) (sound : SoundTrip trip) where
  pub rows_first : (most : ℕ) → rows_to trip most 0 ≡ []
  unfolding rows_from
  rows_first most = ap (rows_from trip (start_in trip)) (moves_first trip sound most)

  pub rows_next : (most i : ℕ) → 0 < i → i ≤ suc most → i < label_count trip → RowsNext trip most i
  unfolding rows_from
  rows_next most i h g k =
      let p : ℕ = parent_in trip (label trip i) in
      let lower = parent_lower trip sound i h k in
      let found = move_some trip (label trip p) (label trip i) (parent_move trip sound i h k) in
      let m : Move = found.0 in
      let before = moves_lead trip sound most p (omega arith) (omega arith) in
      let moves : moves_at trip (suc most) i ≡ moves_at trip most p ++ m ∷ [] =
      moves_next trip sound most i h k ∙ ap (λ (o : Option Move). moves_at trip most p ++ one_move o) found.1 in
      record {
        by_move = m;
        is_lowest = found.1;
        rows =
            ap (rows_from trip (start_in trip)) moves
            ∙ rows_append trip before.leads (m ∷ [])
            ∙ ap (λ (z : State). rows_to trip most p ++ row_at m z ∷ []) found.2.result;
      }
