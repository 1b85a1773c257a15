-- Writing the plan's records from the last to the first. Assumes nothing.
use mathlib.Core.Path.{◌≡◌, ◌∙◌, refl, sym, ap, subst}
use mathlib.Core.List.{List, [], ◌∷◌, ◌++◌, append_assoc, append-nil}
use mathlib.Core.Option.{some-injective}
use Prim.Native.Nat.{ℕ, ◌+◌, ◌-◌, ◌≤◌, ◌<◌}
use native.Mathlib.Omega.{arith}
use lib.ListN.{length, get_or, length-append}
use lib.Seq.{get_or_at}
use Rattle.states.specs.declared.State.{State}
use Rattle.moves.specs.declared.Move.{Move}
use Rattle.moves.specs.Trip.{Trip}
use Rattle.moves.specs.Runs.{SoundTrip, RangeIn}
use Rattle.moves.specs.OpenRuns.{listed_trip}
use Rattle.sheets.specs.declared.Row.{Row}
use Rattle.sheets.specs.declared.Heading.{Heading}
use Rattle.sheets.specs.Sheet.{sheet_needed, sheet_after, with_heading, with_row}
use Rattle.sheets.specs.Written.{backward}
use Rattle.sheets.proofs.Writing.{length_with_row, backward_start, backward_step, backward_end}
use Rattle.labels.specs.LabelWords.{parent_of, label_at}
use Rattle.journeys.specs.Labels.{label, parent_in}
use Rattle.journeys.specs.Plan.{move_to, plan_rows, move_count}
use Rattle.journeys.proofs.Rows.{row_at, plan_rows_length}
use Rattle.readback.specs.declared.FoundLabels.{FoundLabels}
use Rattle.readback.specs.Moving.{SomeMove}
use Rattle.readback.specs.Held.{Found}
use Rattle.readback.specs.Rows.{RowFor}
use Rattle.readback.proofs.Back.{rows_back, back_first, back_next, plan_back}
use Rattle.readback.proofs.Counted.{parent_word, held_descends}
use Rattle.readback.proofs.Read.{label_held, label_range, parent_state, parent_leads}
use Rattle.readback.proofs.Listed.{listed_sound, found_in}

-- with the header after its records it is the whole sheet
pub sheet_written : (trip : Trip) (h : Heading) (s : List ℕ) → sheet_needed (move_count trip) ≤ length s
    → with_heading (backward (plan_rows trip) 0 s) h ≡ sheet_after h (plan_rows trip) s
sheet_written trip h s fits = backward_end h (plan_rows trip) s (omega (arith, plan_rows_length trip))

-- all but the records to label k are written; those are so many
pub record Writing (trip : Trip) (n : ℕ) (before sheet : List ℕ) (k left : ℕ) : Type 0 where
  pub low : 1 ≤ k
  pub high : k ≤ n
  pub many : left ≡ length (rows_back trip (k - 1))
  pub rest : List Row
  pub all : plan_rows trip ≡ rows_back trip (k - 1) ++ rest
  pub long : length sheet ≡ length before
  pub is : sheet ≡ backward (plan_rows trip) left before

module _ (labels : FoundLabels) (before : List ℕ) where
  abbrev trip : Trip
  trip = listed_trip labels.run.now

  abbrev words : List ℕ
  words = labels.words.now

  abbrev n : ℕ
  n = labels.count

  sound : SoundTrip trip
  sound = listed_sound labels.run.now

  found : Found trip words n
  found = found_in labels

  -- the leg to label k
  pub leg_range : (k : ℕ) → 1 < k → k ≤ n → RangeIn trip (label_at words (parent_of words k))
  leg_range k more high =
      let parent = (held_descends trip words n labels.held).parents k more high in
      label_range trip sound words n found (parent_of words k) parent.low (omega (arith, parent.below))

  pub leg_move : (k : ℕ) → 1 < k → k ≤ n → SomeMove trip (label_at words (parent_of words k)) (label_at words k)
  leg_move = parent_leads trip sound words n found

  pub write_first : (m : ℕ) → m ≡ move_count trip → Writing trip n before before n m
  write_first m size =
      let whole : plan_rows trip ≡ rows_back trip (n - 1) = plan_back trip sound found.answered (n - 1) (omega (arith, found.held.count, found.held.low)) in
      record {
        low = found.held.low;
        high = omega arith;
        many = size ∙ sym (plan_rows_length trip) ∙ ap length whole;
        rest = [];
        all = whole ∙ sym (append-nil (rows_back trip (n - 1)));
        long = refl;
        is = sym (backward_start (plan_rows trip) before) ∙ ap (λ (j : ℕ). backward (plan_rows trip) j before) (plan_rows_length trip ∙ sym size);
      }

  -- no more than all are left
  pub write_fits : (sheet : List ℕ) (k left : ℕ) → Writing trip n before sheet k left → left ≤ move_count trip
  write_fits sheet k left writing =
      omega (arith, writing.many, plan_rows_length trip, ap length writing.all, length-append (rows_back trip (k - 1)) writing.rest)

  -- and one at least, where label k is not the first
  pub write_some : (sheet : List ℕ) (k left : ℕ) → Writing trip n before sheet k left → 1 < k → 1 ≤ left
  write_some sheet k left writing more =
      let back = back_next trip sound (k - 1) (omega arith) (omega (arith, writing.high, found.held.count)) in
      omega (arith, writing.many, ap length back.rows, length-append (rows_back trip (parent_in trip (label trip (k - 1)))) (row_at back.by_move (label trip (k - 1)) ∷ []))

  -- the record of label k's own move is the last that is left
  own_row : (k : ℕ) (row : Row) → 1 < k → k ≤ n → RowFor trip (label_at words (parent_of words k)) (label_at words k) row
      → rows_back trip (k - 1) ≡ rows_back trip (parent_of words k - 1) ++ row ∷ []
  own_row k row more high for =
      let i : ℕ = k - 1 in
      let back = back_next trip sound i (omega arith) (omega (arith, found.held.count)) in
      let p : ℕ = parent_in trip (label trip i) in
      let index : parent_of words k - 1 ≡ p = omega (arith, parent_word trip words n found.held k more high) in
      let here : label_at words k ≡ label trip i = label_held trip words n found.held k (omega arith) high in
      let same : for.by ≡ back.by_move = some-injective _ _ (sym for.lowest ∙ moves_same (parent_state trip sound words n found k more high) here ∙ back.is_lowest) in
      let is : row ≡ row_at back.by_move (label trip i) =
      for.is ∙ ap (λ (m : Move). row_at m (label_at words k)) same ∙ ap (row_at back.by_move) here in
      rw (index, is) back.rows
    where
      moves_same : {a b c d : State} → a ≡ b → c ≡ d → move_to trip a c ≡ move_to trip b d
      moves_same {a} {b} {c} {d} e f = ap (λ (z : State). move_to trip z c) e ∙ ap (move_to trip b) f

  pub write_next : (sheet : List ℕ) (k left : ℕ) (row : Row) → Writing trip n before sheet k left → 1 < k → sheet_needed (move_count trip) ≤ length before
      → RowFor trip (label_at words (parent_of words k)) (label_at words k) row → Writing trip n before (with_row sheet left row) (parent_of words k) (left - 1)
  write_next sheet k left row writing more fits for =
      let own = own_row k row more writing.high for in
      let parent = (held_descends trip words n found.held).parents k more writing.high in
      let earlier : List Row = rows_back trip (parent_of words k - 1) in
      let size : left ≡ length earlier + 1 = omega (arith, writing.many, ap length own, length-append earlier (row ∷ [])) in
      let whole : plan_rows trip ≡ earlier ++ row ∷ writing.rest =
      writing.all ∙ ap (λ (l : List Row). l ++ writing.rest) own ∙ append_assoc earlier (row ∷ []) writing.rest in
      let most = write_fits sheet k left writing in
      let at : get_or (plan_rows trip) (left - 1) row ≡ row =
      ap (λ (l : List Row). get_or l (left - 1) row) whole
      ∙ get_or_at earlier row writing.rest row (left - 1) (omega arith) in
      let up : left - 1 + 1 ≡ left = omega arith in
      let step : with_row (backward (plan_rows trip) (left - 1 + 1) before) (left - 1 + 1) (get_or (plan_rows trip) (left - 1) row) ≡ backward (plan_rows trip) (left - 1) before =
      backward_step (plan_rows trip) (left - 1) before row (omega (arith, plan_rows_length trip)) (omega (arith, plan_rows_length trip)) in
      record {
        low = parent.low;
        high = omega (arith, parent.below, writing.high);
        many = omega arith;
        rest = row ∷ writing.rest;
        all = whole;
        long = length_with_row sheet left row (omega arith) (omega (arith, writing.long)) ∙ writing.long;
        is =
            ap (λ (l : List ℕ). with_row l left row) writing.is
            ∙ subst (λ (j : ℕ). with_row (backward (plan_rows trip) j before) j row ≡ backward (plan_rows trip) (left - 1) before) up
            (subst (λ (r : Row). with_row (backward (plan_rows trip) (left - 1 + 1) before) (left - 1 + 1) r ≡ backward (plan_rows trip) (left - 1) before) at step);
      }

  pub write_end : (sheet : List ℕ) (k left : ℕ) → Writing trip n before sheet k left → k ≤ 1 → sheet ≡ backward (plan_rows trip) 0 before
  write_end sheet k left writing end =
      let first : k - 1 ≡ 0 = omega (arith, writing.low) in
      let none : left ≡ 0 = omega (arith, writing.many, ap (λ (i : ℕ). length (rows_back trip i)) first, ap length (back_first trip sound)) in
      writing.is ∙ ap (λ (j : ℕ). backward (plan_rows trip) j before) none
