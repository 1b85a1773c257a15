-- The labels that fit are a part of the lent words. Assumes nothing.
use mathlib.Core.Path.{◌≡◌, ◌∙◌, refl, sym, subst, subst₂}
use mathlib.Core.List.{List, ◌++◌}
use mathlib.Core.Option.{Option, none, some}
use Rattle.std.specs.Prelude.{Result, Err}
use Prim.Native.Nat.{ℕ, ◌*◌, ◌≤◌, ◌<◌}
use native.Mathlib.Omega.{arith}
use native.Mathlib.Nat.{le_refl}
use lib.ListN.{length, get_or, take, drop, length-append, get_or-append}
use Rattle.std.proofs.lemmas.List.{length-take-le}
use Rattle.std.proofs.lemmas.Slice.{drop-append-drop}
use Rattle.states.specs.declared.State.{State}
use Rattle.moves.specs.Trip.{Trip}
use Rattle.moves.specs.Runs.{SoundTrip}
use Rattle.states.specs.LabelSpace.{labels_that_fit, label_words}
use Rattle.journeys.proofs.Labels.{label_some}
use Rattle.labels.specs.LabelWords.{parent_field, previous_field, at, parent_of, Same, settled}
use Rattle.labels.proofs.LabelWords.{column_same, settled_same}
use Rattle.settling.specs.Settling.{Ended}
use Rattle.search.specs.declared.Unfound.{Unfound}
use Rattle.search.specs.Underway.{parents_of}
use Rattle.search.specs.Turns.{EndsFound, OutcomeSays, found, exhausted, full}
use Rattle.search.specs.Searched.{Searched}

-- no label fits, and the start is one
pub none_fits : (trip : Trip) → SoundTrip trip → (ws : List ℕ) → labels_that_fit (length ws) ≡ 0 → Searched trip ws ws (Err Unfound.Full)
none_fits trip sound ws shut =
    record { ends = full (omega (arith, shut, label_some trip sound)); beyond = refl }

-- Labels that stand in the part stand in the whole.
module _ (part rest : List ℕ) (n : ℕ) (room : label_words * n ≤ length part) where
  in_part : (p : ℕ) → p < label_words * n → get_or (part ++ rest) p 0 ≡ get_or part p 0
  in_part p h = get_or-append part rest 0 p (omega (arith, room, h))

  part_column : (f : ℕ) → f < label_words → Same f part (part ++ rest) n
  part_column f small k low high = in_part (at k f) (omega arith)

  part_states : settled (part ++ rest) n ≡ settled part n
  part_states =
      settled_same part (part ++ rest) n
      (record { states = λ f small. part_column f (omega arith); previous = part_column previous_field (omega arith) })

  part_parents : parents_of (part ++ rest) n ≡ parents_of part n
  part_parents = column_same parent_of part (part ++ rest) n (part_column parent_field (omega arith))

  part_ended : (trip : Trip) (answer : Option State) → Ended trip answer (settled part n) (parents_of part n) → Ended trip answer (settled (part ++ rest) n) (parents_of (part ++ rest) n)
  part_ended trip answer ended = subst₂ (λ (L : List State) (P : List ℕ). Ended trip answer L P) (sym part_states) (sym part_parents) ended

part_found : (part rest : List ℕ) (n : ℕ) (trip : Trip) → EndsFound trip part n → EndsFound trip (part ++ rest) n
part_found part rest n trip ends =
    record {
      answer = ends.answer;
      room = omega (arith, ends.room, length-append part rest);
      ended = part_ended part rest n ends.room trip (some ends.answer) ends.ended;
    }

-- how the search ends in the part it ends in the whole
part_ends : (trip : Trip) (fit : ℕ) (part rest : List ℕ) (outcome : Result ℕ Unfound) → label_words * fit ≤ length part
    → OutcomeSays trip fit part outcome → OutcomeSays trip fit (part ++ rest) outcome
part_ends trip fit part rest outcome room (found ends few) =
    found (part_found part rest _ trip ends) few
part_ends trip fit part rest outcome room (exhausted ended few) =
    exhausted (part_ended part rest _ (omega (arith, room, few)) trip none ended) few
part_ends trip fit part rest outcome room (full above) = full above

pub part_searched : (trip : Trip) (ws part : List ℕ) {fit : ℕ} {outcome : Result ℕ Unfound} → fit ≡ labels_that_fit (length ws)
    → length part ≡ length (take (label_words * fit) ws) → OutcomeSays trip (labels_that_fit (length (take (label_words * fit) ws))) part outcome
    → Searched trip ws (part ++ drop (label_words * fit) ws) outcome
part_searched trip ws part {fit} {outcome} e kept says =
    let lent : length (take (label_words * fit) ws) ≡ label_words * fit = length-take-le (label_words * fit) ws (omega (arith, e)) in
    let same : labels_that_fit (length (take (label_words * fit) ws)) ≡ labels_that_fit (length ws) = omega (arith, e, lent) in
    record {
      ends = part_ends trip _ part _ outcome (omega (arith, kept, lent, e)) (subst (λ (k : ℕ). OutcomeSays trip k part outcome) same says);
      beyond = rw (← e) (drop-append-drop (label_words * fit) ws part (label_words * fit) (le_refl _) (kept ∙ lent));
    }
