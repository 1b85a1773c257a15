-- Where the search ends with an answer, its words hold the labels and their parents. Assumes nothing.
use mathlib.Core.Path.{◌≡◌, ◌∙◌, sym, subst}
use mathlib.Core.List.{List}
use mathlib.Core.Option.{some}
use Prim.Native.Nat.{ℕ, ◌+◌, ◌-◌, ◌*◌, ◌≤◌, ◌<◌}
use native.Mathlib.Omega.{arith}
use lib.ListN.{length, get_or}
use Rattle.states.specs.declared.State.{State}
use Rattle.moves.specs.Trip.{Trip}
use Rattle.moves.specs.Runs.{SoundTrip}
use Rattle.journeys.specs.Labels.{label_count}
use Rattle.journeys.proofs.Labels.{label_some}
use Rattle.states.specs.LabelSpace.{label_words}
use Rattle.labels.specs.LabelWords.{parent_of, settled, column}
use Rattle.labels.proofs.LabelWords.{settled_length, column_at}
use Rattle.settling.specs.Settling.{Ended}
use Rattle.readback.specs.Held.{Holds, Found}

-- the lists of the loop's end are those of the words
pub ended_holds : (trip : Trip) → SoundTrip trip → (words : List ℕ) (n : ℕ) {a : State}
    → Ended trip (some a) (settled words n) (column parent_of words n) → label_words * n ≤ length words → Holds trip words n
ended_holds trip sound words n ended fits =
    record {
      low = low;
      fits = fits;
      count = count;
      states = sym ended.labels;
      root = sym (column_at parent_of words n 1 0 (omega arith) low) ∙ ended.root;
      parents = λ i some-before below. word i below ∙ ended.parents i some-before (omega (arith, count));
      before = λ i some-before below. ended.before i some-before (omega (arith, count));
    }
  where
    count : n ≡ label_count trip
    count = omega (arith, ended.count, settled_length words n)

    low : 1 ≤ n
    low = omega (arith, count, label_some trip sound)

    word : (i : ℕ) → i < n → parent_of words (i + 1) ≡ get_or (column parent_of words n) i 0
    word i below =
        let back : i + 1 - 1 ≡ i = omega arith in
        sym (subst (λ (j : ℕ). get_or (column parent_of words n) j 0 ≡ parent_of words (i + 1)) back
        (column_at parent_of words n (i + 1) 0 (omega arith) (omega arith)))

pub ended_found : (trip : Trip) → SoundTrip trip → (words : List ℕ) (n : ℕ) {a : State}
    → Ended trip (some a) (settled words n) (column parent_of words n) → label_words * n ≤ length words → Found trip words n
ended_found trip sound words n {a} ended fits =
    record {
      held = ended_holds trip sound words n ended fits;
      answered = (a, ended.answer);
    }
