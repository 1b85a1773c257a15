-- A turn of the search's loop: what it comes to. Assumes nothing.
use Rattle.std.specs.Prelude.{Result, Ok, Err, List, ℕ, ◌+◌, ◌*◌, ◌≤◌, ◌<◌, length}
use Rattle.std.proofs.Math.Option.{none, some}
use Rattle.states.specs.declared.State.{State}
use Rattle.moves.specs.Trip.{Trip}
use Rattle.journeys.specs.Labels.{label_count}
use Rattle.states.specs.LabelSpace.{label_words}
use Rattle.labels.specs.declared.Place.{Place}
use Rattle.labels.specs.LabelWords.{settled}
use Rattle.settling.specs.Settling.{Ended}
use Rattle.search.specs.declared.Turn.{Turn}
use Rattle.search.specs.declared.Unfound.{Unfound}
use Rattle.search.specs.Underway.{parents_of, Onward}

-- labels 1 to n stand in the words, and are all: there is no journey
abbrev pub EndsWithout : Trip → List ℕ → ℕ → Type 0
EndsWithout trip ws n = Ended trip none (settled ws n) (parents_of ws n)

-- labels 1 to n stand in the words, and are all: the last is the answer
pub record EndsFound (trip : Trip) (ws : List ℕ) (n : ℕ) : Type 0 where
  pub answer : State
  pub room : label_words * n ≤ length ws
  pub ended : Ended trip (some answer) (settled ws n) (parents_of ws n)

-- from n labels, where so many fit: the search goes on above the key given, or ends
pub data TurnSays (trip : Trip) (fit key n : ℕ) (ws : List ℕ) (ps : List Place) : Result Turn Unfound → Type 0 where
  goes : {m : ℕ} → Onward trip key ws ps m → m ≤ fit → TurnSays trip fit key n ws ps (Ok (Turn.Goes m))
  found : EndsFound trip ws (n + 1) → n + 1 ≤ fit → TurnSays trip fit key n ws ps (Ok (Turn.Found (n + 1)))
  exhausted : EndsWithout trip ws n → TurnSays trip fit key n ws ps (Err (Unfound.Exhausted n))
  full : fit < label_count trip → TurnSays trip fit key n ws ps (Err Unfound.Full)

-- where so many labels fit: found and exhausted with n = N labels, which fit; or N is more than fit
pub data OutcomeSays (trip : Trip) (fit : ℕ) (ws : List ℕ) : Result ℕ Unfound → Type 0 where
  found : {n : ℕ} → EndsFound trip ws n → n ≤ fit → OutcomeSays trip fit ws (Ok n)
  exhausted : {n : ℕ} → EndsWithout trip ws n → n ≤ fit → OutcomeSays trip fit ws (Err (Unfound.Exhausted n))
  full : fit < label_count trip → OutcomeSays trip fit ws (Err Unfound.Full)
