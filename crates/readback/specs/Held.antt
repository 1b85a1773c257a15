-- A finished search in the words of its labels: label i + 1 is the definition's label at index i. Assumes nothing.
use Rattle.std.specs.Prelude.{◌≡◌, List, ℕ, ◌+◌, ◌*◌, ◌≤◌, ◌<◌, length}
use Rattle.std.proofs.Math.Option.{some}
use Rattle.states.specs.declared.State.{State}
use Rattle.moves.specs.Trip.{Trip}
use Rattle.moves.specs.Runs.{SoundTrip}
use Rattle.journeys.specs.Labels.{answer_in, labels_in, label_count, label, parent_in}
use Rattle.journeys.specs.Plan.{move_count}
use Rattle.states.specs.LabelSpace.{label_words}
use Rattle.labels.specs.LabelWords.{parent_of, settled}

pub record Holds (trip : Trip) (words : List ℕ) (n : ℕ) : Type 0 where
  pub low : 1 ≤ n
  pub fits : label_words * n ≤ length words
  pub count : n ≡ label_count trip
  pub states : settled words n ≡ labels_in trip
  -- the start has no parent, every other label has the definition's, which stands before it
  pub root : parent_of words 1 ≡ 0
  pub parents : (i : ℕ) → 1 ≤ i → i < n → parent_of words (i + 1) ≡ parent_in trip (label trip i) + 1
  pub before : (i : ℕ) → 1 ≤ i → i < n → parent_in trip (label trip i) < i

-- there is a journey
abbrev pub Answered : Trip → Type 0
Answered trip = (a : State) × (answer_in trip ≡ some a)

-- the words hold the finished search of a trip that has a journey
pub record Found (trip : Trip) (words : List ℕ) (n : ℕ) : Type 0 where
  pub held : Holds trip words n
  pub answered : Answered trip

-- the parent of every label but the first stands before it
pub record ParentBefore (words : List ℕ) (k : ℕ) : Type 0 where
  pub low : 1 ≤ parent_of words k
  pub below : parent_of words k < k

pub record Descends (words : List ℕ) (n : ℕ) : Type 0 where
  pub low : 1 ≤ n
  pub fits : label_words * n ≤ length words
  pub parents : (k : ℕ) → 1 < k → k ≤ n → ParentBefore words k

-- m is the number of moves, whichever trip's search the words hold
abbrev pub CountsMoves : List ℕ → ℕ → ℕ → Type 0
CountsMoves words n m = (trip : Trip) → SoundTrip trip → Found trip words n → m ≡ move_count trip
