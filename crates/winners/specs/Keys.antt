-- The order of the labels by their candidates, as one number for each label. Assumes nothing.
use Rattle.std.specs.Prelude.{◌≡◌, List, ℕ, zero, suc, ◌+◌, ◌*◌, ◌%◌, ◌≤◌, ◌<◌, length, get_or}
use Rattle.states.specs.declared.State.{State}
use Rattle.moves.specs.Trip.{Trip}
use Rattle.moves.specs.Runs.{RangeIn}
use Rattle.states.specs.LabelSpace.{label_words}
use Rattle.labels.specs.LabelWords.{winner_field, label_at, cursor_of, candidate_of}
use Rattle.candidates.specs.Candidates.{result_at, Fitting}
use Rattle.states.specs.RankNumber.{word_base, rank_number, rank_top}

-- above the key of every candidate: that of a label without one, and of no label
unfoldable pub no_key : ℕ
no_key = rank_top * word_base

-- label k's key from its state and cursor: its candidate's rank, then its own number
abbrev pub key_from : Trip → State → ℕ → ℕ → ℕ
key_from trip s k zero = no_key
key_from trip s k (suc cursor) = rank_number (result_at trip s (suc cursor)) * word_base + k

unfoldable pub key_at : Trip → List ℕ → ℕ → ℕ
key_at trip ws zero = no_key
key_at trip ws (suc k) = key_from trip (label_at ws (suc k)) (suc k) (cursor_of ws (suc k))

-- the candidate of label k, where its cursor is not 0
abbrev pub candidate : Trip → List ℕ → ℕ → State
candidate trip ws k = result_at trip (label_at ws k) (cursor_of ws k)

-- label k stands in the words, with a state in range and a candidate of it
pub record Sound (trip : Trip) (ws : List ℕ) (k : ℕ) : Type 0 where
  pub room : label_words * k ≤ length ws
  pub small : k < word_base
  pub range : RangeIn trip (label_at ws k)
  pub fitting : Fitting trip (label_at ws k) (candidate_of ws k)

-- no label, or a sound one
abbrev pub Entrant : Trip → List ℕ → ℕ → Type 0
Entrant trip ws k = 1 ≤ k → Sound trip ws k

-- labels 1 to n are sound
abbrev pub Ready : Trip → List ℕ → ℕ → Type 0
Ready trip ws n = (k : ℕ) → 1 ≤ k → k ≤ n → Sound trip ws k

-- all words but the winners are as they were
abbrev pub OnlyWinners : List ℕ → List ℕ → Type 0
OnlyWinners ws ws' = (p : ℕ) → (p % label_words ≡ winner_field → ⊥) → get_or ws' p 0 ≡ get_or ws p 0
