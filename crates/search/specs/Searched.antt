-- A search in lent words. Assumes nothing.
use Rattle.std.specs.Prelude.{◌≡◌, Result, List, ℕ, ◌*◌, length, drop}
use Rattle.moves.specs.Trip.{Trip}
use Rattle.states.specs.LabelSpace.{labels_that_fit, label_words}
use Rattle.search.specs.declared.Unfound.{Unfound}
use Rattle.search.specs.Turns.{OutcomeSays}

-- how it ends with the labels that fit, whatever the words held; the words after those are as they were
pub record Searched (trip : Trip) (ws ws' : List ℕ) (outcome : Result ℕ Unfound) : Type 0 where
  pub ends : OutcomeSays trip (labels_that_fit (length ws)) ws' outcome
  pub beyond : drop (label_words * labels_that_fit (length ws)) ws' ≡ drop (label_words * labels_that_fit (length ws)) ws
