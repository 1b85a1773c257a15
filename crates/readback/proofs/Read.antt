-- The words of a label are the definition's label, its figures are in range, and its parent has a move to it. Assumes nothing.
use mathlib.Core.Path.{◌≡◌, ◌∙◌, sym, ap}
use mathlib.Core.List.{List}
use Prim.Native.Nat.{ℕ, ◌-◌, ◌≤◌, ◌<◌}
use native.Mathlib.Omega.{arith}
use lib.ListN.{get_or}
use Rattle.states.specs.declared.State.{State}
use Rattle.moves.specs.Trip.{Trip}
use Rattle.moves.specs.Runs.{SoundTrip, RangeIn}
use Rattle.theory.proofs.Lists.{mem_at}
use Rattle.journeys.specs.Journeys.{start_in}
use Rattle.journeys.specs.Labels.{labels_in, label, parent_in}
use Rattle.journeys.proofs.Journeys.{reached_range}
use Rattle.journeys.proofs.Labels.{label_exactly}
use Rattle.journeys.proofs.Plan.{parent_move}
use Rattle.labels.specs.LabelWords.{parent_of, label_at}
use Rattle.labels.proofs.LabelWords.{settled_at}
use Rattle.readback.specs.Moving.{SomeMove}
use Rattle.readback.specs.Held.{Holds, Found}
use Rattle.readback.proofs.Counted.{parent_word, held_descends}

-- label k of the words
pub label_held : (trip : Trip) (words : List ℕ) (n : ℕ) → Holds trip words n → (k : ℕ) → 1 ≤ k → k ≤ n → label_at words k ≡ label trip (k - 1)
label_held trip words n held k low high =
    sym (settled_at words n k (start_in trip) low high)
    ∙ ap (λ (l : List State). get_or l (k - 1) (start_in trip)) held.states

module _ (trip : Trip) (sound : SoundTrip trip) (words : List ℕ) (n : ℕ) (found : Found trip words n) where
  pub label_range : (k : ℕ) → 1 ≤ k → k ≤ n → RangeIn trip (label_at words k)
  label_range k low high =
      rw (label_held trip words n found.held k low high)
      (reached_range trip sound ((label_exactly trip sound (label trip (k - 1))).0 (mem_at (start_in trip) (labels_in trip) (k - 1) (omega (arith, found.held.count)))).0.reached)

  -- the parent's words are the definition's parent
  pub parent_state : (k : ℕ) → 1 < k → k ≤ n → label_at words (parent_of words k) ≡ label trip (parent_in trip (label trip (k - 1)))
  parent_state k low high =
      let before = (held_descends trip words n found.held).parents k low high in
      let index : parent_of words k - 1 ≡ parent_in trip (label trip (k - 1)) = omega (arith, parent_word trip words n found.held k low high) in
      label_held trip words n found.held (parent_of words k) before.low (omega (arith, before.below)) ∙ ap (label trip) index

  pub parent_leads : (k : ℕ) → 1 < k → k ≤ n → SomeMove trip (label_at words (parent_of words k)) (label_at words k)
  parent_leads k low high =
      rw (parent_state k low high, label_held trip words n found.held k (omega arith) high)
      (parent_move trip sound (k - 1) (omega arith) (omega (arith, found.held.count)))
