-- The labels' words as the loop's three lists. Assumes nothing.
use mathlib.Core.Path.{◌≡◌, ◌∙◌, sym, ap}
use mathlib.Core.List.{List, [], ◌∷◌, ◌++◌}
use Prim.Native.Nat.{ℕ, ◌+◌, ◌-◌, ◌≤◌, ◌<◌}
use native.Mathlib.Omega.{arith}
use native.Mathlib.Decide.{ℕ_discrete}
use lib.ListN.{length, get_or, set, length-set}
use lib.Seq.{get_or-set_same, get_or-set_other, ext_get_or}
use Rattle.moves.specs.Trip.{Trip}
use Rattle.journeys.specs.Journeys.{start_in}
use Rattle.states.specs.declared.State.{State}
use Rattle.labels.specs.declared.Candidate.{Candidate}
use Rattle.labels.specs.LabelWords.{parent_field, at, label_at, cursor_of, parent_of, settled, Added}
use Rattle.labels.proofs.LabelWords.{kept_field, settled_length, settled_at, column_length, column_at, column_same, column_added, settled_same}
use Rattle.settling.specs.Settling.{state_at, candidate_of}
use Rattle.winners.specs.Keys.{candidate, OnlyWinners}
use Rattle.winners.specs.Mending.{Advanced}
use Rattle.winners.proofs.Keys.{same_cursor, only_labels, only_candidate}
use Rattle.winners.proofs.Steps.{added_candidate}
use Rattle.search.specs.Underway.{cursors_of, parents_of}

cursor_at : (ws : List ℕ) (n i : ℕ) → i < n → get_or (cursors_of ws n) i 0 ≡ cursor_of ws (i + 1)
cursor_at ws n i h =
    let e : i ≡ i + 1 - 1 = omega arith in
    ap (λ x. get_or (cursors_of ws n) x 0) e ∙ column_at cursor_of ws n (i + 1) 0 (omega arith) (omega arith)

module _ (trip : Trip) (ws : List ℕ) (n : ℕ) where
  pub states_length : length (settled ws n) ≡ n
  states_length = settled_length ws n

  module _ (k : ℕ) (low : 1 ≤ k) (high : k ≤ n) where
    pub state_is : state_at trip (settled ws n) (k - 1) ≡ label_at ws k
    state_is =
        settled_at ws n k (start_in trip) low high

    pub cursor_is : get_or (cursors_of ws n) (k - 1) 0 ≡ cursor_of ws k
    cursor_is = column_at cursor_of ws n k 0 low high

    -- the loop's candidate is the tree's
    pub candidate_is : candidate_of trip (settled ws n) (cursors_of ws n) (k - 1) ≡ candidate trip ws k
    candidate_is = rw (state_is, cursor_is)

  -- index i is label i + 1
  module _ (i : ℕ) (h : i < n) where
    pub state_next : state_at trip (settled ws n) i ≡ label_at ws (i + 1)
    state_next =
        let e : i ≡ i + 1 - 1 = omega arith in
        ap (λ x. state_at trip (settled ws n) x) e ∙ state_is (i + 1) (omega arith) (omega arith)

    pub cursor_next : get_or (cursors_of ws n) i 0 ≡ cursor_of ws (i + 1)
    cursor_next = cursor_at ws n i h

    pub candidate_next : candidate_of trip (settled ws n) (cursors_of ws n) i ≡ candidate trip ws (i + 1)
    candidate_next =
        let e : i ≡ i + 1 - 1 = omega arith in
        ap (λ x. candidate_of trip (settled ws n) (cursors_of ws n) x) e ∙ candidate_is (i + 1) (omega arith) (omega arith)

-- A label's candidate has changed, and nothing else but winners.
module _ {trip : Trip} {ws ws' : List ℕ} {n k : ℕ} {v : Candidate} (A : Advanced trip ws ws' n k v) where
  pub advanced_states : settled ws' n ≡ settled ws n
  advanced_states = A.settled

  pub advanced_parents : parents_of ws' n ≡ parents_of ws n
  advanced_parents = column_same parent_of ws ws' n (λ m low high. A.others (at m parent_field) (λ e. omega arith) (λ e. omega arith) (λ e. omega arith))

  pub advanced_cursors : 1 ≤ k → k ≤ n → cursors_of ws' n ≡ set (cursors_of ws n) (k - 1) v.cursor
  advanced_cursors low high =
      ext_get_or 0 _ _ (column_length cursor_of ws' n ∙ sym (length-set (cursors_of ws n) (k - 1) v.cursor ∙ column_length cursor_of ws n))
      (λ i h. go i (omega (arith, column_length cursor_of ws' n)) (ℕ_discrete i (k - 1)))
    where
      go : (i : ℕ) → i < n → Dec (i ≡ k - 1) → get_or (cursors_of ws' n) i 0 ≡ get_or (set (cursors_of ws n) (k - 1) v.cursor) i 0
      go i h (yes e) =
          let is_k : i + 1 ≡ k = omega arith in
          cursor_at ws' n i h
          ∙ ap (cursor_of ws') is_k
          ∙ same_cursor A.is_candidate
          ∙ sym (ap (λ x. get_or (set (cursors_of ws n) (k - 1) v.cursor) x 0) e ∙ get_or-set_same (cursors_of ws n) (k - 1) v.cursor 0 (omega (arith, column_length cursor_of ws n)))
      go i h (no e) =
          cursor_at ws' n i h
          ∙ same_cursor (A.candidates (i + 1) (omega arith) (λ q. e (omega arith)))
          ∙ sym (get_or-set_other (cursors_of ws n) (k - 1) i v.cursor 0 e ∙ cursor_at ws n i h)

-- A label has come in, and nothing else but winners has changed.
module _ (ws ws₁ ws' : List ℕ) {n : ℕ} {label : State} {parent : ℕ} {v : Candidate} (A : Added ws ws₁ n label parent v) (only : OnlyWinners ws₁ ws') where
  pub added_states : settled ws' (n + 1) ≡ settled ws n ++ label ∷ []
  added_states =
      settled_same ws₁ ws' (n + 1) (only_labels ws₁ ws' only (n + 1)) ∙ A.settled

  pub added_cursors : cursors_of ws' (n + 1) ≡ cursors_of ws n ++ v.cursor ∷ []
  added_cursors =
      column_added cursor_of ws ws' n (λ k low high. same_cursor (only_candidate ws₁ ws' only k ∙ added_candidate A k low high))
      ∙ ap (λ x. cursors_of ws n ++ x ∷ []) (same_cursor (only_candidate ws₁ ws' only (n + 1) ∙ A.is_candidate))

  pub added_parents : parents_of ws' (n + 1) ≡ parents_of ws n ++ parent ∷ []
  added_parents =
      column_added parent_of ws ws' n (λ k low high. only (at k parent_field) (λ e. omega arith) ∙ kept_field ws ws₁ n A.kept parent_field (omega arith) k low high)
      ∙ ap (λ x. parents_of ws n ++ x ∷ []) (only (at (n + 1) parent_field) (λ e. omega arith) ∙ A.is_parent)
