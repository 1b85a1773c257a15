-- The search's loop over three plain lists of one length: the states of the labels in the order of settling, their cursors (0 for none)
-- and their parents (label numbers from 1; 0 for the start). Assumes nothing.
use Rattle.std.specs.Prelude.{◌≡◌, not, ℕ, ◌+◌, ◌≤◌, ◌<◌, T, length, get_or}
use mathlib.Core.List.{List, Memᴰ}
use Rattle.std.proofs.Math.Option.{Option}
use Rattle.states.specs.declared.State.{State}
use Rattle.moves.specs.Trip.{Trip}
use Rattle.theory.specs.Lists.{StrictlySorted}
use Rattle.theory.specs.States.{Undominated}
use Rattle.theory.specs.Labels.{parent}
use Rattle.journeys.specs.Journeys.{start_in, at_target, succs}
use Rattle.states.specs.States.{same_state, covers, ranks_no_higher}
use Rattle.journeys.specs.Labels.{answer_in, labels_in, label_count, label, parent_in}
use Rattle.candidates.specs.Candidates.{result_at, Cursor}
use Rattle.candidates.specs.Next.{Needless}

-- the label at index i, counted from 0; beyond the last, the start
abbrev pub state_at : Trip → List State → ℕ → State
state_at trip L i = get_or L i (start_in trip)

-- the candidate of the label at index i, where its cursor is not 0
abbrev pub candidate_of : Trip → List State → List ℕ → ℕ → State
candidate_of trip L C i = result_at trip (state_at trip L i) (get_or C i 0)

-- what is left of the successors of a label with so many before it
pub record Pending (trip : Trip) (L : List State) (before : ℕ) (s : State) (cursor : ℕ) : Type 0 where
  -- the cursor is 0 or names a legal move
  pub named : Cursor trip s cursor
  -- no label ranks above the candidate
  pub above : 1 ≤ cursor → (l : State) → Memᴰ l L → T (ranks_no_higher l (result_at trip s cursor))
  -- no successor that ranks strictly below the candidate needs a turn; none does, if there is no candidate
  pub closed : (t : State) → Memᴰ t (succs trip s) → (1 ≤ cursor → T (not (ranks_no_higher (result_at trip s cursor) t))) → Needless trip L before t

-- the parents are the definition's
pub record Parents (trip : Trip) (L : List State) (P : List ℕ) : Type 0 where
  -- each label has one
  pub as_many : length P ≡ length L
  -- the start's is 0
  pub root : get_or P 0 0 ≡ 0
  -- every other's is the number of the first label with a move to it
  pub rest : (i : ℕ) → 1 ≤ i → i < length L → get_or P i 0 ≡ parent (succs trip) same_state L (state_at trip L i) + 1
  -- which stands before it
  pub before : (i : ℕ) → 1 ≤ i → i < length L → parent (succs trip) same_state L (state_at trip L i) < i

-- the invariant of the loop
pub record Searching (trip : Trip) (L : List State) (C P : List ℕ) : Type 0 where
  -- there is a label
  pub some_label : 0 < length L
  -- the first is the start
  pub first : state_at trip L 0 ≡ start_in trip
  -- they rise strictly in rank
  pub rises : StrictlySorted ranks_no_higher L
  -- each is reachable and undominated
  pub tops : (l : State) → Memᴰ l L → Undominated (succs trip) same_state covers (start_in trip) l
  -- none is at target
  pub away : (l : State) → Memᴰ l L → ¬ T (at_target trip l)
  -- each label has a cursor
  pub as_many : length C ≡ length L
  -- which passes over nothing that needs a turn
  pub pending : (i : ℕ) → i < length L → Pending trip L i (state_at trip L i) (get_or C i 0)
  -- and a parent
  pub parents : Parents trip L P

-- the label at index w has the lowest-ranked candidate, and is the first that has it
pub record Winner (trip : Trip) (L : List State) (C : List ℕ) (w : ℕ) : Type 0 where
  pub within : w < length L
  pub has : 1 ≤ get_or C w 0
  -- no candidate ranks below it
  pub least : (i : ℕ) → i < length L → 1 ≤ get_or C i 0 → T (ranks_no_higher (candidate_of trip L C w) (candidate_of trip L C i))
  -- no label before it has the same
  pub first : (i : ℕ) → i < w → 1 ≤ get_or C i 0 → ¬ (candidate_of trip L C i ≡ candidate_of trip L C w)

-- label w''s turn with candidate c' comes after label w's with c: its candidate ranks no lower, and of equal ones the later label's turn is later
pub record Later (c : State) (w : ℕ) (c' : State) (w' : ℕ) : Type 0 where
  pub rank : T (ranks_no_higher c c')
  pub number : c ≡ c' → w < w'

-- how the loop ends: the lists are the definition's
pub record Ended (trip : Trip) (found : Option State) (L : List State) (P : List ℕ) : Type 0 where
  pub answer : answer_in trip ≡ found
  pub labels : labels_in trip ≡ L
  pub count : label_count trip ≡ length L
  pub as_many : length P ≡ length L
  -- the start has no parent, every other label has the definition's, which stands before it
  pub root : get_or P 0 0 ≡ 0
  pub parents : (i : ℕ) → 1 ≤ i → i < label_count trip → get_or P i 0 ≡ parent_in trip (label trip i) + 1
  pub before : (i : ℕ) → 1 ≤ i → i < label_count trip → parent_in trip (label trip i) < i
