-- The next candidate of a label: a successor above a bound, below which none needs a turn. Assumes nothing.
use Rattle.std.specs.Prelude.{◌≡◌, Bool, false, not, ◌⊎◌, ℕ, ◌≤◌, ◌<◌, T, get_or}
use mathlib.Core.List.{List, Memᴰ}
use Rattle.states.specs.declared.State.{State}
use Rattle.moves.specs.Trip.{Trip}
use Rattle.theory.specs.States.{Covered}
use Rattle.journeys.specs.Journeys.{start_in, succs}
use Rattle.states.specs.States.{covers, ranks_no_higher}
use Rattle.labels.specs.declared.Candidate.{Candidate}
use Rattle.candidates.specs.Candidates.{Cursor, result_at, Fitting}

-- t ranks strictly above the bound
abbrev pub above : State → State → Bool
above bound t = not (ranks_no_higher t bound)

-- one of the labels before, so many, has a successor that covers t: its turn comes no later than that of t
abbrev pub Forestalled : Trip → List State → ℕ → State → Type 0
Forestalled trip labels before t = (i : ℕ) × (i < before) × Covered covers (succs trip (get_or labels i (start_in trip))) t

-- t needs no turn: a label covers it, or a successor of a label before does
abbrev pub Needless : Trip → List State → ℕ → State → Type 0
Needless trip labels before t = Covered covers labels t ⊎ Forestalled trip labels before t

-- no successor above the bound needs a turn
abbrev pub Spent : Trip → List State → ℕ → State → State → Type 0
Spent trip labels before s bound = (t : State) → Memᴰ t (succs trip s) → T (above bound t) → Needless trip labels before t

-- the cursor names a successor above the bound, below which no other above the bound needs a turn; 0 where none does
pub record Passes (trip : Trip) (labels : List State) (before : ℕ) (s bound : State) (cursor : ℕ) : Type 0 where
  pub named : Cursor trip s cursor
  pub higher : 1 ≤ cursor → T (above bound (result_at trip s cursor))
  -- no successor above the bound and below the candidate needs a turn
  pub passed : (t : State) → Memᴰ t (succs trip s) → T (above bound t)
      → (1 ≤ cursor → T (not (ranks_no_higher (result_at trip s cursor) t))) → Needless trip labels before t

-- the candidate is the next above the bound, and no label covers it
pub record NextIs (trip : Trip) (labels : List State) (before : ℕ) (s bound : State) (c : Candidate) : Type 0 where
  pub passes : Passes trip labels before s bound c.cursor
  pub fitting : Fitting trip s c
  pub uncovered : 1 ≤ c.cursor → Covered covers labels (result_at trip s c.cursor) → ⊥
  -- without more, no successor above it needs a turn
  pub spent : c.more ≡ false → 1 ≤ c.cursor → Spent trip labels before s (result_at trip s c.cursor)
