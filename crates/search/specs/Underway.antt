-- A search under way: what its words hold between two turns of the loop. Assumes nothing.
use Rattle.std.specs.Prelude.{◌≡◌, false, List, ℕ, ◌-◌, ◌≤◌, ◌<◌, length}
use Rattle.states.specs.declared.State.{State}
use Rattle.moves.specs.Trip.{Trip, junctions_in}
use Rattle.theory.specs.States.{Covered}
use Rattle.states.specs.States.{covers}
use Rattle.labels.specs.declared.Place.{Place}
use Rattle.labels.specs.LabelWords.{label_at, cursor_of, more_of, parent_of, winner_of, column, settled}
use Rattle.labels.specs.Lists.{Lists}
use Rattle.labels.specs.Tree.{Tree}
use Rattle.candidates.specs.Next.{Spent}
use Rattle.winners.specs.Keys.{key_at, candidate, Ready}
use Rattle.settling.specs.Settling.{Searching, Winner}

-- the cursors and the parents of labels 1 to n
abbrev pub cursors_of : List ℕ → ℕ → List ℕ
cursors_of ws n = column cursor_of ws n

abbrev pub parents_of : List ℕ → ℕ → List ℕ
parents_of ws n = column parent_of ws n

-- what label k's candidate says of the labels 1 to n
pub record Kept (trip : Trip) (ws : List ℕ) (n k : ℕ) : Type 0 where
  -- no label before k covers it
  pub fresh : 1 ≤ cursor_of ws k → Covered covers (settled ws (k - 1)) (candidate trip ws k) → ⊥
  -- where no more are left, no successor above it needs a turn
  pub spent : more_of ws k ≡ false → 1 ≤ cursor_of ws k → Spent trip (settled ws n) (k - 1) (label_at ws k) (candidate trip ws k)

pub record Underway (trip : Trip) (ws : List ℕ) (ps : List Place) (n : ℕ) : Type 0 where
  pub low : 1 ≤ n
  -- the labels of each junction are linked
  pub lists : Lists ws ps n
  pub wide : junctions_in trip < length ps
  -- the lowest-ranked candidate is at the root
  pub ready : Ready trip ws n
  pub tree : Tree (key_at trip ws) ws n
  -- labels, cursors and parents are those of the loop
  pub loop : Searching trip (settled ws n) (cursors_of ws n) (parents_of ws n)
  -- and candidates need not be compared with all labels
  pub kept : (k : ℕ) → 1 ≤ k → k ≤ n → Kept trip ws n k

-- label r has the lowest-ranked candidate, c, and is the first that has it
pub record Chosen (trip : Trip) (ws : List ℕ) (n r : ℕ) (c : State) : Type 0 where
  pub low : 1 ≤ r
  pub high : r ≤ n
  pub has : 1 ≤ cursor_of ws r
  pub is : c ≡ candidate trip ws r
  pub winner : Winner trip (settled ws n) (cursors_of ws n) (r - 1)

-- the search goes on with n labels, and its lowest candidate's key is above the one given
pub record Onward (trip : Trip) (key : ℕ) (ws : List ℕ) (ps : List Place) (n : ℕ) : Type 0 where
  pub underway : Underway trip ws ps n
  pub higher : key < key_at trip ws (winner_of ws 1)
