-- The cursors of a label tried one after the other, lowest first, and the best of them. Assumes nothing.
use Rattle.std.specs.Prelude.{◌≡◌, Bool, true, false, not, ◌||◌, List, ℕ, ◌+◌, ◌-◌, ◌≤◌, ◌<◌, T, leb, length, Option, IfSome}
use Rattle.driving.specs.Hours.{last_pause, allows_pause}
use Rattle.states.specs.declared.State.{State}
use Rattle.states.specs.States.{covers, ranks_no_higher}
use Rattle.moves.specs.declared.Run.{Run}
use Rattle.moves.specs.Trip.{Trip, roads_in, park_in}
use Rattle.moves.specs.Runs.{RangeIn}
use Rattle.moves.specs.Moves.{leaves}
use Rattle.journeys.specs.Journeys.{succs}
use Rattle.theory.specs.States.{Covered}
use Rattle.labels.specs.declared.Candidate.{Candidate}
use Rattle.labels.specs.declared.Place.{Place}
use Rattle.labels.specs.LabelWords.{label_at}
use Rattle.labels.specs.Lists.{place_at}
use Rattle.candidates.specs.declared.Rival.{Rival}
use Rattle.candidates.specs.Candidates.{Names, result_at, Fitting}
use Rattle.candidates.specs.Next.{above, Needless}

-- a cursor worth trying: of a road of the junction, or of a kind of pause at a car park
pub record Worth (trip : Trip) (s : State) (cursor : ℕ) : Type 0 where
  pub low : 1 ≤ cursor
  pub high : cursor < roads_in trip + last_pause
  pub road : cursor ≤ roads_in trip → leaves trip s.junction cursor ≡ true
  pub pause : roads_in trip < cursor → park_in trip s.junction ≡ true

-- of a pause the driver's figures decide besides
abbrev pub allowed : Run → State → ℕ → Bool
allowed run s cursor =
    leb cursor run.sizes.roads || allows_pause run.order.rules s.figures (cursor - run.sizes.roads + 1)

-- c stands before the next cursor; each does where that is 0, the end
abbrev pub Before : ℕ → ℕ → Type 0
Before next c = 1 ≤ next → c < next

-- the next cursor worth trying after this one; none that it passes over names a legal move
pub record Follows (trip : Trip) (s : State) (cursor next : ℕ) : Type 0 where
  pub rises : Before next cursor
  pub worth : 1 ≤ next → Worth trip s next
  pub over : (c : ℕ) → cursor < c → Before next c → Names trip s c → ⊥

-- so many hints
abbrev pub hint_entries : ℕ
hint_entries = 1024

-- k is a label at junction j, or none
abbrev pub Stands : List ℕ → ℕ → ℕ → Type 0
Stands ws j k = 1 ≤ k → (label_at ws k).junction ≡ j

-- the last label at each junction is one there
abbrev pub AllStand : List ℕ → List Place → Type 0
AllStand ws ps = (j : ℕ) → j < length ps → Stands ws j (place_at ps j).last

-- a rival, if there is one, is of a label, and its move is worth trying for that
abbrev pub Contends : Trip → List ℕ → Option Rival → Type 0
Contends trip ws rival = IfSome rival (λ by. (1 ≤ by.label) × Worth trip (label_at ws by.label) by.cursor)

-- labels 1 to n are in range
abbrev pub Ranged : Trip → List ℕ → ℕ → Type 0
Ranged trip ws n = (k : ℕ) → 1 ≤ k → k ≤ n → RangeIn trip (label_at ws k)

-- one of labels 1 to n has a successor that covers t
pub record Preceded (trip : Trip) (ws : List ℕ) (n : ℕ) (t : State) : Type 0 where
  pub label : ℕ
  pub low : 1 ≤ label
  pub high : label ≤ n
  pub covers : Covered covers (succs trip (label_at ws label)) t

-- t ranks below the best so far or, where none above it may be left, is any other state
abbrev pub Apart : Bool → State → State → Type 0
Apart true best t = T (not (ranks_no_higher best t))
Apart false best t = best ≡ t → ⊥

-- the best so far is a successor above the bound that no label covers
pub record Found (trip : Trip) (labels : List State) (s bound : State) (best : Candidate) : Type 0 where
  pub held : Fitting trip s best
  pub higher : 1 ≤ best.cursor → T (above bound (result_at trip s best.cursor))
  pub uncovered : 1 ≤ best.cursor → Covered covers labels (result_at trip s best.cursor) → ⊥

-- the cursor of a successor above the bound that is apart from the best so far
pub record Other (trip : Trip) (s bound : State) (best : Candidate) (c : ℕ) : Type 0 where
  pub named : Names trip s c
  pub higher : T (above bound (result_at trip s c))
  pub apart : 1 ≤ best.cursor → Apart best.more (result_at trip s best.cursor) (result_at trip s c)

-- of the cursors up to the next this is the best: what the others lead to needs no turn
pub record BestBelow (trip : Trip) (labels : List State) (before : ℕ) (s bound : State) (next : ℕ) (best : Candidate) : Type 0 where
  pub found : Found trip labels s bound best
  pub passed : (c : ℕ) → Before next c → Other trip s bound best c → Needless trip labels before (result_at trip s c)

-- the best so far with one more: one to the same state, one that ranks no lower, or one below it, which takes its place
pub data Joined (trip : Trip) (s : State) (best : Candidate) (cursor : ℕ) : Candidate → Type 0 where
  same : 1 ≤ best.cursor → result_at trip s best.cursor ≡ result_at trip s cursor → Joined trip s best cursor best
  higher : 1 ≤ best.cursor → T (ranks_no_higher (result_at trip s best.cursor) (result_at trip s cursor))
      → Joined trip s best cursor (record { cursor = best.cursor; junction = best.junction; clock = best.clock; more = true })
  lower : (more : Bool) (junction clock : ℕ) → junction ≡ (result_at trip s cursor).junction → clock ≡ (result_at trip s cursor).clock.0
      → (1 ≤ best.cursor → T (not (ranks_no_higher (result_at trip s best.cursor) (result_at trip s cursor))) × (more ≡ true))
      → Joined trip s best cursor (record { cursor = cursor; junction = junction; clock = record { 0 = clock }; more = more })
