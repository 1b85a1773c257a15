-- Which move leads from a label's parent to the label. Assumes nothing.
use Rattle.std.specs.Prelude.{◌≡◌, Bool, true, not, ◌&&◌, ℕ, ◌≤◌, ltb}
use mathlib.Core.List.{Memᴰ}
use Rattle.driving.specs.Hours.{first_pause}
use Rattle.states.specs.declared.State.{State}
use Rattle.moves.specs.Trip.{Trip}
use Rattle.moves.specs.declared.Move.{Move}
use Rattle.moves.specs.Moves.{move, may_pause, offers}
use Rattle.journeys.specs.Journeys.{succs}
use Rattle.journeys.specs.Plan.{moves_to}

-- some legal move leads from p to t
abbrev pub SomeMove : Trip → State → State → Type 0
SomeMove trip p t = Memᴰ t (succs trip p)

-- the move is offered and leads legally from p to t
pub record Takes (trip : Trip) (p t : State) (m : Move) : Type 0 where
  pub offered : offers trip p m ≡ true
  pub leads : moves_to trip p t m ≡ true

-- r is the lowest road whose drive does; 0 where none does
pub record RoadTo (trip : Trip) (p t : State) (r : ℕ) : Type 0 where
  pub drives : 1 ≤ r → Takes trip p t (move 1 r)
  pub lowest : (k : ℕ) → Takes trip p t (move 1 k) → (1 ≤ r) × (r ≤ k)

-- a chain is followed past road r: it is not the chain's end, and its drive does not lead legally from p to t
unfoldable pub passes_by : Trip → State → State → ℕ → Bool
passes_by trip p t r = ltb 0 r && not (moves_to trip p t (move 1 r))

-- some pause leads from p to t
abbrev pub SomePause : Trip → State → State → Type 0
SomePause trip p t = (kind : ℕ) × (first_pause ≤ kind) × Takes trip p t (move kind p.junction)

-- the lowest kind of pause that does
pub record PauseTo (trip : Trip) (p t : State) (kind : ℕ) : Type 0 where
  pub takes : Takes trip p t (move kind p.junction)
  pub lowest : (k : ℕ) → first_pause ≤ k → Takes trip p t (move k p.junction) → kind ≤ k

-- the pause of this kind is offered in p and leads legally to t
abbrev pub pauses_to : Trip → State → State → ℕ → Bool
pauses_to trip p t kind = may_pause trip p kind && moves_to trip p t (move kind p.junction)
