-- The label count N, said of journeys alone. Document 01, "Labels". Assumes nothing.
use Rattle.std.specs.Prelude.{◌≡◌, ◌↔◌, ℕ, T, length}
use mathlib.Core.List.{List, Memᴰ}
use Rattle.states.specs.declared.State.{State}
use Rattle.moves.specs.declared.Move.{Move}
use Rattle.moves.specs.Trip.{Trip}
use Rattle.theory.specs.Lists.{Distinct}
use Rattle.journeys.specs.Journeys.{Journey, UndominatedIn}
use Rattle.states.specs.States.{ranks_no_higher}

-- reachable and undominated, and ranking no higher than the answer's state: no higher than the end of any legal journey
pub record IsCounted (trip : Trip) (u : State) : Type 0 where
  pub undominated : UndominatedIn trip u
  pub within : (ms : List Move) (t : State) → Journey trip ms t → T (ranks_no_higher u t)

-- n is how many distinct states are counted
pub record CountsLabels (trip : Trip) (n : ℕ) : Type 0 where
  pub states : List State
  pub distinct : Distinct states
  pub exactly : (u : State) → Memᴰ u states ↔ IsCounted trip u
  pub count : n ≡ length states
