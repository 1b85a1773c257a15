-- A state's figures, and states compared. Document 01, "Moves" and "Labels", and document 02, P5 and P7. Assumes nothing.
use Rattle.std.specs.Prelude.{Bool, ◌&&◌, List, [], ◌∷◌, ◌++◌, ℕ, eqb}
use Rattle.theory.specs.States.{dominates}
use Rattle.theory.specs.Figures.{none_above, same_each, lexicographic}
use Rattle.driving.specs.declared.Order.{Order}
use Rattle.driving.specs.Hours.{wheel_figures, wheel_limits, driver_figures}
use Rattle.states.specs.declared.State.{State}

-- clock, spell, shift, week, and then 0 with the mark or 1 without
abbrev pub figures_of : State → List ℕ
figures_of s = s.clock.0 ∷ driver_figures s.figures

-- of these clock, spell, shift and week have limits
abbrev pub times_of : State → List ℕ
times_of s = s.clock.0 ∷ wheel_figures s.figures

-- latest arrival, spell limit, shift limit, week limit
abbrev pub limits_of : Order → List ℕ
limits_of o = o.latest.0 ∷ wheel_limits o.rules

-- a journey starts at source with words 2, 4, 5, 14
abbrev pub start_of : Order → State
start_of o = record { junction = o.source; clock = o.departure; figures = o.figures }

-- legal: spell, shift and week at most their limits and clock at most latest
unfoldable pub legal : Order → State → Bool
legal o s = none_above (times_of s) (limits_of o)

-- at one junction, clock, spell, shift and week each at most the other's, and the mark if the other has it
unfoldable pub covers : State → State → Bool
covers b a = eqb b.junction a.junction && none_above (figures_of b) (figures_of a)

-- states are ranked by clock, spell, shift, week, the marked one first, junction
abbrev pub rank_figures : State → List ℕ
rank_figures s = figures_of s ++ (s.junction ∷ [])

-- b ranks no higher than a
unfoldable pub ranks_no_higher : State → State → Bool
ranks_no_higher b a = lexicographic (rank_figures b) (rank_figures a)

-- equal states
unfoldable pub same_state : State → State → Bool
same_state b a = same_each (rank_figures b) (rank_figures a)

-- of two different states at one junction, one dominates if its clock, spell, shift and week are each at most the other's; one with the mark
-- is better than one without
abbrev pub dominates_state : State → State → Bool
dominates_state b a = dominates same_state covers b a
