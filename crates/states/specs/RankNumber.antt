-- A state's rank as one number. Assumes nothing.
use Rattle.std.specs.Prelude.{ℕ, ◌+◌, ◌^◌, T, length}
use Rattle.theory.specs.Numbers.{as_number, all_below}
use Rattle.driving.specs.Hours.{highest_figures}
use Rattle.states.specs.declared.State.{State}
use Rattle.states.specs.States.{rank_figures}

-- one above the largest word
abbrev pub word_base : ℕ
word_base = 4294967296

-- the figures and the junction are words
abbrev pub Small : State → Type 0
Small s = T (all_below word_base (rank_figures s))

-- a state's rank as one number, for figures that are words
unfoldable pub rank_number : State → ℕ
rank_number s = as_number word_base (rank_figures s)

-- above every such number: clock, the driver's figures, junction
unfoldable pub rank_top : ℕ
rank_top = word_base ^ (length highest_figures + 2)
