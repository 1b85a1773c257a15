-- What planning owes: its answer, every byte of the sheet and, where it refuses before the search, every word of the label space.
-- Assumes nothing.
use Rattle.std.specs.Prelude.{◌≡◌, List, ℕ, T, eqb, length, Result}
use Rattle.replies.specs.declared.Refusal.{Refusal}
use Rattle.replies.specs.declared.Plan.{Plan}
use Rattle.replies.specs.Told.{told_plan}
use Rattle.theory.specs.Lists.{memb}
use Rattle.moves.specs.Given.{Given}
use Rattle.journeys.specs.Planning.{before_search, plan_reply, plan_sheet}
use Rattle.states.specs.LabelSpace.{labels_that_fit}

-- a run of planning: what it is given, the label space before and after, the sheet before and after, and the answer
pub record Planned (given : Given) (words words' sheet sheet' : List ℕ) (answer : Result Plan Refusal) : Type 0 where
  pub reply : told_plan answer ≡ plan_reply given (labels_that_fit (length words)) (length sheet)
  pub bytes : sheet' ≡ plan_sheet given (labels_that_fit (length words)) sheet
  -- a refusal that is given before the search leaves the label space
  pub kept : T (memb eqb (told_plan answer).number before_search) → words' ≡ words
