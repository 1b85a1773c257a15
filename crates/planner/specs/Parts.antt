-- What is handed back where the search found an answer, and what each outcome of the search comes to. Assumes nothing.
use Rattle.std.specs.Prelude.{◌≡◌, List, ℕ, ◌≤◌, eqb, length, Result}
use Rattle.replies.specs.declared.Refusal.{Refusal}
use Rattle.replies.specs.declared.Plan.{Plan}
use Rattle.replies.specs.Told.{told_plan}
use Rattle.moves.specs.Trip.{Trip}
use Rattle.journeys.specs.Labels.{label_count}
use Rattle.journeys.specs.Planning.{search_reply, plan_sheet_when}

-- the answer and the sheet afterwards, of a trip that has a journey and whose labels fit
pub record HandedBack (trip : Trip) (before after : List ℕ) (answer : Result Plan Refusal) : Type 0 where
  pub reply : (fit : ℕ) → label_count trip ≤ fit → told_plan answer ≡ search_reply trip fit (length before)
  pub bytes : after ≡ plan_sheet_when (eqb (told_plan answer).number 0) trip before

-- the answer and the sheet afterwards, of a trip, where so many labels fit
pub record Concluded (trip : Trip) (fit : ℕ) (before after : List ℕ) (answer : Result Plan Refusal) : Type 0 where
  pub reply : told_plan answer ≡ search_reply trip fit (length before)
  pub bytes : after ≡ plan_sheet_when (eqb (told_plan answer).number 0) trip before
