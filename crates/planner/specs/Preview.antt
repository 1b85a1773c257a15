-- The preview of a closure: what planning would answer and write on a copy of the map with a road struck. Document 02, P6.
-- Assumes nothing.
use Rattle.std.specs.Prelude.{◌≡◌, List, [], ◌∷◌, ◌++◌, ℕ, T, eqb, length, Result}
use Rattle.replies.specs.declared.Refusal.{Refusal}
use Rattle.replies.specs.declared.Plan.{Plan}
use Rattle.replies.specs.declared.Reply.{Reply}
use Rattle.replies.specs.First.{Test, ◌at◌, first_of}
use Rattle.replies.specs.Told.{told_plan}
use Rattle.booleans.specs.Pick.{pick}
use Rattle.striking.specs.Striking.{struck, unknown_road}
use Rattle.theory.specs.Lists.{memb}
use Rattle.states.specs.LabelSpace.{labels_that_fit}
use Rattle.moves.specs.Given.{Given, on_map}
use Rattle.moves.specs.RunTests.{opening_tests}
use Rattle.journeys.specs.Planning.{before_search, plan_reply, plan_sheet}

-- the map so struck
abbrev pub struck_given : Given → ℕ → Given
struck_given given road = on_map (struck given.map road) given

-- 1 to 11, of the lent map, and 24
abbrev pub closure_tests : Given → ℕ → List Test
closure_tests given road = opening_tests given.map given.order ++ ((24 at unknown_road given.map road) ∷ [])

-- the preview: the first of these that fits; else what planning replies on the map so struck, with the same list: 25 comes behind 24
unfoldable pub preview_reply : Given → ℕ → ℕ → ℕ → Reply
preview_reply given road fit sheet = first_of (closure_tests given road) (plan_reply (struck_given given road) fit sheet)

-- the sheet's bytes afterwards: those that planning leaves on the map so struck; a refusal leaves them
unfoldable pub preview_sheet : Given → ℕ → ℕ → List ℕ → List ℕ
preview_sheet given road fit before =
    pick (eqb (preview_reply given road fit (length before)).number 0) (plan_sheet (struck_given given road) fit before) before

-- a run of the preview: what it is given, the road, the label space before and after, the sheet before and after, and the answer
pub record Previewed (given : Given) (road : ℕ) (words words' sheet sheet' : List ℕ) (answer : Result Plan Refusal) : Type 0 where
  pub reply : told_plan answer ≡ preview_reply given road (labels_that_fit (length words)) (length sheet)
  pub bytes : sheet' ≡ preview_sheet given road (labels_that_fit (length words)) sheet
  -- a refusal that is given before the search leaves the label space
  pub kept : T (memb eqb (told_plan answer).number before_search) → words' ≡ words
