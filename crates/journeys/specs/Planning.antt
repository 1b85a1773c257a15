-- The reply of planning and the sheet afterwards, for every input. Document 01, "Replies". Assumes nothing.
use Rattle.std.specs.Prelude.{Bool, true, false, List, [], ◌∷◌, ◌++◌, ℕ, ltb, eqb, length}
use Rattle.std.proofs.Math.Option.{Option, none, some}
use Rattle.replies.specs.declared.Reply.{Reply}
use Rattle.replies.specs.Told.{succeeded}
use Rattle.replies.specs.First.{Test, ◌at◌, placed, first_of}
use Rattle.states.specs.declared.State.{State}
use Rattle.moves.specs.Trip.{Trip}
use Rattle.moves.specs.Given.{Given, trip_from}
use Rattle.moves.specs.RunTests.{run_tests}
use Rattle.sheets.specs.Sheet.{short_sheet}
use Rattle.journeys.specs.Labels.{answer_in, label_count}
use Rattle.journeys.specs.Plan.{move_count, planned_sheet}

abbrev pub is_none : Option State → Bool
is_none none = true
is_none (some a) = false

-- the numbers of the refusals that are given before the search; 24 is the preview's
abbrev pub before_search : List ℕ
before_search = 1 ∷ 2 ∷ 3 ∷ 4 ∷ 5 ∷ 6 ∷ 7 ∷ 8 ∷ 9 ∷ 10 ∷ 11 ∷ 24 ∷ 25 ∷ []

-- refusal 12, full: N above labels that fit
abbrev pub full : Trip → ℕ → Option ℕ
full trip fit = placed (ltb fit (label_count trip)) fit

-- refusal 13, no road: no legal journey
abbrev pub no_road : Trip → Option ℕ
no_road trip = placed (is_none (answer_in trip)) (label_count trip)

-- 12 to 14, with the labels that fit and the sheet's length
abbrev pub search_tests : Trip → ℕ → ℕ → List Test
search_tests trip fit sheet = (12 at full trip fit) ∷ (13 at no_road trip) ∷ (14 at short_sheet (move_count trip) sheet) ∷ []

abbrev pub arrival_of : Option State → ℕ
arrival_of none = 0
arrival_of (some a) = a.clock.0

-- planned: 0, N, arrival
abbrev pub planned : Trip → Reply
planned trip = succeeded (label_count trip) (arrival_of (answer_in trip))

-- what planning says of an accepted run
unfoldable pub search_reply : Trip → ℕ → ℕ → Reply
unfolding first_of
search_reply trip fit sheet = first_of (search_tests trip fit sheet) (planned trip)

-- planning checks 1 to 11, 25, and 12 to 14, in this order
abbrev pub plan_tests : Given → ℕ → ℕ → List Test
plan_tests given fit sheet = run_tests given ++ search_tests (trip_from given) fit sheet

unfoldable pub plan_reply : Given → ℕ → ℕ → Reply
unfolding first_of
plan_reply given fit sheet = first_of (plan_tests given fit sheet) (planned (trip_from given))

-- the sheet's bytes afterwards: the plan where planning succeeds, and else as they were
abbrev pub plan_sheet_when : Bool → Trip → List ℕ → List ℕ
plan_sheet_when true trip before = planned_sheet trip (answer_in trip) before
plan_sheet_when false trip before = before

unfoldable pub plan_sheet : Given → ℕ → List ℕ → List ℕ
unfolding plan_reply
plan_sheet given fit before = plan_sheet_when (eqb (plan_reply given fit (length before)).number 0) (trip_from given) before
