-- Planning from the bytes: a run that is refused, and one that is opened. Assumes nothing.
use mathlib.Core.Path.{◌≡◌, ◌∙◌, refl, sym, ap, subst}
use mathlib.Core.Bool.{not}
use mathlib.Core.List.{List}
use Prim.Native.Nat.{ℕ}
use native.Mathlib.Omega.{arith}
use lib.Dec.{T, T_not, eqb}
use lib.ListN.{length}
use Rattle.std.specs.Prelude.{Result, Err}
use Rattle.replies.specs.declared.Plan.{Plan}
use Rattle.replies.specs.declared.Refusal.{Refusal}
use Rattle.replies.specs.declared.Reply.{Reply}
use Rattle.replies.specs.Told.{told_refusal, told_plan}
use Rattle.replies.specs.First.{NoneFits, Refuses}
use Rattle.replies.proofs.First.{none_fits, refusal_number, told_passes}
use Rattle.roadmap.specs.Format.{road_count}
use Rattle.mapcheck.specs.MapCheck.{outside}
use Rattle.moves.specs.declared.given.OpenRun.{OpenRun}
use Rattle.moves.specs.Trip.{Trip}
use Rattle.moves.specs.Given.{Given, trip_from}
use Rattle.moves.specs.RunTests.{run_tests}
use Rattle.theory.specs.Lists.{memb}
use Rattle.journeys.specs.Planning.{before_search, search_tests, planned, search_reply, plan_reply, plan_sheet_when, plan_sheet}
use Rattle.states.specs.LabelSpace.{labels_that_fit}
use Rattle.journeys.proofs.Planning.{sheet_refused}
use Rattle.search.specs.declared.Unfound.{Unfound}
use Rattle.search.specs.Turns.{OutcomeSays}
use Rattle.planner.specs.Parts.{Concluded}
use Rattle.planner.specs.Planned.{Planned}

-- the labels that fit, told otherwise
pub ends_with : {trip : Trip} {fit fit' : ℕ} {ws : List ℕ} {outcome : Result ℕ Unfound} → fit ≡ fit' → OutcomeSays trip fit ws outcome → OutcomeSays trip fit' ws outcome
ends_with {trip} {ws = ws} {outcome = outcome} e says = subst (λ (k : ℕ). OutcomeSays trip k ws outcome) e says

-- which roads are known is told by a run's counts
pub road_known : (map : List ℕ) (run : OpenRun) → run.map.now ≡ map → (road : ℕ) → outside 1 run.about.sizes.roads road ≡ outside 1 (road_count map) road
road_known map run same road = ap (λ (roads : ℕ). outside 1 roads road) (run.accepted.sized.roads ∙ ap road_count same)

module _ (given : Given) (words sheet : List ℕ) where
  abbrev fit : ℕ
  fit = labels_that_fit (length words)

  -- a refusal before the search: nothing has changed
  pub run_refused : (why : Refusal) → Refuses (run_tests given) why → Planned given words words sheet sheet (Err why)
  unfolding plan_reply
  run_refused why refuses =
      let told : plan_reply given fit (length sheet) ≡ told_refusal why = refuses (search_tests (trip_from given) fit (length sheet)) (planned (trip_from given)) in
      record {
        reply = sym told;
        bytes = sym (sheet_refused given fit sheet (λ e. omega (arith, refusal_number why, ap (λ (r : Reply). r.number) told)));
        kept = λ listed. refl;
      }

  -- no number that a search tells is one of those
  late_number : (trip : Trip) → T (memb eqb (search_reply trip fit (length sheet)).number before_search) → ⊥
  unfolding search_reply memb
  late_number trip =
      T_not (memb eqb (search_reply trip fit (length sheet)).number before_search)
      (told_passes (λ (k : ℕ). not (memb eqb k before_search)) (search_tests trip fit (length sheet)) (planned trip) tt tt)

  -- an opened run: what the search concludes
  pub run_planned : {trip : Trip} → trip ≡ trip_from given → NoneFits (run_tests given) → {words' sheet' : List ℕ} {answer : Result Plan Refusal}
      → Concluded trip fit sheet sheet' answer → Planned given words words' sheet sheet' answer
  unfolding plan_reply search_reply plan_sheet
  run_planned same none {words'} {sheet'} {answer} concluded =
      let told : told_plan answer ≡ search_reply (trip_from given) fit (length sheet) = concluded.reply ∙ ap (λ (t : Trip). search_reply t fit (length sheet)) same in
      let reply : told_plan answer ≡ plan_reply given fit (length sheet) = told ∙ sym (none_fits (run_tests given) (search_tests (trip_from given) fit (length sheet)) (planned (trip_from given)) none) in
      record {
        reply = reply;
        bytes = concluded.bytes
            ∙ ap (λ (t : Trip). plan_sheet_when (eqb (told_plan answer).number 0) t sheet) same
            ∙ ap (λ (r : Reply). plan_sheet_when (eqb r.number 0) (trip_from given) sheet) reply;
        kept = λ listed. absurd (late_number (trip_from given) (rw told at listed));
      }
