-- What striking leaves of a map that it does not refuse, and what the preview says beside planning. Assumes nothing.
use mathlib.Core.Path.{◌≡◌, refl, sym, ap, subst, ◌∙◌}
use mathlib.Core.Bool.{Bool, true, false}
use mathlib.Core.List.{List, [], ◌∷◌, ◌++◌}
use Prim.Native.Nat.{ℕ, ◌≤◌}
use native.Mathlib.Omega.{arith}
use lib.ListN.{length, get_or}
use Rattle.std.specs.Prelude.{Result, Ok, Err}
use Rattle.replies.specs.declared.Refusal.{Refusal}
use Rattle.replies.specs.declared.Plan.{Plan}
use Rattle.replies.specs.declared.Reply.{Reply}
use Rattle.replies.specs.First.{Test, ◌at◌, first_of, NoneFits}
use Rattle.replies.specs.Told.{succeeded, told_check, told_plan}
use Rattle.replies.proofs.First.{none_fits, none_fitted, none_of_both, first_append, first_same, none_before, none_behind, refusal_number}
use Rattle.roadmap.specs.Format.{junction_count, road_count, length_needed, road_from, road_to}
use Rattle.mapcheck.specs.MapCheck.{outside, map_tests, AcceptedMap}
use Rattle.mapcheck.proofs.Counts.{Within, within, placed_none}
use Rattle.mapcheck.proofs.Tried.{has_whole, accepted_sizes}
use Rattle.striking.specs.Striking.{to_at, struck, unknown_road, striking_tests, striking_reply, after_striking, Striking}
use Rattle.striking.proofs.Struck.{struck_length, struck_byte, struck_to}
use Rattle.striking.proofs.Passes.{struck_passes}
use Rattle.driving.specs.Order.{order_tests}
use Rattle.bans.specs.BanList.{ban_tests}
use Rattle.states.specs.declared.State.{State}
use Rattle.states.proofs.Compared.{covers_clock}
use Rattle.moves.specs.declared.Move.{Move}
use Rattle.moves.specs.Trip.{Trip}
use Rattle.moves.specs.Given.{Given, on_map, trip_from}
use Rattle.moves.specs.RunTests.{opening_tests}
use Rattle.states.specs.LabelSpace.{labels_that_fit}
use Rattle.journeys.specs.Journeys.{Journey}
use Rattle.journeys.specs.Planning.{search_tests, planned}
use Rattle.journeys.proofs.Struck.{struck_journey}
use Rattle.planner.specs.Planned.{Planned}
use Rattle.planner.specs.Preview.{struck_given, closure_tests, preview_reply, Previewed}
use Rattle.planner.proofs.Previewing.{struck_from, struck_run, preview_plans, preview_listed}
use Rattle.demands.specs.LinkBytes.{InWord}
use Rattle.demands.specs.Runs.{AcceptedRun, Plans, SaysNoRoad, moves_read}
use Rattle.demands.proofs.Chained.{apart}
use Rattle.demands.proofs.Said.{run_accepted, no_road_said}
use Rattle.demands.proofs.Written.{Wrote, wrote, holds_journey, none_earlier}

module _ {map map' : List ℕ} {road : ℕ} {answer : Result (Unit {0}) Refusal} (run : Striking map road map' answer) (done : (told_check answer).number ≡ 0) where
  number_0 : (striking_reply map road).number ≡ 0
  number_0 = sym (ap (λ (r : Reply). r.number) run.reply) ∙ done

  none_fit : NoneFits (striking_tests map road)
  unfolding striking_reply
  none_fit = none_fitted (striking_tests map road) (succeeded 0 0) tt number_0

  pub was_accepted : AcceptedMap map
  was_accepted = none_before (map_tests map) ((24 at unknown_road map road) ∷ []) none_fit

  pub road_inside : outside 1 (road_count map) road ≡ false
  road_inside = placed_none road (none_behind (map_tests map) ((24 at unknown_road map road) ∷ []) none_fit).0

  known : Within 1 (road_count map) road
  known = within road_inside

  whole : length map ≡ length_needed map
  whole = has_whole map (accepted_sizes map was_accepted)

  pub is_struck : map' ≡ struck map road
  unfolding after_striking
  is_struck = run.bytes ∙ rw number_0 refl

  pub told_struck : told_check answer ≡ succeeded 0 0
  told_struck = passed answer done
    where
      passed : (a : Result (Unit {0}) Refusal) → (told_check a).number ≡ 0 → told_check a ≡ succeeded 0 0
      passed (Ok done) e = refl
      passed (Err why) e = absurd (omega (arith, refusal_number why, e))

  pub leads_back : road_to map' road ≡ road_from map road
  leads_back = rw is_struck (struck_to map whole road known.above known.below)

  pub length_struck : length map' ≡ length map
  length_struck = ap length is_struck ∙ struck_length map whole road known.above known.below

  pub struck_else : (p : ℕ) → ¬ InWord (to_at map road) p → get_or map' p 0 ≡ get_or map p 0
  struck_else p outside-word = ap (λ (s : List ℕ). get_or s p 0) is_struck ∙ struck_byte map whole road known.above known.below p (apart _ p outside-word)

  pub still_passes : AcceptedMap map'
  still_passes = rw is_struck (struck_passes map was_accepted road known.above known.below)

-- A run of the preview is a run of planning on the map that striking left.
pub as_planned : {given : Given} {map' : List ℕ} {road : ℕ} {words words' sheet sheet' : List ℕ} {answer : Result (Unit {0}) Refusal} {told : Result Plan Refusal}
    → Striking given.map road map' answer → (told_check answer).number ≡ 0 → Previewed given road words words' sheet sheet' told
    → Planned (on_map map' given) words words' sheet sheet' told
as_planned {given} {words = words} {words' = words'} {sheet = sheet} {sheet' = sheet'} {told = told} run done previewed =
    subst (λ (m : List ℕ). Planned (on_map m given) words words' sheet sheet' told) (sym (is_struck run done))
    (preview_plans given _ words sheet (was_accepted run done) (road_inside run done) previewed)

-- Where striking is refused the preview is refused likewise, an order's faults before the road's.
pub as_refused : {given : Given} {map' : List ℕ} {road : ℕ} {words words' sheet sheet' : List ℕ} {answer : Result (Unit {0}) Refusal} {told : Result Plan Refusal}
    → Striking given.map road map' answer → ¬ ((told_check answer).number ≡ 0) → Previewed given road words words' sheet sheet' told
    → told_plan told ≡ first_of (opening_tests given.map given.order) (told_check answer)
unfolding preview_reply striking_reply first_of
as_refused {given} {map'} {road} {answer = answer} run refused previewed =
    previewed.reply
    ∙ first_append (opening_tests given.map given.order) ((24 at unknown_road given.map road) ∷ []) _
    ∙ first_same (opening_tests given.map given.order)
    (λ none.
    let struck-reply = run.reply ∙ none_fits (map_tests given.map) ((24 at unknown_road given.map road) ∷ []) (succeeded 0 0) (none_before (map_tests given.map) (order_tests (junction_count given.map) given.order) none) in
    by _ (outside 1 (road_count given.map) road) refl struck-reply)
  where
    by : (success : Reply) (out : Bool) → outside 1 (road_count given.map) road ≡ out → told_check answer ≡ first_of ((24 at unknown_road given.map road) ∷ []) (succeeded 0 0)
        → first_of ((24 at unknown_road given.map road) ∷ []) success ≡ told_check answer
    by success true out told = rw out (sym (rw out at told))
    by success false out told = absurd (refused (ap (λ (r : Reply). r.number) (rw out at told)))

-- A preview that plans.
module _ {given : Given} {road : ℕ} {words words' sheet sheet' : List ℕ} {answer : Result Plan Refusal} (run : Previewed given road words words' sheet sheet' answer) (plans : Plans answer) where
  none_closed : NoneFits (closure_tests given road)
  unfolding preview_reply
  none_closed = none_fitted (closure_tests given road) _ tt (sym (ap (λ (r : Reply). r.number) run.reply) ∙ plans)

  opened : NoneFits (opening_tests given.map given.order)
  opened = none_before (opening_tests given.map given.order) ((24 at unknown_road given.map road) ∷ []) none_closed

  inside : outside 1 (road_count given.map) road ≡ false
  inside = placed_none road (none_behind (opening_tests given.map given.order) ((24 at unknown_road given.map road) ∷ []) none_closed).0

  abbrev lists : List Test
  lists = ban_tests (road_count given.map) given.bans

  abbrev searches : List Test
  searches = search_tests (trip_from (struck_given given road)) (labels_that_fit (length words)) (length sheet)

  -- none of the whole list of refusals fits, 25 among them
  none_listed : NoneFits (closure_tests given road ++ (lists ++ searches))
  none_listed =
      none_fitted (closure_tests given road ++ (lists ++ searches)) (planned (trip_from (struck_given given road))) tt
      (sym (ap (λ (r : Reply). r.number) (run.reply ∙ preview_listed given road words sheet)) ∙ plans)

  listed : NoneFits lists
  listed = none_before lists searches (none_behind (closure_tests given road) (lists ++ searches) none_listed)

  lent_accepted : AcceptedRun given
  lent_accepted = run_accepted (none_of_both (opening_tests given.map given.order) lists opened listed)

  struck_accepted : AcceptedRun (struck_given given road)
  struck_accepted = run_accepted (struck_run given road opened inside listed)

  wrote_struck : Wrote (struck_given given road) words sheet sheet' answer
  wrote_struck = wrote struck_accepted (preview_plans given road words sheet lent_accepted.mapped inside run) plans

  -- its journey without the drives of the road is one on the lent map
  unstruck_journey : (ms : List Move) × (t : State) × Journey (trip_from given) ms t × (t.clock.0 ≤ (told_plan answer).arrival)
  unstruck_journey =
      let held = (holds_journey wrote_struck).journey in
      let found =
      struck_journey (trip_from given) road
      (subst (λ (t : Trip). Journey t (moves_read sheet') wrote_struck.state) (sym (struck_from given road opened inside refl)) held) in
      (found.0, found.1, found.2, omega (arith, covers_clock _ _ found.3, ap (λ (r : Reply). r.arrival) wrote_struck.told))

  -- planning on the lent map
  module _ {words₁ words₁' sheet₁ sheet₁' : List ℕ} {lent : Result Plan Refusal} (lent-run : Planned given words₁ words₁' sheet₁ sheet₁' lent) where
    pub no_earlier : Plans lent → (told_plan lent).arrival ≤ (told_plan answer).arrival
    no_earlier lent-plans =
        omega (arith, none_earlier (wrote lent_accepted lent-run lent-plans) unstruck_journey.2, unstruck_journey.3)

    pub never_no_road : SaysNoRoad lent → ⊥
    never_no_road says_no_road = (no_road_said lent_accepted lent-run (λ full. omega (arith, full))).0 says_no_road _ _ unstruck_journey.2
