-- The preview from the bytes: a run that is refused, a road that is unknown, a list that is bad, and planning with the road struck.
-- Assumes nothing.
use mathlib.Core.Path.{◌≡◌, ◌∙◌, refl, sym, ap, ap₂, subst}
use mathlib.Core.Bool.{true, false}
use mathlib.Core.List.{List, [], ◌∷◌, ◌++◌, append_assoc}
use mathlib.Core.Logic.{⊎_elim}
use Prim.Native.Nat.{ℕ}
use native.Mathlib.Omega.{arith}
use borrow.Author.Tests.{eqb-false, ne_eqb}
use lib.Dec.{eqb}
use lib.ListN.{length}
use Rattle.std.specs.Prelude.{Some, Result, Ok, Err}
use Rattle.replies.specs.declared.Plan.{Plan}
use Rattle.booleans.proofs.Tests.{cases}
use Rattle.replies.specs.declared.Refusal.{Refusal}
use Rattle.replies.specs.declared.Reply.{Reply}
use Rattle.replies.specs.First.{Test, ◌at◌, first_of, NoneFits, Refuses}
use Rattle.replies.specs.Told.{told_refusal}
use Rattle.replies.proofs.First.{none_fits, none_at_all, passed_over, first_append, first_same, none_of_both, none_before, none_behind, stops_at, refuses_after, refusal_number}
use Rattle.roadmap.specs.Format.{junction_count, road_count}
use Rattle.mapcheck.specs.MapCheck.{outside, map_tests, AcceptedMap}
use Rattle.mapcheck.proofs.Counts.{within, placed_none}
use Rattle.mapcheck.proofs.Tried.{has_whole, accepted_sizes}
use Rattle.striking.specs.Striking.{struck, unknown_road}
use Rattle.striking.proofs.Struck.{struck_junctions, struck_roads}
use Rattle.striking.proofs.Passes.{struck_passes}
use Rattle.driving.specs.declared.Order.{Order}
use Rattle.driving.specs.Order.{order_tests}
use Rattle.bans.specs.Bans.{listed_in}
use Rattle.bans.specs.BanList.{ban_tests}
use Rattle.states.specs.LabelSpace.{labels_that_fit}
use Rattle.moves.specs.declared.Run.{Run}
use Rattle.moves.specs.declared.given.OpenRun.{OpenRun}
use Rattle.moves.specs.Trip.{Trip, trip_of}
use Rattle.moves.specs.Runs.{Accepted, trip_in}
use Rattle.moves.specs.Opened.{OpenedSays}
use Rattle.moves.specs.Struck.{struck_in}
use Rattle.moves.specs.Given.{Given, order_from, trip_from}
use Rattle.moves.specs.RunTests.{opening_tests, run_tests}
use Rattle.journeys.specs.Planning.{search_tests, planned, search_reply, plan_reply, plan_sheet}
use Rattle.journeys.proofs.Planning.{sheet_refused}
use Rattle.planner.specs.Planned.{Planned}
use Rattle.planner.specs.Preview.{struck_given, closure_tests, preview_reply, preview_sheet, Previewed}
use Rattle.planner.proofs.Opening.{run_refused}
use Rattle.planner.proofs.StruckTrip.{struck_trip}

module _ (given : Given) (road : ℕ) where
  abbrev map : List ℕ
  map = given.map

  abbrev orders : List Test
  orders = order_tests (junction_count map) given.order

  -- 25, of the lent map
  abbrev lists : List Test
  lists = ban_tests (road_count map) given.bans

  abbrev opening : List Test
  opening = opening_tests map given.order

  -- of a run that none of 1 to 11 refuses and a road that is known
  module _ (none : NoneFits opening) (inside : outside 1 (road_count map) road ≡ false) where
    accepted_map : AcceptedMap map
    accepted_map = none_before (map_tests map) orders none

    same_roads : road_count (struck map road) ≡ road_count map
    same_roads = struck_roads map (has_whole map (accepted_sizes map accepted_map)) road (within inside).above (within inside).below

    -- none refuses it once the road is struck
    struck_opening : NoneFits (opening_tests (struck map road) given.order)
    struck_opening =
        let known = within inside in
        none_of_both (map_tests (struck map road)) (order_tests (junction_count (struck map road)) given.order)
        (struck_passes map accepted_map road known.above known.below)
        (rw (struck_junctions map (has_whole map (accepted_sizes map accepted_map)) road known.above known.below)
        (none_behind (map_tests map) orders none))

    pub struck_run : NoneFits lists → NoneFits (run_tests (struck_given given road))
    struck_run listed =
        none_of_both (opening_tests (struck map road) given.order) (ban_tests (road_count (struck map road)) given.bans) struck_opening (rw same_roads listed)

    -- 25 refuses it likewise
    struck_refused : (why : Refusal) → Refuses lists why → Refuses (run_tests (struck_given given road)) why
    struck_refused why refuses =
        refuses_after (opening_tests (struck map road) given.order) (ban_tests (road_count (struck map road)) given.bans) why struck_opening
        (subst (λ (roads : ℕ). Refuses (ban_tests roads given.bans) why) (sym same_roads) refuses)

    -- and its trip is that of the map so struck
    pub struck_from : {decoded : Order} → decoded ≡ order_from given
        → struck_in road (trip_of map (listed_in given.bans) decoded) ≡ trip_from (struck_given given road)
    struck_from same =
        let known = within inside in
        ap (λ (o : Order). struck_in road (trip_of map (listed_in given.bans) o)) same
        ∙ sym (struck_trip map (listed_in given.bans) (has_whole map (accepted_sizes map accepted_map)) (order_from given) road known.above known.below)

  -- so an opened run is accepted with that road struck, none refuses it, and its trip is that of the map so struck
  module _ (run : OpenRun) (opened : OpenedSays given (Ok run)) (inside : outside 1 (road_count map) road ≡ false) where
    abbrev closed : Run
    closed = record { sizes = run.about.sizes; order = run.about.order; struck = Some road }

    pub closed_accepted : Accepted run.map.now closed
    closed_accepted =
        let accepted = opened.0.accepted in
        rw opened.3.0 (record { sized = accepted.sized; mapped = accepted.mapped; ordered = accepted.ordered; known = (within inside).below })

    pub closed_trip : trip_in run.map.now (listed_in run.bans.now) closed ≡ trip_from (struck_given given road)
    closed_trip = rw (opened.3.0, opened.3.1) (struck_from (none_before opening lists opened.2) inside opened.1)

    pub closed_run : NoneFits (run_tests (struck_given given road))
    closed_run = struck_run (none_before opening lists opened.2) inside (none_behind opening lists opened.2)

  module _ (words sheet : List ℕ) where
    abbrev fit : ℕ
    fit = labels_that_fit (length words)

    -- a refusal before the search: nothing has changed
    unchanged : (why : Refusal) → preview_reply given road fit (length sheet) ≡ told_refusal why → Previewed given road words words sheet sheet (Err why)
    unfolding preview_sheet
    unchanged why told =
        record {
          reply = sym told;
          bytes = rw (told, ne_eqb (told_refusal why).number 0 (λ e. omega (arith, refusal_number why))) refl;
          kept = λ listed. refl;
        }

    pub preview_refused : (why : Refusal) → Refuses opening why → Previewed given road words words sheet sheet (Err why)
    unfolding preview_reply
    preview_refused why refuses = unchanged why (refuses ((24 at unknown_road map road) ∷ []) (plan_reply (struck_given given road) fit (length sheet)))

    pub preview_unknown : NoneFits opening → outside 1 (road_count map) road ≡ true →
        Previewed given road words words sheet sheet (Err (Refusal.UnknownRoad road))
    unfolding preview_reply
    preview_unknown none out = unchanged (Refusal.UnknownRoad road) (none_fits opening _ _ none ∙ stops_at _ _ _ (rw out))

    module _ (accepted : AcceptedMap map) (inside : outside 1 (road_count map) road ≡ false) where
      abbrev searched : Reply
      searched = search_reply (trip_from (struck_given given road)) fit (length sheet)

      -- planning on the map so struck judges the order and the list likewise
      struck_told : plan_reply (struck_given given road) fit (length sheet) ≡ first_of orders (first_of lists searched)
      unfolding plan_reply search_reply
      struck_told =
          let known = within inside in
          let trip : Trip = trip_from (struck_given given road) in
          let whole = has_whole map (accepted_sizes map accepted) in
          let struck_orders : List Test = order_tests (junction_count (struck map road)) given.order in
          let struck_lists : List Test = ban_tests (road_count (struck map road)) given.bans in
          none_fits (map_tests (struck map road)) (struck_orders ++ (struck_lists ++ search_tests trip fit (length sheet))) (planned trip) (struck_passes map accepted road known.above known.below)
          ∙ first_append struck_orders (struck_lists ++ search_tests trip fit (length sheet)) (planned trip)
          ∙ ap (first_of struck_orders) (first_append struck_lists (search_tests trip fit (length sheet)) (planned trip))
          ∙ ap₂ (λ (j roads : ℕ). first_of (order_tests j given.order) (first_of (ban_tests roads given.bans) searched))
          (struck_junctions map whole road known.above known.below)
          (struck_roads map whole road known.above known.below)

      -- once the road is known, what planning replies there is what is told
      pub preview_told : preview_reply given road fit (length sheet) ≡ plan_reply (struck_given given road) fit (length sheet)
      unfolding preview_reply first_of
      preview_told =
          let unknown : List Test = (24 at unknown_road map road) ∷ [] in
          let there : Reply = plan_reply (struck_given given road) fit (length sheet) in
          ap (λ (l : List Test). first_of l there) (append_assoc (map_tests map) orders unknown)
          ∙ none_fits (map_tests map) (orders ++ unknown) there accepted
          ∙ first_append orders unknown there
          ∙ first_same orders (λ all. passed_over (24 at unknown_road map road) [] there (rw inside) ∙ struck_told ∙ none_at_all orders (first_of lists searched) all)
          ∙ sym struck_told

      -- and what it writes is written
      pub preview_written : preview_sheet given road fit sheet ≡ plan_sheet (struck_given given road) fit sheet
      unfolding preview_sheet
      preview_written =
          rw preview_told
          (⊎_elim
          (λ (plans : eqb (plan_reply (struck_given given road) fit (length sheet)).number 0 ≡ true). rw plans refl)
          (λ (refuses : eqb (plan_reply (struck_given given road) fit (length sheet)).number 0 ≡ false).
          rw refuses (sym (sheet_refused (struck_given given road) fit sheet (eqb-false _ _ refuses))))
          (cases (eqb (plan_reply (struck_given given road) fit (length sheet)).number 0)))

      -- so a run of planning on the map so struck is a run of the preview, and the other way round
      module _ {words' sheet' : List ℕ} {answer : Result Plan Refusal} where
        pub preview_planned : Planned (struck_given given road) words words' sheet sheet' answer → Previewed given road words words' sheet sheet' answer
        preview_planned run = record { reply = run.reply ∙ sym preview_told; bytes = run.bytes ∙ sym preview_written; kept = run.kept }

        pub preview_plans : Previewed given road words words' sheet sheet' answer → Planned (struck_given given road) words words' sheet sheet' answer
        preview_plans run = record { reply = run.reply ∙ preview_told; bytes = run.bytes ∙ preview_written; kept = run.kept }

    -- a bad list is refused as planning there refuses it
    pub preview_bad_list : NoneFits opening → outside 1 (road_count map) road ≡ false → (why : Refusal) → Refuses lists why →
        Previewed given road words words sheet sheet (Err why)
    preview_bad_list none inside why refuses =
        preview_planned (accepted_map none inside) inside (run_refused (struck_given given road) words sheet why (struck_refused none inside why refuses))

    -- the refusals of the preview in one list
    pub preview_listed : preview_reply given road fit (length sheet)
        ≡ first_of (closure_tests given road ++ (lists ++ search_tests (trip_from (struck_given given road)) fit (length sheet))) (planned (trip_from (struck_given given road)))
    unfolding preview_reply search_reply
    preview_listed =
        let trip : Trip = trip_from (struck_given given road) in
        first_same (closure_tests given road)
        (λ all.
        let none : NoneFits opening = none_before opening ((24 at unknown_road map road) ∷ []) all in
        let inside = placed_none road (none_behind opening ((24 at unknown_road map road) ∷ []) all).0 in
        struck_told (none_before (map_tests map) orders none) inside
        ∙ none_at_all orders (first_of lists (search_reply trip fit (length sheet))) (none_behind (map_tests map) orders none)
        ∙ sym (first_append lists (search_tests trip fit (length sheet)) (planned trip)))
        ∙ sym (first_append (closure_tests given road) (lists ++ search_tests trip fit (length sheet)) (planned trip))
