-- What an audit that passes says of the sheet's bytes. Assumes nothing.
use mathlib.Core.Path.{◌≡◌, refl, sym, ap, ◌∙◌}
use mathlib.Core.Bool.{true, false}
use mathlib.Core.List.{List, [], ◌∷◌, ◌++◌}
use mathlib.Core.Logic.{⊎_elim}
use Prim.Native.Nat.{ℕ, ◌+◌, ◌≤◌}
use native.Mathlib.Omega.{arith}
use borrow.Author.Tests.{eqb-true, not-false}
use lib.Dec.{eqb}
use lib.ListN.{length}
use Rattle.booleans.proofs.Tests.{cases, or_false}
use Rattle.seconds.specs.declared.Clock.{Clock}
use Rattle.replies.specs.First.{Test, ◌at◌, NoneFits}
use Rattle.replies.specs.Told.{succeeded}
use Rattle.replies.proofs.First.{none_fitted, none_at_all, none_before, none_behind, none_under}
use Rattle.mapcheck.proofs.Counts.{placed_none}
use Rattle.states.specs.declared.State.{State}
use Rattle.std.specs.Prelude.{Ok}
use Rattle.moves.specs.Trip.{Trip}
use Rattle.moves.specs.Moves.{stepped}
use Rattle.moves.specs.Given.{Given, order_from, trip_from}
use Rattle.moves.specs.RunTests.{run_tests}
use Rattle.sheets.specs.declared.Row.{Row}
use Rattle.sheets.specs.Sheet.{heading_of, rows_of, sheet_needed}
use Rattle.sheets.proofs.Reading.{none_whole}
use Rattle.retiming.specs.Walk.{Walk, refused, reached, move_of, true_row, walk, arrival_reached}
use Rattle.retiming.specs.Retiming.{moves_on, timing, sheet_tests, false_figures, false_header, audit_tests, audit_reply}
use Rattle.retiming.proofs.Walking.{OneRow, stops, passes, one_row, walk_end, walk_moved}
use Rattle.retiming.proofs.Rewriting.{cut}
use Rattle.retiming.proofs.Audited.{never_reached, Met, met, audit_numbered}
use Rattle.journeys.specs.Journeys.{start_in, at_target}
use Rattle.demands.specs.Runs.{moves_read, HoldsJourney}
use Rattle.demands.proofs.Retimed.{ends_at, Passed, walk_passed}

-- where clocks are compared, the records that a walk passes over have their true clocks already
walk_same : (trip : Trip) (k : ℕ) (s : State) (rs : List Row) {l : State} {ys : List Row} → walk true trip k s rs ≡ reached l ys → rs ≡ ys
walk_same trip k s [] {l} {ys} e = cc (walk_end true trip k s)
walk_same trip k s (row ∷ rs) {l} {ys} e = by (one_row true trip k s row) (λ t zs p. walk_same trip (k + 1) t rs p)
  where
    own_clock_lem : (t : State) → stepped trip s (move_of row) ≡ Ok t → row.clock ≡ t.clock
    own_clock_lem t moved =
        ⊎_elim
        (λ (same : eqb row.clock.0 t.clock.0 ≡ true). ap (λ (n : ℕ). record { 0 = n }) (eqb-true _ _ same))
        (λ (other : eqb row.clock.0 t.clock.0 ≡ false).
        let stopped : walk true trip k s (row ∷ rs) ≡ refused 18 k = walk_moved true trip k s row rs moved ∙ rw other refl in
        absurd (never_reached (sym stopped ∙ e)))
        (cases (eqb row.clock.0 t.clock.0))

    by : OneRow true trip k s row → ((t : State) (zs : List Row) → walk true trip (k + 1) t rs ≡ reached l zs → rs ≡ zs) → row ∷ rs ≡ ys
    by (stops number late always) on = absurd (never_reached (sym (always rs) ∙ e))
    by (passes t moved always) on =
        let first = cut (true_row row t) (walk true trip (k + 1) t rs) l ys (sym (always rs) ∙ e) in
        ap (λ (c : Clock). record { kind = row.kind; number = row.number; clock = c } ∷ rs) (own_clock_lem t moved)
        ∙ ap (λ (zs : List Row). true_row row t ∷ zs) (on t first.zs first.rest)
        ∙ sym first.is

module _ (given : Given) (sheet : List ℕ) (number_0 : (audit_reply given sheet).number ≡ 0) where
  abbrev trip : Trip
  trip = trip_from given

  abbrev walked : Walk
  walked = timing true trip sheet

  none_fit : NoneFits (audit_tests given sheet walked)
  none_fit = none_fitted (audit_tests given sheet walked) _ (audit_numbered given sheet) number_0

  -- once the run is opened: the sheet's refusals, and 18 for the header
  abbrev header_test : Walk → List Test
  header_test w = (18 at false_header (heading_of sheet) w) ∷ []

  abbrev opened_tests : Walk → List Test
  opened_tests w = sheet_tests (order_from given) sheet w ++ header_test w

  late : NoneFits (opened_tests walked)
  late = none_behind (run_tests given) (opened_tests walked) none_fit

  end : Met walked
  end = met (order_from given) sheet walked (none_before (sheet_tests (order_from given) sheet walked) (header_test walked) late)

  -- where the moves lead
  pub reached_by : State
  reached_by = end.s

  found : walked ≡ reached reached_by end.rows
  unfolding reached_by
  found = end.is

  passed : Passed trip (start_in trip) (moves_read sheet) reached_by end.rows
  unfolding timing
  passed = walk_passed true trip 1 (start_in trip) (rows_of sheet 1 (moves_on sheet)) found

  own_rows : rows_of sheet 1 (moves_on sheet) ≡ end.rows
  unfolding timing
  own_rows = walk_same _ 1 _ (rows_of sheet 1 (moves_on sheet)) found

  late_reached : NoneFits (opened_tests (reached reached_by end.rows))
  late_reached = rw found at late

  at_target_lem : at_target trip reached_by ≡ true
  at_target_lem = ends_at given reached_by end.rows (none_under 19 (opened_tests (reached reached_by end.rows)) late_reached)

  long : sheet_needed (moves_on sheet) ≤ length sheet
  long = omega (arith, (none_whole sheet (none_under 15 (opened_tests walked) late)).exact)

  figures : false_figures (heading_of sheet) reached_by ≡ false
  figures =
      placed_none (moves_on sheet + 1) (none_under 18 (opened_tests (reached reached_by end.rows)) late_reached)

  -- the sheet's bytes hold the legal journey, with its true figures
  pub audited_holds : HoldsJourney trip sheet reached_by
  unfolding false_figures
  audited_holds =
      let first = or_false figures in
      let rest = or_false first.1 in
      let last = or_false rest.1 in
      record {
        long = long;
        journey = record { leads = passed.leads; ends = at_target_lem };
        clocks = own_rows ∙ passed.clocks;
        arrival = ap (λ (n : ℕ). record { 0 = n }) (eqb-true _ _ (not-false _ first.0));
        spell = ap (λ (n : ℕ). record { 0 = n }) (eqb-true _ _ (not-false _ rest.0));
        shift = ap (λ (n : ℕ). record { 0 = n }) (eqb-true _ _ (not-false _ last.0));
        week = ap (λ (n : ℕ). record { 0 = n }) (eqb-true _ _ (not-false _ last.1));
      }

  pub audited_told : audit_reply given sheet ≡ succeeded (moves_on sheet) reached_by.clock.0
  audited_told = none_at_all (audit_tests given sheet walked) _ none_fit ∙ ap (λ (w : Walk). succeeded (moves_on sheet) (arrival_reached w)) found
