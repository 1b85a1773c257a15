-- What retiming wrote passes the audit. Assumes nothing.
use mathlib.Core.Path.{◌≡◌, ◌∙◌, refl, sym, ap}
use mathlib.Core.Bool.{Bool, true, false}
use mathlib.Core.List.{List, [], ◌∷◌, ◌++◌}
use mathlib.Core.Option.{Option, none, some}
use Prim.Native.Nat.{ℕ, ◌+◌, ◌≤◌}
use native.Mathlib.Omega.{arith}
use borrow.Author.Tests.{eq-eqb, lt-ltb, ltb-false}
use lib.Dec.{ltb}
use lib.ListN.{length, take}
use Rattle.booleans.proofs.Tests.{some_not_none}
use Rattle.replies.specs.First.{Test, ◌at◌, first_of, NoneFits}
use Rattle.replies.specs.Told.{succeeded}
use Rattle.replies.proofs.First.{Numbered, none_fitted, none_of_both, none_at_all, none_before, none_behind, none_under}
use Rattle.mapcheck.proofs.Counts.{placed_none}
use Rattle.driving.specs.declared.Order.{Order}
use Rattle.states.specs.declared.State.{State}
use Rattle.moves.specs.Trip.{Trip}
use Rattle.moves.specs.Given.{Given, order_from, trip_from}
use Rattle.moves.specs.RunTests.{run_tests}
use Rattle.sheets.specs.declared.Heading.{Heading}
use Rattle.sheets.specs.declared.Row.{Row}
use Rattle.sheets.specs.Sheet.{heading_of, rows_of, sheet_needed, sheet_after, torn_sheet, short_sheet}
use Rattle.sheets.specs.Written.{Whole}
use Rattle.sheets.proofs.Reading.{none_whole, length_rows_of, prefix_heading, prefix_rows, prefix_untorn}
use Rattle.retiming.specs.Walk.{Walk, refused, reached, true_row, recorded, walk, move_test, stray, arrival_reached}
use Rattle.retiming.specs.Retiming.{moves_on, timing, sheet_tests, retiming_tests, retiming_reply, retimed_sheet, false_figures, false_header, audit_tests, audit_reply}
use Rattle.retiming.proofs.Walking.{OneRow, stops, passes, one_row, walk_end, walk_moved}
use Rattle.retiming.proofs.Rewriting.{cut, walk_length}
use Rattle.retiming.proofs.Retimes.{retimed_heading}

pub never_reached : {number k : ℕ} {l : State} {ys : List Row} → refused number k ≡ reached l ys → ⊥
never_reached p = let z : ◌≡◌ {A = ℕ} 0 1 = cc in omega arith

-- the records that a walk gives are walked over to the same end, their clocks compared too
pub walk_again : (trip : Trip) (k : ℕ) (s : State) (rs : List Row) {l : State} {ys : List Row} →
    walk false trip k s rs ≡ reached l ys → walk true trip k s ys ≡ reached l ys
walk_again trip k s [] {l} {ys} e =
    let none_given : ys ≡ [] = cc (walk_end false trip k s) in
    let same : s ≡ l = cc (walk_end false trip k s) in
    rw none_given (walk_end true trip k s ∙ ap (λ (x : State). reached x []) same)
walk_again trip k s (row ∷ rs) {l} {ys} e = by (one_row false trip k s row) (λ t zs p. walk_again trip (k + 1) t rs p)
  where
    by : OneRow false trip k s row → ((t : State) (zs : List Row) → walk false trip (k + 1) t rs ≡ reached l zs → walk true trip (k + 1) t zs ≡ reached l zs) → walk true trip k s ys ≡ reached l ys
    by (stops number late always) go = absurd (never_reached (sym (always rs) ∙ e))
    by (passes t moved always) go =
        let rest = cut (true_row row t) (walk false trip (k + 1) t rs) l ys (sym (always rs) ∙ e) in
        rw rest.is
        (walk_moved true trip k s (true_row row t) rest.zs moved
        ∙ rw (eq-eqb t.clock.0 t.clock.0 refl) (ap (recorded (true_row row t)) (go t rest.zs rest.rest)))

-- the refusals that a walk meets number from 16
pub walk_number : (clocks : Bool) (trip : Trip) (k : ℕ) (s : State) (rs : List Row) {number move : ℕ} → walk clocks trip k s rs ≡ refused number move → 16 ≤ number
walk_number clocks trip k s [] e = absurd (never_reached (sym e ∙ walk_end clocks trip k s))
walk_number clocks trip k s (row ∷ rs) {number} {move} e = by (one_row clocks trip k s row) (λ t p. walk_number clocks trip (k + 1) t rs p)
  where
    same : {n m : ℕ} → refused n m ≡ refused number move → n ≡ number
    same p = cc

    after_record : (x : Row) (w : Walk) → recorded x w ≡ refused number move → w ≡ refused number move
    after_record x (refused n m) p = p
    after_record x (reached t rows) p = absurd (never_reached (sym p))

    by : OneRow clocks trip k s row → ((t : State) → walk clocks trip (k + 1) t rs ≡ refused number move → 16 ≤ number) → 16 ≤ number
    by (stops n late always) go = omega (arith, late, same (sym (always rs) ∙ e))
    by (passes t moved always) go = go t (after_record (true_row row t) (walk clocks trip (k + 1) t rs) (sym (always rs) ∙ e))

-- a walk that no refusal met
pub record Met (w : Walk) : Type 0 where
  pub s : State
  pub rows : List Row
  pub is : w ≡ reached s rows

pub met : (order : Order) (sheet : List ℕ) (w : Walk) → NoneFits (sheet_tests order sheet w) → Met w
met order sheet (refused number move) all = let e : ◌≡◌ {A = Option ℕ} (some move) none = search all in absurd (some_not_none e)
met order sheet (reached s rows) all = record { s = s; rows = rows; is = refl }

-- the figures that retiming writes into the header are true
own_figures : (given : Heading) (s : State) → false_figures (retimed_heading given s) s ≡ false
unfolding false_figures
own_figures given s =
    rw (eq-eqb s.clock.0 s.clock.0 refl, eq-eqb s.figures.spell.0 s.figures.spell.0 refl, eq-eqb s.figures.shift.0 s.figures.shift.0 refl, eq-eqb s.figures.week.0 s.figures.week.0 refl)

-- the refusal that a walk meets numbers from 1, and so do the refusals of retiming and of audit
move_numbered : (clocks : Bool) (trip : Trip) (sheet : List ℕ) → ltb 0 (move_test (timing clocks trip sheet)).number ≡ true
unfolding timing
move_numbered clocks trip sheet = by (timing clocks trip sheet) refl
  where
    by : (w : Walk) → timing clocks trip sheet ≡ w → ltb 0 (move_test w).number ≡ true
    by (refused number move) e = lt-ltb 0 number (omega (arith, walk_number clocks _ 1 _ _ e))
    by (reached s rows) e = refl

module _ (given : Given) (sheet : List ℕ) where
  pub retiming_numbered : (out : List ℕ) → Numbered (retiming_tests given sheet out (timing false (trip_from given) sheet))
  retiming_numbered out = rw (move_numbered false (trip_from given) sheet) tt

  pub audit_numbered : Numbered (audit_tests given sheet (timing true (trip_from given) sheet))
  audit_numbered = rw (move_numbered true (trip_from given) sheet) tt

-- what a retiming that succeeded found, from its reply's number alone
module _ (given : Given) (sheet out : List ℕ) (number_0 : (retiming_reply given sheet out).number ≡ 0) where
  abbrev found : Walk
  found = timing false (trip_from given) sheet

  none_fitting : NoneFits (retiming_tests given sheet out found)
  none_fitting = none_fitted (retiming_tests given sheet out found) _ (retiming_numbered given sheet out) number_0

  -- 14, and what comes before it once the run is opened
  abbrev short_test : List Test
  short_test = (14 at short_sheet (moves_on sheet) (length out)) ∷ []

  abbrev opened_tests : List Test
  opened_tests = sheet_tests (order_from given) sheet found ++ short_test

  run_tests_lem : NoneFits (run_tests given)
  run_tests_lem = none_before (run_tests given) opened_tests none_fitting

  late_tests_lem : NoneFits opened_tests
  late_tests_lem = none_behind (run_tests given) opened_tests none_fitting

  sheet_tests_lem : NoneFits (sheet_tests (order_from given) sheet found)
  sheet_tests_lem = none_before (sheet_tests (order_from given) sheet found) short_test late_tests_lem

  -- the other sheet is long enough
  pub room : sheet_needed (moves_on sheet) ≤ length out
  room = ltb-false _ _ (placed_none (sheet_needed (moves_on sheet)) (none_behind (sheet_tests (order_from given) sheet found) short_test late_tests_lem).0)

  ended : Met found
  ended = met (order_from given) sheet found sheet_tests_lem

  whole : Whole sheet
  whole = none_whole sheet (none_under 15 (sheet_tests (order_from given) sheet found) sheet_tests_lem)

  -- the state that the moves reach, and the records with true clocks
  pub reached_state : State
  reached_state = ended.s

  pub true_rows : List Row
  true_rows = ended.rows

  pub found_reached : found ≡ reached reached_state true_rows
  unfolding reached_state true_rows
  found_reached = ended.is

  pub row_count : length true_rows ≡ moves_on sheet
  unfolding timing
  row_count = walk_length false _ 1 _ _ found_reached ∙ length_rows_of sheet 1 (moves_on sheet)

  abbrev heading : Heading
  heading = retimed_heading (heading_of sheet) reached_state

  pub written : retimed_sheet given sheet out ≡ sheet_after heading true_rows out
  written = rw (number_0, found_reached) refl

  -- the header and the M records of what was written
  abbrev kept : List ℕ
  kept = take (sheet_needed (moves_on sheet)) (retimed_sheet given sheet out)

  kept_is : kept ≡ take (sheet_needed (length true_rows)) (sheet_after heading true_rows out)
  kept_is = rw (row_count, written) refl

  kept_heading : heading_of kept ≡ heading
  kept_heading = ap heading_of kept_is ∙ prefix_heading heading true_rows out

  rows_kept : rows_of kept 1 (moves_on kept) ≡ true_rows
  rows_kept =
      ap (λ (n : ℕ). rows_of kept 1 n) (ap (λ (h : Heading). h.moves) kept_heading ∙ sym row_count)
      ∙ ap (λ (l : List ℕ). rows_of l 1 (length true_rows)) kept_is
      ∙ prefix_rows heading true_rows out

  audited_walk : timing true (trip_from given) kept ≡ reached reached_state true_rows
  unfolding timing
  audited_walk =
      ap (walk true (trip_from given) 1 _) rows_kept ∙ walk_again _ 1 _ (rows_of sheet 1 (moves_on sheet)) found_reached

  figures_true : false_figures (heading_of kept) reached_state ≡ false
  figures_true = ap (λ (h : Heading). false_figures h reached_state) kept_heading ∙ own_figures (heading_of sheet) reached_state

  kept_whole : torn_sheet kept ≡ none
  kept_whole = ap torn_sheet kept_is ∙ prefix_untorn heading true_rows out (sym row_count) (omega (arith, whole, row_count))

  pub at_target_lem : stray (order_from given).target (reached reached_state true_rows) ≡ none
  at_target_lem = none_under 19 (sheet_tests (order_from given) sheet (reached reached_state true_rows)) (rw found_reached at sheet_tests_lem)

  audit_tests_lem : NoneFits (sheet_tests (order_from given) kept (reached reached_state true_rows) ++ ((18 at false_header (heading_of kept) (reached reached_state true_rows)) ∷ []))
  audit_tests_lem = (kept_whole, (refl, (at_target_lem, (rw figures_true refl, tt))))

  -- retiming that succeeds replies 0, M and the clock of the state reached
  pub retimed_reply : retiming_reply given sheet out ≡ succeeded (moves_on sheet) reached_state.clock.0
  retimed_reply = none_at_all (retiming_tests given sheet out found) _ none_fitting ∙ ap (λ (w : Walk). succeeded (moves_on sheet) (arrival_reached w)) found_reached

  -- and auditing the header and the M records of what it wrote replies the same
  pub retimed_audits : audit_reply given kept ≡ succeeded (moves_on sheet) reached_state.clock.0
  retimed_audits =
      ap (λ (w : Walk). first_of (audit_tests given kept w) (succeeded (moves_on kept) (arrival_reached w))) audited_walk
      ∙ none_at_all (audit_tests given kept (reached reached_state true_rows)) _ (none_of_both (run_tests given) (sheet_tests (order_from given) kept (reached reached_state true_rows) ++ ((18 at false_header (heading_of kept) (reached reached_state true_rows)) ∷ [])) run_tests_lem audit_tests_lem)
      ∙ ap (λ (h : Heading). succeeded h.moves reached_state.clock.0) kept_heading
