-- What a retiming that succeeds has written, decoded from the sheet's bytes. Assumes nothing.
use mathlib.Core.Path.{◌≡◌, refl, sym, ap, subst, ◌∙◌}
use mathlib.Core.Bool.{Bool, true, false}
use mathlib.Core.List.{List, [], ◌∷◌, map}
use mathlib.Core.Option.{none}
use Prim.Native.Nat.{ℕ, ◌+◌}
use native.Mathlib.Omega.{arith}
use borrow.Author.Tests.{not-false}
use lib.Dec.{eqb}
use lib.ListN.{length, take, drop}
use Rattle.std.specs.Prelude.{Result}
use Rattle.replies.specs.declared.Refusal.{Refusal}
use Rattle.replies.specs.declared.Timed.{Timed}
use Rattle.replies.specs.declared.Reply.{Reply}
use Rattle.replies.specs.Told.{succeeded, told_timing}
use Rattle.mapcheck.proofs.Counts.{placed_none}
use Rattle.states.specs.declared.State.{State}
use Rattle.moves.specs.declared.Move.{Move}
use Rattle.moves.specs.Trip.{Trip, trip_of}
use Rattle.moves.specs.Given.{Given, order_from, trip_from}
use Rattle.sheets.specs.declared.Heading.{Heading}
use Rattle.sheets.specs.declared.Row.{Row}
use Rattle.sheets.specs.Sheet.{heading_of, rows_of, sheet_needed, sheet_after}
use Rattle.sheets.proofs.Reading.{length_after}
use Rattle.retiming.specs.Walk.{reached, move_of, true_row, walk, stray}
use Rattle.retiming.specs.Retiming.{moves_on, timing, retiming_reply, retimed_sheet, audit_reply, Retimed}
use Rattle.retiming.proofs.Walking.{OneRow, stops, passes, one_row, walk_end, moved_to}
use Rattle.retiming.proofs.Rewriting.{cut}
use Rattle.retiming.proofs.Retimes.{retimed_heading}
use Rattle.retiming.proofs.Audited.{reached_state, true_rows, found_reached, written, retimed_reply, retimed_audits, never_reached, room, row_count, at_target_lem}
use Rattle.journeys.specs.Journeys.{start_in, at_target, Leads, stay, go}
use Rattle.journeys.specs.Plan.{rows_from}
use Rattle.journeys.proofs.Rows.{rows_moves}
use Rattle.demands.specs.Runs.{moves_read, HoldsJourney, header_and_records}
use Rattle.demands.proofs.Decoded.{heading_read, count_read, rows_read, rest_stays}

-- the moves that a walk passes over are legal and lead to the state that it reaches, with their true clocks in the records reached
pub record Passed (trip : Trip) (s : State) (ms : List Move) (l : State) (ys : List Row) : Type 0 where
  pub leads : Leads trip s ms l
  pub clocks : ys ≡ rows_from trip s ms

pub walk_passed : (clocks : Bool) (trip : Trip) (k : ℕ) (s : State) (rs : List Row) {l : State} {ys : List Row} →
    walk clocks trip k s rs ≡ reached l ys → Passed trip s (map move_of rs) l ys
unfolding rows_from
walk_passed clocks trip k s [] {l} {ys} e =
    let same : s ≡ l = cc (walk_end clocks trip k s) in
    record { leads = subst (λ (z : State). Leads trip s [] z) same stay; clocks = cc (walk_end clocks trip k s) }
walk_passed clocks trip k s (row ∷ rs) {l} {ys} e = by (one_row clocks trip k s row) (λ t zs p. walk_passed clocks trip (k + 1) t rs p)
  where
    by : OneRow clocks trip k s row → ((t : State) (zs : List Row) → walk clocks trip (k + 1) t rs ≡ reached l zs → Passed trip t (map move_of rs) l zs)
        → Passed trip s (move_of row ∷ map move_of rs) l ys
    by (stops number late always) on = absurd (never_reached (sym (always rs) ∙ e))
    by (passes t moved always) on =
        let to = moved_to trip s (move_of row) t moved in
        let first = cut (true_row row t) (walk clocks trip (k + 1) t rs) l ys (sym (always rs) ∙ e) in
        let rest = on t first.zs first.rest in
        record {
          leads = go to.offered to.lawful (subst (λ (z : State). Leads trip z (map move_of rs) l) to.result rest.leads);
          clocks =
              first.is
              ∙ ap (λ (zs : List Row). true_row row t ∷ zs) rest.clocks
              ∙ ap (λ (z : State). true_row row z ∷ rows_from trip z (map move_of rs)) to.result;
        }

-- a walk that does not stray ends at target
pub ends_at : (given : Given) (t : State) (rows : List Row) → stray (order_from given).target (reached t rows) ≡ none → at_target (trip_from given) t ≡ true
unfolding trip_of at_target
ends_at given t rows straight = not-false (eqb t.junction (order_from given).target) (placed_none t.junction straight)

module _ {given : Given} {sheet out out' : List ℕ} {answer : Result Timed Refusal} (retimed : Retimed given sheet out out' answer) (done : (told_timing answer).number ≡ 0) where
  abbrev trip : Trip
  trip = trip_from given

  pub number_0 : (retiming_reply given sheet out).number ≡ 0
  number_0 = sym (ap (λ (r : Reply). r.number) retimed.reply) ∙ done

  -- where the moves lead, and the records with their true clocks
  abbrev pub state : State
  state = reached_state given sheet out number_0

  abbrev rows : List Row
  rows = true_rows given sheet out number_0

  abbrev heading : Heading
  heading = retimed_heading (heading_of sheet) state

  is : out' ≡ sheet_after heading rows out
  is = retimed.bytes ∙ written given sheet out number_0

  count : moves_on sheet ≡ length rows
  count = sym (row_count given sheet out number_0)

  passed : Passed trip (start_in trip) (moves_read sheet) state rows
  unfolding timing
  passed = walk_passed false trip 1 (start_in trip) (rows_of sheet 1 (moves_on sheet)) (found_reached given sheet out number_0)

  same_count : moves_on out' ≡ moves_on sheet
  same_count = count_read heading rows out count is ∙ sym count

  -- the same moves, and N copied
  pub same_moves : moves_read out' ≡ moves_read sheet
  same_moves = ap (map move_of) (rows_read heading rows out count is ∙ passed.clocks) ∙ rows_moves trip (start_in trip) (moves_read sheet)

  pub same_labels : (heading_of out').labels ≡ (heading_of sheet).labels
  same_labels = ap (λ (h : Heading). h.labels) (heading_read heading rows out count is)

  pub rest_retimed : drop (sheet_needed (moves_on out')) out' ≡ drop (sheet_needed (moves_on out')) out
  rest_retimed = rest_stays heading rows out count is

  pub length_retimed : length out' ≡ length out
  length_retimed = ap length is ∙ length_after heading rows out (omega (arith, room given sheet out number_0, count))

  pub told_retimed : told_timing answer ≡ succeeded (moves_on sheet) state.clock.0
  told_retimed = retimed.reply ∙ retimed_reply given sheet out number_0

  -- the other sheet's bytes hold the journey, with its true figures
  pub retimed_holds : HoldsJourney trip out' state
  retimed_holds =
      record {
        long = omega (arith, length_retimed, room given sheet out number_0, same_count);
        journey = rw same_moves (record { leads = passed.leads; ends = ends_at given state rows (at_target_lem given sheet out number_0) });
        clocks = rows_read heading rows out count is ∙ passed.clocks ∙ ap (rows_from trip (start_in trip)) (sym same_moves);
        arrival = ap (λ (h : Heading). h.arrival) (heading_read heading rows out count is);
        spell = ap (λ (h : Heading). h.spell) (heading_read heading rows out count is);
        shift = ap (λ (h : Heading). h.shift) (heading_read heading rows out count is);
        week = ap (λ (h : Heading). h.week) (heading_read heading rows out count is);
      }

  -- and its header and M records pass the audit
  pub retimed_passes : audit_reply given (header_and_records out') ≡ told_timing answer
  retimed_passes =
      let same : header_and_records out' ≡ take (sheet_needed (moves_on sheet)) (retimed_sheet given sheet out) = rw (same_count, retimed.bytes) refl in
      ap (audit_reply given) same ∙ retimed_audits given sheet out number_0 ∙ sym told_retimed
