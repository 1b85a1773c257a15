-- Replaying a trace: the driver's figures, brought up to date by each activity. Document 02, P3, P5 and P7. Assumes nothing.
use Rattle.std.specs.Prelude.{◌≡◌, Bool, not, ◌&&◌, ◌||◌, List, [], ◌∷◌, ℕ, ◌%◌, leb, ltb, eqb, length, Result}
use Rattle.std.proofs.Math.Option.{Option, none, some}
use Rattle.booleans.specs.Pick.{pick}
use Rattle.theory.specs.Figures.{none_above}
use Rattle.replies.specs.declared.Reply.{Reply}
use Rattle.replies.specs.declared.Refusal.{Refusal}
use Rattle.replies.specs.First.{Test, ◌at◌, first_of, placed, lowest}
use Rattle.replies.specs.Told.{succeeded, told_replaying}
use Rattle.driving.specs.declared.Figures.{Figures}
use Rattle.driving.specs.declared.Rules.{Rules}
use Rattle.driving.specs.Hours.{wheel_figures, wheel_limits, driven_on, has_split, after_break, after_rest, after_first, after_second, after_weekly}
use Rattle.driving.specs.Order.{bad_rules, bad_figures}
use Rattle.replay.specs.declared.TraceRecord.{TraceRecord}
use Rattle.replay.specs.Trace.{pause, is_driving, is_pause, trace_record_bytes, trace_record_at, record_count, first_records, records_of, joined}

-- a pause shorter than the break, with a split: it clears mark and spell if marked and at least as long as the second part, else it sets
-- the mark if at least as long as the first
abbrev pub after_short_pause : Rules → ℕ → Figures → Figures
after_short_pause rules seconds f =
    pick (has_split rules)
    (pick (f.marked && leb rules.second_part.0 seconds) (after_second f)
    (pick (leb rules.first_part.0 seconds) (after_first f) f))
    f

-- a pause at least as long as the break clears spell; one as long as the rest clears shift too; both clear the mark; one as long as the
-- weekly rest clears everything
abbrev pub after_pause : Rules → ℕ → Figures → Figures
after_pause rules seconds f =
    pick (leb rules.weekly_rest.0 seconds) (after_weekly f)
    (pick (leb rules.rest_time.0 seconds) (after_rest f)
    (pick (leb rules.break_time.0 seconds) (after_break f) (after_short_pause rules seconds f)))

-- driving adds to spell, shift and week, and other work clears nothing
abbrev pub after_activity : Rules → TraceRecord → Figures → Figures
after_activity rules r f =
    pick (is_driving r) (driven_on r.seconds f) (pick (is_pause r) (after_pause rules r.seconds f) f)

unfoldable pub after_each : Rules → List TraceRecord → Figures → Figures
after_each rules [] f = f
after_each rules (r ∷ rs) f = after_each rules rs (after_activity rules r f)

-- the figures brought up to date by each activity, neighbouring pauses as one
abbrev pub up_to_date : Rules → List TraceRecord → Figures → Figures
up_to_date rules rs f = after_each rules (joined rs) f

-- 21 torn trace: length not a multiple of 8; length
abbrev pub torn_trace : List ℕ → Option ℕ
torn_trace trace = placed (not (eqb (length trace % trace_record_bytes) 0)) (length trace)

abbrev pub most_seconds : ℕ
most_seconds = 1000000

-- activity or seconds out of range
unfoldable pub is_odd : TraceRecord → Bool
is_odd r = ltb pause r.activity || (ltb r.seconds 1 || ltb most_seconds r.seconds)

-- driving, in record k, that takes a figure over its limit: the figures after it are those after the first k records
unfoldable pub is_past : List ℕ → Rules → Figures → ℕ → Bool
is_past trace rules f k =
    is_driving (trace_record_at trace k)
    && not (none_above (wheel_figures (up_to_date rules (first_records trace k) f)) (wheel_limits rules))

-- record k is odd or past the limit
unfoldable pub is_stopped : List ℕ → Rules → Figures → ℕ → Bool
is_stopped trace rules f k = is_odd (trace_record_at trace k) || is_past trace rules f k

-- records are taken in turn: the first of these
abbrev pub first_stopped : List ℕ → Rules → Figures → Option ℕ
first_stopped trace rules f = lowest (is_stopped trace rules f) 1 (record_count trace)

abbrev pub placed_where : (ℕ → Bool) → Option ℕ → Option ℕ
placed_where fits none = none
placed_where fits (some k) = placed (fits k) k

-- 22 odd record: of one that is both, 22 before 23; the record
abbrev pub odd_record : List ℕ → Rules → Figures → Option ℕ
odd_record trace rules f = placed_where (λ k. is_odd (trace_record_at trace k)) (first_stopped trace rules f)

-- 23 past the limit; the record
abbrev pub past_limit : List ℕ → Rules → Figures → Option ℕ
past_limit trace rules f = placed_where (λ k. not (is_odd (trace_record_at trace k))) (first_stopped trace rules f)

-- the rules are checked as words 6 to 13 of an order and the figures as words 4, 5 and 14, then the trace; the mark starts as lent
abbrev pub replay_tests : List ℕ → Rules → Figures → List Test
replay_tests trace rules f =
    (10 at bad_rules rules)
    ∷ (11 at bad_figures f rules)
    ∷ (21 at torn_trace trace)
    ∷ (22 at odd_record trace rules f)
    ∷ (23 at past_limit trace rules f)
    ∷ []

abbrev pub replay_reply : List ℕ → Rules → Figures → Reply
replay_reply trace rules f = first_of (replay_tests trace rules f) (succeeded (record_count trace) 0)

-- the lent figures afterwards: a refused trace leaves them as at the start
unfoldable pub figures_after : List ℕ → Rules → Figures → Figures
figures_after trace rules f =
    pick (eqb (replay_reply trace rules f).number 0) (up_to_date rules (records_of trace) f) f

-- what replaying owes: its answer, and every figure
pub record Replayed (trace : List ℕ) (rules : Rules) (before after : Figures) (answer : Result ℕ Refusal) : Type 0 where
  pub reply : told_replaying answer ≡ replay_reply trace rules before
  pub figures : after ≡ figures_after trace rules before
