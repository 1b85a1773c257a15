-- The steps that a replay is made of: only private functions promise these. Assumes nothing.
use Rattle.std.specs.Prelude.{◌≡◌, Bool, not, ◌&&◌, List, [], ◌∷◌, ℕ, ◌+◌, ◌≤◌, ltb, Result, Ok, Err}
use Rattle.booleans.specs.Pick.{pick}
use Rattle.theory.specs.Figures.{none_above}
use Rattle.replies.specs.declared.Refusal.{Refusal}
use Rattle.replies.specs.First.{Test, ◌at◌, NoneFits, Refuses}
use Rattle.driving.specs.declared.Figures.{Figures}
use Rattle.driving.specs.declared.Rules.{Rules}
use Rattle.driving.specs.Accepted.{SoundRules, SoundFigures}
use Rattle.driving.specs.Hours.{wheel_figures, wheel_limits, driven_on}
use Rattle.driving.specs.Order.{bad_rules, bad_figures}
use Rattle.replay.specs.declared.TraceRecord.{TraceRecord}
use Rattle.replay.specs.declared.Underway.{Underway}
use Rattle.replay.specs.declared.Activity.{Activity}
use Rattle.replay.specs.declared.Activity.TheVariants.{OtherWork, Driving, Pause}
use Rattle.replay.specs.Trace.{is_driving, is_pause, records_of}
use Rattle.replay.specs.Replay.{after_pause, up_to_date, most_seconds, is_odd, torn_trace, odd_record, past_limit}

abbrev pub start_tests : Rules → Figures → List Test
start_tests rules f = (10 at bad_rules rules) ∷ (11 at bad_figures f rules) ∷ []

abbrev pub record_tests : List ℕ → Rules → Figures → List Test
record_tests trace rules f = (22 at odd_record trace rules f) ∷ (23 at past_limit trace rules f) ∷ []

abbrev pub trace_tests : List ℕ → Rules → Figures → List Test
trace_tests trace rules f = (21 at torn_trace trace) ∷ record_tests trace rules f

abbrev pub activity_number : Activity → ℕ
activity_number OtherWork = 0
activity_number Driving = 1
activity_number Pause = 2

-- where a replay begins, and goes on behind a record that is no pause
abbrev pub begun : Figures → Underway
begun f = record { figures = f; pause = record { 0 = 0 } }

-- a pause that goes on, to the longest that any rule asks for
abbrev pub lengthened : ℕ → ℕ → ℕ
lengthened pause seconds = pick (ltb (pause + seconds) most_seconds) (pause + seconds) most_seconds

-- the figures, with the pause that is under way as it is
abbrev pub settled : Rules → Underway → Figures
settled rules u = after_pause rules u.pause.0 u.figures

pub record Sound (rules : Rules) (u : Underway) : Type 0 where
  pub sound_rules : SoundRules rules
  pub sound_figures : SoundFigures u.figures rules
  pub pause_high : u.pause.0 ≤ most_seconds

-- one record more
abbrev pub step_on : Rules → Underway → TraceRecord → Underway
step_on rules u r =
    pick (is_pause r) (record { figures = u.figures; pause = record { 0 = lengthened u.pause.0 r.seconds } })
    (pick (is_driving r) (record { figures = driven_on r.seconds (settled rules u); pause = record { 0 = 0 } })
    (record { figures = settled rules u; pause = record { 0 = 0 } }))

-- driving that takes a figure over its limit
abbrev pub goes_past : Rules → Underway → TraceRecord → Bool
goes_past rules u r = is_driving r && not (none_above (wheel_figures (step_on rules u r).figures) (wheel_limits rules))

-- record k, judged and taken
abbrev pub stepped : Rules → Underway → ℕ → TraceRecord → Result Underway Refusal
stepped rules u k r =
    pick (is_odd r) (Err (Refusal.OddRecord k))
    (pick (goes_past rules u r) (Err (Refusal.PastLimit k)) (Ok (step_on rules u r)))

-- 22 and 23, or the figures of the whole trace
abbrev pub WalkSays : List ℕ → Rules → Figures → Result Underway Refusal → Type 0
WalkSays trace rules f (Err why) = Refuses (record_tests trace rules f) why
WalkSays trace rules f (Ok u) = NoneFits (record_tests trace rules f) × (settled rules u ≡ up_to_date rules (records_of trace) f)

-- with 21 before them
abbrev pub TraceSays : List ℕ → Rules → Figures → Result Underway Refusal → Type 0
TraceSays trace rules f (Err why) = Refuses (trace_tests trace rules f) why
TraceSays trace rules f (Ok u) = NoneFits (trace_tests trace rules f) × (settled rules u ≡ up_to_date rules (records_of trace) f)
