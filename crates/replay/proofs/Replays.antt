-- The answer and the figures afterwards, from what the parts of a replay find. Assumes nothing.
use mathlib.Core.Path.{◌≡◌, ◌∙◌, refl, sym, ap}
use mathlib.Core.List.{List, [], ◌∷◌, ◌++◌}
use Prim.Native.Nat.{ℕ, ◌%◌}
use native.Mathlib.Omega.{arith}
use borrow.Author.Tests.{eq-eqb, ne_eqb}
use lib.ListN.{length}
use Rattle.replies.specs.declared.Refusal.{Refusal}
use Rattle.replies.specs.declared.Reply.{Reply}
use Rattle.replies.specs.First.{◌at◌, NoneFits, Refuses}
use Rattle.replies.specs.Told.{succeeded, told_refusal, told_replaying}
use Rattle.replies.proofs.First.{refusal_number, none_fits, none_at_all, stops_at, refuses_after, none_of_both}
use Rattle.driving.specs.declared.Figures.{Figures}
use Rattle.driving.specs.declared.Rules.{Rules}
use Rattle.replay.specs.declared.Underway.{Underway}
use Rattle.std.specs.Prelude.{Result, Ok, Err}
use Rattle.replay.specs.Trace.{trace_record_bytes, record_count, records_of}
use Rattle.replay.specs.Replay.{up_to_date, torn_trace, replay_reply, figures_after, Replayed}
use Rattle.replay.specs.Steps.{start_tests, record_tests, trace_tests, WalkSays, TraceSays}

module _ (trace : List ℕ) (rules : Rules) (f : Figures) where
  pub torn_refuses : ¬ (length trace % trace_record_bytes ≡ 0) → Refuses (trace_tests trace rules f) (Refusal.TornTrace (length trace))
  torn_refuses torn rest success = stops_at (21 at torn_trace trace) _ success (rw (ne_eqb (length trace % trace_record_bytes) 0 torn))

  pub whole_says : length trace % trace_record_bytes ≡ 0 → (s : Result Underway Refusal) → WalkSays trace rules f s → TraceSays trace rules f s
  whole_says whole (Err why) says =
      refuses_after ((21 at torn_trace trace) ∷ []) (record_tests trace rules f) why (rw (eq-eqb (length trace % trace_record_bytes) 0 whole) refl, tt) says
  whole_says whole (Ok u) says = ((rw (eq-eqb (length trace % trace_record_bytes) 0 whole) refl, says.0), says.1)

  -- a refusal leaves the figures, and a success has them brought up to date
  pub figures_refused : ¬ ((replay_reply trace rules f).number ≡ 0) → figures_after trace rules f ≡ f
  unfolding figures_after
  figures_refused refused = rw (ne_eqb (replay_reply trace rules f).number 0 refused)

  pub figures_accepted : (replay_reply trace rules f).number ≡ 0 → figures_after trace rules f ≡ up_to_date rules (records_of trace) f
  unfolding figures_after
  figures_accepted done = rw (eq-eqb (replay_reply trace rules f).number 0 done)

  refused : (why : Refusal) → told_refusal why ≡ replay_reply trace rules f → Replayed trace rules f f (Err why)
  refused why told = record { reply = told; figures = sym (figures_refused (λ e. omega (arith, refusal_number why, ap (λ (r : Reply). r.number) told))) }

  pub start_refused : (why : Refusal) → Refuses (start_tests rules f) why → Replayed trace rules f f (Err why)
  start_refused why refuses = refused why (sym (refuses (trace_tests trace rules f) (succeeded (record_count trace) 0)))

  module _ (passes : NoneFits (start_tests rules f)) where
    pub trace_refused : (why : Refusal) → Refuses (trace_tests trace rules f) why → Replayed trace rules f f (Err why)
    trace_refused why refuses =
        refused why (sym (none_fits (start_tests rules f) (trace_tests trace rules f) (succeeded (record_count trace) 0) passes ∙ refuses [] (succeeded (record_count trace) 0)))

    pub trace_accepted : (g : Figures) → NoneFits (trace_tests trace rules f) → g ≡ up_to_date rules (records_of trace) f → Replayed trace rules f g (Ok (record_count trace))
    trace_accepted g none_fits is =
        let told : replay_reply trace rules f ≡ succeeded (record_count trace) 0 = none_at_all (start_tests rules f ++ trace_tests trace rules f) _ (none_of_both (start_tests rules f) (trace_tests trace rules f) passes none_fits) in
        record { reply = sym told; figures = is ∙ sym (figures_accepted (ap (λ (r : Reply). r.number) told)) }

-- what the contract alone says of a refused trace
pub left_refused : {trace : List ℕ} {rules : Rules} {before after : Figures} {answer : Result ℕ Refusal} → Replayed trace rules before after answer →
    ¬ ((told_replaying answer).number ≡ 0) → after ≡ before
left_refused {trace} {rules} {before} replayed refused =
    replayed.figures ∙ figures_refused trace rules before (λ e. refused (ap (λ (r : Reply). r.number) replayed.reply ∙ e))
