-- What an accepted trace is: none of its records is refused, and the figures that it leaves are sound. Assumes nothing.
use mathlib.Core.Path.{◌≡◌, ◌∙◌, refl, sym, ap, subst}
use mathlib.Core.Bool.{Bool, true, false, not}
use mathlib.Core.List.{List}
use mathlib.Core.Logic.{⊎_elim}
use mathlib.Core.Option.{Option, none, some}
use Prim.Native.Nat.{ℕ, zero, suc, ◌+◌, ◌%◌, ◌≤◌}
use native.Mathlib.Numerals.{add-one}
use native.Mathlib.Omega.{arith}
use borrow.Author.Tests.{eqb-true}
use lib.Dec.{eqb}
use lib.ListN.{length}
use Rattle.booleans.proofs.Tests.{cases, or_false, some_not_none}
use Rattle.replies.specs.First.{NoneFits}
use Rattle.replies.proofs.First.{NoneBelow, lowest_is_none}
use Rattle.driving.specs.declared.Figures.{Figures}
use Rattle.driving.specs.declared.Rules.{Rules}
use Rattle.driving.specs.Accepted.{SoundFigures}
use Rattle.driving.proofs.Accepted.{rules_sound, figures_sound}
use Rattle.replay.specs.declared.Underway.{Underway}
use Rattle.replay.specs.Trace.{trace_record_bytes, trace_record_at, record_count, records_of}
use Rattle.replay.specs.Replay.{up_to_date, torn_trace, is_odd, is_stopped, first_stopped, placed_where, replay_tests}
use Rattle.replay.specs.Steps.{begun, record_tests, settled, step_on}
use Rattle.replay.proofs.Stepping.{ran_up_to_date}
use Rattle.replay.proofs.Sounds.{paused_sound}
use Rattle.replay.proofs.Walking.{Going, judged, going_from, stopped_next, takes_next}

-- where neither 22 nor 23 fits, no record is the first to be refused
nowhere : (fits : ℕ → Bool) (p : Option ℕ) → placed_where fits p ≡ none → placed_where (λ k. not (fits k)) p ≡ none → p ≡ none
nowhere fits none here other = refl
nowhere fits (some k) here other =
    ⊎_elim
    (λ (fitting : fits k ≡ true). absurd (some_not_none (rw fitting at here)))
    (λ (failing : fits k ≡ false). absurd (some_not_none (rw failing at other)))
    (cases (fits k))

pub untorn_whole : (trace : List ℕ) → torn_trace trace ≡ none → length trace % trace_record_bytes ≡ 0
untorn_whole trace untorn =
    ⊎_elim
    (λ (same : eqb (length trace % trace_record_bytes) 0 ≡ true). eqb-true _ _ same)
    (λ (other : eqb (length trace % trace_record_bytes) 0 ≡ false). absurd (some_not_none (simp other at untorn)))
    (cases (eqb (length trace % trace_record_bytes) 0))

module _ (trace : List ℕ) (rules : Rules) (f : Figures) where
  pub none_stopped : NoneFits (record_tests trace rules f) → first_stopped trace rules f ≡ none
  none_stopped passes = nowhere (λ k. is_odd (trace_record_at trace k)) (first_stopped trace rules f) passes.0 passes.1.0

  module _ (passes : NoneFits (replay_tests trace rules f)) where
    pub whole_trace : length trace % trace_record_bytes ≡ 0
    whole_trace = untorn_whole trace passes.1.1.0

    pub none_below : NoneBelow (is_stopped trace rules f) 1 (1 + record_count trace)
    none_below = lowest_is_none (is_stopped trace rules f) 1 (record_count trace) (none_stopped passes.1.1.1)

    going : (n : ℕ) → n ≤ record_count trace → (u : Underway) × Going trace rules f n u
    going zero high = (begun f, going_from trace rules f (rules_sound rules passes.0) (figures_sound f rules passes.1.0))
    going (suc n) high =
        let before = going n (omega arith) in
        let u = before.0 in
        let k = n + 1 in
        let parts = or_false (sym (stopped_next trace rules f n u before.1) ∙ none_below k (omega arith) (omega arith)) in (
          step_on rules u (trace_record_at trace k),
          rw (← add-one n) (takes_next trace rules f n u before.1 (omega arith) (step_on rules u (trace_record_at trace k)) (judged rules u k (trace_record_at trace k) parts.0 parts.1)),
        )

    -- the figures that an accepted trace leaves are accepted by the next check
    pub leaves_sound : SoundFigures (up_to_date rules (records_of trace) f) rules
    leaves_sound =
        let at_end = going (record_count trace) (omega arith) in
        let sound = at_end.1.sound in
        subst (λ (g : Figures). SoundFigures g rules)
        (ap (settled rules) at_end.1.there ∙ ran_up_to_date rules sound.sound_rules f (records_of trace))
        (paused_sound at_end.0.figures rules at_end.0.pause.0 sound.sound_figures)
