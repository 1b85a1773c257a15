-- The records taken in turn. Assumes nothing.
use mathlib.Core.Path.{◌≡◌, ◌∙◌, refl, sym, ap, ap₂, subst}
use mathlib.Core.Bool.{Bool, true, false, not, ◌&&◌, ◌||◌}
use mathlib.Core.List.{List}
use mathlib.Core.Logic.{⊎_elim}
use mathlib.Core.Option.{Option, none, some}
use Prim.Native.Nat.{ℕ, ◌+◌, ◌≤◌, ◌<◌}
use native.Mathlib.Omega.{arith}
use Rattle.booleans.specs.Pick.{pick}
use Rattle.booleans.proofs.Tests.{cases, or_right}
use Rattle.replies.specs.declared.Refusal.{Refusal}
use Rattle.replies.specs.First.{◌at◌, Refuses}
use Rattle.replies.proofs.First.{NoneBelow, one_more, lowest_none, lowest_found, passed_over, stops_at}
use Rattle.theory.specs.Figures.{none_above}
use Rattle.driving.specs.declared.Figures.{Figures}
use Rattle.driving.specs.declared.Rules.{Rules}
use Rattle.driving.specs.Accepted.{SoundRules, SoundFigures}
use Rattle.driving.specs.Hours.{wheel_figures, wheel_limits}
use Rattle.replay.specs.declared.TraceRecord.{TraceRecord}
use Rattle.replay.specs.declared.Underway.{Underway}
use Rattle.std.specs.Prelude.{Ok, Err}
use Rattle.replay.specs.Trace.{is_driving, trace_record_at, record_count, records_from, first_records}
use Rattle.replay.specs.Replay.{up_to_date, is_odd, is_past, is_stopped, first_stopped, placed_where, odd_record, past_limit}
use Rattle.replay.specs.Steps.{begun, record_tests, settled, Sound, step_on, goes_past, stepped, WalkSays}
use Rattle.replay.proofs.Joining.{driving_no_pause, no_pause}
use Rattle.replay.proofs.Stepping.{ran, ran_more, on_other, ran_up_to_date, first_more}
use Rattle.replay.proofs.Sounds.{step_sound}

-- what a record does, by what is known of it
pub judged : (rules : Rules) (u : Underway) (k : ℕ) (r : TraceRecord) {odd past : Bool} → is_odd r ≡ odd → goes_past rules u r ≡ past →
    stepped rules u k r ≡ pick odd (Err (Refusal.OddRecord k)) (pick past (Err (Refusal.PastLimit k)) (Ok (step_on rules u r)))
judged rules u k r is_odd is-past =
    ap₂ (λ (a b : Bool). pick a (Err (Refusal.OddRecord k)) (pick b (Err (Refusal.PastLimit k)) (Ok (step_on rules u r)))) is_odd is-past

placed_where_lem : (fits : ℕ → Bool) {p : Option ℕ} {k : ℕ} → p ≡ some k → fits k ≡ true → placed_where fits p ≡ some k
placed_where_lem fits is fitting = rw (is, fitting)

placed_nowhere : (fits : ℕ → Bool) {p : Option ℕ} {k : ℕ} → p ≡ some k → fits k ≡ false → placed_where fits p ≡ none
placed_nowhere fits is failing = rw (is, failing)

-- after the records of which so many are done
pub record Going (trace : List ℕ) (rules : Rules) (f : Figures) (done : ℕ) (u : Underway) : Type 0 where
  pub high : done ≤ record_count trace
  pub before : NoneBelow (is_stopped trace rules f) 1 (done + 1)
  pub there : u ≡ ran rules (begun f) (first_records trace done)
  pub sound : Sound rules u

module _ (trace : List ℕ) (rules : Rules) (f : Figures) where
  nothing_ran : begun f ≡ ran rules (begun f) (first_records trace 0)
  unfolding records_from
  nothing_ran = refl

  pub going_from : SoundRules rules → SoundFigures f rules → Going trace rules f 0 (begun f)
  going_from sound_rules sound_figures =
      record {
        high = omega arith;
        before = λ x low high. absurd (omega arith);
        there = nothing_ran;
        sound = record { sound_rules = sound_rules; sound_figures = sound_figures; pause_high = omega arith };
      }

  module _ (done : ℕ) (u : Underway) (going : Going trace rules f done u) where
    abbrev next : TraceRecord
    next = trace_record_at trace (done + 1)

    ran_next : step_on rules u next ≡ ran rules (begun f) (first_records trace (done + 1))
    ran_next =
        ap (λ (v : Underway). step_on rules v next) going.there
        ∙ sym (ap (ran rules (begun f)) (first_more trace done) ∙ ran_more rules (begun f) (first_records trace done) next)

    driven_next : is_driving next ≡ true → up_to_date rules (first_records trace (done + 1)) f ≡ (step_on rules u next).figures
    driven_next drives =
        sym (ran_up_to_date rules going.sound.sound_rules f (first_records trace (done + 1)))
        ∙ ap (settled rules) (sym ran_next)
        ∙ no_pause_left (step_on rules u next) (on_other rules u next (driving_no_pause next drives))
      where
        no_pause_left : (v : Underway) {g : Figures} → v ≡ begun g → settled rules v ≡ v.figures
        no_pause_left v {g} e = rw e (no_pause rules going.sound.sound_rules g)

    -- the figures of the whole trace decide whether the next record goes past a limit
    past_next : is_past trace rules f (done + 1) ≡ goes_past rules u next
    unfolding is_past
    past_next =
        ⊎_elim
        (λ (drives : is_driving next ≡ true). ap (λ (g : Figures). is_driving next && not (none_above (wheel_figures g) (wheel_limits rules))) (driven_next drives))
        (λ (no_drive : is_driving next ≡ false). neither no_drive _ _)
        (cases (is_driving next))
      where
        neither : {drives : Bool} → drives ≡ false → (a b : Bool) → (drives && a) ≡ (drives && b)
        neither {drives} e a b = rw e

    pub stopped_next : is_stopped trace rules f (done + 1) ≡ (is_odd next || goes_past rules u next)
    unfolding is_stopped
    stopped_next = ap (λ (b : Bool). is_odd next || b) past_next

    module _ (more : done < record_count trace) where
      first_here : is_stopped trace rules f (done + 1) ≡ true → first_stopped trace rules f ≡ some (done + 1)
      first_here stops = lowest_found (is_stopped trace rules f) 1 (record_count trace) (done + 1) (omega arith) (omega arith) going.before stops

      -- a record that is refused is the first to be
      odd_refuses : is_odd next ≡ true → Refuses (record_tests trace rules f) (Refusal.OddRecord (done + 1))
      odd_refuses odd rest success =
          stops_at (22 at odd_record trace rules f) _ success (placed_where_lem (λ k. is_odd (trace_record_at trace k)) (first_here (stopped_next ∙ rw odd)) odd)

      past_refuses : is_odd next ≡ false → goes_past rules u next ≡ true → Refuses (record_tests trace rules f) (Refusal.PastLimit (done + 1))
      past_refuses even goes rest success =
          let here = first_here (stopped_next ∙ or_right (is_odd next) goes) in
          passed_over (22 at odd_record trace rules f) _ success (placed_nowhere (λ k. is_odd (trace_record_at trace k)) here even)
          ∙ stops_at (23 at past_limit trace rules f) rest success (placed_where_lem (λ k. not (is_odd (trace_record_at trace k))) here (rw even))

      pub stops_next : (why : Refusal) → stepped rules u (done + 1) next ≡ Err why → Refuses (record_tests trace rules f) why
      stops_next why e = by (is_odd next) (goes_past rules u next) refl refl
        where
          by : (odd past : Bool) → is_odd next ≡ odd → goes_past rules u next ≡ past → Refuses (record_tests trace rules f) why
          by true past is_odd is-past =
              let same : Refusal.OddRecord (done + 1) ≡ why = cc (judged rules u (done + 1) next is_odd is-past, e) in
              subst (Refuses (record_tests trace rules f)) same (odd_refuses is_odd)
          by false true is_odd is-past =
              let same : Refusal.PastLimit (done + 1) ≡ why = cc (judged rules u (done + 1) next is_odd is-past, e) in
              subst (Refuses (record_tests trace rules f)) same (past_refuses is_odd is-past)
          by false false is_odd is-past = absurd (let z : ◌≡◌ {A = ℕ} 0 1 = cc (judged rules u (done + 1) next is_odd is-past, e) in omega arith)

      -- one that is taken hands the replay on
      pub takes_next : (v : Underway) → stepped rules u (done + 1) next ≡ Ok v → Going trace rules f (done + 1) v
      takes_next v e = by (is_odd next) (goes_past rules u next) refl refl
        where
          by : (odd past : Bool) → is_odd next ≡ odd → goes_past rules u next ≡ past → Going trace rules f (done + 1) v
          by true past is_odd is-past = absurd (let z : ◌≡◌ {A = ℕ} 0 1 = cc (judged rules u (done + 1) next is_odd is-past, e) in omega arith)
          by false true is_odd is-past = absurd (let z : ◌≡◌ {A = ℕ} 0 1 = cc (judged rules u (done + 1) next is_odd is-past, e) in omega arith)
          by false false is_odd is-past =
              let same : step_on rules u next ≡ v = cc (judged rules u (done + 1) next is_odd is-past, e) in
              record {
                high = omega arith;
                before = one_more (is_stopped trace rules f) going.before (stopped_next ∙ ap₂ (λ (a b : Bool). a || b) is_odd is-past);
                there = sym same ∙ ran_next;
                sound = subst (Sound rules) same (step_sound rules u next going.sound is-past);
              }

    -- at the end no record was refused, and the figures are those of the whole trace
    pub ends : record_count trace ≤ done → WalkSays trace rules f (Ok u)
    ends all =
        let same : done ≡ record_count trace = omega (arith, going.high) in
        let none-stops = lowest_none (is_stopped trace rules f) 1 (record_count trace) (λ x low high. going.before x low (omega arith)) in (
          (rw none-stops refl, (rw none-stops refl, tt)),
          ap (settled rules) going.there ∙ ran_up_to_date rules going.sound.sound_rules f (first_records trace done) ∙ ap (λ (n : ℕ). up_to_date rules (first_records trace n) f) same,
        )
