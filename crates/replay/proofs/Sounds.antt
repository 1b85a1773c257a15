-- A replay under way keeps sound figures. Assumes nothing.
use mathlib.Core.Path.{◌≡◌, refl}
use mathlib.Core.Bool.{Bool, true, false, ◌&&◌}
use mathlib.Core.Logic.{⊎_elim}
use Prim.Native.Nat.{ℕ, ◌+◌, ◌≤◌}
use native.Mathlib.Omega.{arith}
use borrow.Author.Tests.{ltb-true, ltb-false, not-false}
use lib.Dec.{T, leb, ltb}
use Rattle.booleans.specs.Pick.{pick}
use Rattle.booleans.proofs.Tests.{cases, or_false, true_T}
use Rattle.theory.specs.Figures.{none_above}
use Rattle.theory.proofs.Figures.{above_trans}
use Rattle.driving.specs.declared.Figures.{Figures}
use Rattle.driving.specs.declared.Rules.{Rules}
use Rattle.driving.specs.Accepted.{SoundRules, SoundFigures}
use Rattle.driving.specs.Hours.{wheel_figures, wheel_limits, highest_limits, driven_on, has_split, after_break, after_rest, after_first, after_second, after_weekly, cleared}
use Rattle.driving.proofs.Hours.{figures_within, limits_within, sound_rise, driven_rise, rise_sound, cleared_sound}
use Rattle.replay.specs.declared.TraceRecord.{TraceRecord}
use Rattle.replay.specs.declared.Underway.{Underway}
use Rattle.replay.specs.Trace.{pause, is_driving, is_pause}
use Rattle.replay.specs.Replay.{after_pause, most_seconds, is_odd}
use Rattle.replay.specs.Steps.{lengthened, settled, Sound, step_on, goes_past}

-- the figures of a sound replay are far below what a word holds
pub drivable : (f : Figures) (rules : Rules) → SoundRules rules → SoundFigures f rules → T (none_above (wheel_figures f) highest_limits)
drivable f rules sound within = above_trans (wheel_figures f) (wheel_limits rules) highest_limits (figures_within f rules within) (limits_within rules sound)

-- the seconds of a record that is not odd
pub seconds_high : (r : TraceRecord) → is_odd r ≡ false → r.seconds ≤ most_seconds
unfolding is_odd
seconds_high r even =
    let in_range = (or_false {a = ltb pause r.activity} even).1 in
    ltb-false most_seconds r.seconds (or_false {a = ltb r.seconds 1} in_range).1

-- a pause leaves sound figures sound
pub paused_sound : (f : Figures) (rules : Rules) (seconds : ℕ) → SoundFigures f rules → SoundFigures (after_pause rules seconds f) rules
paused_sound f rules seconds sound =
    by (leb rules.weekly_rest.0 seconds) (leb rules.rest_time.0 seconds) (leb rules.break_time.0 seconds) (has_split rules)
    (f.marked && leb rules.second_part.0 seconds) (leb rules.first_part.0 seconds)
  where
    kept : (kind : ℕ) → SoundFigures (cleared kind f) rules
    kept kind = cleared_sound kind f rules sound

    by : (weekly rests breaks split ends begins : Bool) →
        SoundFigures (pick weekly (after_weekly f) (pick rests (after_rest f) (pick breaks (after_break f) (pick split (pick ends (after_second f) (pick begins (after_first f) f)) f)))) rules
    by true rests breaks split ends begins = kept 6
    by false true breaks split ends begins = kept 3
    by false false true split ends begins = kept 2
    by false false false true true begins = kept 5
    by false false false true false true = kept 4
    by false false false true false false = sound
    by false false false false ends begins = sound

driven_sound : (f : Figures) (rules : Rules) (seconds : ℕ) → SoundFigures f rules → T (none_above (wheel_figures (driven_on seconds f)) (wheel_limits rules)) → SoundFigures (driven_on seconds f) rules
driven_sound f rules seconds sound within =
    rise_sound (driven_on seconds f) rules (driven_rise seconds f (sound_rise f rules sound)) within

pub lengthened_high : (p s : ℕ) → lengthened p s ≤ most_seconds
lengthened_high p s =
    ⊎_elim
    (λ (short : ltb (p + s) most_seconds ≡ true). rw short (omega (arith, ltb-true (p + s) most_seconds short)))
    (λ (long : ltb (p + s) most_seconds ≡ false). rw long (omega arith))
    (cases (ltb (p + s) most_seconds))

-- a record that does not stop the replay leaves it sound
pub step_sound : (rules : Rules) (u : Underway) (r : TraceRecord) → Sound rules u →
    goes_past rules u r ≡ false → Sound rules (step_on rules u r)
step_sound rules u r sound within = by (is_pause r) (is_driving r) refl refl
  where
    still : SoundFigures (settled rules u) rules
    still = paused_sound u.figures rules u.pause.0 sound.sound_figures

    by : (pauses drives : Bool) → is_pause r ≡ pauses → is_driving r ≡ drives → Sound rules (step_on rules u r)
    by true drives is-pause is-drive = rw is-pause (record { sound_rules = sound.sound_rules; sound_figures = sound.sound_figures; pause_high = lengthened_high u.pause.0 r.seconds })
    by false true is-pause is-drive =
        rw (is-pause, is-drive)
        (record {
          sound_rules = sound.sound_rules;
          sound_figures = driven_sound (settled rules u) rules r.seconds still (true_T (not-false (none_above (wheel_figures (driven_on r.seconds (settled rules u))) (wheel_limits rules)) (rw (is-pause, is-drive) at within)));
          pause_high = omega arith;
        })
    by false false is-pause is-drive = rw (is-pause, is-drive) (record { sound_rules = sound.sound_rules; sound_figures = still; pause_high = omega arith })
