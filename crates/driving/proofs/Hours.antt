-- The driver's figures driven on and cleared, as changes of each figure in their list; limits and pauses as lists. Assumes nothing.
use mathlib.Core.Path.{◌≡◌, refl}
use mathlib.Core.Bool.{Bool, true, false}
use mathlib.Core.List.{List, [], ◌∷◌}
use Prim.Native.Nat.{ℕ, zero, suc, ◌-◌, ◌≤◌, ◌<◌}
use native.Mathlib.Omega.{arith}
use native.Mathlib.Nat.{le_refl}
use lib.Dec.{T, eqb}
use lib.ListN.{get_or}
use Rattle.booleans.proofs.Tests.{not_both, and_true}
use Rattle.theory.specs.Figures.{none_above}
use Rattle.theory.proofs.Figures.{above_end, above_head, above_tail, above_more, above_self, above_trans, above_both, above_at}
use Rattle.theory.proofs.Changes.{Change, grows, stays, becomes, changed_each}
use Rattle.driving.specs.declared.Figures.{Figures}
use Rattle.driving.specs.declared.Rules.{Rules}
use Rattle.driving.specs.Accepted.{SoundRules, SoundFigures, FiguresRise}
use Rattle.driving.specs.Compared.{EasesRules}
use Rattle.driving.specs.Hours.{wheel_figures, wheel_limits, highest_limits, mark_figure, driver_figures, highest_figures, driven_on, first_pause, last_pause, pause_count, has_split, whole_times, part_times, pause_times, pause_seconds, allowances, allows_pause, after_break, clearings, cleared}

-- a drive's seconds are added to spell, shift and week, and the mark stays
abbrev pub drive_changes : List Change
drive_changes = grows ∷ grows ∷ grows ∷ stays ∷ []

pub figures_driven : (seconds : ℕ) (f : Figures) → driver_figures (driven_on seconds f) ≡ changed_each drive_changes seconds (driver_figures f)
unfolding changed_each
figures_driven seconds f = refl

-- what a pause clears or sets, by kind
abbrev clearing_changes : List (List Change)
clearing_changes =
    (becomes 0 ∷ stays ∷ stays ∷ becomes 1 ∷ [])
    ∷ (becomes 0 ∷ becomes 0 ∷ stays ∷ becomes 1 ∷ [])
    ∷ (stays ∷ stays ∷ stays ∷ becomes 0 ∷ [])
    ∷ (becomes 0 ∷ stays ∷ stays ∷ becomes 1 ∷ [])
    ∷ (becomes 0 ∷ becomes 0 ∷ becomes 0 ∷ becomes 1 ∷ [])
    ∷ []

abbrev no_changes : List Change
no_changes = stays ∷ stays ∷ stays ∷ stays ∷ []

abbrev pub pause_changes : ℕ → List Change
pause_changes kind = get_or clearing_changes (kind - first_pause) no_changes

pub figures_cleared : (kind seconds : ℕ) (f : Figures) → driver_figures (cleared kind f) ≡ changed_each (pause_changes kind) seconds (driver_figures f)
unfolding changed_each
figures_cleared kind seconds f = by_row (kind - first_pause)
  where
    by_row : (row : ℕ) → driver_figures (get_or clearings row (λ f. f) f) ≡ changed_each (get_or clearing_changes row no_changes) seconds (driver_figures f)
    by_row zero = refl
    by_row (suc zero) = refl
    by_row (suc (suc zero)) = refl
    by_row (suc (suc (suc zero))) = refl
    by_row (suc (suc (suc (suc zero)))) = refl
    by_row (suc (suc (suc (suc (suc row))))) = refl

-- a break and a second part do the same
pub spell_cleared : (kind : ℕ) (f : Figures) → first_pause ≤ kind → kind ≤ last_pause → (kind ≡ 3 → ⊥) → (kind ≡ 4 → ⊥) → (kind ≡ 6 → ⊥) → cleared kind f ≡ after_break f
spell_cleared kind f low high no-rest no-first no-weekly =
    by_row (kind - first_pause) (omega arith) (λ e. no-rest (omega arith)) (λ e. no-first (omega arith)) (λ e. no-weekly (omega arith))
  where
    by_row : (row : ℕ) → row < pause_count → (row ≡ 1 → ⊥) → (row ≡ 2 → ⊥) → (row ≡ 4 → ⊥) → get_or clearings row (λ f. f) f ≡ after_break f
    by_row zero within one two four = refl
    by_row (suc zero) within one two four = absurd (one refl)
    by_row (suc (suc zero)) within one two four = absurd (two refl)
    by_row (suc (suc (suc zero))) within one two four = refl
    by_row (suc (suc (suc (suc zero)))) within one two four = absurd (four refl)
    by_row (suc (suc (suc (suc (suc row))))) within one two four = absurd (omega arith)

-- sound figures are within the limits, and sound limits are at most the highest
pub figures_within : (f : Figures) (r : Rules) → SoundFigures f r → T (none_above (wheel_figures f) (wheel_limits r))
figures_within f r sound =
    above_more _ _ _ _ sound.spell_high (above_more _ _ _ _ sound.shift_high (above_more _ _ _ _ sound.week_high above_end))

pub limits_within : (r : Rules) → SoundRules r → T (none_above (wheel_limits r) highest_limits)
limits_within r sound =
    let low : r.spell_limit.0 ≤ 1000000 = omega (arith, sound.limits_rise, sound.shift_limit_high) in
    above_more _ _ _ _ low (above_more _ _ _ _ sound.shift_limit_high (above_more _ _ _ _ sound.week_limit_high above_end))

-- spell ≤ shift ≤ week holds of sound figures, and a drive and each pause keep it
pub sound_rise : (f : Figures) (r : Rules) → SoundFigures f r → FiguresRise f
sound_rise f r sound = record { spell_shift = sound.figures_rise; shift_week = sound.week_low }

pub driven_rise : (seconds : ℕ) (f : Figures) → FiguresRise f → FiguresRise (driven_on seconds f)
driven_rise seconds f rise = record { spell_shift = omega (arith, rise.spell_shift); shift_week = omega (arith, rise.shift_week) }

pub cleared_rise : (kind : ℕ) (f : Figures) → FiguresRise f → FiguresRise (cleared kind f)
cleared_rise kind f rise = by_row (kind - first_pause)
  where
    none_low : (n : ℕ) → 0 ≤ n
    none_low n = omega arith

    by_row : (row : ℕ) → FiguresRise (get_or clearings row (λ f. f) f)
    by_row zero = record { spell_shift = none_low _; shift_week = rise.shift_week }
    by_row (suc zero) = record { spell_shift = none_low _; shift_week = none_low _ }
    by_row (suc (suc zero)) = record { spell_shift = rise.spell_shift; shift_week = rise.shift_week }
    by_row (suc (suc (suc zero))) = record { spell_shift = none_low _; shift_week = rise.shift_week }
    by_row (suc (suc (suc (suc zero)))) = record { spell_shift = none_low _; shift_week = none_low _ }
    by_row (suc (suc (suc (suc (suc row))))) = rise

-- what rises within the limits is sound
pub rise_sound : (f : Figures) (r : Rules) → FiguresRise f → T (none_above (wheel_figures f) (wheel_limits r)) → SoundFigures f r
rise_sound f r rise within =
    let late = above_tail _ _ _ _ within in
    record {
      spell_high = above_head _ _ _ _ within;
      figures_rise = rise.spell_shift;
      shift_high = above_head _ _ _ _ late;
      week_low = rise.shift_week;
      week_high = above_head _ _ _ _ (above_tail _ _ _ _ late);
    }

-- no pause raises a figure that has a limit, so each leaves sound figures sound
pub cleared_sound : (kind : ℕ) (f : Figures) (r : Rules) → SoundFigures f r → SoundFigures (cleared kind f) r
cleared_sound kind f r sound =
    rise_sound (cleared kind f) r (cleared_rise kind f (sound_rise f r sound))
    (above_trans (wheel_figures (cleared kind f)) (wheel_figures f) (wheel_limits r) (by_row (kind - first_pause)) (figures_within f r sound))
  where
    lower : {spell shift week : ℕ} → spell ≤ f.spell.0 → shift ≤ f.shift.0 → week ≤ f.week.0 → T (none_above (spell ∷ shift ∷ week ∷ []) (wheel_figures f))
    lower spell shift week = above_more _ _ _ _ spell (above_more _ _ _ _ shift (above_more _ _ _ _ week above_end))

    by_row : (row : ℕ) → T (none_above (wheel_figures (get_or clearings row (λ f. f) f)) (wheel_figures f))
    by_row zero = lower (omega arith) (le_refl _) (le_refl _)
    by_row (suc zero) = lower (omega arith) (omega arith) (le_refl _)
    by_row (suc (suc zero)) = above_self (wheel_figures f)
    by_row (suc (suc (suc zero))) = lower (omega arith) (le_refl _) (le_refl _)
    by_row (suc (suc (suc (suc zero)))) = lower (omega arith) (omega arith) (omega arith)
    by_row (suc (suc (suc (suc (suc row))))) = above_self (wheel_figures f)

-- a whole pause is always allowed, and a part only with a split
pub weekly_allowed : (r : Rules) (f : Figures) (kind : ℕ) → 5 < kind → kind ≤ last_pause → allows_pause r f kind ≡ true
weekly_allowed r f kind low high = let weekly : kind ≡ last_pause = omega arith in rw weekly

pub whole_allowed : (r : Rules) (f : Figures) (kind : ℕ) → kind < 4 → allows_pause r f kind ≡ true
whole_allowed r f kind low = by_row (kind - first_pause) (omega arith)
  where
    by_row : (row : ℕ) → row < 2 → get_or (allowances r f) row false ≡ true
    by_row zero low = refl
    by_row (suc zero) low = refl
    by_row (suc (suc row)) low = absurd (omega arith)

pub no_part : (r : Rules) (f : Figures) (kind : ℕ) → 4 ≤ kind → kind ≤ 5 → has_split r ≡ false → allows_pause r f kind ≡ false
no_part r f kind low high none = by_row (kind - first_pause) (omega arith) (omega arith)
  where
    by_row : (row : ℕ) → 2 ≤ row → row ≤ 3 → get_or (allowances r f) row false ≡ false
    by_row zero low high = absurd (omega arith)
    by_row (suc zero) low high = absurd (omega arith)
    by_row (suc (suc zero)) low high = none
    by_row (suc (suc (suc zero))) low high = rw none
    by_row (suc (suc (suc (suc row)))) low high = absurd (omega arith)

-- the mark is told by its figure, 0 or 1
pub mark_told : (m : Bool) → eqb (mark_figure m) 0 ≡ m
mark_told true = refl
mark_told false = refl

pub mark_high : (m : Bool) → mark_figure m ≤ 1
mark_high true = omega arith
mark_high false = omega arith

pub figures_bounded : (f : Figures) → T (none_above (wheel_figures f) highest_limits) → T (none_above (driver_figures f) highest_figures)
figures_bounded f within =
    above_both (wheel_figures f) highest_limits _ _ within (above_more _ _ _ _ (mark_high f.marked) above_end)

-- what has no higher figure has the mark if the other has it
marked_too : (b a : Bool) → mark_figure b ≤ mark_figure a → a ≡ true → b ≡ true
marked_too true a low is = refl
marked_too false true low is = absurd (omega arith)
marked_too false false low is = is

-- under rules that are no harder a driver who is no worse may take each pause that the other may, and it takes no longer
module _ (rb ra : Rules) (eases : EasesRules rb ra) where
  pub allowed_too : (b a : Figures) (kind : ℕ) → T (none_above (driver_figures b) (driver_figures a)) → allows_pause ra a kind ≡ true → allows_pause rb b kind ≡ true
  allowed_too b a kind over allowed = by_row (kind - first_pause) allowed
    where
      by_row : (row : ℕ) → get_or (allowances ra a) row false ≡ true → get_or (allowances rb b) row false ≡ true
      by_row zero may = refl
      by_row (suc zero) may = refl
      by_row (suc (suc zero)) may = eases.split may
      by_row (suc (suc (suc zero))) may =
          let both = and_true {a = has_split ra} may in
          rw (eases.split both.0) (marked_too b.marked a.marked (above_at (driver_figures b) (driver_figures a) 3 over) both.1)
      by_row (suc (suc (suc (suc zero)))) may = refl
      by_row (suc (suc (suc (suc (suc row))))) may = may

  pub no_longer : (a : Figures) (kind : ℕ) → allows_pause ra a kind ≡ true → pause_seconds rb kind ≤ pause_seconds ra kind
  no_longer a kind allowed = by_row (kind - first_pause) allowed
    where
      whole : (row : ℕ) → get_or (whole_times rb) row 0 ≤ get_or (whole_times ra) row 0
      whole row = above_at (whole_times rb) (whole_times ra) row eases.pauses

      part : has_split ra ≡ true → (row : ℕ) → get_or (part_times rb) row 0 ≤ get_or (part_times ra) row 0
      part split row = above_at (part_times rb) (part_times ra) row (eases.parts split)

      by_row : (row : ℕ) → get_or (allowances ra a) row false ≡ true → get_or (pause_times rb) row 0 ≤ get_or (pause_times ra) row 0
      by_row zero may = whole 0
      by_row (suc zero) may = whole 1
      by_row (suc (suc zero)) may = part may 0
      by_row (suc (suc (suc zero))) may = part (and_true {a = has_split ra} may).0 1
      by_row (suc (suc (suc (suc zero)))) may = whole 2
      by_row (suc (suc (suc (suc (suc row))))) may = omega arith

-- each pause that sound rules allow takes time, and not too much
pub pause_takes : (r : Rules) → SoundRules r → (f : Figures) (kind : ℕ) → allows_pause r f kind ≡ true → 1 ≤ pause_seconds r kind
pause_takes r sound f kind allowed = by_row (kind - first_pause) allowed
  where
    by_row : (row : ℕ) → get_or (allowances r f) row false ≡ true → 1 ≤ get_or (pause_times r) row 0
    by_row zero may = sound.break_low
    by_row (suc zero) may = omega (arith, sound.break_low, sound.pauses_rise)
    by_row (suc (suc zero)) may = sound.first_low may
    by_row (suc (suc (suc zero))) may = sound.second_low (and_true {a = has_split r} may).0
    by_row (suc (suc (suc (suc zero)))) may = omega (arith, sound.break_low, sound.pauses_rise, sound.weekly_low)
    by_row (suc (suc (suc (suc (suc row))))) may = absurd (not_both may refl)

pub pause_short : (r : Rules) → SoundRules r → (kind : ℕ) → pause_seconds r kind ≤ 1000000
pause_short r sound kind = by_row (kind - first_pause)
  where
    break_high : r.break_time.0 ≤ 1000000
    break_high = omega (arith, sound.pauses_rise, sound.rest_high)

    by_row : (row : ℕ) → get_or (pause_times r) row 0 ≤ 1000000
    by_row zero = break_high
    by_row (suc zero) = sound.rest_high
    by_row (suc (suc zero)) = omega (arith, sound.first_high, break_high)
    by_row (suc (suc (suc zero))) = omega (arith, sound.second_high, break_high)
    by_row (suc (suc (suc (suc zero)))) = sound.weekly_high
    by_row (suc (suc (suc (suc (suc row))))) = omega arith
