-- What holds of the numbers of an accepted order. Assumes nothing.
use Rattle.std.specs.Prelude.{ℕ, ◌≤◌, ◌≡◌, true}
use Rattle.driving.specs.declared.Order.{Order}
use Rattle.driving.specs.declared.Figures.{Figures}
use Rattle.driving.specs.declared.Rules.{Rules}
use Rattle.driving.specs.Hours.{has_split}

-- 1 ≤ spell limit ≤ shift limit ≤ week limit ≤ 1,000,000 and 1 ≤ break ≤ rest ≤ weekly rest ≤ 1,000,000; with a split each part is 1 up
-- to the break
pub record SoundRules (r : Rules) : Type 0 where
  pub spell_limit_low : 1 ≤ r.spell_limit.0
  pub limits_rise : r.spell_limit.0 ≤ r.shift_limit.0
  pub shift_limit_high : r.shift_limit.0 ≤ 1000000
  pub break_low : 1 ≤ r.break_time.0
  pub pauses_rise : r.break_time.0 ≤ r.rest_time.0
  pub rest_high : r.rest_time.0 ≤ 1000000
  pub first_low : has_split r ≡ true → 1 ≤ r.first_part.0
  pub first_high : r.first_part.0 ≤ r.break_time.0
  pub second_low : has_split r ≡ true → 1 ≤ r.second_part.0
  pub second_high : r.second_part.0 ≤ r.break_time.0
  pub week_limit_low : r.shift_limit.0 ≤ r.week_limit.0
  pub week_limit_high : r.week_limit.0 ≤ 1000000
  pub weekly_low : r.rest_time.0 ≤ r.weekly_rest.0
  pub weekly_high : r.weekly_rest.0 ≤ 1000000

-- spell is at most its limit and at most shift, shift at most its limit and at most week, and week at most its limit
pub record SoundFigures (f : Figures) (r : Rules) : Type 0 where
  pub spell_high : f.spell.0 ≤ r.spell_limit.0
  pub figures_rise : f.spell.0 ≤ f.shift.0
  pub shift_high : f.shift.0 ≤ r.shift_limit.0
  pub week_low : f.shift.0 ≤ f.week.0
  pub week_high : f.week.0 ≤ r.week_limit.0

-- spell ≤ shift ≤ week, as in every state that a trip reaches
pub record FiguresRise (f : Figures) : Type 0 where
  pub spell_shift : f.spell.0 ≤ f.shift.0
  pub shift_week : f.shift.0 ≤ f.week.0

-- with these, source and target are 1 to J, and departure ≤ latest ≤ 2,000,000,000
pub record AcceptedOrder (junctions : ℕ) (o : Order) : Type 0 where
  pub source_low : 1 ≤ o.source
  pub source_high : o.source ≤ junctions
  pub target_low : 1 ≤ o.target
  pub target_high : o.target ≤ junctions
  pub times_rise : o.departure.0 ≤ o.latest.0
  pub latest_high : o.latest.0 ≤ 2000000000
  pub sound_figures : SoundFigures o.figures o.rules
  pub sound_rules : SoundRules o.rules
