-- Two sets of rules compared: where nothing is worse in B. Document 01, "Two runs compared", and document 02, P5 and P7. Assumes nothing.
use Rattle.std.specs.Prelude.{◌≡◌, true, T}
use Rattle.theory.specs.Figures.{none_above}
use Rattle.driving.specs.declared.Rules.{Rules}
use Rattle.driving.specs.Hours.{wheel_limits, has_split, whole_times, part_times}

-- no limit is lower in B, no break, rest or weekly rest is longer; where A has a split so has B, with parts no longer than A's
pub record EasesRules (b a : Rules) : Type 0 where
  pub limits : T (none_above (wheel_limits a) (wheel_limits b))
  pub pauses : T (none_above (whole_times b) (whole_times a))
  pub split : has_split a ≡ true → has_split b ≡ true
  pub parts : has_split a ≡ true → T (none_above (part_times b) (part_times a))
