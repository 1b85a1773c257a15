-- Halving finds the road, or where it would stand.
use Rattle.std.proofs.Common.{◌∙◌}
use Rattle.bans.proofs.Listed.{found_listed}
use Rattle.bans.proofs.is_listed.Goals as goal

pub returns : goal.returns
returns c = c.is_ok.ensures.value ∙ found_listed _ _ c.requires _ c.binary_search.ensures.position
