-- Two runs compared: where nothing is worse in B. Assumes nothing.
use Rattle.std.specs.Prelude.{◌≡◌, true, ℕ, ◌≤◌}
use Rattle.driving.specs.Compared.{EasesRules}
use Rattle.moves.specs.Trip.{Trip, road_in, park_in, roads_in, junctions_in}

-- the junctions, the numbers and ends of the roads and latest are shared; no road takes longer in B, its banned
-- roads are among A's, each car park of A is one, and the rules are no harder
pub record Eases (b a : Trip) : Type 0 where
  pub junctions : junctions_in b ≡ junctions_in a
  pub roads : roads_in b ≡ roads_in a
  pub from : (r : ℕ) → 1 ≤ r → r ≤ roads_in a → (road_in b r).from ≡ (road_in a r).from
  pub to : (r : ℕ) → 1 ≤ r → r ≤ roads_in a → (road_in b r).to ≡ (road_in a r).to
  pub seconds : (r : ℕ) → 1 ≤ r → r ≤ roads_in a → (road_in b r).seconds ≤ (road_in a r).seconds
  pub banned : (r : ℕ) → 1 ≤ r → r ≤ roads_in a → (road_in b r).banned ≡ true → (road_in a r).banned ≡ true
  pub parks : (j : ℕ) → park_in a j ≡ true → park_in b j ≡ true
  pub latest : b.order.latest.0 ≡ a.order.latest.0
  pub rules : EasesRules b.order.rules a.order.rules
