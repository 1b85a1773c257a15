-- Two runs compared, by their bytes. Document 01, "Two runs compared", and document 02, P5, P7 and P8. Assumes nothing.
use Rattle.std.specs.Prelude.{◌≡◌, true, List, ℕ, ◌≤◌, T}
use Rattle.theory.specs.Figures.{none_above}
use Rattle.roadmap.specs.Format.{junction_count, road_count, car_park, road_from, road_to}
use Rattle.driving.specs.Order.{order_word, order_of}
use Rattle.driving.specs.Hours.{wheel_figures}
use Rattle.driving.specs.Compared.{EasesRules}
use Rattle.bans.specs.Bans.{listed_in}
use Rattle.moves.specs.Trip.{road_time}
use Rattle.moves.specs.Given.{Given}

-- two runs share the junctions and the roads' numbers and ends: J and R are equal, and each road number has the same from and to
pub record SharedRoads (b a : List ℕ) : Type 0 where
  pub junctions : junction_count b ≡ junction_count a
  pub roads : road_count b ≡ road_count a
  pub from : (r : ℕ) → 1 ≤ r → r ≤ road_count a → road_from b r ≡ road_from a r
  pub to : (r : ℕ) → 1 ≤ r → r ≤ road_count a → road_to b r ≡ road_to a r

-- the same trip: source, target, departure and latest arrival
pub record SharedTrip (b a : List ℕ) : Type 0 where
  pub source : order_word b 0 ≡ order_word a 0
  pub target : order_word b 1 ≡ order_word a 1
  pub departure : order_word b 2 ≡ order_word a 2
  pub latest : order_word b 3 ≡ order_word a 3

-- in B no road takes longer, and each car park of A is one
pub record EasierMap (b a : List ℕ) : Type 0 where
  pub seconds : (r : ℕ) → 1 ≤ r → r ≤ road_count a → road_time b r ≤ road_time a r
  pub parks : (j : ℕ) → 1 ≤ j → j ≤ junction_count a → car_park a j ≡ 1 → car_park b j ≡ 1

-- in B no starting figure is higher, and the rules are no harder
pub record EasierOrder (b a : List ℕ) : Type 0 where
  pub figures : T (none_above (wheel_figures (order_of b).figures) (wheel_figures (order_of a).figures))
  pub rules : EasesRules (order_of b).rules (order_of a).rules

-- nothing is worse in B
pub record EasierRun (b a : Given) : Type 0 where
  pub roads : SharedRoads b.map a.map
  pub trip : SharedTrip b.order a.order
  pub map : EasierMap b.map a.map
  pub order : EasierOrder b.order a.order
  -- B's banned roads are among A's
  pub bans : (r : ℕ) → listed_in b.bans r ≡ true → listed_in a.bans r ≡ true
