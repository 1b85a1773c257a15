-- What a run is given: the map's bytes, the order's and the list of banned roads; its order and its trip are made from them.
-- Assumes nothing.
use Rattle.std.specs.Prelude.{List, ℕ}
use Rattle.driving.specs.declared.Order.{Order}
use Rattle.driving.specs.Order.{order_of}
use Rattle.bans.specs.Bans.{listed_in}
use Rattle.moves.specs.Trip.{Trip, trip_of}

pub record Given : Type 0 where
  pub map : List ℕ
  pub order : List ℕ
  -- the numbers of the banned roads
  pub bans : List ℕ

-- as contracts make it, of the lent slices
abbrev pub given_of : List ℕ → List ℕ → List ℕ → Given
given_of map order bans = record { map = map; order = order; bans = bans }

-- with this map in place of its own, all else as it is given
abbrev pub on_map : List ℕ → Given → Given
on_map map given = given_of map given.order given.bans

abbrev pub order_from : Given → Order
order_from given = order_of given.order

-- the roads of the list are banned
abbrev pub trip_from : Given → Trip
trip_from given = trip_of given.map (listed_in given.bans) (order_from given)
