-- A trip with a road struck: the road leads back to where it begins. Document 02, P6. Assumes nothing.
use Rattle.std.specs.Prelude.{ℕ, zero, suc, get_or, set}
use Rattle.moves.specs.Trip.{Stretch, Trip, no_stretch}

abbrev pub struck_stretch : Stretch → Stretch
struck_stretch road = record { from = road.from; to = road.from; seconds = road.seconds; banned = road.banned }

-- the trip with this road struck, from 1; 0 is none
unfoldable pub struck_in : ℕ → Trip → Trip
struck_in zero trip = trip
struck_in (suc i) trip =
    record {
      roads = set trip.roads i (struck_stretch (get_or trip.roads i no_stretch));
      parks = trip.parks;
      order = trip.order;
    }
