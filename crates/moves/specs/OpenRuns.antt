-- The trip of an open run: its map's bytes and its order, with the roads banned that its bytes or its list say. Assumes nothing.
use Rattle.moves.specs.declared.given.OpenRun.{OpenRun}
use Rattle.moves.specs.Trip.{Trip}
use Rattle.bans.specs.Bans.{closed_in, listed_in}
use Rattle.moves.specs.Runs.{trip_in}

-- as a search is lent it
abbrev pub searched_trip : OpenRun → Trip
searched_trip run = trip_in run.map.now (closed_in run.closed.now) run.about

-- as moves are taken and a plan is read back
abbrev pub listed_trip : OpenRun → Trip
listed_trip run = trip_in run.map.now (listed_in run.bans.now) run.about
