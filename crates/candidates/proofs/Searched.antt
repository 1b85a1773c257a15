-- What an open run says of the trip that is searched. Assumes nothing.
use mathlib.Core.Path.{◌≡◌, ◌∙◌, sym}
use Rattle.moves.specs.declared.given.OpenRun.{OpenRun}
use Rattle.bans.specs.Bans.{closed_in}
use Rattle.moves.specs.OpenRuns.{searched_trip}
use Rattle.moves.specs.Trip.{roads_in, junctions_in}
use Rattle.moves.specs.Runs.{SoundTrip, Tied}
use Rattle.moves.proofs.Trips.{run_tied}
use Rattle.moves.proofs.Rising.{run_sound}

module _ (run : OpenRun) where
  pub tied : Tied run.map.now (closed_in run.closed.now) run.about (searched_trip run)
  tied = run_tied run.map.now (closed_in run.closed.now) run.about

  pub sound : SoundTrip (searched_trip run)
  sound = run_sound run.map.now (closed_in run.closed.now) run.about run.accepted

  pub roads : roads_in (searched_trip run) ≡ run.about.sizes.roads
  roads = tied.roads ∙ sym run.accepted.sized.roads

  pub junctions : junctions_in (searched_trip run) ≡ run.about.sizes.junctions
  junctions = tied.junctions ∙ sym run.accepted.sized.junctions
