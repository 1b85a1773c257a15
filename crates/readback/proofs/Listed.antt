-- What is known of the trip of an open run, and of the labels of a search that found an answer. Assumes nothing.
use Rattle.moves.specs.declared.given.OpenRun.{OpenRun}
use Rattle.bans.specs.Bans.{listed_in}
use Rattle.moves.specs.Runs.{SoundTrip, Tied}
use Rattle.moves.specs.OpenRuns.{listed_trip}
use Rattle.moves.proofs.Trips.{run_tied}
use Rattle.moves.proofs.Rising.{run_sound}
use Rattle.labels.specs.LabelWords.{label_at}
use Rattle.readback.specs.declared.FoundLabels.{FoundLabels}
use Rattle.readback.specs.Held.{Found}

module _ (run : OpenRun) where
  pub listed_tied : Tied run.map.now (listed_in run.bans.now) run.about (listed_trip run)
  listed_tied = run_tied run.map.now (listed_in run.bans.now) run.about

  pub listed_sound : SoundTrip (listed_trip run)
  listed_sound = run_sound run.map.now (listed_in run.bans.now) run.about run.accepted

-- what the search found
pub found_in : (labels : FoundLabels) → Found (listed_trip labels.run.now) labels.words.now labels.count
found_in labels = record { held = labels.held; answered = (label_at labels.words.now labels.count, labels.last) }
