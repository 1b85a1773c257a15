-- A run is opened by the map and the order, and then its list; it has the trip of what it was given: the roads of its list are banned, and
-- none is struck. Assumes nothing.
use mathlib.Core.Path.{◌≡◌, ◌∙◌, ap}
use mathlib.Core.List.{List}
use Prim.Native.Nat.{ℕ}
use denote.Bor.{Bor}
use Rattle.std.specs.Prelude.{Result, Ok, Err}
use Rattle.replies.specs.declared.Refusal.{Refusal}
use Rattle.replies.proofs.First.{none_of_both, refuses_after}
use Rattle.roadmap.specs.Format.{road_count}
use Rattle.bans.specs.Bans.{listed_in}
use Rattle.bans.specs.BanList.{ban_tests}
use Rattle.moves.specs.declared.given.OpenRun.{OpenRun}
use Rattle.moves.specs.Given.{Given, trip_from}
use Rattle.moves.specs.OpenRuns.{listed_trip}
use Rattle.moves.specs.RunTests.{opening_tests}
use Rattle.moves.specs.Opened.{ReadSays, ListedSays, OpenedSays}
use Rattle.moves.proofs.Trips.{unstruck_trip}

pub opened_listed : (given : Given) (run : OpenRun) → OpenedSays given (Ok run) → listed_trip run ≡ trip_from given
opened_listed given run opened = rw (opened.3.0, opened.3.1) (unstruck_trip (listed_in given.bans) opened.0 opened.1)

-- a run that was read, with the list that comes beside its order
pub opened_by : (given : Given) (run : OpenRun) (answer : Result OpenRun Refusal) → ReadSays given.map given.order (Ok run) → ListedSays run given.bans answer
    → OpenedSays given answer
opened_by given run (Ok listed) read says = (
  rw says.2 read.0,
  rw says.2 read.1,
  none_of_both (opening_tests given.map given.order) (ban_tests (road_count given.map) given.bans) read.2 (rw (← read.3) says.0),
  (ap (λ (map : Bor (List ℕ)). map.now) says.1 ∙ read.3, says.3),
)
opened_by given run (Err why) read says =
    refuses_after (opening_tests given.map given.order) (ban_tests (road_count given.map) given.bans) why read.2 (rw (← read.3) says)
