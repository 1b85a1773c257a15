-- A run is opened: the map and the order are judged, refusals 1 to 11, then the list of banned roads, refusal 25. Assumes nothing.
use Rattle.std.specs.Prelude.{◌≡◌, List, ℕ, Result, Ok, Err}
use Rattle.replies.specs.declared.Refusal.{Refusal}
use Rattle.replies.specs.First.{NoneFits, Refuses}
use Rattle.roadmap.specs.Format.{road_count}
use Rattle.driving.specs.Order.{order_of}
use Rattle.bans.specs.BanList.{ban_tests}
use Rattle.moves.specs.declared.given.OpenRun.{OpenRun}
use Rattle.moves.specs.Given.{Given, order_from}
use Rattle.moves.specs.RunTests.{opening_tests, run_tests}
use Rattle.moves.specs.Runs.{Unstruck}

-- by the map and the order alone: no road is struck
abbrev pub ReadSays : List ℕ → List ℕ → Result OpenRun Refusal → Type 0
ReadSays map order (Ok run) = Unstruck map run.about × (run.about.order ≡ order_of order) × NoneFits (opening_tests map order) × (run.map.now ≡ map)
ReadSays map order (Err why) = Refuses (opening_tests map order) why

-- a run that was read, with a list of banned roads
abbrev pub ListedSays : OpenRun → List ℕ → Result OpenRun Refusal → Type 0
ListedSays run bans (Ok listed) = NoneFits (ban_tests (road_count run.map.now) bans) × (listed.map ≡ run.map) × (listed.about ≡ run.about) × (listed.bans.now ≡ bans)
ListedSays run bans (Err why) = Refuses (ban_tests (road_count run.map.now) bans) why

-- the map's bytes and the list are those that are given
abbrev pub Lent : Given → OpenRun → Type 0
Lent given run = (run.map.now ≡ given.map) × (run.bans.now ≡ given.bans)

abbrev pub OpenedSays : Given → Result OpenRun Refusal → Type 0
OpenedSays given (Ok run) = Unstruck given.map run.about × (run.about.order ≡ order_from given) × NoneFits (run_tests given) × Lent given run
OpenedSays given (Err why) = Refuses (run_tests given) why
