-- What a run must pass: its map and its order, refusals 1 to 11, and its list of banned roads, refusal 25, in this order.
-- Document 01, "Replies", and document 02, P8. Assumes nothing.
use Rattle.std.specs.Prelude.{List, ◌++◌, ℕ}
use Rattle.replies.specs.First.{Test}
use Rattle.roadmap.specs.Format.{junction_count, road_count}
use Rattle.mapcheck.specs.MapCheck.{map_tests}
use Rattle.driving.specs.Order.{order_tests}
use Rattle.bans.specs.BanList.{ban_tests}
use Rattle.moves.specs.Given.{Given}

-- of a map and an order: 1 to 11
abbrev pub opening_tests : List ℕ → List ℕ → List Test
opening_tests map order = map_tests map ++ order_tests (junction_count map) order

-- 1 to 11, then 25
abbrev pub run_tests : Given → List Test
run_tests given = opening_tests given.map given.order ++ ban_tests (road_count given.map) given.bans

-- of an order that is checked alone, for a map of so many junctions and roads: 9 to 11, then 25
abbrev pub order_check_tests : ℕ → ℕ → List ℕ → List ℕ → List Test
order_check_tests junctions roads order bans = order_tests junctions order ++ ban_tests roads bans
