-- Closures of document 01's T, worked by hand and computed from the definitions. Road 3 of T takes longer than a spell may, so its plan is by
-- roads 1 and 2. Assumes nothing.
use mathlib.Core.Bool.{Bool, ◌&&◌}
use mathlib.Core.List.{List, [], ◌∷◌}
use Prim.Native.Nat.{ℕ}
use lib.Dec.{T}
use lib.ListN.{length}
use Rattle.words.specs.Word.{word_at, put_at}
use Rattle.words.specs.Spelled.{spelled}
use Rattle.replies.specs.declared.Reply.{Reply}
use Rattle.replies.specs.First.{first_of, lowest}
use Rattle.replies.specs.Told.{succeeded, refused_at}
use Rattle.replies.specs.Alike.{same_reply}
use Rattle.roadmap.specs.RoadTime.{nearest, road_seconds}
use Rattle.roadmap.specs.Format.{format, junction_count, road_count, name_bytes, junction_word, road_word}
use Rattle.mapcheck.specs.MapCheck.{oversize, outside, bad_junction_at, bad_road_at, bad_letter_at}
use Rattle.mapcheck.specs.Chain.{broken_chain_at, among, chain_from}
use Rattle.striking.specs.Striking.{struck}
use Rattle.driving.specs.Order.{first_broken, bad_rules, bad_trip}
use Rattle.moves.specs.Trip.{trip_of}
use Rattle.moves.specs.Moves.{after}
use Rattle.states.specs.States.{legal, same_state, covers, ranks_no_higher}
use Rattle.bans.specs.BanList.{bad_ban_at}
use Rattle.calendar.specs.Gate.{gate_of}
use Rattle.moves.specs.Given.{given_of}
use Rattle.theory.specs.Lists.{memb, every}
use Rattle.theory.specs.Figures.{none_above, same_each, lexicographic}
use Rattle.sheets.specs.Sheet.{word_bytes, heading_bytes, row_bytes, rows_bytes, sheet_after}
use Rattle.journeys.specs.Labels.{answer_in, labels_in}
use Rattle.journeys.specs.Plan.{plan_moves, plan_rows}
use Rattle.journeys.specs.Planning.{plan_reply, plan_sheet}
use Rattle.journeys.specs.Starred.{map_t, order_t, day_order_t, sheet_t, blank_sheet}
use Rattle.planner.specs.Preview.{preview_reply, preview_sheet}

-- the preview of T by this order and ban list, with this road struck and so many labels that fit: its reply, and the words of a sheet of T's
-- length
record Closure : Type 0 where
  order : List ℕ
  bans : List ℕ
  road : ℕ
  fit : ℕ
  reply : Reply
  words : List ℕ

works : Closure → Bool
unfolding preview_reply preview_sheet struck put_at first_of plan_reply plan_sheet sheet_after heading_bytes rows_bytes row_bytes word_bytes word_at format junction_count road_count name_bytes junction_word road_word oversize outside lowest bad_junction_at bad_road_at broken_chain_at among chain_from bad_letter_at first_broken bad_rules bad_trip bad_ban_at memb gate_of trip_of nearest road_seconds plan_rows plan_moves labels_in answer_in after legal same_state covers ranks_no_higher none_above same_each lexicographic
works c =
    same_reply (preview_reply (given_of map_t c.order c.bans) c.road c.fit (length blank_sheet)) c.reply
    && same_each (preview_sheet (given_of map_t c.order c.bans) c.road c.fit blank_sheet) (spelled c.words)

-- nothing written
abbrev blank : List ℕ
blank = 0 ∷ 0 ∷ 0 ∷ 0 ∷ 0 ∷ 0 ∷ 0 ∷ 0 ∷ 0 ∷ 0 ∷ 0 ∷ 0 ∷ 0 ∷ 0 ∷ 0 ∷ []

abbrev closures : List Closure
closures =
    -- road 3, which the plan does not use
    record { order = order_t 20700; bans = []; road = 3; fit = 4; reply = succeeded 4 20700; words = sheet_t 4 }
    -- without road 1 only Hub is reached; its loop of 10,800 seconds makes nothing better
    ∷ record { order = order_t 20700; bans = []; road = 1; fit = 1; reply = refused_at 13 1; words = blank }
    -- without road 2 Hub and Lay: at 10,800 and after a break at 13,500
    ∷ record { order = order_t 20700; bans = []; road = 2; fit = 3; reply = refused_at 13 3; words = blank }
    ∷ record { order = order_t 20700; bans = []; road = 2; fit = 2; reply = refused_at 12 2; words = blank }
    -- no such road, before the search and after a fault of the order
    ∷ record { order = order_t 20700; bans = []; road = 0; fit = 0; reply = refused_at 24 0; words = blank }
    ∷ record { order = order_t 20700; bans = []; road = 4; fit = 4; reply = refused_at 24 4; words = blank }
    ∷ record { order = []; bans = []; road = 4; fit = 4; reply = refused_at 9 0; words = blank }
    -- a bad list, after a fault of the road
    ∷ record { order = order_t 20700; bans = 0 ∷ []; road = 4; fit = 4; reply = refused_at 24 4; words = blank }
    ∷ record { order = order_t 20700; bans = 0 ∷ []; road = 3; fit = 4; reply = refused_at 25 1; words = blank }
    -- road 2 banned and another struck: the lorry queues on Sunday as it does in planning
    ∷ record {
      order = day_order_t 86400 172800;
      bans = 2 ∷ [];
      road = 3;
      fit = 5;
      reply = succeeded 5 172800;
      words = 3 ∷ 172800 ∷ 7200 ∷ 7200 ∷ 18000 ∷ 5 ∷ 1 ∷ 1 ∷ 97200 ∷ 3 ∷ 2 ∷ 136800 ∷ 1 ∷ 2 ∷ 172800 ∷ [];
    }
    ∷ []

closures_work : T (every works closures)
unfolding every works
closures_work = tt
