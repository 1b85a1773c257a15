-- The starred trial trips of document 01, with road times as document 02 (P2) rounds them, T with Europe's parts (P5), T at the end of a
-- driver's week (P7) and T over a Sunday and over Good Friday with a road banned (P8), proved together: antt computes one test.
-- Assumes nothing.
use Rattle.std.specs.Prelude.{Bool, true, false, not, ◌&&◌, List, [], ◌∷◌, ◌++◌, ℕ, T, eqb}
use Rattle.std.proofs.Math.Option.{Option, none, some}
use Rattle.words.specs.Word.{word_at}
use Rattle.words.specs.Spelled.{spelled}
use Rattle.replies.specs.declared.Reply.{Reply}
use Rattle.replies.specs.Told.{succeeded, refused_at}
use Rattle.replies.specs.Alike.{same_reply}
use Rattle.replies.specs.First.{lowest}
use Rattle.roadmap.specs.RoadTime.{nearest, road_seconds}
use Rattle.roadmap.specs.Format.{format, junction_count, road_count, name_bytes, junction_word, road_word}
use Rattle.mapcheck.specs.MapCheck.{oversize, outside, bad_junction_at, bad_road_at, bad_letter_at}
use Rattle.mapcheck.specs.Chain.{broken_chain_at, among, chain_from}
use Rattle.driving.specs.Order.{first_broken, bad_rules, bad_trip}
use Rattle.states.specs.declared.State.{State}
use Rattle.moves.specs.Trip.{Trip, trip_of}
use Rattle.moves.specs.Given.{Given, given_of, trip_from}
use Rattle.moves.specs.Moves.{move, after}
use Rattle.states.specs.States.{figures_of, legal, same_state, covers, ranks_no_higher, dominates_state}
use Rattle.bans.specs.BanList.{bad_ban_at}
use Rattle.calendar.specs.Gate.{gate_of}
use Rattle.theory.specs.Lists.{memb, every}
use Rattle.theory.specs.Figures.{none_above, same_each, lexicographic}
use Rattle.sheets.specs.declared.Row.{Row}
use Rattle.sheets.specs.Sheet.{word_bytes, heading_bytes, row_bytes, rows_bytes, sheet_after}
use Rattle.journeys.specs.Labels.{answer_in, labels_in}
use Rattle.journeys.specs.Plan.{plan_moves, plan_rows}
use Rattle.journeys.specs.Planning.{plan_reply, plan_sheet}

-- map T: Hub 1, Lay 2 (car park), End 3; roads 1 from 1 to 2, 2 from 2 to 3, 3 from 1 to 3
abbrev pub map_t : List ℕ
map_t =
    spelled (1 ∷ 3 ∷ 3 ∷ 9 ∷ [])
    ++ (spelled (1 ∷ 0 ∷ 0 ∷ 3 ∷ 2 ∷ 1 ∷ 3 ∷ 3 ∷ 0 ∷ 0 ∷ 6 ∷ 3 ∷ [])
    ++ (spelled (1 ∷ 2 ∷ 240000 ∷ 80 ∷ 3 ∷ 2 ∷ 3 ∷ 160000 ∷ 80 ∷ 0 ∷ 1 ∷ 3 ∷ 400000 ∷ 80 ∷ 0 ∷ [])
    ++ (0x48 ∷ 0x75 ∷ 0x62 ∷ 0x4C ∷ 0x61 ∷ 0x79 ∷ 0x45 ∷ 0x6E ∷ 0x64 ∷ [])))

-- the European order 1 to 3, with this departure and latest arrival; T keeps both parts zero
abbrev pub day_order_t : ℕ → ℕ → List ℕ
day_order_t departure latest =
    spelled (1 ∷ 3 ∷ departure ∷ latest ∷ 0 ∷ 0 ∷ 16200 ∷ 2700 ∷ 32400 ∷ 39600 ∷ 0 ∷ 0 ∷ 201600 ∷ 162000 ∷ 0 ∷ [])

-- departure 0
abbrev pub order_t : ℕ → List ℕ
order_t latest = day_order_t 0 latest

-- a run on T by this order, no road banned
abbrev pub given_t : List ℕ → Given
given_t order = given_of map_t order []

abbrev pub trip_t : Trip
trip_t = trip_from (given_t (order_t 100000))

-- the same with Europe's parts
abbrev pub split_order_t : ℕ → List ℕ
split_order_t latest = spelled (1 ∷ 3 ∷ 0 ∷ latest ∷ 0 ∷ 0 ∷ 16200 ∷ 2700 ∷ 32400 ∷ 39600 ∷ 900 ∷ 1800 ∷ 201600 ∷ 162000 ∷ 0 ∷ [])

-- the same with no split, by a driver who has driven so much of the week
abbrev pub week_order_t : ℕ → ℕ → List ℕ
week_order_t week latest = spelled (1 ∷ 3 ∷ 0 ∷ latest ∷ 0 ∷ 0 ∷ 16200 ∷ 2700 ∷ 32400 ∷ 39600 ∷ 0 ∷ 0 ∷ 201600 ∷ 162000 ∷ week ∷ [])

-- state (clock; spell; shift; week) at this junction, with the mark or without
abbrev pub state_at : ℕ → ℕ → ℕ → ℕ → ℕ → Bool → State
state_at junction clock spell shift week marked =
    record {
      junction = junction;
      clock = record { 0 = clock };
      figures = record { spell = record { 0 = spell }; shift = record { 0 = shift }; week = record { 0 = week }; marked = marked };
    }

-- at Lay in the first shift of a week, without the mark
abbrev pub at_lay : ℕ → ℕ → ℕ → State
at_lay clock spell shift = state_at 2 clock spell shift shift false

-- and with it
abbrev pub marked_at_lay : ℕ → ℕ → ℕ → State
marked_at_lay clock spell shift = state_at 2 clock spell shift shift true

-- one case, with what it must come to
pub data Case : Type 0 where
  -- a road of so many metres at this speed takes so many seconds
  takes : (metres speed seconds : ℕ) → Case
  -- T's answer has these figures
  answers : List ℕ → Case
  -- T's rows by this order: kind, number, clock after
  lists : (order : List ℕ) → List Row → Case
  -- T by this order, with these labels that fit and this sheet length, gets this reply
  replies : (order : List ℕ) (fit sheet : ℕ) → Reply → Case
  -- T by this order has these labels
  labelled : (order : List ℕ) → List State → Case
  -- T by this order, with these labels that fit, gets a sheet of these words
  writes : (order : List ℕ) (fit : ℕ) → List ℕ → Case
  -- T with these roads banned, by this order, with these labels that fit and a sheet of 60 bytes, gets this reply and these rows
  queues : (bans order : List ℕ) (fit : ℕ) → Reply → List Row → Case
  -- T with this list, by this order, is refused so where 4 labels fit
  replies_with : (bans order : List ℕ) → Reply → Case
  -- at Lay with this spell, road 2 of 7,200 seconds is legal or not
  drives : (spell : ℕ) → Bool → Case
  -- the first state dominates the second or not
  dominating : State → State → Bool → Case

abbrev pub row : ℕ → ℕ → ℕ → Row
row kind number clock = record { kind = kind; number = number; clock = record { 0 = clock } }

-- T's sheet with this N: header and records
abbrev pub sheet_t : ℕ → List ℕ
sheet_t labels = 3 ∷ 20700 ∷ 7200 ∷ 18000 ∷ 18000 ∷ labels ∷ 1 ∷ 1 ∷ 10800 ∷ 2 ∷ 2 ∷ 13500 ∷ 1 ∷ 2 ∷ 20700 ∷ []

-- a sheet as long, before anything is written
abbrev pub blank_sheet : List ℕ
blank_sheet = spelled (0 ∷ 0 ∷ 0 ∷ 0 ∷ 0 ∷ 0 ∷ 0 ∷ 0 ∷ 0 ∷ 0 ∷ 0 ∷ 0 ∷ 0 ∷ 0 ∷ 0 ∷ [])

abbrev pub same_bool : Bool → Bool → Bool
same_bool true b = b
same_bool false b = not b

abbrev pub same_rows : List Row → List Row → Bool
same_rows [] [] = true
same_rows [] (b ∷ rest) = false
same_rows (a ∷ more) [] = false
same_rows (a ∷ more) (b ∷ rest) =
    (eqb a.kind b.kind && (eqb a.number b.number && eqb a.clock.0 b.clock.0)) && same_rows more rest

abbrev pub same_states : List State → List State → Bool
same_states [] [] = true
same_states [] (b ∷ rest) = false
same_states (a ∷ more) [] = false
same_states (a ∷ more) (b ∷ rest) = same_state a b && same_states more rest

abbrev pub has_figures : List ℕ → Option State → Bool
has_figures figures none = false
has_figures figures (some a) = same_each (figures_of a) figures

unfoldable pub right : Case → Bool
unfolding plan_reply plan_sheet sheet_after heading_bytes rows_bytes row_bytes word_bytes word_at format junction_count road_count name_bytes junction_word road_word oversize outside lowest bad_junction_at bad_road_at broken_chain_at among chain_from bad_letter_at first_broken bad_rules bad_trip bad_ban_at memb gate_of trip_of nearest road_seconds plan_rows plan_moves labels_in answer_in after legal same_state covers ranks_no_higher none_above same_each lexicographic
right (takes metres speed seconds) = eqb (road_seconds metres speed) seconds
right (answers figures) = has_figures figures (answer_in trip_t)
right (lists order rows) = same_rows (plan_rows (trip_from (given_t order))) rows
right (replies order fit sheet reply) = same_reply (plan_reply (given_t order) fit sheet) reply
right (labelled order states) = same_states (labels_in (trip_from (given_t order))) states
right (writes order fit words) = same_each (plan_sheet (given_t order) fit blank_sheet) (spelled words)
right (queues bans order fit reply rows) =
    same_reply (plan_reply (given_of map_t order bans) fit 60) reply && same_rows (plan_rows (trip_from (given_of map_t order bans))) rows
right (replies_with bans order reply) = same_reply (plan_reply (given_of map_t order bans) 4 60) reply
right (drives spell is) = same_bool (legal trip_t.order (after trip_t (at_lay 0 spell spell) (move 1 2))) is
right (dominating b a is) = same_bool (dominates_state b a) is

-- in the order of document 01, its road times followed by some that lie halfway between two seconds; then T's sheet, and T with Europe's
-- parts: its N is 6, and of the sheet nothing else changes; then T by a driver whose week ends at Lay; then T with a road banned: departing on
-- Sunday 2 January 2000 at 00:00 the lorry rests in place of the queue, with one second less there is no road; who enters a second before
-- midnight does not queue; departing on Good Friday 2000 at 00:00 it queues at source until 22:00, and who comes to Lay at 00:00 queues there;
-- and lists that are bad
abbrev pub starred_cases : List Case
starred_cases =
    takes 240000 80 10800
    ∷ takes 160000 80 7200
    ∷ takes 400000 80 18000
    ∷ takes 1 130 1
    ∷ takes 1250 90 50
    ∷ takes 1251 90 50
    ∷ takes 25 36 2
    ∷ takes 35 36 4
    ∷ takes 45 36 4
    ∷ takes 15 36 2
    ∷ takes 5 36 1
    ∷ answers (20700 ∷ 7200 ∷ 18000 ∷ 18000 ∷ 1 ∷ [])
    ∷ replies (order_t 100000) 4 60 (succeeded 4 20700)
    ∷ replies (order_t 100000) 3 60 (refused_at 12 3)
    ∷ replies (order_t 20700) 4 60 (succeeded 4 20700)
    ∷ replies (order_t 20699) 4 60 (refused_at 13 3)
    ∷ drives 9000 true
    ∷ drives 9001 false
    ∷ dominating (at_lay 10000 10000 10000) (at_lay 13000 300 10300) false
    ∷ dominating (at_lay 13000 300 10300) (at_lay 10000 10000 10000) false
    ∷ dominating (at_lay 10000 10000 10000) (at_lay 10000 10000 10000) false
    ∷ lists (order_t 100000) (row 1 1 10800 ∷ row 2 2 13500 ∷ row 1 2 20700 ∷ [])
    ∷ replies (order_t 100000) 4 59 (refused_at 14 60)
    ∷ writes (order_t 100000) 4 (sheet_t 4)
    ∷ writes (split_order_t 30000) 6 (sheet_t 6)
    ∷ replies (split_order_t 30000) 5 60 (refused_at 12 5)
    ∷ labelled (split_order_t 30000)
    (state_at 1 0 0 0 0 false
    ∷ at_lay 10800 10800 10800
    ∷ marked_at_lay 11700 10800 10800
    ∷ at_lay 13500 0 10800
    ∷ marked_at_lay 14400 0 10800
    ∷ state_at 3 20700 7200 18000 18000 false
    ∷ [])
    ∷ dominating (marked_at_lay 10000 10000 10000) (at_lay 10000 10000 10000) true
    ∷ dominating (at_lay 10000 10000 10000) (marked_at_lay 10000 10000 10000) false
    ∷ dominating (at_lay 10000 10000 10000) (marked_at_lay 13000 10000 10000) false
    ∷ dominating (state_at 2 10000 100 200 300 false) (state_at 2 10000 100 200 301 false) true
    ∷ dominating (state_at 2 10000 100 200 301 false) (state_at 2 10000 100 200 300 false) false
    ∷ dominating (state_at 2 10000 100 200 301 false) (state_at 2 13000 300 300 300 false) false
    ∷ dominating (state_at 2 10000 100 200 301 true) (state_at 2 10000 100 200 300 false) false
    ∷ writes (week_order_t 190800 180000) 6 (3 ∷ 180000 ∷ 7200 ∷ 7200 ∷ 7200 ∷ 6 ∷ 1 ∷ 1 ∷ 10800 ∷ 6 ∷ 2 ∷ 172800 ∷ 1 ∷ 2 ∷ 180000 ∷ [])
    ∷ replies (week_order_t 190800 179999) 5 60 (refused_at 13 5)
    ∷ queues (2 ∷ []) (day_order_t 86400 172800) 5 (succeeded 5 172800) (row 1 1 97200 ∷ row 3 2 136800 ∷ row 1 2 172800 ∷ [])
    ∷ queues (2 ∷ []) (day_order_t 86400 172799) 4 (refused_at 13 4) []
    ∷ queues (1 ∷ []) (day_order_t 86399 107099) 4 (succeeded 4 107099) (row 1 1 97199 ∷ row 2 2 99899 ∷ row 1 2 107099 ∷ [])
    ∷ queues (1 ∷ []) (day_order_t 9590400 9690300) 4 (succeeded 4 9690300) (row 1 1 9680400 ∷ row 2 2 9683100 ∷ row 1 2 9690300 ∷ [])
    ∷ queues (2 ∷ []) (day_order_t 9579600 9676800) 5 (succeeded 5 9676800) (row 1 1 9590400 ∷ row 3 2 9630000 ∷ row 1 2 9676800 ∷ [])
    ∷ replies_with (1 ∷ 1 ∷ []) (order_t 20700) (refused_at 25 2)
    ∷ replies_with (2 ∷ 4 ∷ []) (order_t 20700) (refused_at 25 2)
    ∷ replies_with (0 ∷ []) [] (refused_at 9 0)
    ∷ []

pub starred : T (every right starred_cases)
unfolding every right
starred = tt
