-- Small worked trips beside document 01's, computed from the definitions: ties between moves, parents and ranks, a pause at source,
-- source equal to target, the split, and a trip of more than a week's driving. Assumes nothing.
use mathlib.Core.Bool.{Bool, true, false, ◌&&◌}
use mathlib.Core.List.{List, [], ◌∷◌}
use Prim.Native.Nat.{ℕ}
use lib.Dec.{T}
use Rattle.replies.specs.declared.Reply.{Reply}
use Rattle.replies.specs.Told.{succeeded, refused_at}
use Rattle.replies.specs.Alike.{same_reply}
use Rattle.driving.specs.declared.Rules.{Rules}
use Rattle.driving.specs.Order.{rules_of}
use Rattle.moves.specs.Trip.{Stretch, Trip}
use Rattle.theory.specs.Lists.{every}
use Rattle.theory.specs.Figures.{none_above, same_each, lexicographic}
use Rattle.sheets.specs.declared.Row.{Row}
use Rattle.journeys.specs.Labels.{answer_in, labels_in}
use Rattle.journeys.specs.Plan.{plan_moves, plan_rows}
use Rattle.journeys.specs.Planning.{search_reply}
use Rattle.journeys.specs.Starred.{row, same_rows}

-- a trip with this reply (100 labels fit, the sheet has 100 bytes) and these rows
record Worked : Type 0 where
  trip : Trip
  reply : Reply
  rows : List Row

abbrev road : ℕ → ℕ → ℕ → Stretch
road from to seconds = record { from = from; to = to; seconds = seconds; banned = false }

-- from source to target, departure 0, by these rules and latest arrival, with this spell, shift and week
abbrev trip_under : Rules → ℕ → List Stretch → List Bool → ℕ → ℕ → ℕ → Trip
trip_under rules latest roads parks source target spell =
    record {
      roads = roads;
      parks = parks;
      order =
          record {
            source = source;
            target = target;
            departure = record { 0 = 0 };
            latest = record { 0 = latest };
            figures = record { spell = record { 0 = spell }; shift = record { 0 = spell }; week = record { 0 = spell }; marked = false };
            rules = rules;
          };
    }

-- by the European rules with no split, latest 3,000
abbrev trip_by : List Stretch → List Bool → ℕ → ℕ → ℕ → Trip
trip_by = trip_under (rules_of 16200 2700 32400 39600 0 0 201600 162000) 3000

-- a week of two roads of these three, each as long as a shift; no split
abbrev week_rules : Rules
week_rules = rules_of 20 5 20 10 0 0 40 20

abbrev week_roads : List Stretch
week_roads = road 1 2 20 ∷ road 2 3 20 ∷ road 3 4 20 ∷ []

abbrev week_parks : List Bool
week_parks = false ∷ true ∷ true ∷ false ∷ []

works : Worked → Bool
unfolding search_reply answer_in labels_in plan_moves plan_rows none_above same_each lexicographic
works w = same_reply (search_reply w.trip 100 100) w.reply && same_rows (plan_rows w.trip) w.rows

abbrev cases : List Worked
cases =
    -- of two equal roads the lower number
    record {
      trip = trip_by (road 2 1 9 ∷ road 1 2 50 ∷ road 1 2 50 ∷ []) (false ∷ false ∷ []) 1 2 0;
      reply = succeeded 2 50;
      rows = row 1 2 50 ∷ [];
    }
    -- the start is the parent, not the junction on the way that leads there too
    ∷ record {
      trip = trip_by (road 1 2 30 ∷ road 2 3 20 ∷ road 1 3 50 ∷ []) (false ∷ false ∷ false ∷ []) 1 3 0;
      reply = succeeded 3 50;
      rows = row 1 3 50 ∷ [];
    }
    -- of equal figures the lower junction ranks lower: counted before target 3, not before target 2
    ∷ record {
      trip = trip_by (road 1 2 50 ∷ road 1 3 50 ∷ []) (false ∷ false ∷ false ∷ []) 1 3 0;
      reply = succeeded 3 50;
      rows = row 1 2 50 ∷ [];
    }
    ∷ record {
      trip = trip_by (road 1 2 50 ∷ road 1 3 50 ∷ []) (false ∷ false ∷ false ∷ []) 1 2 0;
      reply = succeeded 2 50;
      rows = row 1 1 50 ∷ [];
    }
    -- a tired driver pauses at source
    ∷ record {
      trip = trip_by (road 1 2 100 ∷ []) (true ∷ false ∷ []) 1 2 16200;
      reply = succeeded 3 2800;
      rows = row 2 1 2700 ∷ row 1 1 2800 ∷ [];
    }
    -- source equal to target
    ∷ record {
      trip = trip_by (road 1 2 100 ∷ road 2 1 100 ∷ []) (true ∷ true ∷ []) 1 1 0;
      reply = succeeded 1 0;
      rows = [];
    }
    -- two parts that are together shorter than the break; the second needs the first, and the first leaves spell
    ∷ record {
      trip = trip_under (rules_of 100 45 1000 500 10 20 1000 500) 160 (road 1 2 40 ∷ road 2 3 40 ∷ road 3 4 40 ∷ []) (false ∷ false ∷ true ∷ false ∷ []) 1 4 0;
      reply = succeeded 7 150;
      rows = row 1 1 40 ∷ row 1 2 80 ∷ row 4 3 90 ∷ row 5 3 110 ∷ row 1 3 150 ∷ [];
    }
    -- the mark is kept over a drive: the first part at junction 2, the second at junction 3
    ∷ record {
      trip = trip_under (rules_of 100 45 1000 500 10 20 1000 500) 160 (road 1 2 40 ∷ road 2 3 40 ∷ road 3 4 40 ∷ []) (false ∷ true ∷ true ∷ false ∷ []) 1 4 0;
      reply = succeeded 10 150;
      rows = row 1 1 40 ∷ row 4 2 50 ∷ row 1 2 90 ∷ row 5 3 110 ∷ row 1 3 150 ∷ [];
    }
    -- of equal clock, spell, shift and week the marked one ranks lower, at junction 5 with the mark than at target 3 without: it is counted
    ∷ record {
      trip = trip_under (rules_of 25 25 25 30 10 10 1000 100) 70 (road 1 2 20 ∷ road 1 4 10 ∷ road 2 3 20 ∷ road 4 5 20 ∷ []) (false ∷ true ∷ false ∷ true ∷ false ∷ []) 1 3 0;
      reply = succeeded 16 70;
      rows = row 1 1 20 ∷ row 3 2 50 ∷ row 1 3 70 ∷ [];
    }
    -- more than a week's driving: after the second road the week is at its limit, so that a rest at junction 3 does not help; the weekly
    -- rest at junction 2 arrives as early, with more of the week driven
    ∷ record {
      trip = trip_under week_rules 90 week_roads week_parks 1 4 0;
      reply = succeeded 12 90;
      rows = row 1 1 20 ∷ row 3 2 30 ∷ row 1 2 50 ∷ row 6 3 70 ∷ row 1 3 90 ∷ [];
    }
    -- one second less, and there is no road
    ∷ record {
      trip = trip_under week_rules 89 week_roads week_parks 1 4 0;
      reply = refused_at 13 11;
      rows = [];
    }
    ∷ []

worked : T (every works cases)
unfolding every works
worked = tt
