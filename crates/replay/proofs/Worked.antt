-- Worked cases of replaying, proved together: antt computes one test. Document 02, P3, P5 and P7. Assumes nothing.
use mathlib.Core.Bool.{Bool, true, false, ◌&&◌}
use mathlib.Core.List.{List, [], ◌∷◌}
use Prim.Native.Nat.{ℕ}
use lib.Dec.{T}
use Rattle.words.specs.Word.{word_at}
use Rattle.words.specs.Spelled.{spelled}
use Rattle.theory.specs.Lists.{every}
use Rattle.theory.specs.Figures.{none_above, same_each}
use Rattle.replies.specs.declared.Reply.{Reply}
use Rattle.replies.specs.First.{first_of, lowest}
use Rattle.replies.specs.Told.{succeeded, refused_at}
use Rattle.replies.specs.Alike.{same_reply}
use Rattle.driving.specs.declared.Figures.{Figures}
use Rattle.driving.specs.declared.Rules.{Rules}
use Rattle.driving.specs.Hours.{driver_figures}
use Rattle.driving.specs.Order.{rules_of, first_broken, bad_rules, bad_figures}
use Rattle.replay.specs.Trace.{records_from, paused_before, joined}
use Rattle.replay.specs.Replay.{after_each, is_odd, is_past, is_stopped, replay_reply, figures_after}

-- spell, shift and week, without the mark and with it
abbrev figures : ℕ → ℕ → ℕ → Figures
figures spell shift week = record { spell = record { 0 = spell }; shift = record { 0 = shift }; week = record { 0 = week }; marked = false }

abbrev marked : ℕ → ℕ → ℕ → Figures
marked spell shift week = record { spell = record { 0 = spell }; shift = record { 0 = shift }; week = record { 0 = week }; marked = true }

-- spell limit 100, break 10, shift limit 200, this rest, no split, week limit 300, weekly rest 60
abbrev ruled : ℕ → Rules
ruled rest = rules_of 100 10 200 rest 0 0 300 60

-- the same with rest 30, and this week limit and weekly rest
abbrev week_ruled : ℕ → ℕ → Rules
week_ruled limit weekly = rules_of 100 10 200 30 0 0 limit weekly

-- the European figures, but with these parts
abbrev split : ℕ → ℕ → Rules
split first second = rules_of 16200 2700 32400 39600 first second 201600 162000

-- by these rules and from these figures, the trace of these bytes gets this reply and leaves these figures
record Case : Type 0 where
  trace : List ℕ
  rules : Rules
  before : Figures
  reply : Reply
  after : Figures

abbrev under : Rules → List ℕ → Figures → Reply → Figures → Case
under rules words before reply after = record { trace = spelled words; rules = rules; before = before; reply = reply; after = after }

abbrev replays : List ℕ → Figures → Reply → Figures → Case
replays = under (ruled 30)

abbrev splits : List ℕ → Figures → Reply → Figures → Case
splits = under (split 900 1800)

unfoldable right : Case → Bool
unfolding word_at none_above same_each first_of lowest first_broken bad_rules bad_figures records_from paused_before joined after_each is_odd is_past is_stopped figures_after
right c =
    same_reply (replay_reply c.trace c.rules c.before) c.reply
    && same_each (driver_figures (figures_after c.trace c.rules c.before)) (driver_figures c.after)

abbrev cases : List Case
cases =
    -- an empty trace
    replays [] (figures 5 7 9) (succeeded 0 0) (figures 5 7 9)
    -- driving adds to each, up to the limit itself; 23 above it, for spell and for shift
    ∷ replays (1 ∷ 95 ∷ []) (figures 5 7 9) (succeeded 1 0) (figures 100 102 104)
    ∷ replays (1 ∷ 96 ∷ []) (figures 5 7 9) (refused_at 23 1) (figures 5 7 9)
    ∷ replays (1 ∷ 1 ∷ []) (figures 5 200 202) (refused_at 23 1) (figures 5 200 202)
    -- a pause below the break, as long as it, below the rest, and as long as that
    ∷ replays (2 ∷ 9 ∷ []) (figures 5 7 9) (succeeded 1 0) (figures 5 7 9)
    ∷ replays (2 ∷ 10 ∷ []) (figures 5 7 9) (succeeded 1 0) (figures 0 7 9)
    ∷ replays (2 ∷ 29 ∷ []) (figures 5 7 9) (succeeded 1 0) (figures 0 7 9)
    ∷ replays (2 ∷ 30 ∷ []) (figures 5 7 9) (succeeded 1 0) (figures 0 0 9)
    -- neighbouring pauses are one; other work ends a pause and clears nothing, and so does driving
    ∷ replays (2 ∷ 5 ∷ 2 ∷ 5 ∷ []) (figures 5 7 9) (succeeded 2 0) (figures 0 7 9)
    ∷ replays (2 ∷ 10 ∷ 2 ∷ 10 ∷ 2 ∷ 10 ∷ 1 ∷ 3 ∷ []) (figures 5 7 9) (succeeded 4 0) (figures 3 3 12)
    ∷ replays (2 ∷ 5 ∷ 0 ∷ 1 ∷ 2 ∷ 5 ∷ []) (figures 5 7 9) (succeeded 3 0) (figures 5 7 9)
    ∷ replays (2 ∷ 5 ∷ 1 ∷ 1 ∷ 2 ∷ 5 ∷ []) (figures 5 7 9) (succeeded 3 0) (figures 6 8 10)
    ∷ replays (0 ∷ 1000000 ∷ []) (figures 5 7 9) (succeeded 1 0) (figures 5 7 9)
    -- 22: activity 3, no seconds, too many; 22 before 23 in one record, and records in turn
    ∷ replays (3 ∷ 1 ∷ []) (figures 5 7 9) (refused_at 22 1) (figures 5 7 9)
    ∷ replays (2 ∷ 10 ∷ 0 ∷ 0 ∷ []) (figures 5 7 9) (refused_at 22 2) (figures 5 7 9)
    ∷ replays (2 ∷ 1000001 ∷ []) (figures 5 7 9) (refused_at 22 1) (figures 5 7 9)
    ∷ replays (1 ∷ 1000001 ∷ []) (figures 5 7 9) (refused_at 22 1) (figures 5 7 9)
    ∷ replays (1 ∷ 96 ∷ 3 ∷ 1 ∷ []) (figures 5 7 9) (refused_at 23 1) (figures 5 7 9)
    -- 21 before them, 11 before it, 10 before that
    ∷ record { trace = 3 ∷ []; rules = ruled 30; before = figures 5 7 9; reply = refused_at 21 1; after = figures 5 7 9 }
    ∷ record { trace = 3 ∷ []; rules = ruled 30; before = figures 8 7 9; reply = refused_at 11 5; after = figures 8 7 9 }
    ∷ record { trace = 3 ∷ []; rules = ruled 9; before = figures 8 7 9; reply = refused_at 10 9; after = figures 8 7 9 }
    -- no split: a lent mark stays over a pause below the break; a break clears it, and so does a rest
    ∷ replays (2 ∷ 9 ∷ []) (marked 5 7 9) (succeeded 1 0) (marked 5 7 9)
    ∷ replays (2 ∷ 10 ∷ []) (marked 5 7 9) (succeeded 1 0) (figures 0 7 9)
    ∷ replays (2 ∷ 30 ∷ []) (marked 5 7 9) (succeeded 1 0) (figures 0 0 9)
    -- a split, unmarked: below the first part, as long as it, as long as the second, below the break, and as long as that
    ∷ splits (2 ∷ 899 ∷ []) (figures 5000 7000 9000) (succeeded 1 0) (figures 5000 7000 9000)
    ∷ splits (2 ∷ 900 ∷ []) (figures 5000 7000 9000) (succeeded 1 0) (marked 5000 7000 9000)
    ∷ splits (2 ∷ 1800 ∷ []) (figures 5000 7000 9000) (succeeded 1 0) (marked 5000 7000 9000)
    ∷ splits (2 ∷ 2699 ∷ []) (figures 5000 7000 9000) (succeeded 1 0) (marked 5000 7000 9000)
    ∷ splits (2 ∷ 2700 ∷ []) (figures 5000 7000 9000) (succeeded 1 0) (figures 0 7000 9000)
    -- marked: below the first part, below the second, as long as it, as long as the break, and as long as the rest
    ∷ splits (2 ∷ 899 ∷ []) (marked 5000 7000 9000) (succeeded 1 0) (marked 5000 7000 9000)
    ∷ splits (2 ∷ 1799 ∷ []) (marked 5000 7000 9000) (succeeded 1 0) (marked 5000 7000 9000)
    ∷ splits (2 ∷ 1800 ∷ []) (marked 5000 7000 9000) (succeeded 1 0) (figures 0 7000 9000)
    ∷ splits (2 ∷ 2700 ∷ []) (marked 5000 7000 9000) (succeeded 1 0) (figures 0 7000 9000)
    ∷ splits (2 ∷ 39600 ∷ []) (marked 5000 7000 9000) (succeeded 1 0) (figures 0 0 9000)
    -- neighbouring pauses are judged whole, with the mark from before them
    ∷ splits (2 ∷ 900 ∷ 2 ∷ 900 ∷ []) (figures 5000 7000 9000) (succeeded 2 0) (marked 5000 7000 9000)
    ∷ splits (2 ∷ 900 ∷ 2 ∷ 1799 ∷ []) (figures 5000 7000 9000) (succeeded 2 0) (marked 5000 7000 9000)
    ∷ splits (2 ∷ 900 ∷ 2 ∷ 1800 ∷ []) (figures 5000 7000 9000) (succeeded 2 0) (figures 0 7000 9000)
    ∷ splits (2 ∷ 1000 ∷ 2 ∷ 800 ∷ []) (marked 5000 7000 9000) (succeeded 2 0) (figures 0 7000 9000)
    -- a first part, other work or driving, and a second part; then the mark is gone, and the next part is a first one
    ∷ splits (2 ∷ 900 ∷ 0 ∷ 60 ∷ 2 ∷ 1800 ∷ []) (figures 5000 7000 9000) (succeeded 3 0) (figures 0 7000 9000)
    ∷ splits (2 ∷ 900 ∷ 1 ∷ 60 ∷ 2 ∷ 1800 ∷ []) (figures 5000 7000 9000) (succeeded 3 0) (figures 0 7060 9060)
    ∷ splits (2 ∷ 900 ∷ 0 ∷ 60 ∷ 2 ∷ 900 ∷ []) (figures 5000 7000 9000) (succeeded 3 0) (marked 5000 7000 9000)
    ∷ splits (2 ∷ 1800 ∷ 1 ∷ 60 ∷ 2 ∷ 1800 ∷ []) (marked 5000 7000 9000) (succeeded 3 0) (marked 60 7060 9060)
    -- driving and other work keep the mark
    ∷ splits (1 ∷ 60 ∷ 0 ∷ 60 ∷ []) (marked 5000 7000 9000) (succeeded 2 0) (marked 5060 7060 9060)
    ∷ splits (1 ∷ 60 ∷ 0 ∷ 60 ∷ []) (figures 5000 7000 9000) (succeeded 2 0) (figures 5060 7060 9060)
    -- a refused trace leaves it
    ∷ splits (2 ∷ 1800 ∷ 3 ∷ 1 ∷ []) (marked 5000 7000 9000) (refused_at 22 2) (marked 5000 7000 9000)
    ∷ splits (2 ∷ 1800 ∷ 1 ∷ 16201 ∷ []) (marked 5000 7000 9000) (refused_at 23 2) (marked 5000 7000 9000)
    ∷ splits (2 ∷ 900 ∷ 1 ∷ 11201 ∷ []) (figures 5000 7000 9000) (refused_at 23 2) (figures 5000 7000 9000)
    -- a second part that is shorter than the first, marked and not
    ∷ under (split 1800 900) (2 ∷ 900 ∷ []) (marked 5000 7000 9000) (succeeded 1 0) (figures 0 7000 9000)
    ∷ under (split 1800 900) (2 ∷ 1799 ∷ []) (figures 5000 7000 9000) (succeeded 1 0) (figures 5000 7000 9000)
    -- 10: a lone zero, and a part above the break
    ∷ under (split 0 1800) [] (marked 5000 7000 9000) (refused_at 10 10) (marked 5000 7000 9000)
    ∷ under (split 900 0) [] (figures 5000 7000 9000) (refused_at 10 11) (figures 5000 7000 9000)
    ∷ under (split 2701 1800) [] (figures 5000 7000 9000) (refused_at 10 10) (figures 5000 7000 9000)
    -- the week too goes up to its limit; 23 above it, though spell and shift are within theirs
    ∷ replays (1 ∷ 1 ∷ []) (figures 5 7 299) (succeeded 1 0) (figures 6 8 300)
    ∷ replays (1 ∷ 1 ∷ []) (figures 5 7 300) (refused_at 23 1) (figures 5 7 300)
    -- a pause that is one second below the weekly rest clears spell, shift and mark; one as long as it clears the week too
    ∷ replays (2 ∷ 59 ∷ []) (marked 5 7 9) (succeeded 1 0) (figures 0 0 9)
    ∷ replays (2 ∷ 60 ∷ []) (marked 5 7 9) (succeeded 1 0) (figures 0 0 0)
    ∷ splits (2 ∷ 161999 ∷ []) (marked 5000 7000 9000) (succeeded 1 0) (figures 0 0 9000)
    ∷ splits (2 ∷ 162000 ∷ []) (marked 5000 7000 9000) (succeeded 1 0) (figures 0 0 0)
    -- neighbouring pauses make a weekly rest together; with other work or driving between them each is a rest
    ∷ replays (2 ∷ 29 ∷ 2 ∷ 30 ∷ []) (marked 5 7 9) (succeeded 2 0) (figures 0 0 9)
    ∷ replays (2 ∷ 30 ∷ 2 ∷ 30 ∷ []) (marked 5 7 9) (succeeded 2 0) (figures 0 0 0)
    ∷ replays (2 ∷ 30 ∷ 0 ∷ 1 ∷ 2 ∷ 30 ∷ []) (marked 5 7 9) (succeeded 3 0) (figures 0 0 9)
    ∷ replays (2 ∷ 30 ∷ 1 ∷ 3 ∷ 2 ∷ 30 ∷ []) (marked 5 7 9) (succeeded 3 0) (figures 0 0 12)
    -- a rest leaves the week, so that driving goes on up to its limit; after a weekly rest it starts from 0
    ∷ replays (2 ∷ 30 ∷ 1 ∷ 100 ∷ []) (figures 5 7 200) (succeeded 2 0) (figures 100 100 300)
    ∷ replays (2 ∷ 30 ∷ 1 ∷ 100 ∷ []) (figures 5 7 201) (refused_at 23 2) (figures 5 7 201)
    ∷ replays (2 ∷ 60 ∷ 1 ∷ 100 ∷ []) (figures 5 7 300) (succeeded 2 0) (figures 100 100 100)
    -- a weekly rest no longer than the rest, and one as long as any
    ∷ under (week_ruled 300 30) (2 ∷ 30 ∷ []) (figures 5 7 9) (succeeded 1 0) (figures 0 0 0)
    ∷ under (week_ruled 300 1000000) (2 ∷ 999999 ∷ []) (figures 5 7 9) (succeeded 1 0) (figures 0 0 9)
    ∷ under (week_ruled 300 1000000) (2 ∷ 999999 ∷ 2 ∷ 1 ∷ []) (figures 5 7 9) (succeeded 2 0) (figures 0 0 0)
    -- 11: the week below shift, and above its limit; words 4 and 5 before it
    ∷ replays [] (figures 5 7 6) (refused_at 11 14) (figures 5 7 6)
    ∷ replays [] (figures 5 7 301) (refused_at 11 14) (figures 5 7 301)
    ∷ replays [] (figures 101 102 6) (refused_at 11 4) (figures 101 102 6)
    ∷ replays [] (figures 8 7 6) (refused_at 11 5) (figures 8 7 6)
    -- 10: the week limit and the weekly rest, each too low and too high; 12 before 13, and both before 11
    ∷ under (week_ruled 199 60) [] (figures 5 7 9) (refused_at 10 12) (figures 5 7 9)
    ∷ under (week_ruled 1000001 60) [] (figures 5 7 9) (refused_at 10 12) (figures 5 7 9)
    ∷ under (week_ruled 300 29) [] (figures 5 7 9) (refused_at 10 13) (figures 5 7 9)
    ∷ under (week_ruled 300 1000001) [] (figures 5 7 9) (refused_at 10 13) (figures 5 7 9)
    ∷ under (week_ruled 199 29) [] (figures 5 7 9) (refused_at 10 12) (figures 5 7 9)
    ∷ under (week_ruled 300 29) [] (figures 5 7 301) (refused_at 10 13) (figures 5 7 301)
    ∷ []

worked : T (every right cases)
unfolding every right
worked = tt
