-- Two traces, one after the other. Assumes nothing.
use Rattle.std.specs.Prelude.{Bool, false, not, ◌||◌, List, [], ◌∷◌, ℕ, ◌+◌, eqb, length}
use Rattle.booleans.specs.Pick.{pick}
use Rattle.replies.specs.declared.Reply.{Reply}
use Rattle.replay.specs.declared.TraceRecord.{TraceRecord}
use Rattle.replay.specs.Trace.{is_pause, record_count}

abbrev pub begins_with_pause : List TraceRecord → Bool
begins_with_pause [] = false
begins_with_pause (r ∷ rs) = is_pause r

unfoldable pub ends_in_pause : List TraceRecord → Bool
ends_in_pause [] = false
ends_in_pause (r ∷ []) = is_pause r
ends_in_pause (r ∷ s ∷ rs) = ends_in_pause (s ∷ rs)

-- no pause goes on from the first to the second: the first does not end in one, or the second does not begin with one
abbrev pub none_goes_on : List TraceRecord → List TraceRecord → Bool
none_goes_on one two = not (ends_in_pause one) || not (begins_with_pause two)

-- the second's reply, told of both in one: 21 has the length of both as its place, and a success, 22 and 23 count the first's records too.
-- Behind an accepted trace neither 10 nor 11 is told.
abbrev pub behind : List ℕ → Reply → Reply
behind one reply =
    record {
      number = reply.number;
      place = pick (eqb reply.number 21) (length one) (record_count one) + reply.place;
      arrival = reply.arrival;
    }
