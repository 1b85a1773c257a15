-- What each answer tells: its number, its place and its arrival. Assumes nothing.
use Rattle.std.specs.Prelude.{ℕ, Result, Ok, Err}
use Rattle.replies.specs.declared.Reply.{Reply}
use Rattle.replies.specs.declared.Refusal.{Refusal}
use Rattle.replies.specs.declared.Refusal.TheVariants.{ShortMap, StrangeMap, Oversize, Misfit, BadJunction, BadRoad, BrokenChain, BadLettering, BadOrder, BadRules, BadTrip, Full, NoRoad, ShortSheet, TornSheet, ForeignMove, Overrun, FalseFigure, Stray, UnknownName, TornTrace, OddRecord, PastLimit, UnknownRoad, BadBans}
use Rattle.replies.specs.declared.Timed.{Timed}
use Rattle.replies.specs.declared.Plan.{Plan}

-- a success: number 0
abbrev pub succeeded : ℕ → ℕ → Reply
succeeded place arrival = record { number = 0; place = place; arrival = arrival }

-- a refusal: its arrival is 0
abbrev pub refused_at : ℕ → ℕ → Reply
refused_at number place = record { number = number; place = place; arrival = 0 }

abbrev pub told_refusal : Refusal → Reply
told_refusal (ShortMap bytes) = refused_at 1 bytes
told_refusal StrangeMap = refused_at 2 0
told_refusal (Oversize offset) = refused_at 3 offset
told_refusal (Misfit needed) = refused_at 4 needed
told_refusal (BadJunction junction) = refused_at 5 junction
told_refusal (BadRoad road) = refused_at 6 road
told_refusal (BrokenChain road) = refused_at 7 road
told_refusal (BadLettering offset) = refused_at 8 offset
told_refusal (BadOrder bytes) = refused_at 9 bytes
told_refusal (BadRules word) = refused_at 10 word
told_refusal (BadTrip word) = refused_at 11 word
told_refusal (Full fit) = refused_at 12 fit
told_refusal (NoRoad labels) = refused_at 13 labels
told_refusal (ShortSheet needed) = refused_at 14 needed
told_refusal (TornSheet bytes) = refused_at 15 bytes
told_refusal (ForeignMove move) = refused_at 16 move
told_refusal (Overrun move) = refused_at 17 move
told_refusal (FalseFigure move) = refused_at 18 move
told_refusal (Stray junction) = refused_at 19 junction
told_refusal (UnknownName junction) = refused_at 20 junction
told_refusal (TornTrace bytes) = refused_at 21 bytes
told_refusal (OddRecord index) = refused_at 22 index
told_refusal (PastLimit index) = refused_at 23 index
told_refusal (UnknownRoad road) = refused_at 24 road
told_refusal (BadBans position) = refused_at 25 position

-- an answer: what its success tells, or the refusal
abbrev pub told : {A : Type 0} → (A → Reply) → Result A Refusal → Reply
told success (Ok done) = success done
told success (Err why) = told_refusal why

-- map checked, order accepted, map chained or road struck: 0, 0, 0
abbrev pub told_done : Unit {0} → Reply
told_done done = succeeded 0 0

-- named: 0, name length, 0; replayed: 0, records, 0
abbrev pub told_count : ℕ → Reply
told_count count = succeeded count 0

-- retimed or audited: 0, M, arrival
abbrev pub told_timed : Timed → Reply
told_timed timed = succeeded timed.moves timed.arrival.0

-- planned: 0, N, arrival
abbrev pub told_planned : Plan → Reply
told_planned planned = succeeded planned.labels planned.arrival.0

abbrev pub told_check : Result (Unit {0}) Refusal → Reply
told_check = told told_done

abbrev pub told_name : Result ℕ Refusal → Reply
told_name = told told_count

abbrev pub told_timing : Result Timed Refusal → Reply
told_timing = told told_timed

abbrev pub told_plan : Result Plan Refusal → Reply
told_plan = told told_planned

abbrev pub told_replaying : Result ℕ Refusal → Reply
told_replaying = told told_count
