-- The moves: which are offered, and what they lead to. Document 01, "Moves", and document 02, P5, P7 and P8. Assumes nothing.
use Rattle.std.specs.Prelude.{Result, Ok, Err, Bool, true, false, ◌&&◌, List, [], ◌∷◌, ◌++◌, ℕ, ◌+◌, ◌-◌, leb, eqb}
use Rattle.booleans.specs.Pick.{pick}
use Rattle.calendar.specs.Gate.{gate_of}
use Rattle.driving.specs.declared.Rules.{Rules}
use Rattle.driving.specs.Hours.{driven_on, first_pause, last_pause, pause_count, pause_seconds, allows_pause, cleared}
use Rattle.states.specs.declared.State.{State}
use Rattle.states.specs.States.{legal}
use Rattle.moves.specs.declared.Move.{Move}
use Rattle.moves.specs.declared.Fault.{Fault}
use Rattle.moves.specs.Trip.{Stretch, Trip, counted, road_in, park_in, roads_in}

-- kinds: 1 drive, 2 break, 3 rest, 4 first part, 5 second part, 6 weekly; the number is the road's, or the pausing junction's
abbrev pub move : ℕ → ℕ → Move
move kind number = record { kind = kind; number = number }

-- drive: a road of this junction
abbrev pub leaves : Trip → ℕ → ℕ → Bool
leaves trip j r = (leb 1 r && leb r (roads_in trip)) && eqb (road_in trip r).from j

-- whether the rules offer a pause of this kind in a state: one that they have for the driver's figures, at a car park
abbrev pub may_pause : Trip → State → ℕ → Bool
may_pause trip s kind =
    (leb first_pause kind && leb kind last_pause) && (park_in trip s.junction && allows_pause trip.order.rules s.figures kind)

-- a pause is taken here
abbrev pub offers_kind : Bool → Trip → State → Move → Bool
offers_kind true trip s m = leaves trip s.junction m.number
offers_kind false trip s m = eqb m.number s.junction && may_pause trip s m.kind

unfoldable pub offers : Trip → State → Move → Bool
offers trip s m = offers_kind (eqb m.kind 1) trip s m

-- when a lorry that comes at this moment enters a road: a banned one when its gate opens, any other at once
abbrev pub entered_when : Bool → ℕ → ℕ
entered_when banned clock = pick banned (gate_of clock) clock

abbrev pub entered : Stretch → ℕ → ℕ
entered road clock = entered_when road.banned clock

-- drive: from the moment of entry on its time is added to clock, and it is added to spell, shift and week
abbrev pub driven_from : ℕ → Stretch → State → State
driven_from entry road s =
    record {
      junction = road.to;
      clock = record { 0 = entry + road.seconds };
      figures = driven_on road.seconds s.figures;
    }

abbrev pub driven : Stretch → State → State
driven road s = driven_from (entered road s.clock.0) road s

-- a pause of this kind: its time is added to clock, and figures are cleared or the mark is set
abbrev pub paused : ℕ → Rules → State → State
paused kind rules s =
    record {
      junction = s.junction;
      clock = record { 0 = s.clock.0 + pause_seconds rules kind };
      figures = cleared kind s.figures;
    }

abbrev pub after_kind : Bool → Trip → State → Move → State
after_kind true trip s m = driven (road_in trip m.number) s
after_kind false trip s m = paused m.kind trip.order.rules s

unfoldable pub after : Trip → State → Move → State
after trip s m = after_kind (eqb m.kind 1) trip s m

-- what a move adds to the clock once it has begun: a road time, a break, a rest, a part of a break or a weekly rest
abbrev pub seconds_kind : Bool → Trip → Move → ℕ
seconds_kind true trip m = (road_in trip m.number).seconds
seconds_kind false trip m = pause_seconds trip.order.rules m.kind

unfoldable pub move_seconds : Trip → Move → ℕ
move_seconds trip m = seconds_kind (eqb m.kind 1) trip m

-- when a move begins: a drive when its road is entered, a pause at once
abbrev pub begins_kind : Bool → Trip → ℕ → Move → ℕ
begins_kind true trip clock m = entered (road_in trip m.number) clock
begins_kind false trip clock m = clock

unfoldable pub begins : Trip → ℕ → Move → ℕ
begins trip clock m = begins_kind (eqb m.kind 1) trip clock m

-- the queue before a move
abbrev pub queue_seconds : Trip → State → Move → ℕ
queue_seconds trip s m = begins trip s.clock.0 m - s.clock.0

-- the moves made from those of the numbers that pass the test
unfoldable pub chosen : (ℕ → Bool) → (ℕ → Move) → List ℕ → List Move
chosen test made [] = []
chosen test made (n ∷ ns) = elim (test n) [ true ↦ made n ∷ chosen test made ns | false ↦ chosen test made ns ]

-- the moves offered in a state, by kind and then by number: the roads of its junction, then the pauses
unfoldable pub offered : Trip → State → List Move
unfolding chosen counted
offered trip s =
    chosen (leaves trip s.junction) (move 1) (counted (λ r. r) 1 (roads_in trip))
    ++ chosen (may_pause trip s) (λ kind. move kind s.junction) (counted (λ k. k) first_pause pause_count)

-- one move: not offered, not legal, or the state after it
abbrev pub judged : Bool → Bool → State → Result State Fault
judged false legal s = Err Fault.Foreign
judged true false s = Err Fault.Overrun
judged true true s = Ok s

abbrev pub stepped : Trip → State → Move → Result State Fault
stepped trip s m = judged (offers trip s m) (legal trip.order (after trip s m)) (after trip s m)
