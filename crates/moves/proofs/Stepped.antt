-- A move of each kind: what it is offered for and what it comes to. Assumes nothing.
use mathlib.Core.Path.{◌≡◌, refl}
use mathlib.Core.Bool.{Bool, true, ◌&&◌}
use mathlib.Core.List.{List}
use Prim.Native.Nat.{ℕ, ◌≤◌}
use borrow.Author.Tests.{eq-eqb, ne_eqb, leb-true}
use lib.Dec.{leb, eqb}
use Rattle.booleans.proofs.Tests.{and_true}
use Rattle.roadmap.specs.Format.{road_count}
use Rattle.states.specs.declared.State.{State}
use Rattle.states.specs.States.{legal}
use Rattle.moves.specs.declared.Move.{Move}
use Rattle.moves.specs.declared.Run.{Run}
use Rattle.moves.specs.Trip.{Trip, none_banned, road_in, roads_in}
use Rattle.moves.specs.Moves.{move, leaves, may_pause, offers, entered_when, driven_from, driven, paused, after, judged, stepped}
use Rattle.moves.specs.Runs.{stretch_in, Tied}

module _ (trip : Trip) (s : State) (m : Move) where
  pub stepped_drive : m.kind ≡ 1 →
      stepped trip s m ≡ judged (leaves trip s.junction m.number) (legal trip.order (driven (road_in trip m.number) s)) (driven (road_in trip m.number) s)
  unfolding offers after
  stepped_drive e = rw (eq-eqb _ _ e)

  pub stepped_pause : (m.kind ≡ 1 → ⊥) →
      stepped trip s m ≡ judged (eqb m.number s.junction && may_pause trip s m.kind) (legal trip.order (paused m.kind trip.order.rules s)) (paused m.kind trip.order.rules s)
  unfolding offers after
  stepped_pause not-1 = rw (ne_eqb _ _ not-1)

-- a road that leaves a junction is one of the map's
pub leaves_range : {map : List ℕ} {banned : ℕ → Bool} {run : Run} {trip : Trip} → Tied map banned run trip → (j r : ℕ) → leaves trip j r ≡ true → (1 ≤ r) × (r ≤ road_count map)
leaves_range {trip = trip} tied j r e =
    let range = and_true (and_true {a = leb 1 r && leb r (roads_in trip)} e).0 in
    (leb-true _ _ range.0, rw tied.roads at (leb-true r (roads_in trip) range.1))

-- an offered drive is of a road of the map
pub offered_road : (trip : Trip) (s : State) (m : Move) → offers trip s m ≡ true → eqb m.kind 1 ≡ true → (1 ≤ m.number) × (m.number ≤ roads_in trip)
unfolding offers
offered_road trip s m offered drive =
    let leaving : leaves trip s.junction m.number ≡ true = rw drive at offered in
    let range = and_true {a = leb 1 m.number} (and_true {a = leb 1 m.number && leb m.number (roads_in trip)} leaving).0 in
    (leb-true _ _ range.0, leb-true _ _ range.1)

-- the drive of a road that is entered when the trip says, by the map
pub driven_in : {map : List ℕ} {banned : ℕ → Bool} {run : Run} {trip : Trip} → Tied map banned run trip → (s : State) (r : ℕ) → (1 ≤ r) × (r ≤ road_count map)
    → (entry : ℕ) → entry ≡ entered_when (banned r) s.clock.0 → driven_from entry (stretch_in map none_banned run r) s ≡ driven (road_in trip r) s
driven_in tied s r range entry is = rw (tied.road r range.0 range.1, is)

-- what a drive and a pause come to, by the run's order
module _ {map : List ℕ} {banned : ℕ → Bool} {run : Run} {trip : Trip} (tied : Tied map banned run trip) (s : State) where
  pub drive_by_map : (r : ℕ) →
      stepped trip s (move 1 r) ≡ judged (leaves trip s.junction r) (legal run.order (driven (road_in trip r) s)) (driven (road_in trip r) s)
  drive_by_map r = rw (stepped_drive trip s (move 1 r) refl, tied.order)

  pub pause_by_map : (m : Move) → (m.kind ≡ 1 → ⊥) →
      stepped trip s m
      ≡ judged (eqb m.number s.junction && may_pause trip s m.kind) (legal run.order (paused m.kind run.order.rules s)) (paused m.kind run.order.rules s)
  pause_by_map m not-1 = rw (stepped_pause trip s m not-1, tied.order)
