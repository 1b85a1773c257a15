-- The record of a run has the map's roads and car parks at their numbers. Assumes nothing.
use mathlib.Core.Path.{◌≡◌, ◌∙◌, refl, sym, ap, ap₂}
use mathlib.Core.Bool.{Bool, true, false, ◌&&◌}
use mathlib.Core.List.{List, ◌∷◌}
use mathlib.Core.Logic.{⊎_elim}
use Prim.Native.Nat.{ℕ, zero, suc, ◌+◌, ◌-◌, ◌≤◌, ◌<◌}
use native.Mathlib.Omega.{arith}
use native.Mathlib.Nat.{add-zero, eq-or-lt_of_le}
use borrow.Author.Tests.{le-leb, leb-true, eqb-true, eqb-false}
use lib.Dec.{leb, eqb}
use lib.ListN.{length, get_or, set}
use Rattle.booleans.proofs.Tests.{cases, and_true}
use Rattle.roadmap.specs.Format.{junction_count, road_count, car_park, road_from, road_to}
use Rattle.driving.specs.declared.Order.{Order}
use Rattle.driving.specs.Hours.{first_pause, last_pause, allows_pause}
use Rattle.states.specs.declared.State.{State}
use Rattle.moves.specs.declared.Run.{Run}
use Rattle.moves.specs.Trip.{Stretch, Trip, road_time, stretch_of, counted, trip_of, no_stretch, road_in, park_in, roads_in, junctions_in}
use Rattle.bans.specs.Bans.{AgreeOn}
use Rattle.moves.specs.Moves.{leaves, may_pause}
use Rattle.moves.specs.Struck.{struck_stretch, struck_in}
use Rattle.moves.specs.Runs.{struck_number, struck_of, trip_in, stretch_in, Unstruck, Tied, InRange}
use Rattle.moves.proofs.Struck.{struck_roads, struck_parks, struck_order, struck_other, struck_own}

pub counted_length : {A : Type 0} (f : ℕ → A) (k n : ℕ) → length (counted f k n) ≡ n
unfolding counted
counted_length f k zero = refl
counted_length f k (suc n) = ap suc (counted_length f (k + 1) n)

pub counted_at : {A : Type 0} (f : ℕ → A) (d : A) (k n i : ℕ) → i < n → get_or (counted f k n) i d ≡ f (k + i)
unfolding counted
counted_at f d k zero i h = absurd (omega arith)
counted_at f d k (suc n) zero h = ap f (sym (add-zero k))
counted_at f d k (suc n) (suc i) h =
    counted_at f d (k + 1) n i (omega arith) ∙ ap f (next k i)
  where
    next : (k i : ℕ) → k + 1 + i ≡ k + suc i
    next k i = omega arith

-- equal values, equal lists; and where one value differs, it is set in its place
pub counted_same : {A : Type 0} (f g : ℕ → A) (k n : ℕ) → ((i : ℕ) → k ≤ i → i < k + n → f i ≡ g i) → counted f k n ≡ counted g k n
unfolding counted
counted_same f g k zero same = refl
counted_same f g k (suc n) same =
    ap₂ ◌∷◌ (same k (omega arith) (omega arith)) (counted_same f g (k + 1) n (λ i low high. same i (omega arith) (omega arith)))

pub counted_set : {A : Type 0} (f g : ℕ → A) (k n j : ℕ) → k ≤ j → j < k + n → ((i : ℕ) → k ≤ i → i < k + n → (i ≡ j → ⊥) → f i ≡ g i)
    → counted f k n ≡ set (counted g k n) (j - k) (f j)
unfolding counted
counted_set f g k zero j low high same = absurd (omega arith)
counted_set f g k (suc n) j low high same =
    ⊎_elim
    (λ (here : k ≡ j).
    let first : j - k ≡ 0 = omega arith in
    rw (first, ← here) (ap (λ (l : List _). f k ∷ l) (counted_same f g (k + 1) n (λ i l h. same i (omega arith) (omega arith) (λ e. omega arith)))))
    (λ (later : k < j).
    let next : j - k ≡ suc (j - (k + 1)) = omega arith in
    rw next
    (ap₂ ◌∷◌ (same k (omega arith) (omega arith) (λ e. omega arith)) (counted_set f g (k + 1) n j (omega arith) (omega arith) (λ i l h. same i (omega arith) (omega arith)))))
    (eq-or-lt_of_le low)

module _ (map : List ℕ) (banned : ℕ → Bool) (order : Order) where
  pub roads_in_lem : roads_in (trip_of map banned order) ≡ road_count map
  unfolding trip_of
  roads_in_lem = counted_length _ 1 (road_count map)

  pub junctions_in_lem : junctions_in (trip_of map banned order) ≡ junction_count map
  unfolding trip_of
  junctions_in_lem = counted_length _ 1 (junction_count map)

  pub order_in : (trip_of map banned order).order ≡ order
  unfolding trip_of
  order_in = refl

  pub road_in_lem : (r : ℕ) → 1 ≤ r → r ≤ road_count map → road_in (trip_of map banned order) r ≡ stretch_of map banned r
  unfolding trip_of
  road_in_lem r low high =
      counted_at (stretch_of map banned) no_stretch 1 (road_count map) (r - 1) (omega arith) ∙ ap (stretch_of map banned) (back r low)
    where
      back : (r : ℕ) → 1 ≤ r → 1 + (r - 1) ≡ r
      back r low = omega arith

  pub park_in_lem : (j : ℕ) → 1 ≤ j → j ≤ junction_count map → park_in (trip_of map banned order) j ≡ eqb (car_park map j) 1
  unfolding trip_of
  park_in_lem j low high =
      counted_at (λ j. eqb (car_park map j) 1) false 1 (junction_count map) (j - 1) (omega arith)
      ∙ ap (λ (j : ℕ). eqb (car_park map j) 1) (back j low)
    where
      back : (r : ℕ) → 1 ≤ r → 1 + (r - 1) ≡ r
      back r low = omega arith

-- all of it of the trip that contracts name
module _ (map : List ℕ) (banned : ℕ → Bool) (run : Run) where
  abbrev lent : Trip
  lent = trip_of map banned run.order

  run_road : (r : ℕ) → 1 ≤ r → r ≤ road_count map → road_in (trip_in map banned run) r ≡ stretch_in map banned run r
  run_road r low high =
      ⊎_elim
      (λ (own : eqb r (struck_of run) ≡ true).
      ap (λ (k : ℕ). road_in (struck_in k lent) r) (sym (eqb-true r (struck_of run) own))
      ∙ struck_own lent r low (rw (roads_in_lem map banned run.order) high)
      ∙ ap struck_stretch (road_in_lem map banned run.order r low high)
      ∙ rw own refl)
      (λ (other : eqb r (struck_of run) ≡ false).
      struck_other lent (struck_of run) r low (eqb-false r (struck_of run) other) ∙ road_in_lem map banned run.order r low high ∙ rw other refl)
      (cases (eqb r (struck_of run)))

  pub run_tied : Tied map banned run (trip_in map banned run)
  run_tied =
      record {
        junctions = ap length (struck_parks lent (struck_of run)) ∙ junctions_in_lem map banned run.order;
        roads = struck_roads lent (struck_of run) ∙ roads_in_lem map banned run.order;
        road = run_road;
        park = λ j low high. ap (λ (l : List Bool). get_or l (j - 1) false) (struck_parks lent (struck_of run)) ∙ park_in_lem map banned run.order j low high;
        order = struck_order lent (struck_of run) ∙ order_in map banned run.order;
      }

-- without a struck road it is that of the map and the order
pub unstruck_trip : {map : List ℕ} (banned : ℕ → Bool) {run : Run} {order : Order} → Unstruck map run → run.order ≡ order
    → trip_in map banned run ≡ trip_of map banned order
unfolding struck_in
unstruck_trip {map} banned opened is = ap₂ (λ (k : ℕ) (o : Order). struck_in k (trip_of map banned o)) (ap struck_number opened.none_struck) is

-- the trip is the same, however it is told which of its roads are banned
pub same_bans : (map : List ℕ) (p q : ℕ → Bool) (run : Run) → AgreeOn (road_count map) p q → trip_in map p run ≡ trip_in map q run
unfolding trip_of
same_bans map p q run agree =
    ap (λ (roads : List Stretch). struck_in (struck_of run) (record { roads = roads; parks = (trip_of map p run.order).parks; order = run.order }))
    (counted_same _ _ 1 (road_count map) (λ r low high. ap (λ (b : Bool). record { from = road_from map r; to = road_to map r; seconds = road_time map r; banned = b }) (agree r low (omega arith))))

-- which roads leave a junction, and which pauses the rules offer there, by the map
module _ {map : List ℕ} {banned : ℕ → Bool} {run : Run} {trip : Trip} (tied : Tied map banned run trip) where
  pub leaves_road_lem : (j r : ℕ) → 1 ≤ r → r ≤ road_count map → leaves trip j r ≡ eqb (road_from map r) j
  leaves_road_lem j r low high = rw (le-leb _ _ low, tied.roads, le-leb _ _ high, tied.road r low high)

-- a number that is no road's leaves no junction
pub leaves_by_map : (map : List ℕ) (banned : ℕ → Bool) (run : Run) (j r : ℕ)
    → leaves (trip_in map banned run) j r ≡ ((leb 1 r && leb r (road_count map)) && eqb (road_from map r) j)
leaves_by_map map banned run j r =
    ⊎_elim
    (λ (within : (leb 1 r && leb r (road_count map)) ≡ true).
    let range = and_true {a = leb 1 r} within in
    rw within (leaves_road_lem (run_tied map banned run) j r (leb-true _ _ range.0) (leb-true _ _ range.1)))
    (λ (beyond : (leb 1 r && leb r (road_count map)) ≡ false). rw ((run_tied map banned run).roads, beyond))
    (cases (leb 1 r && leb r (road_count map)))

pub may_pause_by_map : (map : List ℕ) (banned : ℕ → Bool) (run : Run) (s : State) (kind : ℕ) → InRange (junction_count map) run.order s
    → may_pause (trip_in map banned run) s kind
    ≡ ((leb first_pause kind && leb kind last_pause) && (eqb (car_park map s.junction) 1 && allows_pause run.order.rules s.figures kind))
may_pause_by_map map banned run s kind range =
    let tied = run_tied map banned run in rw (tied.park s.junction range.low range.high, tied.order)
