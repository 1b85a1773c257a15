-- The cursors in rising order: the roads along the junction's chain, which rises to its end, then at a car park the kinds of pause.
-- Assumes nothing.
use mathlib.Core.Path.{◌≡◌, ◌∙◌, refl, sym, subst}
use mathlib.Core.Bool.{true, false}
use mathlib.Core.List.{List}
use mathlib.Core.Logic.{⊎_elim}
use Prim.Native.Nat.{ℕ, zero, suc, ◌+◌, ◌-◌, ◌≤◌, ◌<◌}
use native.Mathlib.Omega.{arith}
use borrow.Author.Tests.{eqb-true, ltb-true, ltb-false}
use lib.Dec.{eqb, ltb}
use Rattle.booleans.proofs.Tests.{cases, not_both, and_true}
use Rattle.roadmap.specs.Format.{road_count, first_road, car_park, next_road, road_from}
use Rattle.mapcheck.specs.MapCheck.{AcceptedMap}
use Rattle.mapcheck.proofs.Listed.{LowestFrom, lowest_from_lem}
use Rattle.mapcheck.proofs.Sound.{accepted_made}
use Rattle.driving.specs.Hours.{last_pause, has_split}
use Rattle.driving.specs.declared.Pause.{Pause}
use Rattle.driving.specs.declared.Pause.TheVariants.{Break, Rest, FirstPart, SecondPart, WeeklyRest}
use Rattle.driving.specs.Pauses.{pause_number}
use Rattle.driving.proofs.Hours.{no_part}
use Rattle.states.specs.declared.State.{State}
use Rattle.moves.specs.declared.given.OpenRun.{OpenRun}
use Rattle.moves.specs.OpenRuns.{searched_trip}
use Rattle.moves.specs.Trip.{Trip, roads_in, park_in}
use Rattle.moves.specs.Runs.{RangeIn}
use Rattle.moves.proofs.Trips.{leaves_road_lem}
use Rattle.candidates.specs.Candidates.{Names}
use Rattle.candidates.specs.Trying.{Worth, Before, Follows}
use Rattle.candidates.proofs.Searched.{tied, roads, junctions}
use Rattle.candidates.proofs.Results.{offers_road, offers_pause}
use Rattle.candidates.proofs.Rivals.{worth_road}

-- how far a walk along the numbers up to the last has come where it stands at r; 0 is its end
abbrev pub up_to : ℕ → ℕ → ℕ
up_to last zero = last + 1
up_to last (suc k) = suc k

pub at_road : (last r : ℕ) → 1 ≤ r → up_to last r ≡ r
at_road last zero low = absurd (omega arith)
at_road last (suc k) low = refl

pub at_end : (last r : ℕ) → r ≤ 0 → up_to last r ≡ last + 1
at_end last zero low = refl
at_end last (suc k) low = absurd (omega arith)

-- a walk that rises comes nearer to its end
pub nearer : (last r next : ℕ) → 1 ≤ r → r ≤ last → Before next r → last + 1 - up_to last next < last + 1 - up_to last r
nearer last r zero low high rises = rw (at_road last r low) (omega arith)
nearer last r (suc k) low high rises = rw (at_road last r low) (omega (arith, rises (omega arith)))

next_lowest : (map : List ℕ) → AcceptedMap map → (r : ℕ) → 1 ≤ r → r ≤ road_count map → LowestFrom (road_from map) (road_from map r) (r + 1) (road_count map - r) (next_road map r)
next_lowest map accepted r low high =
    rw ((accepted_made map accepted).next_lowest r low high) (lowest_from_lem (road_from map) (road_from map r) (r + 1) (road_count map - r) (omega arith))

-- the chain rises to its end
pub walk_rises : (map : List ℕ) → AcceptedMap map → (r : ℕ) → 1 ≤ r → r ≤ road_count map →
    road_count map + 1 - up_to (road_count map) (next_road map r) < road_count map + 1 - up_to (road_count map) r
walk_rises map accepted r low high =
    nearer (road_count map) r (next_road map r) low high (λ some. omega (arith, (next_lowest map accepted r low high).low some))

-- only a cursor worth trying names a move
named_worth : {trip : Trip} {s : State} {c : ℕ} → Names trip s c → Worth trip s c
named_worth {trip} {s} {c} named =
    record {
      low = named.low;
      high = named.high;
      road = λ high. sym (offers_road trip s c high) ∙ named.offered;
      pause = λ low. (and_true {a = park_in trip s.junction} (sym (offers_pause trip s c low named.high) ∙ named.offered)).0;
    }

-- but for the weekly rest, each kind of pause has one above it
pub not_last : (pause : Pause) → (pause ≡ WeeklyRest → ⊥) → pause_number pause < last_pause
not_last Break other = omega arith
not_last Rest other = omega arith
not_last FirstPart other = omega arith
not_last SecondPart other = omega arith
not_last WeeklyRest other = absurd (other refl)

-- the kinds of pause, from the first, at a car park
module _ (trip : Trip) (s : State) where
  pub pause_first : park_in trip s.junction ≡ true → Follows trip s (roads_in trip) (roads_in trip + 1)
  pause_first park =
      record {
        rises = λ some. omega arith;
        worth = λ some. record { low = omega arith; high = omega arith; road = λ high. absurd (omega arith); pause = λ low. park };
        over = λ c low before named. omega (arith, before (omega arith));
      }

  pub pause_none : park_in trip s.junction ≡ false → Follows trip s (roads_in trip) 0
  pause_none closed =
      record {
        rises = λ some. absurd (omega arith);
        worth = λ some. absurd (omega arith);
        over = λ c low before named. not_both ((named_worth named).pause low) closed;
      }

module _ {trip : Trip} {s : State} {cursor : ℕ} (worth : Worth trip s cursor) (low : roads_in trip < cursor) where
  pub pause_next : cursor + 1 < roads_in trip + last_pause → Follows trip s cursor (cursor + 1)
  pause_next high =
      record {
        rises = λ some. omega arith;
        worth = λ some. record { low = omega arith; high = high; road = λ high. absurd (omega arith); pause = λ l. worth.pause low };
        over = λ c past before named. omega (arith, before (omega arith));
      }

  -- without a split what follows the rest is the weekly rest
  pub past_parts : cursor ≡ roads_in trip + 2 → has_split trip.order.rules ≡ false → Follows trip s cursor (cursor + 3)
  past_parts rest none =
      record {
        rises = λ some. omega arith;
        worth = λ some. record { low = omega arith; high = omega arith; road = λ high. absurd (omega arith); pause = λ l. worth.pause low };
        over = λ c past before named.
            let part = c - roads_in trip + 1 in
            let below = before (omega arith) in
            not_both (and_true {a = park_in trip s.junction} (sym (offers_pause trip s c (omega arith) named.high) ∙ named.offered)).1
            (no_part trip.order.rules s.figures part (omega arith) (omega arith) none);
      }

  pub pause_last : roads_in trip + last_pause ≤ cursor + 1 → Follows trip s cursor 0
  pause_last end =
      record {
        rises = λ some. absurd (omega arith);
        worth = λ some. absurd (omega arith);
        over = λ c past before named. omega (arith, named.high);
      }

module _ (run : OpenRun) where
  abbrev map : List ℕ
  map = run.map.now

  abbrev trip : Trip
  trip = searched_trip run

  -- a road worth trying is from the junction
  from : {s : State} {r : ℕ} → Worth trip s r → r ≤ road_count map → road_from map r ≡ s.junction
  from {s} {r} worth high =
      eqb-true _ _ (sym (leaves_road_lem (tied run) s.junction r worth.low high) ∙ worth.road (rw (tied run).roads high))

  -- x is the lowest road of the junction after the cursor: it follows and, where there is none, what follows the roads
  module _ {s : State} {cursor n x : ℕ} (lowest : LowestFrom (road_from map) s.junction (cursor + 1) n x) (ends : cursor + n ≡ road_count map) where
    to_road : 1 ≤ x → Follows trip s cursor x
    to_road some =
        let high : x ≤ road_count map = omega (arith, lowest.high) in
        record {
          rises = λ some. omega (arith, lowest.low some);
          worth = λ some. worth_road run some (omega (arith, high, roads run, (tied run).roads)) (sym (lowest.own some));
          over = λ c past before named.
              let less = before some in
              omega (arith, lowest.least c (omega arith) (omega arith) (from (named_worth named) (omega arith)));
        }

    past_roads : x ≤ 0 → {next : ℕ} → Follows trip s (roads_in trip) next → Follows trip s cursor next
    past_roads none follows =
        record {
          rises = λ some. omega (arith, follows.rises some, (tied run).roads);
          worth = follows.worth;
          over = λ c past before named.
              ⊎_elim
              (λ (pause : ltb (road_count map) c ≡ true). follows.over c (rw (tied run).roads (ltb-true _ _ pause)) before named)
              (λ (road : ltb (road_count map) c ≡ false).
              let high : c ≤ road_count map = ltb-false _ _ road in
              omega (arith, lowest.least c (omega arith) (omega arith) (from (named_worth named) high)))
              (cases (ltb (road_count map) c));
        }

  module _ {s : State} (range : RangeIn trip s) where
    -- its junction is one of the map's
    pub junction_within : (1 ≤ s.junction) × (s.junction ≤ run.about.sizes.junctions)
    junction_within = (range.low, omega (arith, range.high, junctions run))

    first_lowest : LowestFrom (road_from map) s.junction 1 (road_count map) (first_road map s.junction)
    first_lowest =
        rw ((accepted_made map run.accepted.mapped).first_lowest s.junction range.low (rw (tied run).junctions at range.high)) (lowest_from_lem (road_from map) s.junction 1 (road_count map) (omega arith))

    pub first_road_lem : 1 ≤ first_road map s.junction → Follows trip s 0 (first_road map s.junction)
    first_road_lem some = to_road {cursor = 0} first_lowest (omega arith) some

    pub no_first_road : first_road map s.junction ≤ 0 → {next : ℕ} → Follows trip s (roads_in trip) next → Follows trip s 0 next
    no_first_road none follows = past_roads {cursor = 0} first_lowest (omega arith) none follows

    -- whether there are pauses is the car park's word
    pub is_park : park_in trip s.junction ≡ eqb (car_park map s.junction) 1
    is_park = (tied run).park s.junction range.low (rw (tied run).junctions at range.high)

  module _ {s : State} {cursor : ℕ} (worth : Worth trip s cursor) (few : cursor ≤ run.about.sizes.roads) where
    within : cursor ≤ road_count map
    within = omega (arith, few, roads run, (tied run).roads)

    own_lowest : LowestFrom (road_from map) s.junction (cursor + 1) (road_count map - cursor) (next_road map cursor)
    own_lowest =
        subst (λ (j : ℕ). LowestFrom (road_from map) j (cursor + 1) (road_count map - cursor) (next_road map cursor)) (from worth within)
        (next_lowest map run.accepted.mapped cursor worth.low within)

    pub next_road_lem : 1 ≤ next_road map cursor → Follows trip s cursor (next_road map cursor)
    next_road_lem some = to_road {cursor = cursor} own_lowest (omega (arith, within)) some

    pub no_next_road : next_road map cursor ≤ 0 → {next : ℕ} → Follows trip s (roads_in trip) next → Follows trip s cursor next
    no_next_road none follows = past_roads {cursor = cursor} own_lowest (omega (arith, within)) none follows
