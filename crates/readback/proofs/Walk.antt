-- The walk along a junction's chain: no road before the present one leads legally to t. Assumes nothing.
use mathlib.Core.Path.{◌≡◌, subst}
use mathlib.Core.Bool.{Bool, true, false}
use mathlib.Core.List.{List}
use mathlib.Core.Logic.{⊎_elim}
use Prim.Native.Nat.{ℕ, ◌+◌, ◌-◌, ◌≤◌, ◌<◌}
use native.Mathlib.Omega.{arith}
use native.Mathlib.Nat.{eq-or-lt_of_le}
use lib.Dec.{ltb}
use borrow.Author.Tests.{ltb-true, ltb-false, not-true, not-false}
use Rattle.booleans.proofs.Tests.{cases, not_both, and_true}
use Rattle.roadmap.specs.Format.{road_count, first_road, next_road, road_from}
use Rattle.mapcheck.specs.MapCheck.{AcceptedMap}
use Rattle.mapcheck.proofs.Listed.{LowestFrom, lowest_from_lem}
use Rattle.mapcheck.proofs.Sound.{accepted_made}
use Rattle.states.specs.declared.State.{State}
use Rattle.moves.specs.declared.Run.{Run}
use Rattle.moves.specs.Trip.{Trip}
use Rattle.moves.specs.Moves.{move}
use Rattle.moves.specs.Runs.{Tied, RangeIn}
use Rattle.journeys.specs.Plan.{moves_to}
use Rattle.candidates.proofs.Roads.{up_to, at_road, at_end}
use Rattle.readback.specs.Moving.{Takes, RoadTo, passes_by}
use Rattle.readback.proofs.Leading.{road_offered, offered_road}

pub record Walking (map : List ℕ) (trip : Trip) (p t : State) (r : ℕ) : Type 0 where
  pub within : r ≤ road_count map
  pub own : 1 ≤ r → road_from map r ≡ p.junction
  -- a road that leads to t is not before r
  pub ahead : (k : ℕ) → Takes trip p t (move 1 k) → up_to (road_count map) r ≤ k

module _ {map : List ℕ} {banned : ℕ → Bool} {run : Run} {trip : Trip} (tied : Tied map banned run trip) (p t : State) where
  -- from road k on the walk goes to the lowest road of the junction
  onward : (k n x : ℕ) → k + n ≡ road_count map + 1 → LowestFrom (road_from map) p.junction k n x
      → ((c : ℕ) → Takes trip p t (move 1 c) → k ≤ c) → Walking map trip p t x
  onward k n x all at from =
      record {
        within = omega (arith, at.high);
        own = at.own;
        ahead = λ c drives.
            let road = offered_road tied p t c drives.offered in
            let least = at.least c (from c drives) (omega (arith, road.high)) road.own in
            rw (at_road (road_count map) x least.0) least.1;
      }

  module _ (accepted : AcceptedMap map) where
    pub walk_first : RangeIn trip p → Walking map trip p t (first_road map p.junction)
    walk_first range =
        onward 1 (road_count map) _ (omega arith)
        (rw ((accepted_made map accepted).first_lowest p.junction range.low (rw tied.junctions at range.high)) (lowest_from_lem (road_from map) p.junction 1 (road_count map) (omega arith)))
        (λ c drives. (offered_road tied p t c drives.offered).low)

    walk_next : (r : ℕ) → Walking map trip p t r → 1 ≤ r → moves_to trip p t (move 1 r) ≡ false → Walking map trip p t (next_road map r)
    walk_next r walking low fails =
        let high : r ≤ road_count map = walking.within in
        onward (r + 1) (road_count map - r) _ (omega arith)
        (subst (λ (j : ℕ). LowestFrom (road_from map) j (r + 1) (road_count map - r) (next_road map r)) (walking.own low)
        (rw ((accepted_made map accepted).next_lowest r low high) (lowest_from_lem (road_from map) (road_from map r) (r + 1) (road_count map - r) (omega arith))))
        (λ c drives.
        ⊎_elim
        (λ (same : r ≡ c).
        absurd (not_both drives.leads (subst (λ (k : ℕ). moves_to trip p t (move 1 k) ≡ false) same fails)))
        (λ (less : r < c). omega arith)
        (eq-or-lt_of_le {n = r} {m = c} (subst (λ (k : ℕ). k ≤ c) (at_road (road_count map) r low) (walking.ahead c drives))))

    -- a road passed by is one of the chain's, and the walk goes on at the next
    pub walk_on : (r : ℕ) → Walking map trip p t r → passes_by trip p t r ≡ true → (1 ≤ r) × Walking map trip p t (next_road map r)
    unfolding passes_by
    walk_on r walking passed =
        let both = and_true {a = ltb 0 r} passed in
        let low : 1 ≤ r = ltb-true 0 r both.0 in
        (low, walk_next r walking low (not-true _ both.1))

  -- the first that leads to t is the lowest
  walk_found : (r : ℕ) → Walking map trip p t r → 1 ≤ r → moves_to trip p t (move 1 r) ≡ true → RoadTo trip p t r
  walk_found r walking low leads =
      record {
        drives = λ some. record { offered = road_offered tied p t r low walking.within (walking.own low); leads = leads };
        lowest = λ k drives. (low, subst (λ (x : ℕ). x ≤ k) (at_road (road_count map) r low) (walking.ahead k drives));
      }

  -- and at the chain's end there is none
  walk_end : (r : ℕ) → Walking map trip p t r → r ≤ 0 → RoadTo trip p t r
  walk_end r walking end =
      record {
        drives = λ some. absurd (omega arith);
        lowest = λ k drives.
            absurd (omega (arith, (offered_road tied p t k drives.offered).high, subst (λ (x : ℕ). x ≤ k) (at_end (road_count map) r end) (walking.ahead k drives)));
      }

  -- a road not passed by is the one sought
  pub walk_stops : (r : ℕ) → Walking map trip p t r → passes_by trip p t r ≡ false → RoadTo trip p t r
  unfolding passes_by
  walk_stops r walking stopped =
      ⊎_elim
      (λ (road : ltb 0 r ≡ true). walk_found r walking (ltb-true 0 r road) (not-false _ (rw road at stopped)))
      (λ (none : ltb 0 r ≡ false). walk_end r walking (ltb-false 0 r none))
      (cases (ltb 0 r))
