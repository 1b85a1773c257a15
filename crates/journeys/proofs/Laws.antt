-- The laws that a search rests on hold of the moves of a sound run. Assumes nothing.
use mathlib.Core.Path.{refl, sym, subst}
use mathlib.Core.List.{Memᴰ}
use native.Mathlib.Omega.{arith}
use lib.Dec.{T}
use Rattle.states.specs.declared.State.{State}
use Rattle.moves.specs.Trip.{Trip}
use Rattle.moves.specs.Moves.{after}
use Rattle.moves.specs.Compared.{Eases}
use Rattle.moves.proofs.Monotone.{eased_move}
use Rattle.moves.proofs.Rising.{SoundTrip, raises}
use Rattle.theory.proofs.Figures.{above_self}
use Rattle.theory.specs.States.{Covered, Laws, Rises, GoalCovers}
use Rattle.theory.specs.Reachable.{AllReached}
use Rattle.theory.proofs.Reachable.{all_reached}
use Rattle.journeys.specs.Journeys.{start_in, at_target, succs}
use Rattle.states.specs.States.{covers, ranks_no_higher}
use Rattle.journeys.specs.Labels.{seconds_to_spend, reachable_in}
use Rattle.states.proofs.Compared.{rank_order, lower_clock, same_decides, covers_junction, covers_self, covers_trans, covers_rank, legal_clock}
use Rattle.journeys.proofs.Journeys.{succs_in, succs_from}

-- a run is no harder than itself
pub eases_itself : (trip : Trip) → Eases trip trip
eases_itself trip =
    record {
      junctions = refl;
      roads = refl;
      from = λ r low high. refl;
      to = λ r low high. refl;
      seconds = λ r low high. omega arith;
      banned = λ r low high e. e;
      parks = λ j e. e;
      latest = refl;
      rules = record { limits = above_self _; pauses = above_self _; split = λ has. has; parts = λ has. above_self _ };
    }

-- whatever covers a state at target is at target
pub goal_covers : (trip : Trip) → GoalCovers covers (at_target trip)
unfolding at_target
goal_covers trip = record { up = λ x y t g. rw (covers_junction x y t) g }

-- whatever covers a state is led on to whatever covers what that is led on to
pub succs_monotone : (trip : Trip) (x y t : State) → T (covers x y) → Memᴰ t (succs trip y) → Covered covers (succs trip x) t
succs_monotone trip x y t c at =
    let one = succs_from trip y at in
    let eased = eased_move trip trip (eases_itself trip) x y one.move c one.offered one.lawful in
    let x' : State = after trip x one.move in (
      x',
      succs_in trip x one.move eased.offered eased.lawful,
      subst (λ (z : State). T (covers x' z)) (sym one.result) eased.over_after,
    )

module _ (trip : Trip) (sound : SoundTrip trip) where
  -- every move raises the clock and leaves it at most latest
  pub clock_rises : Rises (succs trip) (λ s. s.clock.0) trip.order.latest.0
  clock_rises =
      record {
        higher = λ s t at.
            let one = succs_from trip s at in
            rw one.result (omega (arith, raises trip sound s one.move one.offered));
        capped = λ s t at.
            let one = succs_from trip s at in
            rw one.result (legal_clock trip.order (after trip s one.move) one.lawful);
      }

  pub laws : Laws (succs trip) ranks_no_higher covers
  laws =
      record {
        order = rank_order;
        cov_refl = covers_self;
        cov_trans = covers_trans;
        cov_le = covers_rank;
        monotone = succs_monotone trip;
        rising = λ s t at. lower_clock s t (clock_rises.higher s t at);
      }

  -- the list of reachable states has each of them once, and nothing else
  pub all_reachable : AllReached (succs trip) (start_in trip) (reachable_in trip)
  unfolding reachable_in
  all_reachable =
      all_reached (succs trip) same_decides (start_in trip) clock_rises (seconds_to_spend trip)
      (omega (arith, sound.ordered.times_rise))
