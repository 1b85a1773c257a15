-- What each kind of move leads to, and which is the parent's move. Assumes nothing.
use mathlib.Core.Path.{◌≡◌, ◌∙◌, sym, ap, subst}
use mathlib.Core.Bool.{Bool, true, false, ◌&&◌}
use mathlib.Core.List.{List}
use mathlib.Core.Logic.{◌⊎◌, inl, inr, ⊎_elim}
use mathlib.Core.Option.{some}
use Prim.Native.Nat.{ℕ, ◌+◌, ◌≤◌, ◌<◌}
use native.Mathlib.Omega.{arith}
use native.Mathlib.Nat.{eq-or-lt_of_le}
use borrow.Author.Tests.{eqb-true, eq-eqb, ne_eqb}
use lib.Dec.{eqb}
use Rattle.booleans.proofs.Tests.{not_both, and_true}
use Rattle.roadmap.specs.Format.{road_count, road_from}
use Rattle.driving.specs.Hours.{first_pause, last_pause}
use Rattle.states.specs.declared.State.{State}
use Rattle.moves.specs.declared.Move.{Move}
use Rattle.moves.specs.declared.Run.{Run}
use Rattle.moves.specs.Trip.{Trip, road_in}
use Rattle.moves.specs.Moves.{move, may_pause, offers, driven, paused, after}
use Rattle.states.specs.States.{legal, same_state}
use Rattle.moves.specs.Runs.{Tied}
use Rattle.moves.proofs.Trips.{leaves_road_lem}
use Rattle.moves.proofs.Stepped.{leaves_range}
use Rattle.moves.proofs.Offered.{pause_range, Offer, by_drive, by_pause, offer, offers_pause}
use Rattle.journeys.specs.Plan.{moves_to, move_to}
use Rattle.journeys.proofs.ParentMove.{Before, kind_below, number_below, MoveTo, test_move, move_test_lem, move_some, move_is}
use Rattle.readback.specs.Moving.{SomeMove, Takes, RoadTo, SomePause, PauseTo, pauses_to}

module _ (trip : Trip) (p t : State) where
  leads_move : (m : Move) → offers trip p m ≡ true → moves_to trip p t m ≡ true → MoveTo trip p t m
  leads_move m offered e =
      let is = test_move trip p t m e in
      record { offered = offered; lawful = is.0; result = is.1 }

  move_leads : (m : Move) → MoveTo trip p t m → moves_to trip p t m ≡ true
  move_leads m f = move_test_lem trip p t m f.lawful f.result

  takes_move : (m : Move) → Takes trip p t m → MoveTo trip p t m
  takes_move m by = leads_move m by.offered by.leads

  move_takes : (m n : Move) → MoveTo trip p t n → n ≡ m → Takes trip p t m
  move_takes m n f e =
      record {
        offered = ap (offers trip p) (sym e) ∙ f.offered;
        leads = ap (moves_to trip p t) (sym e) ∙ move_leads n f;
      }

  -- the lowest road is the parent's move
  pub drive_is : (r : ℕ) → RoadTo trip p t r → 1 ≤ r → move_to trip p t ≡ some (move 1 r)
  drive_is r road low =
      move_is trip p t (move 1 r) (takes_move (move 1 r) (road.drives low))
      (λ n f. against n f (offer trip p n f.offered))
    where
      against : (n : Move) → MoveTo trip p t n → Offer trip p n → (move 1 r ≡ n) ⊎ Before (move 1 r) n
      against n f (by_drive e leaving) =
          ⊎_elim
          (λ (same : r ≡ n.number). inl (ap (move 1) same ∙ sym e))
          (λ (less : r < n.number). inr (number_below (sym (ap (λ (m : Move). m.kind) e)) less))
          (eq-or-lt_of_le {n = r} {m = n.number} (road.lowest n.number (move_takes (move 1 n.number) n f e)).1)
      against n f (by_pause e may) = inr (kind_below (omega (arith, (pause_range trip p n.kind may).0)))

  module _ (r : ℕ) (road : RoadTo trip p t r) (none : r ≤ 0) where
    no_drive : (n : Move) → MoveTo trip p t n → n ≡ move 1 n.number → ⊥
    no_drive n f e = omega (arith, (road.lowest n.number (move_takes (move 1 n.number) n f e)).0)

    -- with no such road some pause leads there
    pub some_pause : SomeMove trip p t → SomePause trip p t
    some_pause found =
        let one = move_some trip p t found in
        by one.0 one.2 (offer trip p one.0 one.2.offered)
      where
        by : (n : Move) → MoveTo trip p t n → Offer trip p n → SomePause trip p t
        by n f (by_drive e leaving) = absurd (no_drive n f e)
        by n f (by_pause e may) = (n.kind, (pause_range trip p n.kind may).0, move_takes (move n.kind p.junction) n f e)

    -- and the lowest kind of it is the parent's move
    pub pause_is : (kind : ℕ) → PauseTo trip p t kind → move_to trip p t ≡ some (move kind p.junction)
    pause_is kind pause =
        move_is trip p t (move kind p.junction) (takes_move (move kind p.junction) pause.takes)
        (λ n f. against n f (offer trip p n f.offered))
      where
        against : (n : Move) → MoveTo trip p t n → Offer trip p n → (move kind p.junction ≡ n) ⊎ Before (move kind p.junction) n
        against n f (by_drive e leaving) = absurd (no_drive n f e)
        against n f (by_pause e may) =
            ⊎_elim
            (λ (same : kind ≡ n.kind). inl (ap (λ (k : ℕ). move k p.junction) same ∙ sym e))
            (λ (less : kind < n.kind). inr (kind_below less))
            (eq-or-lt_of_le {n = kind} {m = n.kind} (pause.lowest n.kind (pause_range trip p n.kind may).0 (move_takes (move n.kind p.junction) n f e)))

  -- the search for that kind: no kind below leads there, and some does
  pub record Seeking (kind : ℕ) : Type 0 where
    pub low : first_pause ≤ kind
    pub ahead : (k : ℕ) → first_pause ≤ k → Takes trip p t (move k p.junction) → kind ≤ k

  takes_pause : (kind : ℕ) → first_pause ≤ kind → Takes trip p t (move kind p.junction) → pauses_to trip p t kind ≡ true
  unfolding offers
  takes_pause kind low by =
      let may = (and_true {a = eqb p.junction p.junction} (rw (ne_eqb kind 1 (λ e. omega arith)) at by.offered)).1 in
      rw (may, by.leads)

  -- a kind that does not lead there is not the one sought
  pub seek_next : (kind : ℕ) → Seeking kind → pauses_to trip p t kind ≡ false → Seeking (kind + 1)
  seek_next kind seeking fails = record { low = omega (arith, seeking.low); ahead = past }
    where
      past : (k : ℕ) → first_pause ≤ k → Takes trip p t (move k p.junction) → kind + 1 ≤ k
      past k low by =
          ⊎_elim
          (λ (same : kind ≡ k). absurd (not_both (takes_pause k low by) (ap (pauses_to trip p t) (sym same) ∙ fails)))
          (λ (less : kind < k). omega arith)
          (eq-or-lt_of_le {n = kind} {m = k} (seeking.ahead k low by))

  pub seek_found : (kind : ℕ) → Seeking kind → pauses_to trip p t kind ≡ true → PauseTo trip p t kind
  seek_found kind seeking leads =
      let both = and_true {a = may_pause trip p kind} leads in
      record {
        takes = record { offered = offers_pause trip p kind both.0; leads = both.1 };
        lowest = seeking.ahead;
      }

  -- where no kind before the last leads there, the last does
  pub seek_last : (kind : ℕ) → Seeking kind → last_pause ≤ kind → SomePause trip p t → PauseTo trip p t last_pause
  seek_last kind seeking high (k, low, by) =
      let range = pause_range trip p k (and_true {a = may_pause trip p k} (takes_pause k low by)).0 in
      let same : k ≡ last_pause = omega (arith, range.1, seeking.ahead k low by) in
      record {
        takes = subst (λ (j : ℕ). Takes trip p t (move j p.junction)) same by;
        lowest = λ j low by. omega (arith, seeking.ahead j low by);
      }

-- a road of the junction
pub record OwnRoad (map : List ℕ) (p : State) (r : ℕ) : Type 0 where
  pub low : 1 ≤ r
  pub high : r ≤ road_count map
  pub own : road_from map r ≡ p.junction

-- what the code asks of a state reached is what the definition asks of the move
module _ {map : List ℕ} {banned : ℕ → Bool} {run : Run} {trip : Trip} (tied : Tied map banned run trip) (p t : State) where
  pub drive_leads : (r : ℕ) (s : State) → s ≡ driven (road_in trip r) p → moves_to trip p t (move 1 r) ≡ (legal run.order s && same_state s t)
  unfolding after
  drive_leads r s is = rw (tied.order, is)

  pub pause_leads : (kind : ℕ) (s : State) → may_pause trip p kind ≡ true → s ≡ paused kind run.order.rules p → pauses_to trip p t kind ≡ (legal run.order s && same_state s t)
  unfolding after
  pause_leads kind s may is = rw (may, ne_eqb kind 1 (λ e. omega (arith, (pause_range trip p kind may).0)), tied.order, is)

  -- a road that leaves the junction is offered, and only such
  pub road_offered : (r : ℕ) → 1 ≤ r → r ≤ road_count map → road_from map r ≡ p.junction → offers trip p (move 1 r) ≡ true
  unfolding offers
  road_offered r low high from = rw (leaves_road_lem tied p.junction r low high) (eq-eqb _ _ from)

  pub offered_road : (r : ℕ) → offers trip p (move 1 r) ≡ true → OwnRoad map p r
  unfolding offers
  offered_road r e =
      let range = leaves_range tied p.junction r e in
      record {
        low = range.0;
        high = range.1;
        own = eqb-true _ _ (rw (leaves_road_lem tied p.junction r range.0 range.1) at e);
      }
