-- A turn's parts: the label that leads, whether its candidate is at target, and what the turn comes to. Assumes nothing.
use mathlib.Core.Path.{◌≡◌, ◌∙◌, sym, ap}
use mathlib.Core.List.{List}
use Rattle.std.specs.Prelude.{Result}
use Prim.Native.Nat.{ℕ, ◌+◌, ◌≤◌, ◌<◌}
use native.Mathlib.Omega.{arith}
use native.Mathlib.Decide.{dec_le}
use borrow.Author.Tests.{eq-eqb}
use lib.Dec.{T, eqb→eq}
use Rattle.booleans.proofs.Tests.{true_T}
use Rattle.driving.specs.declared.Order.{Order}
use Rattle.states.specs.declared.State.{State}
use Rattle.moves.specs.Trip.{Trip}
use Rattle.moves.specs.declared.given.OpenRun.{OpenRun}
use Rattle.moves.specs.OpenRuns.{searched_trip}
use Rattle.moves.specs.Runs.{SoundTrip}
use Rattle.theory.specs.States.{Covered}
use Rattle.journeys.specs.Journeys.{at_target}
use Rattle.states.specs.States.{covers}
use Rattle.labels.specs.declared.Candidate.{Candidate}
use Rattle.labels.specs.declared.Place.{Place}
use Rattle.labels.specs.LabelWords.{own_of, winner_of, settled}
use Rattle.labels.specs.Lists.{LabelAdded}
use Rattle.candidates.specs.Candidates.{no_clock}
use Rattle.candidates.proofs.Searched as searched
use Rattle.winners.specs.Keys.{no_key, key_at, candidate}
use Rattle.winners.specs.Mending.{Live, LeastKey}
use Rattle.winners.proofs.Keys.{key_none, key_shut}
use Rattle.winners.proofs.Contenders.{own_live, own_none}
use Rattle.winners.proofs.Steps.{leads}
use Rattle.search.specs.declared.Turn.{Turn}
use Rattle.search.specs.declared.Unfound.{Unfound}
use Rattle.search.specs.Underway.{Underway, Chosen}
use Rattle.search.specs.Turns.{EndsWithout, EndsFound, TurnSays, goes, found, exhausted, full}
use Rattle.search.proofs.Leading.{is_winner}
use Rattle.search.proofs.Stopping.{ends_without, ends_found}

-- at target, by the junction's number
module _ (run : OpenRun) (c : State) where
  pub at_home : c.junction ≡ run.about.order.target → T (at_target (searched_trip run) c)
  unfolding at_target
  at_home e = true_T (eq-eqb c.junction _ (e ∙ sym (ap (λ (o : Order). o.target) (searched.tied run).order)))

  pub not_home : (c.junction ≡ run.about.order.target → ⊥) → T (at_target (searched_trip run) c) → ⊥
  unfolding at_target
  not_home out home = out (eqb→eq c.junction _ home ∙ ap (λ (o : Order). o.target) (searched.tied run).order)

module _ {trip : Trip} (sound : SoundTrip trip) {ws : List ℕ} {ps : List Place} {n : ℕ} (U : Underway trip ws ps n) where
  -- the label that leads, with a candidate, has the lowest
  pub leader_chosen : {r : ℕ} {c : State} → LeastKey trip ws n r → Live trip ws r → c ≡ candidate trip ws r → Chosen trip ws n r c
  leader_chosen {r} lead live is =
      record { low = live.low; high = lead.within; has = live.has; is = is; winner = is_winner trip sound ws n U.ready r lead live.low live.has }

  -- its clock says whether it has one; where it has none, or is no label, no label has one
  pub leader_live : {r : ℕ} → LeastKey trip ws n r → 1 ≤ r → own_of ws r < no_clock → Live trip ws r
  leader_live lead low = own_live trip sound ws _ low (U.ready _ low lead.within)

  pub leader_done : {r : ℕ} → LeastKey trip ws n r → (1 ≤ r → no_clock ≤ own_of ws r) → EndsWithout trip ws n
  leader_done {r} lead shut = ends_without sound U lead (go (dec_le r 0))
    where
      go : Dec (r ≤ 0) → no_key ≤ key_at trip ws r
      go (yes none) = let e : r ≡ 0 = omega arith in omega (arith, ap (key_at trip ws) e, key_none trip ws)
      go (no some) =
          let low : 1 ≤ r = omega arith in
          omega (arith, key_shut trip ws r (own_none trip sound ws r low (U.ready r low lead.within) (shut low)))

  -- the target is reached
  pub reaches : {r : ℕ} {c : State} → Chosen trip ws n r c → (Covered covers (settled ws n) c → ⊥) → T (at_target trip c)
      → {ws₁ : List ℕ} {ps' : List Place} {u : Candidate} → LabelAdded ws ws₁ ps' n c r u → EndsFound trip ws₁ (n + 1)
  reaches {c = c} won new home added =
      record {
        answer = c;
        room = added.lists.room;
        ended = ends_found sound U won new home added;
      }

  -- no key is below the root's
  pub root_least : {r : ℕ} → 1 ≤ r → r ≤ n → key_at trip ws (winner_of ws 1) ≤ key_at trip ws r
  root_least low high = (leads trip ws n U.low U.tree).least _ low high

-- a turn that goes on above a key goes on above a lower one
pub says_below : {trip : Trip} {fit key lower n : ℕ} {ws : List ℕ} {ps : List Place} {turn : Result Turn Unfound} → lower ≤ key
    → TurnSays trip fit key n ws ps turn → TurnSays trip fit lower n ws ps turn
says_below h (goes onward room) = goes (record { underway = onward.underway; higher = omega (arith, h, onward.higher) }) room
says_below h (found ended room) = found ended room
says_below h (exhausted ended) = exhausted ended
says_below h (full above) = full above
