-- Where the loop stops: no candidate is left, the space is full, or the target is reached. Assumes nothing.
use mathlib.Core.Path.{◌≡◌, sym, subst, subst₂}
use mathlib.Core.List.{List, [], ◌∷◌, ◌++◌}
use mathlib.Core.Option.{none, some}
use Prim.Native.Nat.{ℕ, ◌+◌, ◌-◌, ◌≤◌, ◌<◌}
use native.Mathlib.Omega.{arith}
use lib.Dec.{T}
use Rattle.states.specs.declared.State.{State}
use Rattle.moves.specs.Trip.{Trip}
use Rattle.moves.specs.Runs.{SoundTrip}
use Rattle.theory.specs.States.{Covered}
use Rattle.journeys.specs.Journeys.{at_target}
use Rattle.journeys.specs.Labels.{label_count}
use Rattle.states.specs.States.{covers}
use Rattle.labels.specs.declared.Candidate.{Candidate}
use Rattle.labels.specs.declared.Place.{Place}
use Rattle.labels.specs.LabelWords.{settled}
use Rattle.labels.specs.Lists.{LabelAdded}
use Rattle.winners.specs.Keys.{no_key, key_at}
use Rattle.winners.specs.Mending.{LeastKey}
use Rattle.winners.proofs.Steps.{only_refl}
use Rattle.settling.specs.Settling.{candidate_of, Ended}
use Rattle.settling.proofs.Endings.{exhausted, turn_full, turn_found}
use Rattle.search.specs.Underway.{cursors_of, parents_of, Underway, Chosen}
use Rattle.search.proofs.Columns.{states_length, added_states, added_parents}
use Rattle.search.proofs.Leading.{all_shut}
use Rattle.search.proofs.Turning.{loop_candidate}

module _ {trip : Trip} (sound : SoundTrip trip) {ws : List ℕ} {ps : List Place} {n : ℕ} (U : Underway trip ws ps n) where
  -- no candidate is left
  pub ends_without : {r : ℕ} → LeastKey trip ws n r → no_key ≤ key_at trip ws r → Ended trip none (settled ws n) (parents_of ws n)
  ends_without {r} leads shut =
      exhausted trip sound (settled ws n) (cursors_of ws n) (parents_of ws n) U.loop (all_shut trip sound ws n U.ready r leads shut)

  module _ {r : ℕ} {c : State} (won : Chosen trip ws n r c) (new : Covered covers (settled ws n) c → ⊥) where
    loop_new : ¬ Covered covers (settled ws n) (candidate_of trip (settled ws n) (cursors_of ws n) (r - 1))
    loop_new = subst (λ (z : State). ¬ Covered covers (settled ws n) z) (sym (loop_candidate U won)) new

    -- one more label than these
    pub more_labels : n < label_count trip
    more_labels =
        omega (arith, states_length trip ws n, turn_full trip sound (settled ws n) (cursors_of ws n) (parents_of ws n) U.loop (r - 1) won.winner loop_new)

    -- at target: the candidate is the answer, and the last label
    pub ends_found : T (at_target trip c) → {ws₁ : List ℕ} {ps' : List Place} {u : Candidate} → LabelAdded ws ws₁ ps' n c r u
        → Ended trip (some c) (settled ws₁ (n + 1)) (parents_of ws₁ (n + 1))
    ends_found home {ws₁} A =
        let back : r - 1 + 1 ≡ r = omega (arith, won.low) in
        rw (added_states ws ws₁ ws₁ A.added (only_refl ws₁), added_parents ws ws₁ ws₁ A.added (only_refl ws₁))
        (subst₂ (λ (z : State) (p : ℕ). Ended trip (some z) (settled ws n ++ z ∷ []) (parents_of ws n ++ p ∷ [])) (loop_candidate U won) back
        (turn_found trip sound (settled ws n) (cursors_of ws n) (parents_of ws n) U.loop (r - 1) won.winner loop_new
        (subst (λ (z : State). T (at_target trip z)) (sym (loop_candidate U won)) home)))
