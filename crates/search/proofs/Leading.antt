-- The label at the root of the winner tree is the loop's winner, or no label has a candidate. Assumes nothing.
use mathlib.Core.Path.{◌≡◌, ◌∙◌, sym}
use mathlib.Core.List.{List}
use Prim.Native.Nat.{ℕ, ◌+◌, ◌-◌, ◌≤◌, ◌<◌}
use native.Mathlib.Omega.{arith}
use lib.Dec.{T}
use lib.ListN.{length, get_or}
use Rattle.booleans.proofs.Tests.{true_T}
use Rattle.moves.specs.Trip.{Trip}
use Rattle.moves.specs.Runs.{SoundTrip}
use Rattle.states.specs.States.{ranks_no_higher}
use Rattle.labels.specs.LabelWords.{cursor_of, settled}
use Rattle.winners.specs.Keys.{no_key, key_at, candidate, Ready}
use Rattle.winners.specs.Mending.{LeastKey}
use Rattle.winners.proofs.Keys.{key_rank, key_tie}
use Rattle.winners.proofs.Steps.{none_left}
use Rattle.settling.specs.Settling.{candidate_of, Winner}
use Rattle.search.specs.Underway.{cursors_of}
use Rattle.search.proofs.Columns.{states_length, cursor_is, candidate_is, cursor_next, candidate_next}

module _ (trip : Trip) (sound : SoundTrip trip) (ws : List ℕ) (n : ℕ) (ready : Ready trip ws n) (r : ℕ) (leads : LeastKey trip ws n r) where
  -- the root's label wins
  pub is_winner : 1 ≤ r → 1 ≤ cursor_of ws r → Winner trip (settled ws n) (cursors_of ws n) (r - 1)
  is_winner low live = record {
    within = omega (arith, states_length trip ws n, leads.within);
    has = rw (cursor_is trip ws n r low leads.within) live;
    least = λ i h has. least i (omega (arith, states_length trip ws n)) has;
    first = λ i h has e. first i h has e;
  }
    where
      opened : (i : ℕ) → i < n → 1 ≤ get_or (cursors_of ws n) i 0 → 1 ≤ cursor_of ws (i + 1)
      opened i h has = omega (arith, cursor_next trip ws n i h)

      least : (i : ℕ) → i < n → 1 ≤ get_or (cursors_of ws n) i 0 → T (ranks_no_higher (candidate_of trip (settled ws n) (cursors_of ws n) (r - 1)) (candidate_of trip (settled ws n) (cursors_of ws n) i))
      least i h has =
          rw (candidate_is trip ws n r low leads.within, candidate_next trip ws n i h) (true_T (key_rank trip sound ws r (i + 1) (ready r low leads.within) (ready (i + 1) (omega arith) (omega arith)) low (omega arith) live (opened i h has) (leads.least (i + 1) (omega arith) (omega arith))))

      first : (i : ℕ) → i < r - 1 → 1 ≤ get_or (cursors_of ws n) i 0 → ¬ (candidate_of trip (settled ws n) (cursors_of ws n) i ≡ candidate_of trip (settled ws n) (cursors_of ws n) (r - 1))
      first i h has e =
          let inside : i < n = omega (arith, leads.within) in
          let same : candidate trip ws r ≡ candidate trip ws (i + 1) = sym (candidate_is trip ws n r low leads.within) ∙ sym e ∙ candidate_next trip ws n i inside in
          absurd (omega (arith, key_tie trip sound ws r (i + 1) (ready r low leads.within) (ready (i + 1) (omega arith) (omega arith)) low (omega arith) live (opened i inside has) (leads.least (i + 1) (omega arith) (omega arith)) same))

  -- where the root's label has no candidate, none has
  pub all_shut : no_key ≤ key_at trip ws r → (i : ℕ) → i < length (settled ws n) → get_or (cursors_of ws n) i 0 ≡ 0
  all_shut shut i h =
      let inside : i < n = omega (arith, states_length trip ws n) in
      cursor_next trip ws n i inside ∙ none_left trip ws n r sound ready leads shut (i + 1) (omega arith) (omega arith)
