-- What the cursors have left behind is covered: where a successor of a label before covers it, that one is left behind too. Assumes nothing.
use mathlib.Core.Bool.{not}
use mathlib.Core.List.{List, Memᴰ}
use mathlib.Core.Logic.{⊎_elim}
use mathlib.Core.Option.{some}
use Prim.Native.Nat.{ℕ, zero, suc, ◌≤◌, ◌<◌}
use native.Mathlib.Omega.{arith}
use lib.Dec.{T}
use lib.ListN.{length, get_or}
use Rattle.states.specs.declared.State.{State}
use Rattle.moves.specs.Trip.{Trip}
use Rattle.moves.proofs.Rising.{SoundTrip}
use Rattle.theory.specs.States.{Covered}
use Rattle.theory.proofs.Settling.{below_le}
use Rattle.journeys.specs.Journeys.{succs}
use Rattle.states.specs.States.{covers, ranks_no_higher}
use Rattle.journeys.proofs.Laws.{laws}
use Rattle.candidates.specs.Next.{Forestalled}
use Rattle.settling.specs.Settling.{state_at, candidate_of, Searching}

module _ (trip : Trip) (sound : SoundTrip trip) (L : List State) (C P : List ℕ) (s : Searching trip L C P) where
  -- t ranks strictly below the candidates of the labels up to index i
  abbrev Behind : ℕ → State → Type 0
  Behind i t = (j : ℕ) → j ≤ i → 1 ≤ get_or C j 0 → T (not (ranks_no_higher (candidate_of trip L C j) t))

  -- by induction on a bound of the index
  behind_upto : (b i : ℕ) → i < b → i < length L → (t : State) → Memᴰ t (succs trip (state_at trip L i)) → Behind i t → Covered covers L t
  behind_upto zero i k h t m low = absurd (omega arith)
  behind_upto (suc b) i k h t m low =
      ⊎_elim
      (λ (own : Covered covers L t). own)
      (λ (f : Forestalled trip L i t).
      let c : State = f.2.0 in
      let g = behind_upto b f.0 (omega (arith, f.1, k)) (omega (arith, f.1, h)) c f.2.1
      (λ j up has. below_le (laws trip sound) (some (candidate_of trip L C j)) c t ((laws trip sound).cov_le c t f.2.2) (low j (omega (arith, f.1, up)) has)) in
      (g.0, g.1, (laws trip sound).cov_trans g.0 c t g.2 f.2.2))
      ((s.pending i h).closed t m (low i (omega arith)))

  -- a successor that ranks below the candidates of its own label and of those before it is covered
  pub left_behind : (i : ℕ) → i < length L → (t : State) → Memᴰ t (succs trip (state_at trip L i)) → Behind i t → Covered covers L t
  left_behind i = behind_upto (suc i) i (omega arith)
