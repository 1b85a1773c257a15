-- The turns rise: the least candidate after a turn, by rank and then by label number, comes after the one before it.
-- Assumes nothing.
use mathlib.Core.Path.{◌≡◌, sym}
use mathlib.Core.List.{List}
use mathlib.Core.Logic.{⊎_elim}
use Prim.Native.Nat.{ℕ, ◌≤◌, ◌<◌}
use native.Mathlib.Omega.{arith}
use lib.Dec.{ltb, ltb→lt, nltb→le}
use lib.ListN.{length, get_or, set}
use Rattle.booleans.proofs.Tests.{T-cases}
use Rattle.states.specs.declared.State.{State}
use Rattle.moves.specs.Trip.{Trip}
use Rattle.theory.proofs.Sorting.{le_of_not, never_self}
use Rattle.states.proofs.Compared.{rank_order}
use Rattle.candidates.specs.Candidates.{result_at}
use Rattle.candidates.specs.Next.{Passes}
use Rattle.settling.specs.Settling.{state_at, candidate_of, Searching, Winner, Later}
use Rattle.settling.proofs.Lists.{set_elim}

module _ (trip : Trip) (L : List State) (C P : List ℕ) (s : Searching trip L C P) (w : ℕ) (win : Winner trip L C w) where
  abbrev won : State
  won = candidate_of trip L C w

  -- after the winner's cursor has moved on
  pub covered_later : (v : ℕ) → Passes trip L w (state_at trip L w) won v
      → (w' : ℕ) → Winner trip L (set C w v) w' → Later won w (candidate_of trip L (set C w v) w') w'
  covered_later v next w' win' =
      set_elim C w v (λ i k. 1 ≤ k → Later won w (result_at trip (state_at trip L i) k) i) (omega (arith, s.as_many, win.within)) own w' (other w' win'.within) win'.has
    where
      own : 1 ≤ v → Later won w (result_at trip (state_at trip L w) v) w
      own has =
          record {
            rank = le_of_not rank_order won (result_at trip (state_at trip L w) v) (next.higher has);
            number = λ e. absurd (never_self rank_order (result_at trip (state_at trip L w) v) won (sym e) (next.higher has));
          }

      other : (i : ℕ) → i < length L → ¬ (i ≡ w) → 1 ≤ get_or C i 0 → Later won w (candidate_of trip L C i) i
      other i h apart has =
          record {
            rank = win.least i h has;
            number = λ e.
                ⊎_elim (λ k. absurd (win.first i (ltb→lt i w k) has (sym e))) (λ k. omega (arith, nltb→le i w k, apart)) (T-cases (ltb i w));
          }
