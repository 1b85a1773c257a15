-- What is left of a label's successors: when its cursor is first set, when a label is added, and when the cursor moves on.
-- Assumes nothing.
use mathlib.Core.Path.{subst}
use mathlib.Core.Bool.{not}
use mathlib.Core.List.Memᴰ
use mathlib.Core.List.{List, [], ◌∷◌, ◌++◌, Memᴰ}
use mathlib.Core.Logic.{inl, ⊎_elim}
use Prim.Native.Nat.{ℕ, ◌≤◌}
use native.Mathlib.Omega.{arith}
use lib.Dec.{T}
use lib.ListN.{length}
use Rattle.booleans.proofs.Tests.{T-cases}
use Rattle.states.specs.declared.State.{State}
use Rattle.moves.specs.Trip.{Trip}
use Rattle.moves.proofs.Rising.{SoundTrip}
use Rattle.theory.specs.States.{Covered}
use Rattle.theory.proofs.Sorting.{le_of_not}
use Rattle.journeys.specs.Journeys.{succs}
use Rattle.states.specs.States.{covers, ranks_no_higher}
use Rattle.states.proofs.Compared.{rank_order, rank_clock}
use Rattle.journeys.proofs.Journeys.{succs_in}
use Rattle.journeys.proofs.Laws.{clock_rises, laws}
use Rattle.candidates.specs.Candidates.{move_at, result_at, Names}
use Rattle.candidates.specs.Next.{above, Needless, Passes}
use Rattle.candidates.proofs.Rivals.{needless_kept}
use Rattle.settling.specs.Settling.{Pending}
use Rattle.settling.proofs.Lists.{snoc_elim, state_kept}

-- what is covered stays so
pub covered_wider : (L : List State) (c t : State) → Covered covers L t → Covered covers (L ++ c ∷ []) t
covered_wider L c t k = (k.0, Memᴰ.append_left (c ∷ []) k.1, k.2)

module _ (trip : Trip) where
  -- a candidate is a successor
  pub candidate_in : (s : State) (v : ℕ) → Names trip s v → Memᴰ (result_at trip s v) (succs trip s)
  candidate_in s v names = succs_in trip s (move_at trip s v) names.offered names.lawful

  -- what needs no turn needs none when a label is added
  pub needless_wider : (L : List State) (c : State) (before : ℕ) (t : State) → before ≤ length L → Needless trip L before t → Needless trip (L ++ c ∷ []) before t
  needless_wider L c before t h = needless_kept trip L (L ++ c ∷ []) before t (covered_wider L c t) (λ i k. state_kept trip L c i (omega arith))

  -- one more label, which ranks no higher than the candidate
  pub pending_wider : (L : List State) (before : ℕ) (c s : State) (v : ℕ) → before ≤ length L → (1 ≤ v → T (ranks_no_higher c (result_at trip s v)))
      → Pending trip L before s v → Pending trip (L ++ c ∷ []) before s v
  pending_wider L before c s v h low p =
      record {
        named = p.named;
        above = λ has l m. snoc_elim (λ z. T (ranks_no_higher z (result_at trip s v))) L c (p.above has) (low has) l m;
        closed = λ t mt below. needless_wider L c before t h (p.closed t mt below);
      }

  -- the candidate is covered, and the cursor moves on to the next
  pub pending_next : (L : List State) (before : ℕ) (s : State) (k v : ℕ) → 1 ≤ k → Pending trip L before s k → Covered covers L (result_at trip s k)
      → Passes trip L before s (result_at trip s k) v → Pending trip L before s v
  pending_next L before s k v has p cov next =
      record {
        named = next.named;
        above = λ on l m. rank_order.trans l c (result_at trip s v) (p.above has l m) (le_of_not rank_order c (result_at trip s v) (next.higher on));
        closed = λ t mt below.
            ⊎_elim
            (λ (low : T (ranks_no_higher t c)).
            ⊎_elim
            (λ (high : T (ranks_no_higher c t)). inl (subst (λ (z : State). Covered covers L z) (rank_order.antisym c t high low) cov))
            (λ (under : T (not (ranks_no_higher c t))). p.closed t mt (λ q. under))
            (T-cases (ranks_no_higher c t)))
            (λ (over : T (not (ranks_no_higher t c))). next.passed t mt over below)
            (T-cases (ranks_no_higher t c));
      }
    where
      c : State
      c = result_at trip s k

  -- a successor ranks strictly above its state
  pub successor_above : SoundTrip trip → (s t : State) → Memᴰ t (succs trip s) → T (above s t)
  successor_above sound s t mt =
      ⊎_elim
      (λ (low : T (ranks_no_higher t s)). absurd (omega (arith, rank_clock t s low, (clock_rises trip sound).higher s t mt)))
      (λ over. over)
      (T-cases (ranks_no_higher t s))

  -- a label that no label ranks above gets its first cursor
  pub pending_first : SoundTrip trip → (L : List State) (before : ℕ) (s : State) (v : ℕ) → ((l : State) → Memᴰ l L → T (ranks_no_higher l s))
      → Passes trip L before s s v → Pending trip L before s v
  pending_first sound L before s v low next =
      record {
        named = next.named;
        above = λ has l m. rank_order.trans l s (result_at trip s v) (low l m) ((laws trip sound).rising s (result_at trip s v) (candidate_in s v (next.named has)));
        closed = λ t mt below. next.passed t mt (successor_above sound s t mt) below;
      }
