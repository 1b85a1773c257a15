-- Lists with one more member, or one entry written: what holds of each, and the labels' candidates. Assumes nothing.
use mathlib.Core.Path.{◌≡◌, refl, sym, subst}
use mathlib.Core.List.Memᴰ
use mathlib.Core.List.{List, [], ◌∷◌, ◌++◌, Memᴰ}
use mathlib.Core.Logic.{⊎_elim}
use Prim.Native.Nat.{ℕ, ◌<◌}
use native.Mathlib.Omega.{arith}
use lib.Dec.{T_not, ltb, ltb→lt, nltb→le, eqb, eqb→eq, eqb_refl}
use lib.ListN.{length, get_or, set, length-append, get_or-append}
use lib.Seq.{get_or_at, get_or-set_same, get_or-set_other}
use Rattle.booleans.proofs.Tests.{T-cases}
use Rattle.states.specs.declared.State.{State}
use Rattle.moves.specs.Trip.{Trip}
use Rattle.journeys.specs.Journeys.{start_in}
use Rattle.candidates.specs.Candidates.{result_at}
use Rattle.settling.specs.Settling.{state_at, candidate_of}

-- what holds of every member, and of one more, holds of every member of the longer list
pub snoc_elim : {S : Type 0} (P : S → Type 0) (L : List S) (c : S) → ((l : S) → Memᴰ l L → P l) → P c → (l : S) → Memᴰ l (L ++ c ∷ []) → P l
snoc_elim {S} P L c f p l m =
    ⊎_elim
    (λ (q : Memᴰ l L). f l q)
    (λ (q : Memᴰ l (c ∷ [])). subst P (sym (Memᴰ.eq_of_singleton q)) p)
    (Memᴰ.append_cases L m)

-- what holds at an index of the list, and at the end, holds at each index of the longer list
pub snoc_at : {A : Type 0} (Q : ℕ → Type 0) (l : List A) (a : A) → ((i : ℕ) → i < length l → Q i) → Q (length l) → (i : ℕ) → i < length (l ++ a ∷ []) → Q i
snoc_at Q l a old new i h =
    ⊎_elim
    (λ k. old i (ltb→lt i (length l) k))
    (λ k. subst Q (omega (arith, nltb→le i (length l) k, length-append l (a ∷ []))) new)
    (T-cases (ltb i (length l)))

-- what holds of the new entry, and of each other, holds of each entry after a write
pub set_elim : (C : List ℕ) (w v : ℕ) (Q : ℕ → ℕ → Type 0) → w < length C → Q w v → (i : ℕ) → (¬ (i ≡ w) → Q i (get_or C i 0)) → Q i (get_or (set C w v) i 0)
set_elim C w v Q h q i f =
    ⊎_elim
    (λ k. subst (λ (j : ℕ). Q j (get_or (set C w v) j 0)) (sym (eqb→eq i w k)) (subst (Q w) (sym (get_or-set_same C w v 0 h)) q))
    (λ k. let other : ¬ (i ≡ w) = λ e. T_not (eqb i w) k (rw e (eqb_refl w)) in subst (Q i) (sym (get_or-set_other C w i v 0 other)) (f other))
    (T-cases (eqb i w))

-- One more label c with cursor u.
module _ (trip : Trip) (L : List State) (c : State) where
  pub state_kept : (i : ℕ) → i < length L → state_at trip (L ++ c ∷ []) i ≡ state_at trip L i
  state_kept i h = get_or-append L (c ∷ []) (start_in trip) i h

  pub state_new : state_at trip (L ++ c ∷ []) (length L) ≡ c
  state_new = get_or_at L c [] (start_in trip) (length L) refl

  module _ (C : List ℕ) (u : ℕ) (as_many : length C ≡ length L) where
    pub cursor_kept : (i : ℕ) → i < length L → get_or (C ++ u ∷ []) i 0 ≡ get_or C i 0
    cursor_kept i h = get_or-append C (u ∷ []) 0 i (omega (arith, as_many, h))

    pub cursor_new : get_or (C ++ u ∷ []) (length L) 0 ≡ u
    cursor_new = get_or_at C u [] 0 (length L) as_many

    -- the labels before keep their candidates
    pub candidate_kept : (i : ℕ) → i < length L → candidate_of trip (L ++ c ∷ []) (C ++ u ∷ []) i ≡ candidate_of trip L C i
    candidate_kept i h = rw (state_kept i h, cursor_kept i h)

    -- the new one has its own
    pub candidate_new : candidate_of trip (L ++ c ∷ []) (C ++ u ∷ []) (length L) ≡ result_at trip c u
    candidate_new = rw (state_new, cursor_new)
