-- Laws of dominance: it is a strict partial order, everything reachable is equal to or dominated by an undominated state,
-- and every undominated state but the start is one move from an undominated one.
-- Assumes nothing.
use Prim.Native.Nat.{ℕ, ◌<◌}
use native.Mathlib.Omega.{arith}
use mathlib.Core.Path.{◌≡◌, refl, sym, subst}
use mathlib.Core.Bool.{Bool, not}
use mathlib.Core.List.Memᴰ
use mathlib.Core.List.{List, Memᴰ}
use mathlib.Core.Logic.{◌⊎◌, inl, inr, ⊎_elim}
use mathlib.Core.Option.{Option, none, some}
use lib.Dec.{T, T_not, not_T}
use Rattle.booleans.proofs.Tests.{T-cases, and_l, and_r, and_i}
use Rattle.theory.specs.Lists.{Decides, select, least, IsLeast}
use Rattle.theory.specs.States.{Reach, start, step, dominates, Undominated, Laws, Rises}
use Rattle.theory.specs.Reachable.{AllReached}
use Rattle.theory.proofs.Lists.{select_in, select_from}
use Rattle.theory.proofs.Sorting.{le_self, strictly, least_is}

module _ {S : Type 0} {succs : S → List S} {le cov : S → S → Bool} (laws : Laws succs le cov) where
  -- all that is reachable ranks no lower than the start
  pub above_start : {s₀ t : S} → Reach succs s₀ t → T (le s₀ t)
  above_start {s₀} start = le_self laws.order s₀
  above_start {s₀} (step {s = s} {t = t} r m) = laws.order.trans s₀ s t (above_start r) (laws.rising s t m)

  -- what a move leads to ranks strictly above, where each move raises a height
  pub move_above : {height : S → ℕ} {top : ℕ} → Rises succs height top → (s t : S) → Memᴰ t (succs s) → T (not (le t s))
  move_above {height} rises s t m =
      strictly laws.order s t (laws.rising s t m)
      (λ e. absurd (omega (arith, subst (λ (z : S). height s < height z) (sym e) (rises.higher s t m))))

  -- so no move leads from what is reachable back to the start
  pub no_way_back : {height : S → ℕ} {top : ℕ} → Rises succs height top → {s₀ s : S} → Reach succs s₀ s → ¬ Memᴰ s₀ (succs s)
  no_way_back rises {s₀} {s} r m = T_not (le s₀ s) (move_above rises s s₀ m) (above_start r)

module _ {S : Type 0} {succs : S → List S} {eq le cov : S → S → Bool} (laws : Laws succs le cov) (dec : Decides eq) where
  -- Dominance is a strict partial order and implies lower rank.

  -- what covers another state dominates it
  pub dominates_of : (x y : S) → T (cov x y) → ¬ (x ≡ y) → T (dominates eq cov x y)
  dominates_of x y c n = and_i (cov x y) (not (eq x y)) c (not_T (eq x y) (λ e. n (dec.same x y e)))

  -- what dominates covers
  pub dominates_cov : (x y : S) → T (dominates eq cov x y) → T (cov x y)
  dominates_cov x y t = and_l (cov x y) (not (eq x y)) t

  -- and is another state
  pub dominates_other : (x y : S) → T (dominates eq cov x y) → ¬ (x ≡ y)
  dominates_other x y t e = T_not (eq x y) (and_r (cov x y) (not (eq x y)) t) (subst (λ (z : S). T (eq x z)) e (dec.self x))

  -- so it ranks strictly below
  pub dominates_below : (x y : S) → T (dominates eq cov x y) → T (not (le y x))
  dominates_below x y t = strictly laws.order x y (laws.cov_le x y (dominates_cov x y t)) (dominates_other x y t)

  -- what dominates a dominating state dominates what that dominates
  pub dominates_trans : (x y z : S) → T (dominates eq cov x y) → T (dominates eq cov y z) → T (dominates eq cov x z)
  dominates_trans x y z s t =
      dominates_of x z (laws.cov_trans x y z (dominates_cov x y s) (dominates_cov y z t))
      (λ e. T_not (le y x) (dominates_below x y s) (subst (λ (w : S). T (le y w)) (sym e) (laws.cov_le y z (dominates_cov y z t))))

  module _ {s₀ : S} where
    -- all that is reachable and covers an undominated state equals it
    pub undominated_top : {u : S} → Undominated succs eq cov s₀ u → (x : S) → Reach succs s₀ x → T (cov x u) → x ≡ u
    undominated_top {u} d x r c =
        ⊎_elim
        (λ t. dec.same x u t)
        (λ t. absurd (d.free x r (and_i (cov x u) (not (eq x u)) c t)))
        (T-cases (eq x u))

    -- and a reachable state of which that holds is undominated
    pub top_undominated : {u : S} → Reach succs s₀ u → ((x : S) → Reach succs s₀ x → T (cov x u) → x ≡ u) → Undominated succs eq cov s₀ u
    top_undominated {u} r f = record { reach = r; free = λ x q t. dominates_other x u t (f x q (dominates_cov x u t)) }

    -- what covers ranks no higher, so what ranks no higher than all reachable that cover it is undominated
    pub low_undominated : {u : S} → Reach succs s₀ u → ((x : S) → Reach succs s₀ x → T (cov x u) → T (le u x)) → Undominated succs eq cov s₀ u
    low_undominated {u} r f = top_undominated r (λ x q c. laws.order.antisym x u (laws.cov_le x u c) (f x q c))

    -- the start is undominated
    pub start_undominated : Undominated succs eq cov s₀ s₀
    start_undominated = low_undominated start (λ x r c. above_start laws r)

    -- With the list of all that is reachable.
    module _ {R : List S} (all : AllReached succs s₀ R) where
      -- an undominated state covers what is reachable: the lowest-ranked one that covers it
      pub undominated_over : {t : S} → Reach succs s₀ t → (u : S) × Undominated succs eq cov s₀ u × T (cov u t)
      undominated_over {t} r = at (least le over) (least_is laws.order over)
        where
          over : List S
          over = select (λ x. cov x t) R

          over_in : (x : S) → Reach succs s₀ x → T (cov x t) → Memᴰ x over
          over_in x q c = select_in (λ x. cov x t) R (all.complete x q) c

          at : (o : Option S) → IsLeast le over o → (u : S) × Undominated succs eq cov s₀ u × T (cov u t)
          at none h = absurd (h t (over_in t r (laws.cov_refl t)))
          at (some u) h =
              let g = select_from (λ x. cov x t) R h.0 in
              (u, low_undominated (all.sound u g.0) (λ x q c. h.1 x (over_in x q (laws.cov_trans x u t c g.1))), g.1)

      -- so what is reachable is undominated itself, or an undominated state dominates it
      pub equal_or_dominated : {t : S} → Reach succs s₀ t → (u : S) × Undominated succs eq cov s₀ u × ((u ≡ t) ⊎ T (dominates eq cov u t))
      equal_or_dominated {t} r =
          let g = undominated_over r in
          (g.0, g.1, ⊎_elim (λ h. inl (dec.same g.0 t h)) (λ h. inr (and_i (cov g.0 t) (not (eq g.0 t)) g.2 h)) (T-cases (eq g.0 t)))

      -- every undominated state but the start is one move from an undominated one
      pub undominated_parent : {t : S} → Undominated succs eq cov s₀ t → ¬ (t ≡ s₀) → (p : S) × Undominated succs eq cov s₀ p × Memᴰ t (succs p)
      undominated_parent {t} d n = at d.reach d n
        where
          at : {t : S} → Reach succs s₀ t → Undominated succs eq cov s₀ t → ¬ (t ≡ s₀) → (p : S) × Undominated succs eq cov s₀ p × Memᴰ t (succs p)
          at start d n = absurd (n refl)
          at (step {s = s} {t = t} r m) d n =
              let p = undominated_over r in
              let t' = laws.monotone p.0 s t p.2 m in
              (p.0, p.1, Memᴰ.cast (sym (undominated_top d t'.0 (step p.1.reach t'.1) t'.2)) t'.1)
