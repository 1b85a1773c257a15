-- The key lemma of the search, and what follows from it: what is reachable below the bound is covered by what is settled.
-- Assumes nothing.
use mathlib.Core.Path.{sym}
use mathlib.Core.Bool.{Bool}
use mathlib.Core.List.Memᴰ
use mathlib.Core.List.{List, Memᴰ}
use mathlib.Core.Logic.{⊎_elim}
use mathlib.Core.Option.{Option, none, some}
use lib.Dec.{T, T_not, not_T}
use Rattle.booleans.proofs.Tests.{T-cases}
use Rattle.theory.specs.Lists.{Decides, StrictlySorted}
use Rattle.theory.specs.States.{Reach, start, step, Covered, Undominated, Laws}
use Rattle.theory.specs.Settling.{below, leo, Settled, Lowest}
use Rattle.theory.proofs.Dominance.{undominated_top, low_undominated}

module _ {S : Type 0} {succs : S → List S} {le cov : S → S → Bool} (laws : Laws succs le cov) where
  -- what ranks no higher than something below the bound is below it
  pub below_le : (b : Option S) (x y : S) → T (le x y) → T (below le b y) → T (below le b x)
  below_le none x y h k = tt
  below_le (some c) x y h k = not_T (le c x) (λ q. T_not (le c y) k (laws.order.trans c x y q h))

  -- what is below a bound is below a greater one
  pub below_leo : (b d : Option S) (x : S) → T (leo le b d) → T (below le b x) → T (below le d x)
  below_leo b none x h k = tt
  below_leo none (some d) x h k = absurd h
  below_leo (some c) (some d) x h k = not_T (le d x) (λ q. T_not (le c x) k (laws.order.trans c d x h q))

  -- the key lemma: a reachable state below the bound is covered by a settled state
  pub covered_below : {s₀ : S} {L : List S} {b : Option S} → Settled succs le cov s₀ L b
      → {t : S} → Reach succs s₀ t → T (below le b t) → Covered cov L t
  covered_below {s₀} st start k = (s₀, st.has_start, laws.cov_refl s₀)
  covered_below {b} st (step {s = s} {t = t} r m) k =
      let h = covered_below st r (below_le b s t (laws.rising s t m) k) in
      let g = laws.monotone h.0 s t h.2 m in
      let f = st.closed h.0 g.0 h.1 g.1 (below_le b g.0 t (laws.cov_le g.0 t g.2) k) in
      (f.0, f.1, laws.cov_trans f.0 g.0 t f.2 g.2)

  -- what is not covered is not settled
  pub uncovered_new : (L : List S) {c : S} → ¬ Covered cov L c → ¬ Memᴰ c L
  uncovered_new L {c} n m = n (c, m, laws.cov_refl c)

  module _ {s₀ : S} {L : List S} where
    -- a reachable state that is not covered ranks no lower than the least candidate
    pub uncovered_above : {c : S} → Settled succs le cov s₀ L (some c) → {t : S} → Reach succs s₀ t → ¬ Covered cov L t → T (le c t)
    uncovered_above {c} st {t} r n = ⊎_elim (λ h. h) (λ h. absurd (n (covered_below st r h))) (T-cases (le c t))

module _ {S : Type 0} {succs : S → List S} {eq le cov : S → S → Bool} (laws : Laws succs le cov) (dec : Decides eq) {s₀ : S} {L : List S} where
  -- the least candidate, if it is reachable and not covered, is undominated
  pub next_undominated : {c : S} → Settled succs le cov s₀ L (some c) → Reach succs s₀ c → ¬ Covered cov L c → Undominated succs eq cov s₀ c
  next_undominated {c} st rc n =
      low_undominated laws dec rc (λ x r h. uncovered_above laws st r (λ k. n (k.0, k.1, laws.cov_trans k.0 x c k.2 h)))

  -- every undominated state below the bound is settled, if the settled states are reachable
  pub settled_below : {b : Option S} → Settled succs le cov s₀ L b → ((l : S) → Memᴰ l L → Reach succs s₀ l)
      → {u : S} → Undominated succs eq cov s₀ u → T (below le b u) → Memᴰ u L
  settled_below st rs d k =
      let h = covered_below laws st d.reach k in
      Memᴰ.cast (sym (undominated_top laws dec d h.0 (rs h.0 h.1) h.2)) h.1

  -- settled states that are undominated and rise strictly are the lowest undominated states, up to the bound
  pub lowest_settled : {b : Option S} → Settled succs le cov s₀ L b → StrictlySorted le L
      → ((l : S) → Memᴰ l L → Undominated succs eq cov s₀ l) → Lowest succs eq le cov s₀ L b
  lowest_settled st s tops = record { rises = s; tops = tops; has_below = λ u d k. settled_below st (λ l m. (tops l m).reach) d k }
