-- What a search has when some states are settled and the candidates that are left rank no lower than a bound.
-- Assumes nothing.
use Rattle.std.specs.Prelude.{Bool, true, false, not, T}
use mathlib.Core.List.{List, Memᴰ}
use Rattle.std.proofs.Math.Option.{Option, none, some}
use Rattle.theory.specs.Lists.{StrictlySorted}
use Rattle.theory.specs.States.{Covered, Undominated}

-- t ranks strictly below the bound; without a bound all do
abbrev pub below : {S : Type 0} → (S → S → Bool) → Option S → S → Bool
below le none t = true
below le (some c) t = not (le c t)

-- the first bound is at most the second
abbrev pub leo : {S : Type 0} → (S → S → Bool) → Option S → Option S → Bool
leo le none none = true
leo le none (some d) = false
leo le (some c) none = true
leo le (some c) (some d) = le c d

-- the start is settled, and what the settled states lead to below the bound is covered by a settled state
pub record Settled {S : Type 0} (succs : S → List S) (le cov : S → S → Bool) (s₀ : S) (L : List S) (b : Option S) : Type 0 where
  pub has_start : Memᴰ s₀ L
  pub closed : (l t : S) → Memᴰ l L → Memᴰ t (succs l) → T (below le b t) → Covered cov L t

-- the list rises strictly in rank, all in it is undominated, and every undominated state below the bound is in it
pub record Lowest {S : Type 0} (succs : S → List S) (eq le cov : S → S → Bool) (s₀ : S) (L : List S) (b : Option S) : Type 0 where
  pub rises : StrictlySorted le L
  pub tops : (l : S) → Memᴰ l L → Undominated succs eq cov s₀ l
  pub has_below : (u : S) → Undominated succs eq cov s₀ u → T (below le b u) → Memᴰ u L
