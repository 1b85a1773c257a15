-- States and moves: what is reachable, what covers and what dominates, and the laws that a search rests on.
-- Assumes nothing.
use Rattle.std.specs.Prelude.{ℕ, ◌≤◌, ◌<◌, Bool, not, ◌&&◌, T}
use mathlib.Core.List.{List, Memᴰ}
use Rattle.theory.specs.Lists.{Order}

-- what moves lead to, from the start on
pub data Reach {S : Type 0} (succs : S → List S) (s₀ : S) : S → Type 0 where
  start : Reach succs s₀ s₀
  step : {s t : S} → Reach succs s₀ s → Memᴰ t (succs s) → Reach succs s₀ t

-- some member of the list covers t
abbrev pub Covered : {S : Type 0} → (S → S → Bool) → List S → S → Type 0
Covered {S} cov L t = (m : S) × Memᴰ m L × T (cov m t)

-- x covers y and is another state: of equal states neither dominates
abbrev pub dominates : {S : Type 0} → (S → S → Bool) → (S → S → Bool) → S → S → Bool
dominates eq cov x y = cov x y && not (eq x y)

-- reachable, and nothing reachable dominates it
pub record Undominated {S : Type 0} (succs : S → List S) (eq cov : S → S → Bool) (s₀ u : S) : Type 0 where
  pub reach : Reach succs s₀ u
  pub free : (x : S) → Reach succs s₀ x → ¬ T (dominates eq cov x u)

-- rank is a total order; covering is a preorder, ranks no higher, and carries over to what the moves lead to; no move lowers the rank
pub record Laws {S : Type 0} (succs : S → List S) (le cov : S → S → Bool) : Type 0 where
  pub order : Order le
  pub cov_refl : (x : S) → T (cov x x)
  pub cov_trans : (x y z : S) → T (cov x y) → T (cov y z) → T (cov x z)
  pub cov_le : (x y : S) → T (cov x y) → T (le x y)
  pub monotone : (x y t : S) → T (cov x y) → Memᴰ t (succs y) → Covered cov (succs x) t
  pub rising : (s t : S) → Memᴰ t (succs s) → T (le s t)

-- each move raises the height, and none past the top
pub record Rises {S : Type 0} (succs : S → List S) (height : S → ℕ) (top : ℕ) : Type 0 where
  pub higher : (s t : S) → Memᴰ t (succs s) → height s < height t
  pub capped : (s t : S) → Memᴰ t (succs s) → height t ≤ top

-- whatever covers a goal is a goal
pub record GoalCovers {S : Type 0} (cov : S → S → Bool) (goal : S → Bool) : Type 0 where
  pub up : (x y : S) → T (cov x y) → T (goal y) → T (goal x)
