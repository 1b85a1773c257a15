-- A junction's roads by their from-junction: all of them, rising, and the lowest. Assumes nothing.
use Rattle.std.specs.Prelude.{ℕ, zero, suc, ◌+◌, true, false, List, [], ◌∷◌, eqb}

-- the roads from junction j among the n from k on, rising
unfoldable pub roads_from : (ℕ → ℕ) → ℕ → ℕ → ℕ → List ℕ
roads_from from j k zero = []
roads_from from j k (suc n) =
    elim (eqb (from k) j) [ true ↦ k ∷ roads_from from j (k + 1) n | false ↦ roads_from from j (k + 1) n ]

-- the lowest road from junction j among the n from k on, or 0
unfoldable pub lowest_from : (ℕ → ℕ) → ℕ → ℕ → ℕ → ℕ
lowest_from from j k zero = 0
lowest_from from j k (suc n) = elim (eqb (from k) j) [ true ↦ k | false ↦ lowest_from from j (k + 1) n ]
