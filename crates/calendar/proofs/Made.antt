-- The list of a rule's first values. A table is that list by computation, so that its rule needs no second copy of it. Assumes nothing.
use mathlib.Core.Path.{◌≡◌, ◌∙◌, ap, sym}
use mathlib.Core.List.{List, [], ◌∷◌}
use Prim.Native.Nat.{ℕ, zero, suc, ◌+◌, ◌<◌}
use native.Mathlib.Nat.{add-zero, zero-add, add-suc, suc-add, le_of_suc-le-suc, not-suc-le-zero}
use lib.ListN.{get_or}

-- the rule's values at i, i + 1 and so on, n of them
unfoldable pub made : (ℕ → ℕ) → ℕ → ℕ → List ℕ
made rule i zero = []
made rule i (suc n) = rule i ∷ made rule (suc i) n

made_from : (rule : ℕ → ℕ) (n i k : ℕ) → k < n → get_or (made rule i n) k 0 ≡ rule (i + k)
unfolding made
made_from rule zero i k h = absurd (not-suc-le-zero h)
made_from rule (suc n) i zero h = ap rule (sym (add-zero i))
made_from rule (suc n) i (suc k) h = made_from rule n (suc i) k (le_of_suc-le-suc h) ∙ ap rule (suc-add i k ∙ sym (add-suc i k))

-- the table at k is the rule's value at k
pub made_at : (rule : ℕ → ℕ) (n k : ℕ) → k < n → get_or (made rule 0 n) k 0 ≡ rule k
made_at rule n k h = made_from rule n 0 k h ∙ ap rule (zero-add k)

-- rules whose first n values are the same by computation
pub same_values : (one other : ℕ → ℕ) (n : ℕ) → made one 0 n ≡ made other 0 n → (k : ℕ) → k < n → one k ≡ other k
same_values one other n e k h = sym (made_at one n k h) ∙ ap (λ (values : List ℕ). get_or values k 0) e ∙ made_at other n k h
