-- The reachable states as a list, with no pruning: a frontier is expanded, and what was seen is dropped, until nothing is new or the fuel is spent.
-- Assumes nothing.
use Rattle.std.specs.Prelude.{ℕ, zero, suc, Bool, not, ◌||◌}
use mathlib.Core.List.{List, [], ◌∷◌, ◌++◌, Memᴰ}
use Rattle.theory.specs.Lists.{keep, memb, Distinct}
use Rattle.theory.specs.States.{Reach}

-- what the states of a list lead to
unfoldable pub onward : {S : Type 0} → (S → List S) → List S → List S
onward succs [] = []
onward succs (x ∷ xs) = succs x ++ onward succs xs

-- the members of a list that are not seen, each once
unfoldable pub fresh : {S : Type 0} → (S → S → Bool) → List S → List S → List S
unfolding memb
fresh eq seen [] = []
fresh eq seen (x ∷ xs) =
    let r = fresh eq seen xs in
    let again = memb eq x r in
    keep (not (memb eq x seen || again)) x r

-- `front` is the part of `seen` that is not yet expanded
unfoldable pub explore : {S : Type 0} → (S → List S) → (S → S → Bool) → ℕ → List S → List S → List S
unfolding fresh onward
explore succs eq zero seen front = seen
explore succs eq (suc n) seen [] = seen
explore succs eq (suc n) seen (x ∷ xs) =
    let new = fresh eq seen (onward succs (x ∷ xs)) in
    explore succs eq n (new ++ seen) new

-- what the start leads to in at most `fuel` moves, each state once
unfoldable pub reachable : {S : Type 0} → (S → List S) → (S → S → Bool) → ℕ → S → List S
unfolding explore
reachable succs eq fuel s₀ = explore succs eq fuel (s₀ ∷ []) (s₀ ∷ [])

-- the list has each reachable state once, and nothing else
pub record AllReached {S : Type 0} (succs : S → List S) (s₀ : S) (R : List S) : Type 0 where
  pub sound : (x : S) → Memᴰ x R → Reach succs s₀ x
  pub complete : (x : S) → Reach succs s₀ x → Memᴰ x R
  pub once : Distinct R
