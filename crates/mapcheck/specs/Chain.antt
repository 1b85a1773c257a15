-- A junction's outgoing roads are chained: its first road, then each road's next; zero ends the chain.
-- Document 01, "Map". Assumes nothing.
use Rattle.std.specs.Prelude.{ℕ, zero, suc, Bool, true, false, ◌||◌, ◌&&◌, not, List, [], ◌∷◌, eqb}
use Rattle.std.proofs.Math.Option.{Option, none, some}
use Rattle.replies.specs.First.{lowest}
use Rattle.roadmap.specs.Format.{junction_count, road_count, first_road, next_road, road_from}

-- at most so many roads of a chain, from road r on
unfoldable pub chain_from : (ℕ → ℕ) → ℕ → ℕ → List ℕ
chain_from next zero r = []
chain_from next (suc most) zero = []
chain_from next (suc most) (suc k) = suc k ∷ chain_from next most (next (suc k))

unfoldable pub among : ℕ → List ℕ → Bool
among r [] = false
among r (x ∷ xs) = eqb r x || among r xs

-- the chain of junction j; next rises, so no chain of an accepted map is longer than R
abbrev pub chain : List ℕ → ℕ → List ℕ
chain map j = chain_from (next_road map) (road_count map) (first_road map j)

abbrev pub is_some : Option ℕ → Bool
is_some none = false
is_some (some i) = true

-- r stands on the chain of a junction that is not its from-junction
abbrev pub on_another : List ℕ → ℕ → Bool
on_another map r =
    is_some (lowest (λ j. not (eqb j (road_from map r)) && among r (chain map j)) 1 (junction_count map))

-- road off its chain or on another's
unfoldable pub broken_chain_at : List ℕ → ℕ → Bool
broken_chain_at map r = not (among r (chain map (road_from map r))) || on_another map r
