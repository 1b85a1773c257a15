-- Which roads are banned, as lent slices tell it: tests of road numbers. Document 02, P8. Assumes nothing.
use Rattle.std.specs.Prelude.{Bool, not, List, ◌≡◌, ℕ, ◌≤◌, eqb, get_or}
use Rattle.theory.specs.Lists.{memb}

-- by one byte a road, byte r for road r: not 0 where the road is banned; a road behind the bytes is not
abbrev pub closed_in : List ℕ → ℕ → Bool
closed_in closed r = not (eqb (get_or closed r 0) 0)

-- by a list of road numbers
abbrev pub listed_in : List ℕ → ℕ → Bool
listed_in bans r = memb eqb r bans

-- two tests agree on so many roads
abbrev pub AgreeOn : ℕ → (ℕ → Bool) → (ℕ → Bool) → Type 0
AgreeOn roads p q = (r : ℕ) → 1 ≤ r → r ≤ roads → p r ≡ q r
