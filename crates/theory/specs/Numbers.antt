-- A list of figures as the digits of one number. Assumes nothing.
use Rattle.std.specs.Prelude.{ℕ, ◌+◌, ◌*◌, ◌^◌, Bool, true, ◌&&◌, List, [], ◌∷◌, ltb, length}

-- the first figure is the highest digit
unfoldable pub as_number : ℕ → List ℕ → ℕ
as_number base [] = 0
as_number base (x ∷ xs) = x * base ^ length xs + as_number base xs

-- every figure is a digit of that base
unfoldable pub all_below : ℕ → List ℕ → Bool
all_below base [] = true
all_below base (x ∷ xs) = ltb x base && all_below base xs
