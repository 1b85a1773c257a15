-- The bytes that worked cases are written with. Assumes nothing.
use Rattle.std.specs.Prelude.{List, [], ◌∷◌, ℕ, ◌/◌, ◌%◌}

-- the bytes of a list of words, little-endian
abbrev pub spelled : List ℕ → List ℕ
spelled [] = []
spelled (w ∷ ws) = w % 256 ∷ w / 256 % 256 ∷ w / 65536 % 256 ∷ w / 16777216 ∷ spelled ws
