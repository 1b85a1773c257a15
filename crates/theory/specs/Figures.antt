-- Lists of figures compared, lower is better in each: what covering, legality and rank are made of, whatever the figures are.
-- Assumes nothing.
use Rattle.std.specs.Prelude.{ℕ, Bool, true, false, ◌&&◌, ◌||◌, List, [], ◌∷◌, leb, ltb, eqb}

-- no figure is above the other list's
unfoldable pub none_above : List ℕ → List ℕ → Bool
none_above [] [] = true
none_above [] (y ∷ ys) = false
none_above (x ∷ xs) [] = false
none_above (x ∷ xs) (y ∷ ys) = leb x y && none_above xs ys

-- each figure is the other list's
unfoldable pub same_each : List ℕ → List ℕ → Bool
same_each [] [] = true
same_each [] (y ∷ ys) = false
same_each (x ∷ xs) [] = false
same_each (x ∷ xs) (y ∷ ys) = eqb x y && same_each xs ys

-- the lower first figure ranks lower, of equal ones what follows decides: the first list ranks no higher
unfoldable pub lexicographic : List ℕ → List ℕ → Bool
lexicographic [] ys = true
lexicographic (x ∷ xs) [] = false
lexicographic (x ∷ xs) (y ∷ ys) = ltb x y || (eqb x y && lexicographic xs ys)
