-- The rules of a trip are those of its ends and those of its figures. Assumes nothing.
use mathlib.Core.Path.{◌≡◌, refl}
use mathlib.Core.Bool.{true, false}
use mathlib.Core.List.{List, [], ◌∷◌, ◌++◌}
use mathlib.Core.Logic.{⊎_elim}
use mathlib.Core.Option.{Option, none, some}
use Prim.Native.Nat.{ℕ}
use Rattle.booleans.proofs.Tests.{cases}
use Rattle.driving.specs.declared.Order.{Order}
use Rattle.driving.specs.Order.{Rule, first_broken, end_rules, figure_rules, bad_ends, bad_figures, bad_trip}

-- the first word, or else the second
abbrev pub or_else : Option ℕ → Option ℕ → Option ℕ
or_else (some word) other = some word
or_else none other = other

two_lists : (rs ss : List Rule) → first_broken (rs ++ ss) ≡ or_else (first_broken rs) (first_broken ss)
unfolding first_broken
two_lists [] ss = refl
two_lists (r ∷ rs) ss =
    ⊎_elim
    (λ (kept : r.kept ≡ true). simp kept (two_lists rs ss))
    (λ (broken : r.kept ≡ false). simp broken)
    (cases r.kept)

-- a trip is checked by its ends, and then by its figures
pub trip_parts : (junctions : ℕ) (o : Order) → bad_trip junctions o ≡ or_else (bad_ends junctions o) (bad_figures o.figures o.rules)
unfolding bad_trip bad_ends bad_figures
trip_parts junctions o = two_lists (end_rules junctions o) (figure_rules o.figures o.rules)
