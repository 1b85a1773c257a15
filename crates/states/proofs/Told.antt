-- What the code's comparisons of two states answer. Assumes nothing.
use mathlib.Core.Path.{◌≡◌, ◌∙◌, refl}
use mathlib.Core.Bool.{Bool, true, false, ◌&&◌, beq}
use mathlib.Core.List.{List, [], ◌∷◌}
use Prim.Native.Nat.{ℕ}
use native.Mathlib.Omega.{arith}
use lib.Dec.{eqb}
use Rattle.std.proofs.Common.{Ordering, Less, Equal, Greater, Option, Some, None}
use Rattle.std.specs.Ordering.{is_le, is_some_and, nat_cmp, partial_ordering_then}
use Rattle.std.proofs.lemmas.Bool.Decides.{nat_tests}
use Rattle.theory.specs.Figures.{lexicographic, same_each}
use Rattle.driving.specs.Hours.{mark_figure}
use Rattle.states.specs.declared.State.{State}
use Rattle.states.specs.States.{same_state}

-- the figures before have decided, or those that follow do
abbrev decided : Option Ordering → List ℕ → List ℕ → Bool
decided None xs ys = false
decided (Some Less) xs ys = true
decided (Some Equal) xs ys = lexicographic xs ys
decided (Some Greater) xs ys = false

last : (o : Option Ordering) → is_some_and is_le o ≡ decided o [] []
unfolding lexicographic
last None = refl
last (Some Less) = refl
last (Some Equal) = refl
last (Some Greater) = refl

next : (o : Option Ordering) (x y : ℕ) (xs ys : List ℕ) → decided (partial_ordering_then o (Some (nat_cmp x y))) xs ys ≡ decided o (x ∷ xs) (y ∷ ys)
unfolding lexicographic
next None x y xs ys = refl
next (Some Less) x y xs ys = refl
next (Some Equal) x y xs ys = grind (arith, nat_tests)
next (Some Greater) x y xs ys = refl

pub ranked : (x y x1 y1 x2 y2 x3 y3 x4 y4 x5 y5 : ℕ) →
    is_some_and is_le (partial_ordering_then (partial_ordering_then (partial_ordering_then (partial_ordering_then (partial_ordering_then (Some (nat_cmp x y)) (Some (nat_cmp x1 y1))) (Some (nat_cmp x2 y2))) (Some (nat_cmp x3 y3))) (Some (nat_cmp x4 y4))) (Some (nat_cmp x5 y5)))
    ≡ lexicographic (x ∷ x1 ∷ x2 ∷ x3 ∷ x4 ∷ x5 ∷ []) (y ∷ y1 ∷ y2 ∷ y3 ∷ y4 ∷ y5 ∷ [])
ranked x y x1 y1 x2 y2 x3 y3 x4 y4 x5 y5 =
    last _
    ∙ next _ x5 y5 _ _
    ∙ next _ x4 y4 _ _
    ∙ next _ x3 y3 _ _
    ∙ next _ x2 y2 _ _
    ∙ next (Some (nat_cmp x y)) x1 y1 (x2 ∷ x3 ∷ x4 ∷ x5 ∷ []) (y2 ∷ y3 ∷ y4 ∷ y5 ∷ [])
    ∙ next (Some Equal) x y _ _

-- the code compares the junctions first, and the marks as they are
mark_same : (b a : Bool) → beq b a ≡ eqb (mark_figure b) (mark_figure a)
mark_same true true = refl
mark_same true false = refl
mark_same false true = refl
mark_same false false = refl

last_first : (j c s h w m : Bool) → j && (c && (s && (h && (w && m)))) ≡ c && (s && (h && (w && (m && (j && true)))))
last_first j c s h w m = grind arith

pub same_told : (b a : State) →
    eqb b.junction a.junction && (eqb b.clock.0 a.clock.0 && (eqb b.figures.spell.0 a.figures.spell.0 && (eqb b.figures.shift.0 a.figures.shift.0 && (eqb b.figures.week.0 a.figures.week.0 && beq b.figures.marked a.figures.marked))))
    ≡ same_state b a
unfolding same_state same_each
same_told b a = rw (mark_same b.figures.marked a.figures.marked, last_first)
