-- What a move does to each of a list of figures, and the slack that it leaves. Assumes nothing.
use mathlib.Core.Path.{◌≡◌, refl, ap₂, subst}
use mathlib.Core.List.{List, [], ◌∷◌}
use Prim.Native.Nat.{ℕ, ◌+◌, ◌≤◌}
use native.Mathlib.Nat.{add-zero}
use native.Mathlib.Omega.{arith}
use lib.Dec.{T}
use Rattle.theory.specs.Figures.{none_above}
use Rattle.theory.proofs.Figures.{above_head, above_tail, above_more}

-- a figure grows by the move's seconds, stays, or becomes a figure that no other depends on
pub data Change : Type 0 where
  grows : Change
  stays : Change
  becomes : ℕ → Change

abbrev pub changed : Change → ℕ → ℕ → ℕ
changed grows seconds x = x + seconds
changed stays seconds x = x
changed (becomes v) seconds x = v

unfoldable pub changed_each : List Change → ℕ → List ℕ → List ℕ
changed_each [] seconds xs = []
changed_each (c ∷ cs) seconds [] = []
changed_each (c ∷ cs) seconds (x ∷ xs) = changed c seconds x ∷ changed_each cs seconds xs

-- each figure, and so much more
unfoldable pub raised : ℕ → List ℕ → List ℕ
raised slack [] = []
raised slack (x ∷ xs) = (x + slack) ∷ raised slack xs

slack_one : (c : Change) (slack more d e x y : ℕ) → d ≤ e + more → x ≤ y + slack → changed c d x ≤ changed c e y + (slack + more)
slack_one grows slack more d e x y longer near = omega arith
slack_one stays slack more d e x y longer near = omega arith
slack_one (becomes v) slack more d e x y longer near = omega arith

-- figures at most the others' plus the slack, changed alike by seconds at most the others' plus more: at most the others' plus both. These are
-- figures when a change begins: what may delay its beginning need not keep a slack above 0 (`entered_eased` in moves)
pub slack_changed : (cs : List Change) (slack more d e : ℕ) (xs ys : List ℕ) → d ≤ e + more → T (none_above xs (raised slack ys))
    → T (none_above (changed_each cs d xs) (raised (slack + more) (changed_each cs e ys)))
unfolding none_above raised changed_each
slack_changed [] slack more d e xs ys longer near = tt
slack_changed (c ∷ cs) slack more d e [] [] longer near = tt
slack_changed (c ∷ cs) slack more d e [] (y ∷ ys) longer near = absurd near
slack_changed (c ∷ cs) slack more d e (x ∷ xs) [] longer near = absurd near
slack_changed (c ∷ cs) slack more d e (x ∷ xs) (y ∷ ys) longer near =
    above_more (changed c d x) (changed c e y + (slack + more)) (changed_each cs d xs) (raised (slack + more) (changed_each cs e ys))
    (slack_one c slack more d e x y longer (above_head x (y + slack) xs (raised slack ys) near))
    (slack_changed cs slack more d e xs ys longer (above_tail x (y + slack) xs (raised slack ys) near))

pub raised_none : (xs : List ℕ) → raised 0 xs ≡ xs
unfolding raised
raised_none [] = refl
raised_none (x ∷ xs) = ap₂ ◌∷◌ (add-zero x) (raised_none xs)

-- with no slack
pub none_changed : (cs : List Change) (d e : ℕ) (xs ys : List ℕ) → d ≤ e → T (none_above xs ys) → T (none_above (changed_each cs d xs) (changed_each cs e ys))
none_changed cs d e xs ys longer near =
    subst (λ (zs : List ℕ). T (none_above (changed_each cs d xs) zs)) (raised_none (changed_each cs e ys))
    (slack_changed cs 0 0 d e xs ys (omega arith) (rw (raised_none ys) near))
