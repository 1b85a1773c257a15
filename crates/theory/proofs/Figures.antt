-- Lists of figures: none above is a preorder and ranks no higher, and rank is a total order. Assumes nothing.
use mathlib.Core.Path.{◌≡◌, ◌∙◌, refl, sym, ap₂}
use mathlib.Core.Bool.{◌&&◌}
use mathlib.Core.List.{List, [], ◌∷◌, ◌++◌}
use mathlib.Core.Logic.{◌⊎◌, inl, inr, ⊎_elim}
use Prim.Native.Nat.{ℕ, zero, suc, ◌≤◌, ◌<◌}
use native.Mathlib.Nat.{eq-or-lt_of_le}
use native.Mathlib.Omega.{arith}
use borrow.Author.Tests.{eq-eqb, ne_eqb, le-ltb}
use lib.Dec.{T, leb, ltb, eqb, leb→le, le→leb, ltb→lt, lt→ltb, nltb→le, eqb→eq, eqb_refl}
use lib.ListN.{length, get_or}
use Rattle.std.proofs.Math.Bool.{or-false}
use Rattle.booleans.proofs.Tests.{T-cases, and_l, and_r, and_i, or_e, or_l}
use Rattle.theory.specs.Figures.{none_above, same_each, lexicographic}

-- No figure, one figure and then the others.
pub above_end : T (none_above [] [])
unfolding none_above
above_end = tt

module _ (x y : ℕ) (xs ys : List ℕ) where
  pub above_head : T (none_above (x ∷ xs) (y ∷ ys)) → x ≤ y
  unfolding none_above
  above_head t = leb→le x y (and_l (leb x y) (none_above xs ys) t)

  pub above_tail : T (none_above (x ∷ xs) (y ∷ ys)) → T (none_above xs ys)
  unfolding none_above
  above_tail t = and_r (leb x y) (none_above xs ys) t

  pub above_more : x ≤ y → T (none_above xs ys) → T (none_above (x ∷ xs) (y ∷ ys))
  unfolding none_above
  above_more h t = and_i (leb x y) (none_above xs ys) (le→leb x y h) t

  -- as tests: a figure that differs decides
  pub rank_other : (x ≡ y → ⊥) → lexicographic (x ∷ xs) (y ∷ ys) ≡ ltb x y
  unfolding lexicographic
  rank_other other = rw (ne_eqb x y other) (or-false (ltb x y))

  pub rank_same : x ≡ y → lexicographic (x ∷ xs) (y ∷ ys) ≡ lexicographic xs ys
  unfolding lexicographic
  rank_same same = rw (eq-eqb x y same, le-ltb x y (omega arith))

  -- as facts
  rank_from : T (lexicographic (x ∷ xs) (y ∷ ys)) → (x < y) ⊎ ((x ≡ y) × T (lexicographic xs ys))
  unfolding lexicographic
  rank_from t =
      ⊎_elim
      (λ (h : T (ltb x y)). inl (ltb→lt x y h))
      (λ (h : T (eqb x y && lexicographic xs ys)). inr (eqb→eq x y (and_l (eqb x y) (lexicographic xs ys) h), and_r (eqb x y) (lexicographic xs ys) h))
      (or_e (ltb x y) (eqb x y && lexicographic xs ys) t)

  pub rank_below : x < y → T (lexicographic (x ∷ xs) (y ∷ ys))
  unfolding lexicographic
  rank_below h = or_l (ltb x y) (eqb x y && lexicographic xs ys) (lt→ltb x y h)

  rank_next : x ≡ y → T (lexicographic xs ys) → T (lexicographic (x ∷ xs) (y ∷ ys))
  rank_next e t = rw (rank_same e) t

  -- what ranks no higher has no higher first figure
  pub rank_head : T (lexicographic (x ∷ xs) (y ∷ ys)) → x ≤ y
  rank_head t = ⊎_elim (λ (h : x < y). omega arith) (λ (h : (x ≡ y) × T (lexicographic xs ys)). omega arith) (rank_from t)

-- None above is a preorder, carries over to lists put behind each other, to their first parts and to each place, and ranks no higher.
pub above_self : (xs : List ℕ) → T (none_above xs xs)
unfolding none_above
above_self [] = tt
above_self (x ∷ xs) = above_more x x xs xs (omega arith) (above_self xs)

pub above_trans : (zs xs ys : List ℕ) → T (none_above zs xs) → T (none_above xs ys) → T (none_above zs ys)
unfolding none_above
above_trans [] [] ys p q = q
above_trans [] (x ∷ xs) ys p q = absurd p
above_trans (z ∷ zs) [] ys p q = absurd p
above_trans (z ∷ zs) (x ∷ xs) [] p q = absurd q
above_trans (z ∷ zs) (x ∷ xs) (y ∷ ys) p q =
    above_more z y zs ys (omega (arith, above_head z x zs xs p, above_head x y xs ys q)) (above_trans zs xs ys (above_tail z x zs xs p) (above_tail x y xs ys q))

pub above_both : (xs ys ws zs : List ℕ) → T (none_above xs ys) → T (none_above ws zs) → T (none_above (xs ++ ws) (ys ++ zs))
unfolding none_above
above_both [] [] ws zs p q = q
above_both [] (y ∷ ys) ws zs p q = absurd p
above_both (x ∷ xs) [] ws zs p q = absurd p
above_both (x ∷ xs) (y ∷ ys) ws zs p q =
    above_more x y (xs ++ ws) (ys ++ zs) (above_head x y xs ys p) (above_both xs ys ws zs (above_tail x y xs ys p) q)

pub above_first : (xs ys ws zs : List ℕ) → length xs ≡ length ys → T (none_above (xs ++ ws) (ys ++ zs)) → T (none_above xs ys)
unfolding none_above
above_first [] [] ws zs same t = tt
above_first [] (y ∷ ys) ws zs same t = absurd (omega arith)
above_first (x ∷ xs) [] ws zs same t = absurd (omega arith)
above_first (x ∷ xs) (y ∷ ys) ws zs same t =
    above_more x y xs ys (above_head x y (xs ++ ws) (ys ++ zs) t)
    (above_first xs ys ws zs (omega arith) (above_tail x y (xs ++ ws) (ys ++ zs) t))

pub above_at : (xs ys : List ℕ) (i : ℕ) → T (none_above xs ys) → get_or xs i 0 ≤ get_or ys i 0
unfolding none_above
above_at [] [] i t = omega arith
above_at [] (y ∷ ys) i t = absurd t
above_at (x ∷ xs) [] i t = absurd t
above_at (x ∷ xs) (y ∷ ys) zero t = above_head x y xs ys t
above_at (x ∷ xs) (y ∷ ys) (suc i) t = above_at xs ys i (above_tail x y xs ys t)

pub above_rank : (xs ys : List ℕ) → T (none_above xs ys) → T (lexicographic xs ys)
unfolding none_above lexicographic
above_rank [] ys t = tt
above_rank (x ∷ xs) [] t = absurd t
above_rank (x ∷ xs) (y ∷ ys) t =
    ⊎_elim
    (λ (e : x ≡ y). rank_next x y xs ys e (above_rank xs ys (above_tail x y xs ys t)))
    (λ (l : x < y). rank_below x y xs ys l)
    (eq-or-lt_of_le (above_head x y xs ys t))

-- Equal lists are told apart from others.
pub same_self : (xs : List ℕ) → T (same_each xs xs)
unfolding same_each
same_self [] = tt
same_self (x ∷ xs) = and_i (eqb x x) (same_each xs xs) (eqb_refl x) (same_self xs)

pub same_lists : (xs ys : List ℕ) → T (same_each xs ys) → xs ≡ ys
unfolding same_each
same_lists [] [] t = refl
same_lists [] (y ∷ ys) t = absurd t
same_lists (x ∷ xs) [] t = absurd t
same_lists (x ∷ xs) (y ∷ ys) t =
    ap₂ ◌∷◌ (eqb→eq x y (and_l (eqb x y) (same_each xs ys) t)) (same_lists xs ys (and_r (eqb x y) (same_each xs ys) t))

-- Rank is a total order.
pub rank_trans : (zs xs ys : List ℕ) → T (lexicographic zs xs) → T (lexicographic xs ys) → T (lexicographic zs ys)
unfolding lexicographic
rank_trans [] xs ys p q = tt
rank_trans (z ∷ zs) [] ys p q = absurd p
rank_trans (z ∷ zs) (x ∷ xs) [] p q = absurd q
rank_trans (z ∷ zs) (x ∷ xs) (y ∷ ys) p q =
    ⊎_elim
    (λ (h : z < x). rank_below z y zs ys (omega (arith, rank_head x y xs ys q)))
    (λ (h : (z ≡ x) × T (lexicographic zs xs)).
    ⊎_elim
    (λ (k : x < y). rank_below z y zs ys (omega arith))
    (λ (k : (x ≡ y) × T (lexicographic xs ys)). rank_next z y zs ys (h.0 ∙ k.0) (rank_trans zs xs ys h.1 k.1))
    (rank_from x y xs ys q))
    (rank_from z x zs xs p)

pub rank_total : (xs ys : List ℕ) → T (lexicographic xs ys) ⊎ T (lexicographic ys xs)
unfolding lexicographic
rank_total [] ys = inl tt
rank_total (x ∷ xs) [] = inr tt
rank_total (x ∷ xs) (y ∷ ys) =
    ⊎_elim
    (λ (h : T (ltb x y)). inl (rank_below x y xs ys (ltb→lt x y h)))
    (λ h.
    ⊎_elim
    (λ (e : y ≡ x).
    ⊎_elim
    (λ (t : T (lexicographic xs ys)). inl (rank_next x y xs ys (sym e) t))
    (λ (t : T (lexicographic ys xs)). inr (rank_next y x ys xs e t))
    (rank_total xs ys))
    (λ (l : y < x). inr (rank_below y x ys xs l))
    (eq-or-lt_of_le (nltb→le x y h)))
    (T-cases (ltb x y))

pub rank_antisym : (xs ys : List ℕ) → T (lexicographic xs ys) → T (lexicographic ys xs) → xs ≡ ys
unfolding lexicographic
rank_antisym [] [] p q = refl
rank_antisym [] (y ∷ ys) p q = absurd q
rank_antisym (x ∷ xs) [] p q = absurd p
rank_antisym (x ∷ xs) (y ∷ ys) p q =
    ⊎_elim
    (λ (h : x < y). absurd (omega (arith, rank_head y x ys xs q)))
    (λ (h : (x ≡ y) × T (lexicographic xs ys)).
    ⊎_elim
    (λ (k : y < x). absurd (omega arith))
    (λ (k : (y ≡ x) × T (lexicographic ys xs)). ap₂ ◌∷◌ h.0 (rank_antisym xs ys h.1 k.1))
    (rank_from y x ys xs q))
    (rank_from x y xs ys p)
