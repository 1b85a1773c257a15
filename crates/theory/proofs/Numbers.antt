-- The number whose digits the figures are: below base ^ length, and ordered as the lists rank. Assumes nothing.
use mathlib.Core.Path.{◌≡◌, ◌∙◌, refl, sym, subst}
use mathlib.Core.Bool.{true, false}
use mathlib.Core.List.{List, [], ◌∷◌, ◌++◌}
use mathlib.Core.Logic.{⊎_elim}
use Prim.Native.Nat.{ℕ, ◌+◌, ◌*◌, ◌^◌, ◌<◌}
use native.Mathlib.Nat.{eq-or-lt_of_le, pow-zero, pow-succ'}
use native.Mathlib.Omega.{arith}
use borrow.Author.Tests.{le-leb, lt-leb, le-ltb, leb-true, leb-false, ltb-true, ltb-false}
use lib.Dec.{T, leb, ltb, ltb→lt, lt→ltb}
use lib.Arith.{digits_lt}
use lib.ListN.{length}
use Rattle.booleans.proofs.Tests.{cases, T_true, and_l, and_r, and_i}
use Rattle.theory.specs.Figures.{none_above, lexicographic}
use Rattle.theory.specs.Numbers.{as_number, all_below}
use Rattle.theory.proofs.Figures.{above_head, above_tail, rank_below, rank_same, rank_other}

-- No digit, one digit and then the others.
pub small_end : (base : ℕ) → T (all_below base [])
unfolding all_below
small_end base = tt

module _ (x base : ℕ) (xs : List ℕ) where
  pub small_head : T (all_below base (x ∷ xs)) → x < base
  unfolding all_below
  small_head t = ltb→lt x base (and_l (ltb x base) (all_below base xs) t)

  pub small_tail : T (all_below base (x ∷ xs)) → T (all_below base xs)
  unfolding all_below
  small_tail t = and_r (ltb x base) (all_below base xs) t

  pub small_more : x < base → T (all_below base xs) → T (all_below base (x ∷ xs))
  unfolding all_below
  small_more h t = and_i (ltb x base) (all_below base xs) (lt→ltb x base h) t

pub small_both : (base : ℕ) (xs ys : List ℕ) → T (all_below base xs) → T (all_below base ys) → T (all_below base (xs ++ ys))
unfolding all_below
small_both base [] ys p q = q
small_both base (x ∷ xs) ys p q = small_more x base (xs ++ ys) (small_head x base xs p) (small_both base xs ys (small_tail x base xs p) q)

-- figures not above digits are digits
pub small_above : (base : ℕ) (xs ys : List ℕ) → T (none_above xs ys) → T (all_below base ys) → T (all_below base xs)
unfolding none_above all_below
small_above base [] ys p q = tt
small_above base (x ∷ xs) [] p q = absurd p
small_above base (x ∷ xs) (y ∷ ys) p q =
    small_more x base xs (omega (arith, above_head x y xs ys p, small_head y base ys q)) (small_above base xs ys (above_tail x y xs ys p) (small_tail y base ys q))

pub number_top : (base : ℕ) (xs : List ℕ) → T (all_below base xs) → as_number base xs < base ^ length xs
unfolding all_below as_number
number_top base [] t = rw (pow-zero base) (omega arith)
number_top base (x ∷ xs) t =
    rw (pow-succ' base (length xs))
    (digits_lt {m = base} {c = base ^ length xs} (small_head x base xs t) (number_top base xs (small_tail x base xs t)))

-- a test of sums with one part in common is that of the others
leb_plus : (p n m : ℕ) → leb n m ≡ leb (p + n) (p + m)
leb_plus p n m =
    ⊎_elim
    (λ (e : leb n m ≡ true). e ∙ sym (le-leb (p + n) (p + m) (omega (arith, leb-true n m e))))
    (λ (e : leb n m ≡ false). e ∙ sym (lt-leb (p + n) (p + m) (omega (arith, leb-false n m e))))
    (cases (leb n m))

-- a lower first figure makes the lower number
number_lower : (base x y : ℕ) (xs ys : List ℕ) → length xs ≡ length ys → T (all_below base xs) → x < y → as_number base (x ∷ xs) < as_number base (y ∷ ys)
unfolding as_number
number_lower base x y xs ys same small h =
    rw same
    (omega (arith, digits_lt {m = y} {c = base ^ length ys} h (subst (λ (n : ℕ). as_number base xs < base ^ n) same (number_top base xs small))))

-- of lists of one length
pub number_rank : (base : ℕ) (xs ys : List ℕ) → length xs ≡ length ys → T (all_below base xs) → T (all_below base ys) → lexicographic xs ys ≡ leb (as_number base xs) (as_number base ys)
unfolding lexicographic as_number
number_rank base [] [] same p q = refl
number_rank base [] (y ∷ ys) same p q = absurd (omega arith)
number_rank base (x ∷ xs) [] same p q = absurd (omega arith)
number_rank base (x ∷ xs) (y ∷ ys) same p q =
    ⊎_elim
    (λ (e : ltb x y ≡ true).
    let h : x < y = ltb-true x y e in
    T_true (rank_below x y xs ys h) ∙ sym (le-leb (as_number base (x ∷ xs)) (as_number base (y ∷ ys)) (omega (arith, number_lower base x y xs ys longer (small_tail x base xs p) h))))
    (λ (e : ltb x y ≡ false).
    ⊎_elim
    (λ (e : y ≡ x).
    rank_same x y xs ys (sym e) ∙ number_rank base xs ys longer (small_tail x base xs p) (small_tail y base ys q)
    ∙ next (sym e))
    (λ (l : y < x).
    rank_other x y xs ys (λ e. omega arith) ∙ le-ltb x y (omega arith) ∙ sym (lt-leb (as_number base (x ∷ xs)) (as_number base (y ∷ ys)) (number_lower base y x ys xs (sym longer) (small_tail y base ys q) l)))
    (eq-or-lt_of_le (ltb-false x y e)))
    (cases (ltb x y))
  where
    longer : length xs ≡ length ys
    longer = omega arith

    next : x ≡ y → leb (as_number base xs) (as_number base ys) ≡ leb (as_number base (x ∷ xs)) (as_number base (y ∷ ys))
    next e = rw (e, longer) (leb_plus (y * base ^ length ys) (as_number base xs) (as_number base ys))
