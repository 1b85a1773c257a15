-- Laws of lists by tests: members, filters, members by index, and where the first of a kind stands.
-- Assumes nothing.
use Prim.Native.Nat.{ℕ, zero, suc, ◌≤◌, ◌<◌, zero-le, suc-le-suc}
use native.Mathlib.Nat.{le_of_suc-le-suc, not-suc-le-zero}
use native.Mathlib.Omega.{arith}
use mathlib.Core.Path.{◌≡◌, refl, sym, ap, subst}
use mathlib.Core.Bool.{Bool, true, false, not}
use mathlib.Core.List.{List, [], ◌∷◌, ◌++◌, Memᴰ}
use mathlib.Core.Logic.{◌⊎◌, inl, inr, ⊎_elim}
use lib.Dec.{T, T_not, ltb, ltb→lt, nltb→le}
use lib.ListN.{length, get_or}
use Rattle.booleans.proofs.Tests.{T-cases, and_l, and_r, and_i, or_e, or_l, or_r}
use Rattle.booleans.specs.Pick.{pick}
use Rattle.theory.specs.Lists.{Decides, keep, memb, every, select, position, Distinct, distinct_nil, distinct_cons}

-- what holds of the first where the test passes, and of the second where it fails, holds of the choice
pub pick_elim : {A : Type 0} (P : A → Type 0) (b : Bool) {x y : A} → (T b → P x) → (T (not b) → P y) → P (pick b x y)
pick_elim P true f g = f tt
pick_elim P false f g = g tt

-- Members.
module _ {S : Type 0} where
  -- what holds of the head, and of every member of the tail, holds of every member
  pub mem_elim : (P : S → Type 0) {x y : S} {xs : List S} → P x → (Memᴰ y xs → P y) → Memᴰ y (x ∷ xs) → P y
  mem_elim P {x} {y} {xs} p q m = ⊎_elim (λ (e : y ≡ x). subst P (sym e) p) (λ (h : Memᴰ y xs). q h) (mathlib.Core.List.Memᴰ.cases_cons m)

  -- what is in a list with x kept before it is x, where it is kept, or was in the list
  pub keep_from : (b : Bool) {x y : S} {r : List S} → Memᴰ y (keep b x r) → (T b × (y ≡ x)) ⊎ Memᴰ y r
  keep_from true {x} {y} {r} m = ⊎_elim (λ (e : y ≡ x). inl (tt, e)) (λ (h : Memᴰ y r). inr h) (mathlib.Core.List.Memᴰ.cases_cons m)
  keep_from false m = inr m

  -- x is in it, where it is kept
  pub keep_head : (b : Bool) {x y : S} (r : List S) → T b → y ≡ x → Memᴰ y (keep b x r)
  keep_head true r t e = mathlib.Core.List.Memᴰ.head e
  keep_head false r t e = absurd t

  -- and so is all that was in the list
  pub keep_tail : (b : Bool) (x : S) {y : S} {r : List S} → Memᴰ y r → Memᴰ y (keep b x r)
  keep_tail true x m = mathlib.Core.List.Memᴰ.tail m
  keep_tail false x m = m

  -- a member that passes is selected
  pub select_in : (p : S → Bool) (l : List S) {x : S} → Memᴰ x l → T (p x) → Memᴰ x (select p l)
  unfolding select
  select_in p [] m t = m
  select_in p (y ∷ ys) {x} m t =
      ⊎_elim
      (λ (e : x ≡ y). keep_head (p y) (select p ys) (subst (λ (z : S). T (p z)) e t) e)
      (λ (h : Memᴰ x ys). keep_tail (p y) y (select_in p ys h t))
      (mathlib.Core.List.Memᴰ.cases_cons m)

  -- what is selected is a member that passes
  pub select_from : (p : S → Bool) (l : List S) {x : S} → Memᴰ x (select p l) → Memᴰ x l × T (p x)
  unfolding select
  select_from p [] m = absurd (mathlib.Core.List.Memᴰ.not-nil m)
  select_from p (y ∷ ys) {x} m =
      ⊎_elim
      (λ (h : T (p y) × (x ≡ y)). (mathlib.Core.List.Memᴰ.head h.1, subst (λ (z : S). T (p z)) (sym h.1) h.0))
      (λ (h : Memᴰ x (select p ys)). let g = select_from p ys h in (mathlib.Core.List.Memᴰ.tail g.0, g.1))
      (keep_from (p y) m)

  -- keeping what is not in the list makes no repeats
  pub keep_distinct : (b : Bool) (x : S) (r : List S) → (T b → ¬ Memᴰ x r) → Distinct r → Distinct (keep b x r)
  keep_distinct true x r n d = distinct_cons (n tt) d
  keep_distinct false x r n d = d

  -- selecting makes no repeats
  pub select_distinct : (p : S → Bool) {l : List S} → Distinct l → Distinct (select p l)
  unfolding select
  select_distinct p distinct_nil = distinct_nil
  select_distinct p (distinct_cons {x = x} {xs = xs} n d) =
      keep_distinct (p x) x (select p xs) (λ t m. n (select_from p xs m).0) (select_distinct p d)

  -- where the test of all passes, the test of each does
  pub every_at : (p : S → Bool) (l : List S) → T (every p l) → {x : S} → Memᴰ x l → T (p x)
  unfolding every
  every_at p [] t m = absurd (mathlib.Core.List.Memᴰ.not-nil m)
  every_at p (y ∷ ys) t {x} m =
      mem_elim (λ (z : S). T (p z)) (and_l (p y) (every p ys) t) (λ h. every_at p ys (and_r (p y) (every p ys) t) h) m

  -- and the other way
  pub every_of : (p : S → Bool) (l : List S) → ((x : S) → Memᴰ x l → T (p x)) → T (every p l)
  unfolding every
  every_of p [] f = tt
  every_of p (y ∷ ys) f = and_i (p y) (every p ys) (f y (mathlib.Core.List.Memᴰ.head refl)) (every_of p ys (λ x m. f x (mathlib.Core.List.Memᴰ.tail m)))

  -- where the test of membership passes, x is a member
  pub memb_mem : {eq : S → S → Bool} → Decides eq → (x : S) (l : List S) → T (memb eq x l) → Memᴰ x l
  unfolding memb
  memb_mem d x [] t = absurd t
  memb_mem {eq} d x (y ∷ ys) t =
      ⊎_elim
      (λ h. mathlib.Core.List.Memᴰ.head (d.same x y h))
      (λ h. mathlib.Core.List.Memᴰ.tail (memb_mem d x ys h))
      (or_e (eq x y) (memb eq x ys) t)

  -- and the other way
  pub mem_memb : {eq : S → S → Bool} → Decides eq → {x : S} (l : List S) → Memᴰ x l → T (memb eq x l)
  unfolding memb
  mem_memb d [] m = mathlib.Core.List.Memᴰ.not-nil m
  mem_memb {eq} d {x} (y ∷ ys) m =
      ⊎_elim
      (λ (e : x ≡ y). or_l (eq x y) (memb eq x ys) (subst (λ (z : S). T (eq x z)) e (d.self x)))
      (λ (h : Memᴰ x ys). or_r (eq x y) (memb eq x ys) (mem_memb d ys h))
      (mathlib.Core.List.Memᴰ.cases_cons m)

-- Members by index.
module _ {S : Type 0} (d : S) where
  -- what stands at an index is a member
  pub mem_at : (l : List S) (i : ℕ) → i < length l → Memᴰ (get_or l i d) l
  mem_at [] i h = absurd (not-suc-le-zero h)
  mem_at (x ∷ xs) zero h = mathlib.Core.List.Memᴰ.head refl
  mem_at (x ∷ xs) (suc i) h = mathlib.Core.List.Memᴰ.tail (mem_at xs i (le_of_suc-le-suc h))

  -- a member stands at an index
  pub at_mem : (l : List S) {x : S} → Memᴰ x l → (i : ℕ) × (i < length l) × (x ≡ get_or l i d)
  at_mem [] m = absurd (mathlib.Core.List.Memᴰ.not-nil m)
  at_mem (y ∷ ys) {x} m =
      ⊎_elim
      (λ (e : x ≡ y). (zero, suc-le-suc zero-le, e))
      (λ (h : Memᴰ x ys). let g = at_mem ys h in (suc g.0, suc-le-suc g.1, g.2))
      (mathlib.Core.List.Memᴰ.cases_cons m)

  -- what holds at each index holds of every member
  pub each_at : (l : List S) (P : S → Type 0) → ((i : ℕ) → i < length l → P (get_or l i d)) → (x : S) → Memᴰ x l → P x
  each_at l P f x m = let g = at_mem l m in subst P (sym g.2) (f g.0 g.1)

-- The first of a kind.
module _ {S : Type 0} (p : S → Bool) (d : S) where
  -- none before the position passes
  pub position_le : (l : List S) (i : ℕ) → i < length l → T (p (get_or l i d)) → position p l ≤ i
  unfolding position
  position_le [] i h t = zero-le
  position_le (x ∷ xs) zero h t = pick_elim (λ n. n ≤ zero) (p x) (λ k. zero-le) (λ k. absurd (T_not (p x) k t))
  position_le (x ∷ xs) (suc i) h t =
      pick_elim (λ n. n ≤ suc i) (p x) (λ k. zero-le) (λ k. suc-le-suc (position_le xs i (le_of_suc-le-suc h) t))

  -- the one at the position passes
  pub position_at : (l : List S) → position p l < length l → T (p (get_or l (position p l) d))
  unfolding position
  position_at [] h = absurd (not-suc-le-zero h)
  position_at (x ∷ xs) h =
      pick_elim (λ n. n < suc (length xs) → T (p (get_or (x ∷ xs) n d))) (p x) (λ k q. k) (λ k q. position_at xs (le_of_suc-le-suc q)) h

  -- the index of one that passes, where none before it does, is the position
  pub position_is : (l : List S) (i : ℕ) → i < length l → T (p (get_or l i d)) → ((j : ℕ) → j < i → ¬ T (p (get_or l j d))) → position p l ≡ i
  position_is l i h t f = at (position p l) (position_le l i h t) (λ q. position_at l q)
    where
      at : (n : ℕ) → n ≤ i → (n < length l → T (p (get_or l n d))) → n ≡ i
      at n q g = ⊎_elim (λ k. absurd (f n (ltb→lt n i k) (g (omega (arith, ltb→lt n i k))))) (λ k. omega (arith, nltb→le n i k)) (T-cases (ltb n i))

  -- what comes after the list does not change the position
  pub position_append : (l r : List S) → position p l < length l → position p (l ++ r) ≡ position p l
  unfolding position
  position_append [] r h = absurd (not-suc-le-zero h)
  position_append (x ∷ xs) r h = at (p x) h (position_append xs r)
    where
      at : (b : Bool) → pick b zero (suc (position p xs)) < suc (length xs) → (position p xs < length xs → position p (xs ++ r) ≡ position p xs)
          → pick b zero (suc (position p (xs ++ r))) ≡ pick b zero (suc (position p xs))
      at true q ih = refl
      at false q ih = ap suc (ih (le_of_suc-le-suc q))
