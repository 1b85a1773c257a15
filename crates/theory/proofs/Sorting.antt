-- Laws of rank: the least member, sorting, and lists that rise strictly.
-- Assumes nothing.
use Prim.Native.Nat.{ℕ, zero, suc, ◌≤◌, ◌<◌, zero-le, suc-le-suc}
use native.Mathlib.Nat.{le_of_suc-le-suc, not-suc-le-zero}
use native.Mathlib.Omega.{arith}
use mathlib.Core.Path.{◌≡◌, refl, sym, ap, subst, ◌∙◌}
use mathlib.Core.Bool.{Bool, not}
use mathlib.Core.List.Memᴰ
use mathlib.Core.List.{List, [], ◌∷◌, ◌++◌, Memᴰ}
use mathlib.Core.Logic.{◌⊎◌, inl, inr, ⊎_elim}
use mathlib.Core.Option.{Option, none, some}
use lib.Dec.{T, T_not, not_T, ltb, ltb→lt, nltb→le}
use lib.ListN.{length, get_or}
use Rattle.booleans.proofs.Tests.{T-cases}
use Rattle.theory.specs.Lists.{Order, lower, least, IsLeast, insert, sorted, Distinct, distinct_nil, distinct_cons, StrictlySorted, sorted_nil, sorted_cons}
use Rattle.theory.proofs.Lists.{pick_elim, mem_elim, mem_at}

module _ {S : Type 0} {le : S → S → Bool} (order : Order le) where
  -- each ranks no higher than itself
  pub le_self : (x : S) → T (le x x)
  le_self x = ⊎_elim (λ h. h) (λ h. h) (order.total x x)

  -- of two where the second does not rank at or below the first, the first ranks no higher
  pub le_of_not : (x y : S) → T (not (le y x)) → T (le x y)
  le_of_not x y n = ⊎_elim (λ h. h) (λ h. absurd (T_not (le y x) n h)) (order.total x y)

  -- of two different ones the one that ranks no higher ranks strictly below
  pub strictly : (x y : S) → T (le x y) → ¬ (x ≡ y) → T (not (le y x))
  strictly x y h n = not_T (le y x) (λ k. n (order.antisym x y h k))

  -- none ranks strictly below itself
  pub never_self : (x y : S) → x ≡ y → ¬ T (not (le x y))
  never_self x y e n = T_not (le x y) n (subst (λ (z : S). T (le x z)) e (le_self x))

  -- the least member is what it is meant to be
  pub least_is : (l : List S) → IsLeast le l (least le l)
  unfolding least
  least_is [] = λ x m. Memᴰ.not-nil m
  least_is (x ∷ xs) = at (least le xs) (least_is xs)
    where
      head_least : ((z : S) → Memᴰ z xs → T (le x z)) → IsLeast le (x ∷ xs) (some x)
      head_least f = (Memᴰ.head refl, λ z m. mem_elim (λ w. T (le x w)) (le_self x) (f z) m)

      at : (o : Option S) → IsLeast le xs o → IsLeast le (x ∷ xs) (lower le x o)
      at none h = head_least (λ z q. absurd (h z q))
      at (some y) h =
          pick_elim (λ c. IsLeast le (x ∷ xs) (some c)) (le x y)
          (λ t. head_least (λ z q. order.trans x y z t (h.1 z q)))
          (λ t. (Memᴰ.tail h.0, λ z m. mem_elim (λ w. T (le y w)) (le_of_not y x t) (h.1 z) m))

  -- inserting x adds nothing but x
  pub insert_from : (x : S) (l : List S) {z : S} → Memᴰ z (insert le x l) → Memᴰ z (x ∷ l)
  unfolding insert
  insert_from x [] m = m
  insert_from x (y ∷ ys) {z} m = pick_elim (λ l. Memᴰ z l → Memᴰ z (x ∷ y ∷ ys)) (le x y) (λ t h. h) (λ t h. later (insert_from x ys) h) m
    where
      later : (Memᴰ z (insert le x ys) → Memᴰ z (x ∷ ys)) → Memᴰ z (y ∷ insert le x ys) → Memᴰ z (x ∷ y ∷ ys)
      later ih h =
          ⊎_elim
          (λ (e : z ≡ y). Memᴰ.tail (Memᴰ.head e))
          (λ (k : Memᴰ z (insert le x ys)).
          ⊎_elim (λ (e : z ≡ x). Memᴰ.head e) (λ (q : Memᴰ z ys). Memᴰ.tail (Memᴰ.tail q)) (Memᴰ.cases_cons (ih k)))
          (Memᴰ.cases_cons h)

  -- and keeps x and all that was there
  pub insert_in : (x : S) (l : List S) {z : S} → Memᴰ z (x ∷ l) → Memᴰ z (insert le x l)
  unfolding insert
  insert_in x [] m = m
  insert_in x (y ∷ ys) {z} m = pick_elim (λ l. Memᴰ z l) (le x y) (λ t. m) (λ t. later (insert_in x ys))
    where
      later : (Memᴰ z (x ∷ ys) → Memᴰ z (insert le x ys)) → Memᴰ z (y ∷ insert le x ys)
      later ih =
          ⊎_elim
          (λ (e : z ≡ x). Memᴰ.tail (ih (Memᴰ.head e)))
          (λ (k : Memᴰ z (y ∷ ys)).
          ⊎_elim (λ (e : z ≡ y). Memᴰ.head e) (λ (q : Memᴰ z ys). Memᴰ.tail (ih (Memᴰ.tail q))) (Memᴰ.cases_cons k))
          (Memᴰ.cases_cons m)

  -- inserting what is not there keeps the strict rise
  insert_strict : (x : S) {l : List S} → StrictlySorted le l → ¬ Memᴰ x l → StrictlySorted le (insert le x l)
  unfolding insert
  insert_strict x sorted_nil n = sorted_cons (λ y m. absurd (Memᴰ.not-nil m)) sorted_nil
  insert_strict x (sorted_cons {x = y} {xs = ys} f s) n =
      pick_elim (StrictlySorted le) (le x y)
      (λ t. sorted_cons (λ z m. mem_elim (λ w. T (not (le w x)))
      (strictly x y t (λ e. n (Memᴰ.head e)))
      (λ q. not_T (le z x) (λ h. T_not (le z y) (f z q) (order.trans z x y h t))) m) (sorted_cons f s))
      (λ t. sorted_cons (λ z m. mem_elim (λ w. T (not (le w y))) t (f z) (insert_from x ys m)) (insert_strict x s (λ m. n (Memᴰ.tail m))))

  -- sorting adds no member
  pub sorted_from : (l : List S) {z : S} → Memᴰ z (sorted le l) → Memᴰ z l
  unfolding sorted
  sorted_from [] m = m
  sorted_from (x ∷ xs) {z} m =
      ⊎_elim (λ (e : z ≡ x). Memᴰ.head e) (λ (h : Memᴰ z (sorted le xs)). Memᴰ.tail (sorted_from xs h))
      (Memᴰ.cases_cons (insert_from x (sorted le xs) m))

  -- and loses none
  pub sorted_in : (l : List S) {z : S} → Memᴰ z l → Memᴰ z (sorted le l)
  unfolding sorted
  sorted_in [] m = m
  sorted_in (x ∷ xs) {z} m =
      insert_in x (sorted le xs) (⊎_elim (λ (e : z ≡ x). Memᴰ.head e) (λ (h : Memᴰ z xs). Memᴰ.tail (sorted_in xs h)) (Memᴰ.cases_cons m))

  -- a list without repeats, sorted, rises strictly
  pub sorted_strict : {l : List S} → Distinct l → StrictlySorted le (sorted le l)
  unfolding sorted
  sorted_strict distinct_nil = sorted_nil
  sorted_strict (distinct_cons {x = x} {xs = xs} n d) = insert_strict x (sorted_strict d) (λ m. n (sorted_from xs m))

  -- a member that ranks above what equals the head is in the tail
  not_head : (x y z : S) (l : List S) → y ≡ z → T (not (le x y)) → Memᴰ x (z ∷ l) → Memᴰ x l
  not_head x y z l e n m =
      ⊎_elim (λ (q : x ≡ z). absurd (never_self x y (q ∙ sym e) n)) (λ (q : Memᴰ x l). q) (Memᴰ.cases_cons m)

  -- what rises strictly and has the same members is the same list
  pub strict_unique : {A B : List S} → StrictlySorted le A → StrictlySorted le B
      → ((x : S) → Memᴰ x A → Memᴰ x B) → ((x : S) → Memᴰ x B → Memᴰ x A) → A ≡ B
  strict_unique sorted_nil sorted_nil f g = refl
  strict_unique sorted_nil (sorted_cons {x = b} h s) f g = absurd (Memᴰ.not-nil (g b (Memᴰ.head refl)))
  strict_unique (sorted_cons {x = a} h s) sorted_nil f g = absurd (Memᴰ.not-nil (f a (Memᴰ.head refl)))
  strict_unique (sorted_cons {x = a} {xs = xs} h s) (sorted_cons {x = b} {xs = ys} k t) f g =
      let heads : a ≡ b = first (Memᴰ.cases_cons (f a (Memᴰ.head refl))) (Memᴰ.cases_cons (g b (Memᴰ.head refl))) in
      let tails : xs ≡ ys = strict_unique s t
      (λ x m. not_head x a b ys heads (h x m) (f x (Memᴰ.tail m)))
      (λ x m. not_head x b a xs (sym heads) (k x m) (g x (Memᴰ.tail m))) in
      cc
    where
      first : (a ≡ b) ⊎ Memᴰ a ys → (b ≡ a) ⊎ Memᴰ b xs → a ≡ b
      first (inl e) q = e
      first (inr p) (inl e) = sym e
      first (inr p) (inr q) = absurd (T_not (le a b) (k a p) (le_of_not a b (h b q)))

  -- what rises strictly and has its members in another such list is no longer than that
  pub strict_length : {A B : List S} → StrictlySorted le A → StrictlySorted le B → ((x : S) → Memᴰ x A → Memᴰ x B) → length A ≤ length B
  strict_length sorted_nil sorted_nil f = zero-le
  strict_length (sorted_cons {x = a} h s) sorted_nil f = absurd (Memᴰ.not-nil (f a (Memᴰ.head refl)))
  strict_length {A = A} s (sorted_cons {x = b} {xs = ys} k t) f = at s f (λ A' s' g. strict_length {A = A'} s' t g)
    where
      at : {A : List S} → StrictlySorted le A → ((x : S) → Memᴰ x A → Memᴰ x (b ∷ ys))
          → ((A' : List S) → StrictlySorted le A' → ((x : S) → Memᴰ x A' → Memᴰ x ys) → length A' ≤ length ys) → length A ≤ suc (length ys)
      at sorted_nil f ih = zero-le
      at (sorted_cons {x = a} {xs = xs} h s) f ih =
          ⊎_elim
          (λ (e : a ≡ b). suc-le-suc (ih xs s (λ x m. not_head x a b ys e (h x m) (f x (Memᴰ.tail m)))))
          (λ (q : Memᴰ a ys). le_step (ih (a ∷ xs) (sorted_cons h s) (λ x m. mem_elim (λ z. Memᴰ z ys) q (λ n. lower_in x q (h x n) (f x (Memᴰ.tail n))) m)))
          (Memᴰ.cases_cons (f a (Memᴰ.head refl)))
        where
          le_step : {n m : ℕ} → n ≤ m → n ≤ suc m
          le_step h = omega arith

          lower_in : (x : S) → Memᴰ a ys → T (not (le x a)) → Memᴰ x (b ∷ ys) → Memᴰ x ys
          lower_in x q n m =
              ⊎_elim
              (λ (e : x ≡ b). absurd (T_not (le a b) (k a q) (subst (λ (z : S). T (le a z)) e (le_of_not a x n))))
              (λ (r : Memᴰ x ys). r)
              (Memᴰ.cases_cons m)

  -- one more that ranks above all
  pub strict_snoc : {l : List S} (c : S) → StrictlySorted le l → ((x : S) → Memᴰ x l → T (not (le c x))) → StrictlySorted le (l ++ c ∷ [])
  strict_snoc c sorted_nil f = sorted_cons (λ y m. absurd (Memᴰ.not-nil m)) sorted_nil
  strict_snoc c (sorted_cons {x = x} {xs = xs} h s) f =
      sorted_cons
      (λ y m.
      ⊎_elim (λ (q : Memᴰ y xs). h y q) (λ (q : Memᴰ y (c ∷ [])). subst (λ (z : S). T (not (le z x))) (sym (Memᴰ.eq_of_singleton q)) (f x (Memᴰ.head refl)))
      (Memᴰ.append_cases xs m))
      (strict_snoc c s (λ y m. f y (Memᴰ.tail m)))

  -- By index.
  module _ (d : S) where
    -- one that stands after another ranks above it
    pub strict_at : {l : List S} → StrictlySorted le l → (i j : ℕ) → i < j → j < length l → T (not (le (get_or l j d) (get_or l i d)))
    strict_at sorted_nil i j h k = absurd (not-suc-le-zero k)
    strict_at (sorted_cons f s) i zero h k = absurd (not-suc-le-zero h)
    strict_at (sorted_cons {xs = xs} f s) zero (suc j) h k = f (get_or xs j d) (mem_at d xs j (le_of_suc-le-suc k))
    strict_at (sorted_cons f s) (suc i) (suc j) h k = strict_at s i j (le_of_suc-le-suc h) (le_of_suc-le-suc k)

    -- the first ranks no higher than any
    pub strict_first : {l : List S} → StrictlySorted le l → (x : S) → Memᴰ x l → T (le (get_or l 0 d) x)
    strict_first sorted_nil x m = absurd (Memᴰ.not-nil m)
    strict_first (sorted_cons {x = y} h s) x m = mem_elim (λ z. T (le y z)) (le_self y) (λ q. le_of_not y x (h x q)) m

    -- one that ranks below another stands before it
    pub strict_before : {l : List S} → StrictlySorted le l → (i j : ℕ) → i < length l → T (not (le (get_or l j d) (get_or l i d))) → i < j
    strict_before {l} s i j h n = ⊎_elim (λ k. ltb→lt i j k) (λ k. absurd (not_after (nltb→le i j k))) (T-cases (ltb i j))
      where
        not_after : ¬ (j ≤ i)
        not_after k =
            ⊎_elim
            (λ q. T_not (le (get_or l j d) (get_or l i d)) n (le_of_not (get_or l j d) (get_or l i d) (strict_at s j i (ltb→lt j i q) h)))
            (λ q. never_self (get_or l j d) (get_or l i d) (ap (λ (m : ℕ). get_or l m d) (omega (arith, k, nltb→le j i q))) n)
            (T-cases (ltb j i))
