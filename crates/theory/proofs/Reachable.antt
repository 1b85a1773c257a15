-- The list of reachable states has each of them once, and nothing else.
-- Assumes nothing.
use Prim.Native.Nat.{ℕ, zero, suc, ◌+◌, ◌≤◌}
use native.Mathlib.Omega.{arith}
use mathlib.Core.Path.{◌≡◌, refl, sym, subst}
use mathlib.Core.Bool.{Bool, not, ◌||◌}
use mathlib.Core.List.{List, [], ◌∷◌, ◌++◌, Memᴰ}
use mathlib.Core.Logic.{◌⊎◌, inl, inr, ⊎_elim}
use lib.Dec.{T, T_not}
use Rattle.booleans.proofs.Tests.{T-cases, or_e, or_l, or_r}
use Rattle.theory.specs.Lists.{Decides, memb, keep, Distinct, distinct_nil, distinct_cons}
use Rattle.theory.specs.States.{Reach, start, step, Rises}
use Rattle.theory.specs.Reachable.{onward, fresh, explore, reachable, AllReached}
use Rattle.theory.proofs.Lists.{keep_from, keep_head, keep_tail, keep_distinct, memb_mem, mem_memb}

module _ {S : Type 0} where
  -- what a member leads to, the list leads to
  pub onward_in : (succs : S → List S) (l : List S) {s t : S} → Memᴰ s l → Memᴰ t (succs s) → Memᴰ t (onward succs l)
  unfolding onward
  onward_in succs [] m k = absurd (mathlib.Core.List.Memᴰ.not-nil m)
  onward_in succs (x ∷ xs) {s} {t} m k =
      ⊎_elim
      (λ (e : s ≡ x). mathlib.Core.List.Memᴰ.append_left (onward succs xs) (subst (λ (z : S). Memᴰ t (succs z)) e k))
      (λ (h : Memᴰ s xs). mathlib.Core.List.Memᴰ.append_right (succs x) (onward_in succs xs h k))
      (mathlib.Core.List.Memᴰ.cases_cons m)

  -- what the list leads to, some member leads to
  pub onward_from : (succs : S → List S) (l : List S) {t : S} → Memᴰ t (onward succs l) → (s : S) × Memᴰ s l × Memᴰ t (succs s)
  unfolding onward
  onward_from succs [] m = absurd (mathlib.Core.List.Memᴰ.not-nil m)
  onward_from succs (x ∷ xs) {t} m =
      ⊎_elim
      (λ (h : Memᴰ t (succs x)). (x, mathlib.Core.List.Memᴰ.head refl, h))
      (λ (h : Memᴰ t (onward succs xs)). let g = onward_from succs xs h in (g.0, mathlib.Core.List.Memᴰ.tail g.1, g.2))
      (mathlib.Core.List.Memᴰ.append_cases (succs x) m)

  -- two lists without repeats and without a common member, one after the other, have no repeats
  append_distinct : {l r : List S} → Distinct l → Distinct r → ((x : S) → Memᴰ x l → ¬ Memᴰ x r) → Distinct (l ++ r)
  append_distinct distinct_nil e f = e
  append_distinct (distinct_cons {x = x} {xs = xs} n d) e f =
      distinct_cons (λ m. ⊎_elim n (f x (mathlib.Core.List.Memᴰ.head refl)) (mathlib.Core.List.Memᴰ.append_cases xs m)) (append_distinct d e (λ y m. f y (mathlib.Core.List.Memᴰ.tail m)))

-- What is fresh.
module _ {S : Type 0} {eq : S → S → Bool} (dec : Decides eq) (seen : List S) where
  -- the test in `fresh`, for the head x and what is fresh of the tail
  abbrev old : S → List S → Bool
  old x r = memb eq x seen || memb eq x r

  -- what is fresh is in the list
  fresh_from : (l : List S) {y : S} → Memᴰ y (fresh eq seen l) → Memᴰ y l
  unfolding fresh
  fresh_from [] m = m
  fresh_from (x ∷ xs) {y} m =
      ⊎_elim
      (λ (h : T (not (old x (fresh eq seen xs))) × (y ≡ x)). mathlib.Core.List.Memᴰ.head h.1)
      (λ (h : Memᴰ y (fresh eq seen xs)). mathlib.Core.List.Memᴰ.tail (fresh_from xs h))
      (keep_from (not (old x (fresh eq seen xs))) m)

  -- nothing fresh was seen
  fresh_new : (l : List S) (y : S) → Memᴰ y (fresh eq seen l) → ¬ Memᴰ y seen
  unfolding fresh
  fresh_new [] y m = absurd (mathlib.Core.List.Memᴰ.not-nil m)
  fresh_new (x ∷ xs) y m =
      ⊎_elim
      (λ (h : T (not (old x (fresh eq seen xs))) × (y ≡ x)) k.
      T_not (old x (fresh eq seen xs)) h.0 (or_l (memb eq x seen) (memb eq x (fresh eq seen xs)) (mem_memb dec seen (mathlib.Core.List.Memᴰ.cast (sym h.1) k))))
      (λ (h : Memᴰ y (fresh eq seen xs)). fresh_new xs y h)
      (keep_from (not (old x (fresh eq seen xs))) m)

  -- nothing fresh is repeated
  fresh_distinct : (l : List S) → Distinct (fresh eq seen l)
  unfolding fresh
  fresh_distinct [] = distinct_nil
  fresh_distinct (x ∷ xs) =
      let r = fresh eq seen xs in
      keep_distinct (not (old x r)) x r (λ t m. T_not (old x r) t (or_r (memb eq x seen) (memb eq x r) (mem_memb dec r m))) (fresh_distinct xs)

  -- all that the list has is fresh or seen
  fresh_in : (l : List S) {y : S} → Memᴰ y l → Memᴰ y (fresh eq seen l ++ seen)
  unfolding fresh
  fresh_in [] m = absurd (mathlib.Core.List.Memᴰ.not-nil m)
  fresh_in (x ∷ xs) {y} m = ⊎_elim at_head (λ (h : Memᴰ y xs). more (fresh_in xs h)) (mathlib.Core.List.Memᴰ.cases_cons m)
    where
      r : List S
      r = fresh eq seen xs

      test : Bool
      test = not (old x r)

      more : Memᴰ y (r ++ seen) → Memᴰ y (keep test x r ++ seen)
      more h =
          ⊎_elim
          (λ (k : Memᴰ y r). mathlib.Core.List.Memᴰ.append_left seen (keep_tail test x k))
          (λ (k : Memᴰ y seen). mathlib.Core.List.Memᴰ.append_right (keep test x r) k)
          (mathlib.Core.List.Memᴰ.append_cases r h)

      at_head : y ≡ x → Memᴰ y (keep test x r ++ seen)
      at_head e =
          ⊎_elim
          (λ (k : T (old x r)). more (mathlib.Core.List.Memᴰ.cast e (
          ⊎_elim
          (λ (a : T (memb eq x seen)). mathlib.Core.List.Memᴰ.append_right r (memb_mem dec x seen a))
          (λ (a : T (memb eq x r)). mathlib.Core.List.Memᴰ.append_left seen (memb_mem dec x r a))
          (or_e (memb eq x seen) (memb eq x r) k))))
          (λ (k : T test). mathlib.Core.List.Memᴰ.append_left seen (keep_head test r k e))
          (T-cases (old x r))

module _ {S : Type 0} (succs : S → List S) {eq : S → S → Bool} (dec : Decides eq) (s₀ : S) where
  -- One turn: the frontier x ∷ xs is expanded.
  module _ (seen : List S) (x : S) (xs : List S) where
    abbrev new : List S
    new = fresh eq seen (onward succs (x ∷ xs))

    new_from : {t : S} → Memᴰ t new → (s : S) × Memᴰ s (x ∷ xs) × Memᴰ t (succs s)
    new_from m = onward_from succs (x ∷ xs) (fresh_from dec seen (onward succs (x ∷ xs)) m)

  -- what is found is reachable, if what was seen is
  explore_sound : (n : ℕ) (seen front : List S)
      → ((x : S) → Memᴰ x seen → Reach succs s₀ x) → ((x : S) → Memᴰ x front → Reach succs s₀ x)
      → {y : S} → Memᴰ y (explore succs eq n seen front) → Reach succs s₀ y
  unfolding explore
  explore_sound zero seen front p q {y} m = p y m
  explore_sound (suc n) seen [] p q {y} m = p y m
  explore_sound (suc n) seen (x ∷ xs) p q m = explore_sound n (new seen x xs ++ seen) (new seen x xs) p' q' m
    where
      q' : (z : S) → Memᴰ z (new seen x xs) → Reach succs s₀ z
      q' z h = let g = new_from seen x xs h in step (q g.0 g.1) g.2

      p' : (z : S) → Memᴰ z (new seen x xs ++ seen) → Reach succs s₀ z
      p' z h = ⊎_elim (q' z) (p z) (mathlib.Core.List.Memᴰ.append_cases (new seen x xs) h)

  -- nothing found is repeated
  explore_distinct : (n : ℕ) (seen front : List S) → Distinct seen → Distinct (explore succs eq n seen front)
  unfolding explore
  explore_distinct zero seen front d = d
  explore_distinct (suc n) seen [] d = d
  explore_distinct (suc n) seen (x ∷ xs) d =
      let l = onward succs (x ∷ xs) in
      explore_distinct n (new seen x xs ++ seen) (new seen x xs) (append_distinct (fresh_distinct dec seen l) d (fresh_new dec seen l))

  -- all that was seen is found
  explore_keeps : (n : ℕ) (seen front : List S) {y : S} → Memᴰ y seen → Memᴰ y (explore succs eq n seen front)
  unfolding explore
  explore_keeps zero seen front m = m
  explore_keeps (suc n) seen [] m = m
  explore_keeps (suc n) seen (x ∷ xs) m = explore_keeps n (new seen x xs ++ seen) (new seen x xs) (mathlib.Core.List.Memᴰ.append_right (new seen x xs) m)

  -- with fuel for the height that is left, what is found is closed under moves
  explore_closed : {height : S → ℕ} {top : ℕ} → Rises succs height top → (n : ℕ) (seen front : List S)
      → ((s t : S) → Memᴰ s seen → Memᴰ t (succs s) → Memᴰ s front ⊎ Memᴰ t seen)
      → ((s : S) → Memᴰ s front → top ≤ height s + n)
      → (s t : S) → Memᴰ s (explore succs eq n seen front) → Memᴰ t (succs s) → Memᴰ t (explore succs eq n seen front)
  unfolding explore
  explore_closed rises zero seen front p q s t m k =
      ⊎_elim (λ (h : Memᴰ s front). absurd (omega (arith, q s h, rises.higher s t k, rises.capped s t k))) (λ (h : Memᴰ t seen). h) (p s t m k)
  explore_closed rises (suc n) seen [] p q s t m k =
      ⊎_elim (λ (h : Memᴰ s []). absurd (mathlib.Core.List.Memᴰ.not-nil h)) (λ (h : Memᴰ t seen). h) (p s t m k)
  explore_closed {height} {top} rises (suc n) seen (x ∷ xs) p q s t m k = explore_closed rises n (new seen x xs ++ seen) (new seen x xs) p' q' s t m k
    where
      q' : (z : S) → Memᴰ z (new seen x xs) → top ≤ height z + n
      q' z h = let g = new_from seen x xs h in omega (arith, q g.0 g.1, rises.higher g.0 z g.2)

      p' : (a b : S) → Memᴰ a (new seen x xs ++ seen) → Memᴰ b (succs a) → Memᴰ a (new seen x xs) ⊎ Memᴰ b (new seen x xs ++ seen)
      p' a b h j =
          ⊎_elim
          (λ (i : Memᴰ a (new seen x xs)). inl i)
          (λ (i : Memᴰ a seen).
          ⊎_elim
          (λ (f : Memᴰ a (x ∷ xs)). inr (fresh_in dec seen (onward succs (x ∷ xs)) (onward_in succs (x ∷ xs) f j)))
          (λ (f : Memᴰ b seen). inr (mathlib.Core.List.Memᴰ.append_right (new seen x xs) f))
          (p a b i j))
          (mathlib.Core.List.Memᴰ.append_cases (new seen x xs) h)

  -- every state of the list is reachable
  pub reachable_sound : (fuel : ℕ) {y : S} → Memᴰ y (reachable succs eq fuel s₀) → Reach succs s₀ y
  unfolding reachable
  reachable_sound fuel m = explore_sound fuel (s₀ ∷ []) (s₀ ∷ []) one one m
    where
      one : (x : S) → Memᴰ x (s₀ ∷ []) → Reach succs s₀ x
      one x h = subst (λ (z : S). Reach succs s₀ z) (sym (mathlib.Core.List.Memᴰ.eq_of_singleton h)) start

  -- no state of the list is repeated
  pub reachable_once : (fuel : ℕ) → Distinct (reachable succs eq fuel s₀)
  unfolding reachable
  reachable_once fuel = explore_distinct fuel (s₀ ∷ []) (s₀ ∷ []) (distinct_cons mathlib.Core.List.Memᴰ.not-nil distinct_nil)

  -- every reachable state is in the list, if the fuel is the height that is left
  pub reachable_complete : {height : S → ℕ} {top : ℕ} → Rises succs height top → (fuel : ℕ) → top ≤ height s₀ + fuel
      → {y : S} → Reach succs s₀ y → Memᴰ y (reachable succs eq fuel s₀)
  unfolding reachable
  reachable_complete rises fuel e start = explore_keeps fuel (s₀ ∷ []) (s₀ ∷ []) (mathlib.Core.List.Memᴰ.head refl)
  reachable_complete {height} {top} rises fuel e (step {s = s} {t = t} r m) =
      explore_closed rises fuel (s₀ ∷ []) (s₀ ∷ []) (λ a b h j. inl h)
      (λ a h. subst (λ (z : S). top ≤ height z + fuel) (sym (mathlib.Core.List.Memᴰ.eq_of_singleton h)) e)
      s t (reachable_complete rises fuel e r) m

  -- all three
  pub all_reached : {height : S → ℕ} {top : ℕ} → Rises succs height top → (fuel : ℕ) → top ≤ height s₀ + fuel
      → AllReached succs s₀ (reachable succs eq fuel s₀)
  all_reached rises fuel e = record {
    sound = λ x m. reachable_sound fuel m;
    complete = λ x r. reachable_complete rises fuel e r;
    once = reachable_once fuel;
  }
