-- How a search ends: a list of the lowest undominated states up to a bound is exactly the labels where its last is the first goal,
-- or where nothing is left and it has no goal; and where it has no goal and one more is found, the labels are more than the list has.
-- Assumes nothing.
use Prim.Native.Nat.{ℕ, suc, ◌<◌}
use native.Mathlib.Omega.{arith}
use mathlib.Core.Path.{◌≡◌, refl, sym, subst}
use mathlib.Core.Bool.{Bool, not}
use mathlib.Core.List.Memᴰ
use mathlib.Core.List.{List, [], ◌∷◌, ◌++◌, Memᴰ}
use mathlib.Core.Logic.{◌⊎◌, inl, inr, ⊎_elim}
use mathlib.Core.Option.{Option, none, some}
use lib.Dec.{T, ltb, ltb→lt, nltb→le}
use lib.ListN.{length, get_or, length-append}
use Rattle.booleans.proofs.Tests.{T-cases}
use Rattle.theory.specs.Lists.{Decides}
use Rattle.theory.specs.States.{Reach, Covered, Undominated, Laws, GoalCovers}
use Rattle.theory.specs.Settling.{leo, Lowest}
use Rattle.theory.specs.Reachable.{AllReached}
use Rattle.theory.specs.Labels.{answer, within, labels, IsAnswer}
use Rattle.theory.proofs.Lists.{mem_at, each_at}
use Rattle.theory.proofs.Sorting.{le_self, le_of_not, strictly, strict_length, strict_snoc, strict_at}
use Rattle.theory.proofs.Dominance.{undominated_over}
use Rattle.theory.proofs.Settling.{below_leo, uncovered_new}
use Rattle.theory.proofs.Labels.{answer_is, answer_unique, answer_undominated, labels_exactly, labels_strict, labels_unique}

module _ {S : Type 0} {succs : S → List S} {eq le cov : S → S → Bool} (laws : Laws succs le cov) (dec : Decides eq)
    {s₀ : S} {R : List S} (all : AllReached succs s₀ R) {goal : S → Bool} (gc : GoalCovers cov goal) where
  -- if every undominated goal ranks no lower than c, every reachable goal does
  goals_from : (c : S) → ((u : S) → Undominated succs eq cov s₀ u → T (goal u) → T (le c u)) → (t : S) → Reach succs s₀ t → T (goal t) → T (le c t)
  goals_from c f t r g =
      let u = undominated_over laws dec all r in
      laws.order.trans c u.0 t (f u.0 u.1 (gc.up u.0 t u.2 g)) (laws.cov_le u.0 t u.2)

  -- one of the list is a goal, no other is, and none ranks higher: it is the answer, and the list is the labels
  ends_at : (L : List S) (g : S) (b : Option S) → Lowest succs eq le cov s₀ L b → T (leo le (some g) b) → Memᴰ g L → T (goal g)
      → ((l : S) → Memᴰ l L → T (le l g)) → ((l : S) → Memᴰ l L → T (goal l) → g ≡ l)
      → (answer le goal R ≡ some g) × (labels eq le cov goal R ≡ L)
  ends_at L g b low lb g-in is-goal highest only = (is_answer, same)
    where
      -- every undominated state ranks no lower than g, or is in the list
      above_or_in : (u : S) → Undominated succs eq cov s₀ u → T (le g u) ⊎ Memᴰ u L
      above_or_in u d = ⊎_elim (λ h. inl h) (λ h. inr (low.has_below u d (below_leo laws (some g) b u lb h))) (T-cases (le g u))

      lowest : (u : S) → Undominated succs eq cov s₀ u → T (goal u) → T (le g u)
      lowest u d h =
          ⊎_elim (λ k. k) (λ (m : Memᴰ u L). subst (λ (z : S). T (le g z)) (only u m h) (le_self laws.order g)) (above_or_in u d)

      is_answer : answer le goal R ≡ some g
      is_answer = answer_unique laws.order all goal (some g) ((low.tops g g-in).reach, is-goal, goals_from g lowest)

      into : (u : S) → Undominated succs eq cov s₀ u → T (le u g) → Memᴰ u L
      into u d h =
          ⊎_elim
          (λ (k : T (le g u)). Memᴰ.cast (laws.order.antisym u g h k) g-in)
          (λ (k : Memᴰ u L). k)
          (above_or_in u d)

      same : labels eq le cov goal R ≡ L
      same = labels_unique laws dec all goal L low.rises (λ u. rw is_answer (λ m. (low.tops u m, highest u m), λ h. into u h.0 h.1))

  -- the last of the list is a goal and none before it is: the last is the answer, and the list is the labels
  pub ends_found : (d : S) (L : List S) (n : ℕ) (b : Option S) → length L ≡ suc n → Lowest succs eq le cov s₀ L b → T (leo le (some (get_or L n d)) b)
      → ((i : ℕ) → i < n → ¬ T (goal (get_or L i d))) → T (goal (get_or L n d)) → (answer le goal R ≡ some (get_or L n d)) × (labels eq le cov goal R ≡ L)
  ends_found d L n b size low lb none_before is-goal =
      ends_at L last b low lb (mem_at d L n (omega arith)) is-goal (each_at d L (λ l. T (le l last)) highest) (each_at d L (λ l. T (goal l) → last ≡ l) only)
    where
      last : S
      last = get_or L n d

      -- what holds at an index before the last, and at the last, holds at each
      before_or_last : (P : S → Type 0) (i : ℕ) → i < length L → (i < n → P (get_or L i d)) → P last → P (get_or L i d)
      before_or_last P i h f p =
          ⊎_elim (λ k. f (ltb→lt i n k)) (λ k. subst (λ (j : ℕ). P (get_or L j d)) (omega (arith, nltb→le i n k)) p) (T-cases (ltb i n))

      highest : (i : ℕ) → i < length L → T (le (get_or L i d) last)
      highest i h =
          before_or_last (λ l. T (le l last)) i h
          (λ k. le_of_not laws.order (get_or L i d) last (strict_at laws.order d low.rises i n k (omega arith)))
          (le_self laws.order last)

      only : (i : ℕ) → i < length L → T (goal (get_or L i d)) → last ≡ get_or L i d
      only i h = before_or_last (λ l. T (goal l) → last ≡ l) i h (λ k g. absurd (none_before i k g)) (λ g. refl)

  -- nothing is left and the list has no goal: there is no answer, and the list is the labels
  pub ends_without : (L : List S) → Lowest succs eq le cov s₀ L none → ((l : S) → Memᴰ l L → ¬ T (goal l))
      → (answer le goal R ≡ none) × (labels eq le cov goal R ≡ L)
  ends_without L low no-goal = (
    no_answer,
    labels_unique laws dec all goal L low.rises (λ u. rw no_answer (λ m. (low.tops u m, tt), λ h. low.has_below u h.0 tt)),
  )
    where
      no_answer : answer le goal R ≡ none
      no_answer =
          answer_unique laws.order all goal none
          (λ t r g.
          let u = undominated_over laws dec all r in
          no-goal u.0 (low.has_below u.0 u.1 tt) (gc.up u.0 t u.2 g))

  -- the list has no goal and one more undominated state is found above it: the labels are more than the list has
  pub ends_full : (L : List S) (c : S) → Lowest succs eq le cov s₀ L (some c) → ((l : S) → Memᴰ l L → ¬ T (goal l))
      → Undominated succs eq cov s₀ c → ¬ Covered cov L c → ((l : S) → Memᴰ l L → T (le l c)) → length L < length (labels eq le cov goal R)
  ends_full L c low no-goal d n above =
      omega (arith, length-append L (c ∷ []), strict_length laws.order (strict_snoc laws.order c low.rises c_above) (labels_strict laws dec all goal) into)
    where
      c_above : (l : S) → Memᴰ l L → T (not (le c l))
      c_above l m = strictly laws.order l c (above l m) (λ e. uncovered_new laws L n (subst (λ (z : S). Memᴰ z L) e m))

      -- the answer, if there is one, ranks no lower than c
      c_within : (o : Option S) → IsAnswer succs le goal s₀ o → (u : S) → T (le u c) → T (within le o u)
      c_within none h u k = tt
      c_within (some a) h u k =
          laws.order.trans u c a k
          (⊎_elim
          (λ q. q)
          (λ q. absurd (no-goal a (low.has_below a (answer_undominated laws dec gc h) q) h.1))
          (T-cases (le c a)))

      label : (u : S) → Undominated succs eq cov s₀ u → T (le u c) → Memᴰ u (labels eq le cov goal R)
      label u d k = (labels_exactly laws dec all goal u).1 (d, c_within (answer le goal R) (answer_is laws.order all goal) u k)

      into : (u : S) → Memᴰ u (L ++ c ∷ []) → Memᴰ u (labels eq le cov goal R)
      into u m =
          ⊎_elim
          (λ (q : Memᴰ u L). label u (low.tops u q) (above u q))
          (λ (q : Memᴰ u (c ∷ [])). subst (λ (z : S). Memᴰ z (labels eq le cov goal R)) (sym (Memᴰ.eq_of_singleton q)) (label c d (le_self laws.order c)))
          (Memᴰ.append_cases L m)
