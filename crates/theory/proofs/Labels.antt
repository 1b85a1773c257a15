-- What the definitions of the answer and the labels mean: the answer is the lowest-ranked reachable goal, the labels are exactly
-- the undominated states that rank no higher, they rise strictly in rank, and the start is the first of them.
-- Assumes nothing.
use Prim.Native.Nat.{◌<◌}
use native.Mathlib.Omega.{arith}
use mathlib.Core.Path.{◌≡◌, refl, sym, ap, subst}
use mathlib.Core.Bool.{Bool, not}
use mathlib.Core.List.{List, Memᴰ}
use mathlib.Core.Logic.{◌↔◌}
use mathlib.Core.Option.{Option, none, some}
use lib.Dec.{T, T_not, not_T}
use lib.ListN.{length, get_or}
use Rattle.theory.specs.Lists.{Order, Decides, select, least, IsLeast, StrictlySorted}
use Rattle.theory.specs.States.{dominates, Undominated, Laws, GoalCovers}
use Rattle.theory.specs.Reachable.{AllReached}
use Rattle.theory.specs.Labels.{answer, free_in, undominated, within, up_to, labels, IsAnswer}
use Rattle.theory.proofs.Lists.{select_in, select_from, select_distinct, every_at, every_of, mem_at, at_mem}
use Rattle.theory.proofs.Sorting.{le_self, least_is, sorted_in, sorted_from, sorted_strict, strict_unique, strict_first}
use Rattle.theory.proofs.Dominance.{low_undominated, above_start, start_undominated}

-- The answer.
module _ {S : Type 0} {succs : S → List S} {le : S → S → Bool} (order : Order le) {s₀ : S} {R : List S} (all : AllReached succs s₀ R) (goal : S → Bool) where
  -- the answer is a reachable goal that ranks no higher than any other, and there is none only where no goal is reachable
  pub answer_is : IsAnswer succs le goal s₀ (answer le goal R)
  unfolding answer
  answer_is = at (least le (select goal R)) (least_is order (select goal R))
    where
      at : (o : Option S) → IsLeast le (select goal R) o → IsAnswer succs le goal s₀ o
      at none h = λ t r g. h t (select_in goal R (all.complete t r) g)
      at (some a) h =
          let f = select_from goal R h.0 in
          (all.sound a f.0, f.1, λ t r g. h.1 t (select_in goal R (all.complete t r) g))

  -- and nothing else is
  pub answer_unique : (o : Option S) → IsAnswer succs le goal s₀ o → answer le goal R ≡ o
  answer_unique o h = at (answer le goal R) o answer_is h
    where
      at : (p o : Option S) → IsAnswer succs le goal s₀ p → IsAnswer succs le goal s₀ o → p ≡ o
      at none none f g = refl
      at none (some b) f g = absurd (f b g.0 g.1)
      at (some a) none f g = absurd (g a f.0 f.1)
      at (some a) (some b) f g = ap some (order.antisym a b (f.2 b g.0 g.1) (g.2 a f.0 f.1))

module _ {S : Type 0} {succs : S → List S} {eq le cov : S → S → Bool} (laws : Laws succs le cov) (dec : Decides eq) {s₀ : S} where
  -- the answer is undominated
  pub answer_undominated : {goal : S → Bool} → GoalCovers cov goal → {a : S} → IsAnswer succs le goal s₀ (some a) → Undominated succs eq cov s₀ a
  answer_undominated gc {a} h = low_undominated laws dec h.0 (λ x r c. h.2 x r (gc.up x a c h.1))

  module _ {R : List S} (all : AllReached succs s₀ R) where
    -- the filter keeps exactly the undominated states
    pub undominated_exactly : (u : S) → Memᴰ u (undominated eq cov R) ↔ Undominated succs eq cov s₀ u
    unfolding undominated free_in
    undominated_exactly u = (
      λ m.
          let f = select_from (free_in eq cov R) R m in
          record {
            reach = all.sound u f.0;
            free = λ x r t. T_not (dominates eq cov x u) (every_at (λ x. not (dominates eq cov x u)) R f.1 (all.complete x r)) t;
          },
      λ d.
          select_in (free_in eq cov R) R (all.complete u d.reach)
          (every_of (λ x. not (dominates eq cov x u)) R (λ x m. not_T (dominates eq cov x u) (d.free x (all.sound x m)))),
    )

    module _ (goal : S → Bool) where
      -- the labels are exactly the undominated states that rank no higher than the answer
      pub labels_exactly : (u : S) → Memᴰ u (labels eq le cov goal R) ↔ (Undominated succs eq cov s₀ u × T (within le (answer le goal R) u))
      unfolding labels up_to
      labels_exactly u =
          let a = answer le goal R in
          let tops = undominated eq cov R in (
            λ m. let f = select_from (within le a) tops (sorted_from laws.order (up_to le a tops) m) in ((undominated_exactly u).0 f.0, f.1),
            λ d. sorted_in laws.order (up_to le a tops) (select_in (within le a) tops ((undominated_exactly u).1 d.0) d.1),
          )

      -- they rise strictly in rank
      pub labels_strict : StrictlySorted le (labels eq le cov goal R)
      unfolding labels up_to undominated
      labels_strict = sorted_strict laws.order (select_distinct (within le (answer le goal R)) (select_distinct (free_in eq cov R) all.once))

      -- and no other list does so with just these members
      pub labels_unique : (L : List S) → StrictlySorted le L
          → ((u : S) → Memᴰ u L ↔ (Undominated succs eq cov s₀ u × T (within le (answer le goal R) u))) → labels eq le cov goal R ≡ L
      labels_unique L strict exactly =
          strict_unique laws.order labels_strict strict (λ u m. (exactly u).1 ((labels_exactly u).0 m)) (λ u m. (labels_exactly u).1 ((exactly u).0 m))

      -- the start is a label
      pub start_label : Memᴰ s₀ (labels eq le cov goal R)
      start_label = (labels_exactly s₀).1 (start_undominated laws dec, at (answer le goal R) (answer_is laws.order all goal))
        where
          at : (o : Option S) → IsAnswer succs le goal s₀ o → T (within le o s₀)
          at none h = tt
          at (some a) h = above_start laws h.0

      -- so there is at least one
      pub labels_some : 0 < length (labels eq le cov goal R)
      labels_some = omega (arith, (at_mem s₀ (labels eq le cov goal R) start_label).1)

      -- the start is the first of them
      pub first_label : (d : S) → get_or (labels eq le cov goal R) 0 d ≡ s₀
      first_label d =
          let L = labels eq le cov goal R in
          laws.order.antisym (get_or L 0 d) s₀ (strict_first laws.order d labels_strict s₀ start_label)
          (above_start laws ((labels_exactly (get_or L 0 d)).0 (mem_at d L 0 labels_some)).0.reach)

    -- the answer is a label
    pub answer_label : {goal : S → Bool} → GoalCovers cov goal → {a : S} → answer le goal R ≡ some a → Memᴰ a (labels eq le cov goal R)
    answer_label {goal} gc {a} e =
        (labels_exactly goal a).1 (
          answer_undominated gc (subst (λ (o : Option S). IsAnswer succs le goal s₀ o) e (answer_is laws.order all goal)),
          subst (λ (o : Option S). T (within le o a)) (sym e) (le_self laws.order a),
        )

  -- the labels are the same however the reachable states are listed
  pub labels_same : {Q R : List S} → AllReached succs s₀ Q → AllReached succs s₀ R → (goal : S → Bool) → labels eq le cov goal Q ≡ labels eq le cov goal R
  labels_same {Q} {R} q r goal =
      labels_unique q goal (labels eq le cov goal R) (labels_strict r goal)
      (λ u. rw (answer_unique laws.order q goal (answer le goal R) (answer_is laws.order r goal)) (labels_exactly r goal u))
