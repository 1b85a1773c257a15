-- The parent of a label other than the start is a label before it, with a move to it.
-- Assumes nothing.
use Prim.Native.Nat.{ℕ, ◌≤◌, ◌<◌}
use native.Mathlib.Omega.{arith}
use mathlib.Core.Path.{◌≡◌, sym, subst, ◌∙◌}
use mathlib.Core.Bool.{Bool}
use mathlib.Core.List.{List, ◌++◌, Memᴰ}
use mathlib.Core.Logic.{⊎_elim}
use mathlib.Core.Option.{Option, none, some}
use lib.Dec.{T, ltb, ltb→lt, nltb→le}
use lib.ListN.{length, get_or}
use Rattle.booleans.proofs.Tests.{T-cases}
use Rattle.theory.specs.Lists.{Decides}
use Rattle.theory.specs.States.{Laws, Rises}
use Rattle.theory.specs.Reachable.{AllReached}
use Rattle.theory.specs.Labels.{answer, within, labels, leads, parent}
use Rattle.theory.proofs.Lists.{memb_mem, mem_memb, mem_at, at_mem, position_le, position_at, position_is, position_append}
use Rattle.theory.proofs.Sorting.{never_self, strict_at, strict_before}
use Rattle.theory.proofs.Dominance.{move_above, undominated_parent}
use Rattle.theory.proofs.Labels.{labels_exactly, labels_strict, first_label}

-- The parent in any list.
module _ {S : Type 0} (succs : S → List S) {eq : S → S → Bool} (dec : Decides eq) (d : S) (L : List S) (t : S) where
  -- no member before the parent has a move to t
  pub parent_le : (i : ℕ) → i < length L → Memᴰ t (succs (get_or L i d)) → parent succs eq L t ≤ i
  unfolding parent leads
  parent_le i h m = position_le (leads succs eq t) d L i h (mem_memb dec (succs (get_or L i d)) m)

  -- the parent has a move to t
  pub parent_at_lem : parent succs eq L t < length L → Memᴰ t (succs (get_or L (parent succs eq L t) d))
  unfolding parent leads
  parent_at_lem h = memb_mem dec t (succs (get_or L (parent succs eq L t) d)) (position_at (leads succs eq t) d L h)

  -- where no member has a move to t there is no parent
  pub parent_none : ((i : ℕ) → i < length L → ¬ Memᴰ t (succs (get_or L i d))) → length L ≤ parent succs eq L t
  parent_none f =
      let p = parent succs eq L t in
      ⊎_elim (λ h. absurd (f p (ltb→lt p (length L) h) (parent_at_lem (ltb→lt p (length L) h)))) (λ h. nltb→le p (length L) h) (T-cases (ltb p (length L)))

  -- one with a move to t, where none before it has one, is the parent
  pub parent_is : (i : ℕ) → i < length L → Memᴰ t (succs (get_or L i d)) → ((j : ℕ) → j < i → ¬ Memᴰ t (succs (get_or L j d))) → parent succs eq L t ≡ i
  unfolding parent leads
  parent_is i h m f =
      position_is (leads succs eq t) d L i h (mem_memb dec (succs (get_or L i d)) m) (λ j k q. f j k (memb_mem dec t (succs (get_or L j d)) q))

  -- what comes after the list does not change the parent
  pub parent_append : (r : List S) → parent succs eq L t < length L → parent succs eq (L ++ r) t ≡ parent succs eq L t
  unfolding parent
  parent_append r h = position_append (leads succs eq t) d L r h

-- The parent among the labels.
module _ {S : Type 0} {succs : S → List S} {eq le cov : S → S → Bool} (laws : Laws succs le cov) (dec : Decides eq)
    {height : S → ℕ} {top : ℕ} (rises : Rises succs height top) {s₀ : S} {R : List S} (all : AllReached succs s₀ R) (goal : S → Bool) where
  -- every label but the start is one move from a label
  pub label_parent : {t : S} → Memᴰ t (labels eq le cov goal R) → ¬ (t ≡ s₀) → (p : S) × Memᴰ p (labels eq le cov goal R) × Memᴰ t (succs p)
  label_parent {t} m n =
      let f = (labels_exactly laws dec all goal t).0 m in
      let p = undominated_parent laws dec all f.0 n in
      (p.0, (labels_exactly laws dec all goal p.0).1 (p.1, at (answer le goal R) p.0 (laws.rising p.0 t p.2) f.1), p.2)
    where
      at : (o : Option S) (p : S) → T (le p t) → T (within le o t) → T (within le o p)
      at none p h k = tt
      at (some a) p h k = laws.order.trans p t a h k

  -- the parent of the label at an index other than the first stands before it
  pub parent_before : (d : S) (i : ℕ) → 0 < i → i < length (labels eq le cov goal R)
      → parent succs eq (labels eq le cov goal R) (get_or (labels eq le cov goal R) i d) < i
  parent_before d i h k =
      let L = labels eq le cov goal R in
      let t = get_or L i d in
      let strict = labels_strict laws dec all goal in
      let p = label_parent (mem_at d L i k) (λ e. never_self laws.order t (get_or L 0 d) (e ∙ sym (first_label laws dec all goal d)) (strict_at laws.order d strict 0 i h k)) in
      let j = at_mem d L p.1 in
      let move : Memᴰ t (succs (get_or L j.0 d)) = subst (λ (z : S). Memᴰ t (succs z)) j.2 p.2 in
      let first : j.0 < i = strict_before laws.order d strict j.0 i j.1 (move_above laws rises (get_or L j.0 d) t move) in
      omega (arith, parent_le succs dec d L t j.0 j.1 move)
