-- Which roads a list has, by index, and what halving a rising list finds. Assumes nothing.
use Rattle.std.specs.Prelude.{Result, Ok, Err, is_ok, MatchResult}
use Rattle.std.proofs.Common.{nat_cmp}
use Rattle.std.specs.List.Sorted.{IsBinarySearchResult}
use Rattle.std.proofs.lemmas.List.Sorted.{searched}
use mathlib.Core.Path.{◌≡◌, refl, sym}
use mathlib.Core.Bool.{true, false}
use mathlib.Core.List.{List, [], ◌∷◌}
use mathlib.Core.Logic.{⊎_elim}
use Prim.Native.Nat.{ℕ, zero, suc, ◌≤◌, ◌<◌, zero-le, suc-le-suc}
use native.Mathlib.Nat.{le_of_suc-le-suc, not-suc-le-zero, eq-or-lt_of_le}
use native.Mathlib.Omega.{arith}
use borrow.Author.Tests.{eq-eqb, ne_eqb, ltb-true, ltb-false}
use lib.Dec.{eqb, ltb}
use lib.ListN.{length, get_or}
use Rattle.booleans.proofs.Tests.{cases, or_right}
use Rattle.theory.specs.Lists.{memb}
use Rattle.bans.specs.Bans.{listed_in}
use Rattle.bans.specs.BanList.{Rises}

module _ (r : ℕ) where
  -- a road that stands somewhere is listed
  pub listed_at : (bans : List ℕ) (i : ℕ) → i < length bans → get_or bans i 0 ≡ r → listed_in bans r ≡ true
  unfolding memb
  listed_at [] i h e = absurd (not-suc-le-zero h)
  listed_at (b ∷ bans) zero h e = rw (eq-eqb r b (sym e))
  listed_at (b ∷ bans) (suc i) h e = or_right (eqb r b) (listed_at bans i (le_of_suc-le-suc h) e)

  -- one that stands nowhere is not
  pub listed_nowhere : (bans : List ℕ) → ((i : ℕ) → i < length bans → get_or bans i 0 ≡ r → ⊥) → listed_in bans r ≡ false
  unfolding memb
  listed_nowhere [] nowhere = refl
  listed_nowhere (b ∷ bans) nowhere =
      rw (ne_eqb r b (λ e. nowhere zero (suc-le-suc zero-le) (sym e)))
      (listed_nowhere bans (λ i h e. nowhere (suc i) (suc-le-suc h) e))

-- what halving a rising list finds of a road
pub found_listed : (bans : List ℕ) (r : ℕ) → Rises bans → (found : Result ℕ ℕ) → IsBinarySearchResult (λ y. nat_cmp y r) bans found → is_ok found ≡ listed_in bans r
found_listed bans r rises found position =
    told found (searched bans r found position (λ i j low h. rises_no_lower i j low h))
  where
    rises_no_lower : (i j : ℕ) → i ≤ j → j < length bans → get_or bans i 0 ≤ get_or bans j 0
    rises_no_lower i j low h =
        ⊎_elim (λ (e : i ≡ j). rw e (omega arith)) (λ (l : i < j). omega (arith, rises i j l h)) (eq-or-lt_of_le low)

    told : (found : Result ℕ ℕ) → MatchResult found (λ i. (i < length bans) × (get_or bans i 0 ≡ r)) (λ i. (i ≤ length bans) × ((k : ℕ) → k < i → get_or bans k 0 < r) × ((k : ℕ) → i ≤ k → k < length bans → r < get_or bans k 0)) → is_ok found ≡ listed_in bans r
    told (Ok i) here = sym (listed_at r bans i here.0 here.1)
    told (Err i) nowhere =
        sym
        (listed_nowhere r bans
        (λ k h e.
        ⊎_elim
        (λ (below : ltb k i ≡ true). omega (arith, nowhere.1 k (ltb-true k i below)))
        (λ (above : ltb k i ≡ false). omega (arith, nowhere.2 k (ltb-false k i above) h))
        (cases (ltb k i))))
