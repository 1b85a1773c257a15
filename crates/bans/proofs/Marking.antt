-- Bytes marked from a list, road by road. Assumes nothing.
use mathlib.Core.Path.{◌≡◌, ◌∙◌, refl, sym, ap}
use mathlib.Core.Bool.{Bool, true, false, not, ◌||◌}
use mathlib.Core.List.{List, [], ◌∷◌, ◌++◌}
use mathlib.Core.Logic.{⊎_elim}
use Prim.Native.Nat.{ℕ, ◌+◌, ◌≤◌, ◌<◌}
use native.Mathlib.Numerals.{add-one}
use native.Mathlib.Omega.{arith}
use borrow.Author.Tests.{eq-eqb, ne_eqb, eqb-true, eqb-false}
use lib.Dec.{eqb}
use lib.ListN.{length, get_or, take, set, length-set, get_or-eq_default}
use lib.Seq.{take-suc, take_all, get_or-set_same, get_or-set_other}
use Rattle.booleans.proofs.Tests.{cases, or_right}
use Rattle.theory.specs.Lists.{memb}
use Rattle.bans.specs.Bans.{closed_in, listed_in}
use Rattle.bans.specs.BanList.{Clear, Marked}

module _ (r road : ℕ) where
  -- a list with one road more lists that one
  last_listed : r ≡ road → (bans : List ℕ) → listed_in (bans ++ (road ∷ [])) r ≡ true
  unfolding memb
  last_listed e [] = rw (eq-eqb r road e)
  last_listed e (b ∷ bans) = or_right (eqb r b) (last_listed e bans)

  -- and of the others those that it listed
  others_listed : (r ≡ road → ⊥) → (bans : List ℕ) → listed_in (bans ++ (road ∷ [])) r ≡ listed_in bans r
  unfolding memb
  others_listed other [] = rw (ne_eqb r road other)
  others_listed other (b ∷ bans) = ap (λ (listed : Bool). eqb r b || listed) (others_listed other bans)

  -- the byte of the road marked, and the others'
  marked_closed : r ≡ road → (closed : List ℕ) → road < length closed → closed_in (set closed road 1) r ≡ true
  marked_closed e closed h = rw (e, get_or-set_same closed road 1 0 h)

  others_closed : (r ≡ road → ⊥) → (closed : List ℕ) → closed_in (set closed road 1) r ≡ closed_in closed r
  others_closed other closed = ap (λ (byte : ℕ). not (eqb byte 0)) (get_or-set_other closed road r 1 0 other)

-- where there are no bytes, none is marked
pub none_closed : (closed : List ℕ) (r : ℕ) → length closed ≤ 0 → closed_in closed r ≡ false
none_closed closed r none = rw (get_or-eq_default closed 0 {n = r} (omega arith))

-- nothing is marked yet
pub none_marked : (closed : List ℕ) → Clear closed → Marked [] closed closed
unfolding memb
none_marked closed clear = record { size = refl; says = λ r. rw (clear r) }

module _ (bans closed closed' : List ℕ) (i : ℕ) (h : i < length bans) (marked : Marked (take i bans) closed closed') where
  abbrev road : ℕ
  road = get_or bans i 0

  -- one road more
  pub one_marked : road < length closed → Marked (take (i + 1) bans) closed (set closed' road 1)
  one_marked below =
      record {
        size = length-set closed' road 1 ∙ marked.size;
        says = λ r.
            rw (add-one i, take-suc bans i 0 h)
            (⊎_elim
            (λ (same : eqb r road ≡ true).
            let e = eqb-true r road same in
            marked_closed r road e closed' (rw marked.size below) ∙ sym (last_listed r road e (take i bans)))
            (λ (differs : eqb r road ≡ false).
            let other = eqb-false r road differs in
            others_closed r road other closed' ∙ marked.says r ∙ sym (others_listed r road other (take i bans)))
            (cases (eqb r road)));
      }

-- the whole list
pub all_marked : (bans closed closed' : List ℕ) (i : ℕ) → length bans ≤ i → Marked (take i bans) closed closed' → Marked bans closed closed'
all_marked bans closed closed' i h marked = rw (take_all i bans h) at marked
