-- Lists by tests: members, filters, the least member, sorting by rank, and where the first of a kind stands.
-- Assumes nothing.
use Rattle.std.specs.Prelude.{ℕ, zero, suc, ◌≡◌, Bool, true, false, not, ◌&&◌, ◌||◌, ◌⊎◌, T}
use mathlib.Core.List.{List, [], ◌∷◌, Memᴰ}
use Rattle.std.proofs.Math.Option.{Option, none, some}
use Rattle.booleans.specs.Pick.{pick}

-- le is a total order: rank
pub record Order {S : Type 0} (le : S → S → Bool) : Type 0 where
  pub trans : (x y z : S) → T (le x y) → T (le y z) → T (le x z)
  pub total : (x y : S) → T (le x y) ⊎ T (le y x)
  pub antisym : (x y : S) → T (le x y) → T (le y x) → x ≡ y

-- eq tells whether two are equal
pub record Decides {S : Type 0} (eq : S → S → Bool) : Type 0 where
  pub same : (x y : S) → T (eq x y) → x ≡ y
  pub self : (x : S) → T (eq x x)

-- x before the list, where the test passes
abbrev pub keep : {S : Type 0} → Bool → S → List S → List S
keep b x r = pick b (x ∷ r) r

-- x is a member of the list
unfoldable pub memb : {S : Type 0} → (S → S → Bool) → S → List S → Bool
memb eq x [] = false
memb eq x (y ∷ ys) = let r = memb eq x ys in eq x y || r

-- every member passes the test
unfoldable pub every : {S : Type 0} → (S → Bool) → List S → Bool
every p [] = true
every p (x ∷ xs) = let r = every p xs in p x && r

-- the members that pass the test
unfoldable pub select : {S : Type 0} → (S → Bool) → List S → List S
select p [] = []
select p (x ∷ xs) = keep (p x) x (select p xs)

-- the lower-ranked of a state and one that may be there
abbrev pub lower : {S : Type 0} → (S → S → Bool) → S → Option S → Option S
lower le x none = some x
lower le x (some y) = some (pick (le x y) x y)

-- the lowest-ranked member, if there is a member
unfoldable pub least : {S : Type 0} → (S → S → Bool) → List S → Option S
least le [] = none
least le (x ∷ xs) = lower le x (least le xs)

-- what the lowest-ranked member means: a member that ranks no higher than any, or none of an empty list
abbrev pub IsLeast : {S : Type 0} → (S → S → Bool) → List S → Option S → Type 0
IsLeast {S} le l none = (x : S) → Memᴰ x l → ⊥
IsLeast {S} le l (some c) = Memᴰ c l × ((x : S) → Memᴰ x l → T (le c x))

-- x put into a list sorted by rank
unfoldable pub insert : {S : Type 0} → (S → S → Bool) → S → List S → List S
insert le x [] = x ∷ []
insert le x (y ∷ ys) = let r = y ∷ insert le x ys in pick (le x y) (x ∷ y ∷ ys) r

-- the list sorted by rank
unfoldable pub sorted : {S : Type 0} → (S → S → Bool) → List S → List S
unfolding insert
sorted le [] = []
sorted le (x ∷ xs) = insert le x (sorted le xs)

-- the index of the first member that passes the test; the length, if none does
unfoldable pub position : {S : Type 0} → (S → Bool) → List S → ℕ
position p [] = zero
position p (x ∷ xs) = let r = suc (position p xs) in pick (p x) zero r

-- no member is repeated
pub data Distinct {S : Type 0} : List S → Type 0 where
  distinct_nil : Distinct []
  distinct_cons : {x : S} {xs : List S} → ¬ Memᴰ x xs → Distinct xs → Distinct (x ∷ xs)

-- each member ranks strictly below those after it
pub data StrictlySorted {S : Type 0} (le : S → S → Bool) : List S → Type 0 where
  sorted_nil : StrictlySorted le []
  sorted_cons : {x : S} {xs : List S} → ((y : S) → Memᴰ y xs → T (not (le y x))) → StrictlySorted le xs → StrictlySorted le (x ∷ xs)
