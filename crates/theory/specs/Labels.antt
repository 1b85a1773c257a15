-- The definition of what a search must find, over the list R of all reachable states: the answer, the labels and each label's parent.
-- Assumes nothing.
use Rattle.std.specs.Prelude.{ℕ, Bool, true, not, List, T}
use Rattle.std.proofs.Math.Option.{Option, none, some}
use Rattle.theory.specs.Lists.{memb, every, select, least, sorted, position}
use Rattle.theory.specs.States.{Reach, dominates}

-- the lowest-ranked goal of the list, or none
unfoldable pub answer : {S : Type 0} → (S → S → Bool) → (S → Bool) → List S → Option S
unfolding least select
answer le goal R = least le (select goal R)

-- no member of the list dominates u
unfoldable pub free_in : {S : Type 0} → (S → S → Bool) → (S → S → Bool) → List S → S → Bool
unfolding every
free_in eq cov R u = every (λ x. not (dominates eq cov x u)) R

-- the members that no member dominates
unfoldable pub undominated : {S : Type 0} → (S → S → Bool) → (S → S → Bool) → List S → List S
unfolding select free_in
undominated eq cov R = select (free_in eq cov R) R

-- t ranks no higher than the answer, if there is one
abbrev pub within : {S : Type 0} → (S → S → Bool) → Option S → S → Bool
within le none t = true
within le (some a) t = le t a

-- the members that rank no higher than the answer; all, if there is none
unfoldable pub up_to : {S : Type 0} → (S → S → Bool) → Option S → List S → List S
unfolding select
up_to le a L = select (within le a) L

-- the labels: the undominated states that rank no higher than the answer, sorted by rank
unfoldable pub labels : {S : Type 0} → (S → S → Bool) → (S → S → Bool) → (S → S → Bool) → (S → Bool) → List S → List S
unfolding sorted up_to answer undominated
labels eq le cov goal R = sorted le (up_to le (answer le goal R) (undominated eq cov R))

-- a move leads from p to t
unfoldable pub leads : {S : Type 0} → (S → List S) → (S → S → Bool) → S → S → Bool
unfolding memb
leads succs eq t p = memb eq t (succs p)

-- the index of t's parent: the first of the list with a move to t; the length, if there is none
unfoldable pub parent : {S : Type 0} → (S → List S) → (S → S → Bool) → List S → S → ℕ
unfolding position leads
parent succs eq L t = position (leads succs eq t) L

-- what the answer means: a reachable goal that ranks no higher than any other, or none where no goal is reachable
abbrev pub IsAnswer : {S : Type 0} → (S → List S) → (S → S → Bool) → (S → Bool) → S → Option S → Type 0
IsAnswer {S} succs le goal s₀ none = (t : S) → Reach succs s₀ t → ¬ T (goal t)
IsAnswer {S} succs le goal s₀ (some a) = Reach succs s₀ a × T (goal a) × ((t : S) → Reach succs s₀ t → T (goal t) → T (le a t))
