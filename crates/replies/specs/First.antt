-- The first refusal that fits, in an order that is a list. Assumes nothing.
use Rattle.std.specs.Prelude.{Result, Ok, Err, ℕ, zero, suc, ◌+◌, Bool, true, false, ◌≡◌, List, [], ◌∷◌, ◌++◌}
use Rattle.std.proofs.Math.Option.{Option, none, some}
use Rattle.replies.specs.declared.Reply.{Reply}
use Rattle.replies.specs.declared.Refusal.{Refusal}
use Rattle.replies.specs.Told.{refused_at, told_refusal}

-- a refusal's number, and its place where it fits
pub record Test : Type 0 where
  pub number : ℕ
  pub place : Option ℕ

infixr 40 ◌at◌
abbrev pub ◌at◌ : ℕ → Option ℕ → Test
number at place = record { number = number; place = place }

-- what a refusal says: its number and place where it fits, else what is said otherwise
abbrev pub refused_or : ℕ → Option ℕ → Reply → Reply
refused_or number none otherwise = otherwise
refused_or number (some place) otherwise = refused_at number place

-- the first refusal of the list that fits; where none does, the success
unfoldable pub first_of : List Test → Reply → Reply
first_of [] success = success
first_of (t ∷ ts) success = refused_or t.number t.place (first_of ts success)

-- the place, where the test says that the refusal fits
abbrev pub placed : Bool → ℕ → Option ℕ
placed true place = some place
placed false place = none

-- the lowest of the n numbers from k on at which the test holds
unfoldable pub lowest : (ℕ → Bool) → ℕ → ℕ → Option ℕ
lowest fits k zero = none
lowest fits k (suc n) = elim (fits k) [ true ↦ some k | false ↦ lowest fits (k + 1) n ]

-- no refusal of the list fits
abbrev pub NoneFits : List Test → Type 0
NoneFits [] = Unit {0}
NoneFits (t ∷ ts) = (t.place ≡ none) × NoneFits ts

-- the first refusal of the list that fits is this one, whatever is tried after the list
abbrev pub Refuses : List Test → Refusal → Type 0
Refuses ts why = (rest : List Test) (success : Reply) → first_of (ts ++ rest) success ≡ told_refusal why

-- what an answer says of a list that was tried
abbrev pub Tried : List Test → Result (Unit {0}) Refusal → Type 0
Tried ts (Ok done) = NoneFits ts
Tried ts (Err why) = Refuses ts why
