-- The labels of a junction: the list that leads from the last of them back, and the most room that they leave for spell and shift. Assumes nothing.
use Rattle.std.specs.Prelude.{◌≡◌, Bool, true, false, List, ℕ, ◌+◌, ◌-◌, ◌*◌, ◌≤◌, ◌<◌, length, get_or}
use Rattle.states.specs.declared.State.{State}
use Rattle.states.specs.LabelSpace.{label_words}
use Rattle.labels.specs.declared.Candidate.{Candidate}
use Rattle.labels.specs.declared.Place.{Place}
use Rattle.labels.specs.LabelWords.{largest_word, spell_field, shift_field, field, junction_of, previous_of, Added}

-- the answer says whether P holds
abbrev pub Says : Type 0 → Bool → Type 0
Says P true = P
Says P false = P → ⊥

-- p is the last of the labels below b at junction j, 0 where there is none
pub record Last (ws : List ℕ) (b j p : ℕ) : Type 0 where
  pub below : p < b
  pub same : 1 ≤ p → junction_of ws p ≡ j
  pub skip : (m : ℕ) → p < m → m < b → junction_of ws m ≡ j → ⊥

abbrev pub Chain : List ℕ → ℕ → Type 0
Chain ws n = (k : ℕ) → 1 ≤ k → k ≤ n → Last ws k (junction_of ws k) (previous_of ws k)

-- no label at a junction
abbrev pub no_place : Place
no_place = record { last = 0; spell_room = 0; shift_room = 0 }

-- what is kept of the labels at junction j
abbrev pub place_at : List Place → ℕ → Place
place_at ps j = get_or ps j no_place

abbrev pub Heads : List ℕ → List Place → ℕ → Type 0
Heads ws ps n = (j : ℕ) → j < length ps → Last ws (n + 1) j (place_at ps j).last

-- v is the most that word f of a label 1 .. n at junction j is below the largest word, 0 where there is none; which label reaches it is left open
pub record RoomAt (f : ℕ) (ws : List ℕ) (n j v : ℕ) : Type 0 where
  pub most : (k : ℕ) → 1 ≤ k → k ≤ n → junction_of ws k ≡ j → largest_word - field ws k f ≤ v
  pub reached : 1 ≤ v → ∥ ((k : ℕ) × (1 ≤ k) × (k ≤ n) × (junction_of ws k ≡ j) × (largest_word - field ws k f ≡ v)) ∥₁

abbrev pub Rooms : (Place → ℕ) → ℕ → List ℕ → List Place → ℕ → Type 0
Rooms room f ws ps n = (j : ℕ) → j < length ps → RoomAt f ws n j (room (place_at ps j))

-- the lists of the labels 1 .. n: their links, the last label at each junction, and the most room there for spell and shift
pub record Lists (ws : List ℕ) (ps : List Place) (n : ℕ) : Type 0 where
  pub room : label_words * n ≤ length ws
  pub chain : Chain ws n
  pub heads : Heads ws ps n
  pub spells : Rooms (λ p. p.spell_room) spell_field ws ps n
  pub shifts : Rooms (λ p. p.shift_room) shift_field ws ps n

-- label n + 1 is new, and the lists are those of 1 .. n + 1
pub record LabelAdded (ws ws' : List ℕ) (ps' : List Place) (n : ℕ) (label : State) (parent : ℕ) (c : Candidate) : Type 0 where
  pub added : Added ws ws' n label parent c
  pub lists : Lists ws' ps' (n + 1)
