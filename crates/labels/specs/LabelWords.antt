-- The labels in words: label k, from 1, is so many words from word label_words * (k - 1) on. A label is a state, and how the search goes on
-- from it. Assumes nothing.
use Rattle.std.specs.Prelude.{◌≡◌, Bool, true, false, List, [], ◌∷◌, ◌++◌, ℕ, zero, suc, ◌+◌, ◌-◌, ◌*◌, ◌/◌, ◌%◌, ◌≤◌, ◌<◌, eqb, get_or, set}
use Rattle.states.specs.declared.State.{State}
use Rattle.driving.specs.Hours.{unmarked}
use Rattle.states.specs.States.{times_of}
use Rattle.states.specs.LabelSpace.{label_words}
use Rattle.labels.specs.declared.Candidate.{Candidate}

abbrev pub largest_word : ℕ
largest_word = 4294967295

-- above every junction
abbrev pub junction_base : ℕ
junction_base = 16384

-- which of a label's words is which: the state's first, its place and its times
abbrev pub state_words : ℕ
state_words = 5

-- twice the junction, and one more without the mark
abbrev pub place_field : ℕ
place_field = 0

abbrev pub clock_field : ℕ
clock_field = 1

abbrev pub spell_field : ℕ
spell_field = 2

abbrev pub shift_field : ℕ
shift_field = 3

abbrev pub week_field : ℕ
week_field = 4

-- the label that this one was made from
abbrev pub parent_field : ℕ
parent_field = 5

-- the cursor, which says what successor of the label is its candidate, the candidate's junction, and whether others may be left
abbrev pub cursor_field : ℕ
cursor_field = 6

-- the label with the least candidate in this node's subtree of the winner tree
abbrev pub winner_field : ℕ
winner_field = 7

-- the last label before this one at the same junction, 0 if none
abbrev pub previous_field : ℕ
previous_field = 8

-- the clock of the label's candidate
abbrev pub own_field : ℕ
own_field = 9

-- where word f of label k stands
abbrev pub at : ℕ → ℕ → ℕ
at k f = label_words * (k - 1) + f

abbrev pub field : List ℕ → ℕ → ℕ → ℕ
field ws k f = get_or ws (at k f) 0

abbrev pub junction_of : List ℕ → ℕ → ℕ
junction_of ws k = field ws k place_field / 2

abbrev pub clock_of : List ℕ → ℕ → ℕ
clock_of ws k = field ws k clock_field

abbrev pub parent_of : List ℕ → ℕ → ℕ
parent_of ws k = field ws k parent_field

abbrev pub cursor_of : List ℕ → ℕ → ℕ
cursor_of ws k = field ws k cursor_field / 2 / junction_base

abbrev pub more_of : List ℕ → ℕ → Bool
more_of ws k = eqb (field ws k cursor_field % 2) 1

abbrev pub own_of : List ℕ → ℕ → ℕ
own_of ws k = field ws k own_field

abbrev pub winner_of : List ℕ → ℕ → ℕ
winner_of ws k = field ws k winner_field

abbrev pub previous_of : List ℕ → ℕ → ℕ
previous_of ws k = field ws k previous_field

-- the state of label k
abbrev pub label_at : List ℕ → ℕ → State
label_at ws k =
    record {
      junction = junction_of ws k;
      clock = record { 0 = clock_of ws k };
      figures =
          record {
            spell = record { 0 = field ws k spell_field };
            shift = record { 0 = field ws k shift_field };
            week = record { 0 = field ws k week_field };
            marked = eqb (field ws k place_field % 2) 0;
          };
    }

-- the candidate of label k
abbrev pub candidate_of : List ℕ → ℕ → Candidate
candidate_of ws k =
    record { cursor = cursor_of ws k; junction = field ws k cursor_field / 2 % junction_base; clock = record { 0 = own_of ws k }; more = more_of ws k }

-- the junction and the mark in one word
abbrev pub place_word : State → ℕ
place_word s = 2 * s.junction + unmarked s.figures

-- the cursor, the junction and whether there may be more in one word
abbrev pub cursor_word : Candidate → ℕ
cursor_word c = 2 * (junction_base * c.cursor + c.junction) + elim c.more [ true ↦ 1 | false ↦ 0 ]

-- a candidate that a word holds so
pub record Packs (c : Candidate) : Type 0 where
  pub cursor : c.cursor < 65536
  pub junction : c.junction < junction_base

-- all words of a label
abbrev pub words_of : State → ℕ → Candidate → ℕ → ℕ → List ℕ
words_of s parent c winner previous = (place_word s ∷ times_of s) ++ (parent ∷ cursor_word c ∷ winner ∷ previous ∷ c.clock.0 ∷ [])

-- the states of labels 1 .. n, in order
unfoldable pub settled : List ℕ → ℕ → List State
settled ws zero = []
settled ws (suc n) = settled ws n ++ (label_at ws (suc n) ∷ [])

-- what a reader of labels reads of labels 1 .. n, in order
unfoldable pub column : (List ℕ → ℕ → ℕ) → List ℕ → ℕ → List ℕ
column read ws zero = []
column read ws (suc n) = column read ws n ++ (read ws (suc n) ∷ [])

-- word f of labels 1 .. n is as it was
abbrev pub Same : ℕ → List ℕ → List ℕ → ℕ → Type 0
Same f ws ws' n = (k : ℕ) → 1 ≤ k → k ≤ n → field ws' k f ≡ field ws k f

-- labels 1 .. n are as they were, but for parents, candidates and winners
pub record SameLabels (ws ws' : List ℕ) (n : ℕ) : Type 0 where
  pub states : (f : ℕ) → f < state_words → Same f ws ws' n
  pub previous : Same previous_field ws ws' n

-- label n + 1 is new, as the winner of its own node, and each word of labels 1 .. n is as it was
pub record Added (ws ws' : List ℕ) (n : ℕ) (label : State) (parent : ℕ) (c : Candidate) : Type 0 where
  pub is_label : label_at ws' (n + 1) ≡ label
  pub is_parent : parent_of ws' (n + 1) ≡ parent
  pub is_candidate : candidate_of ws' (n + 1) ≡ c
  pub wins : winner_of ws' (n + 1) ≡ n + 1
  pub kept : (p : ℕ) → p < label_words * n → get_or ws' p 0 ≡ get_or ws p 0
  pub settled : settled ws' (n + 1) ≡ settled ws n ++ (label ∷ [])

-- r is the winner of node k, 0 where k is past the n labels
pub record WinnerWithin (ws : List ℕ) (n k r : ℕ) : Type 0 where
  pub within : k ≤ n → r ≡ winner_of ws k
  pub past : n < k → r ≡ 0

-- the values stored from word i + f on
unfoldable pub puts : List ℕ → ℕ → ℕ → List ℕ → List ℕ
puts ws i f [] = ws
puts ws i f (v ∷ vs) = puts (set ws (i + f) v) i (f + 1) vs
