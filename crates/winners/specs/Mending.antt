-- Labels that compete for a node of the winner tree, and what mending the tree leaves. Assumes nothing.
use Rattle.std.specs.Prelude.{◌≡◌, Bool, true, false, List, ◌⊎◌, ℕ, zero, suc, ◌+◌, ◌/◌, ◌%◌, ◌≤◌, ◌<◌, length, get_or, set}
use Rattle.moves.specs.Trip.{Trip}
use Rattle.states.specs.LabelSpace.{label_words}
use Rattle.states.specs.RankNumber.{word_base}
use Rattle.labels.specs.declared.Candidate.{Candidate}
use Rattle.labels.specs.LabelWords.{cursor_field, winner_field, own_field, at, cursor_of, own_of, candidate_of, settled}
use Rattle.labels.specs.Tree.{Tree, Better, Mending, Entering}
use Rattle.candidates.specs.Candidates.{no_clock}
use Rattle.winners.specs.declared.Contender.{Contender}
use Rattle.winners.specs.Keys.{key_at, Sound, Entrant, Ready, OnlyWinners}

-- the clock of label k's candidate; above every clock for no label
abbrev pub lead_clock : List ℕ → ℕ → ℕ
lead_clock ws zero = no_clock
lead_clock ws (suc k) = own_of ws (suc k)

-- label k, told by its candidate's clock
pub record Told (ws : List ℕ) (k : ℕ) (c : Contender) : Type 0 where
  pub is : c.label ≡ k
  pub clock : c.clock.0 ≡ lead_clock ws k

-- no label or a sound one, and its candidate's clock
pub record Stands (trip : Trip) (ws : List ℕ) (c : Contender) : Type 0 where
  pub small : c.label < word_base
  pub entrant : Entrant trip ws c.label
  pub clock : c.clock.0 ≡ lead_clock ws c.label

-- it is label k
pub record Named (trip : Trip) (ws : List ℕ) (k : ℕ) (c : Contender) : Type 0 where
  pub is : c.label ≡ k
  pub stands : Stands trip ws c

-- r is the better of a and b
pub record Best (trip : Trip) (ws : List ℕ) (a b r : Contender) : Type 0 where
  pub one : (r ≡ a) ⊎ (r ≡ b)
  pub first : key_at trip ws r.label ≤ key_at trip ws a.label
  pub second : key_at trip ws r.label ≤ key_at trip ws b.label

-- the one with the earlier clock, the first on a tie
pub record Earlier (a b r : Contender) : Type 0 where
  pub second : b.clock.0 < a.clock.0 → r ≡ b
  pub first : a.clock.0 ≤ b.clock.0 → r ≡ a

-- a label with a candidate
pub record Live (trip : Trip) (ws : List ℕ) (k : ℕ) : Type 0 where
  pub low : 1 ≤ k
  pub sound : Sound trip ws k
  pub has : 1 ≤ cursor_of ws k

-- whether label a comes before label b
pub record Precedes (trip : Trip) (ws : List ℕ) (a b : ℕ) (before : Bool) : Type 0 where
  pub yes : before ≡ true → key_at trip ws a ≤ key_at trip ws b
  pub no : before ≡ false → key_at trip ws b ≤ key_at trip ws a

-- c is the best of l, k and r, and the winner of node k now
pub record Decided (trip : Trip) (ws ws' : List ℕ) (n l k r : ℕ) (c : Contender) : Type 0 where
  pub between : ℕ
  pub first : Better (key_at trip ws) l k between
  pub second : Better (key_at trip ws) between r c.label
  pub stored : ws' ≡ set ws (at k winner_field) c.label
  pub stands : Stands trip ws c
  pub within : c.label ≤ n

-- c has won below node j, and only the nodes above j are left to mend
pub record Carries (trip : Trip) (ws : List ℕ) (n j : ℕ) (c : Contender) : Type 0 where
  pub ready : Ready trip ws n
  pub mending : Mending (key_at trip ws) ws n j c.label
  pub stands : Stands trip ws c

pub record Climbed (trip : Trip) (ws ws' : List ℕ) (n j : ℕ) (c : Contender) : Type 0 where
  pub carries : Carries trip ws' n j c
  pub only : OnlyWinners ws ws'
  pub long : length ws' ≡ length ws

-- the tree is right, and nothing but winners has changed
pub record Mended (trip : Trip) (ws ws' : List ℕ) (n : ℕ) : Type 0 where
  pub ready : Ready trip ws' n
  pub tree : Tree (key_at trip ws') ws' n
  pub only : OnlyWinners ws ws'

-- label k has the candidate, the tree is right again, and nothing else has changed but winners
pub record Advanced (trip : Trip) (ws ws' : List ℕ) (n k : ℕ) (c : Candidate) : Type 0 where
  pub ready : Ready trip ws' n
  pub tree : Tree (key_at trip ws') ws' n
  pub is_candidate : candidate_of ws' k ≡ c
  pub candidates : (m : ℕ) → 1 ≤ m → (m ≡ k → ⊥) → candidate_of ws' m ≡ candidate_of ws m
  pub others : (p : ℕ) → (p % label_words ≡ winner_field → ⊥) → (p % label_words ≡ cursor_field → ⊥) → (p % label_words ≡ own_field → ⊥) → get_or ws' p 0 ≡ get_or ws p 0
  pub settled : settled ws' n ≡ settled ws n

-- label n + 1, told as c, has come in, and the nodes from j up are left to mend
pub record Enters (trip : Trip) (ws : List ℕ) (n j : ℕ) (c : Contender) : Type 0 where
  pub ready : Ready trip ws (n + 1)
  pub entering : Entering (key_at trip ws) ws n j
  pub named : Named trip ws (n + 1) c

-- it has won node j, or else the tree is right
pub record Placed (trip : Trip) (ws ws' : List ℕ) (n j : ℕ) (c : Contender) (won : Bool) : Type 0 where
  pub more : won ≡ true → Enters trip ws' n (j / 2) c
  pub done : won ≡ false → Mended trip ws ws' (n + 1)
  pub only : OnlyWinners ws ws'
  pub long : length ws' ≡ length ws

-- r has the least key of the labels 1 to n; it may be 0 where none has a candidate
pub record LeastKey (trip : Trip) (ws : List ℕ) (n r : ℕ) : Type 0 where
  pub within : r ≤ n
  pub least : (m : ℕ) → 1 ≤ m → m ≤ n → key_at trip ws r ≤ key_at trip ws m

abbrev pub Leading : List ℕ → ℕ → ℕ → Type 0
Leading ws n r = (trip : Trip) → Tree (key_at trip ws) ws n → LeastKey trip ws n r
