-- The winner tree over labels 1 .. n: node k is label k, and its children are 2k and 2k + 1.
-- `key` orders the labels, the least first; key 0 is that of a label with no candidate, above which there is none. Assumes nothing.
use Rattle.std.specs.Prelude.{◌≡◌, List, ◌⊎◌, ℕ, zero, suc, ◌+◌, ◌/◌, ◌≤◌}
use Rattle.labels.specs.LabelWords.{winner_of}

-- the node d levels above m
abbrev pub ancestor : ℕ → ℕ → ℕ
ancestor zero m = m
ancestor (suc d) m = ancestor d m / 2

-- m is in the subtree of k
abbrev pub Under : ℕ → ℕ → Type 0
Under k m = (d : ℕ) × (ancestor d m ≡ k)

-- w has the least key of the labels 1 .. n in the subtree of k; 0 serves where none of them has a candidate
pub record Least (key : ℕ → ℕ) (n k w : ℕ) : Type 0 where
  pub small : w ≤ n
  pub under : 1 ≤ w → Under k w
  pub least : (m : ℕ) → m ≤ n → Under k m → key w ≤ key m

-- node k holds the winner of its subtree
abbrev pub Right : (ℕ → ℕ) → List ℕ → ℕ → ℕ → Type 0
Right key ws n k = Least key n k (winner_of ws k)

-- every node does
abbrev pub Tree : (ℕ → ℕ) → List ℕ → ℕ → Type 0
Tree key ws n = (k : ℕ) → 1 ≤ k → k ≤ n → Right key ws n k

-- every node does but those from i up to the root
abbrev pub TreeBut : (ℕ → ℕ) → List ℕ → ℕ → ℕ → Type 0
TreeBut key ws n i = (k : ℕ) → 1 ≤ k → k ≤ n → (Under k i → ⊥) → Right key ws n k

-- v is the better of a and b
pub record Better (key : ℕ → ℕ) (a b v : ℕ) : Type 0 where
  pub one : (v ≡ a) ⊎ (v ≡ b)
  pub first : key v ≤ key a
  pub second : key v ≤ key b

-- v is the winner of node i now, and the winners of the other nodes of 1 .. n are as they were
pub record Stored (ws ws' : List ℕ) (n i v : ℕ) : Type 0 where
  pub now : winner_of ws' i ≡ v
  pub others : (k : ℕ) → 1 ≤ k → k ≤ n → (k ≡ i → ⊥) → winner_of ws' k ≡ winner_of ws k

-- Mending a path after a label's key has changed: v is the winner below node j, which may be past the labels, and only the nodes above j are
-- left.
pub record Mending (key : ℕ → ℕ) (ws : List ℕ) (n j v : ℕ) : Type 0 where
  pub low : 1 ≤ j
  pub high : j / 2 ≤ n
  pub won : Least key n j v
  pub rest : TreeBut key ws n (j / 2)

-- Mending a path after label n + 1 has come in: the nodes from j up to the root still hold the winners of labels 1 .. n.
pub record Entering (key : ℕ → ℕ) (ws : List ℕ) (n j : ℕ) : Type 0 where
  pub high : j ≤ n
  pub mine : 1 ≤ j → Under j (n + 1)
  pub path : (k : ℕ) → 1 ≤ k → Under k j → Right key ws n k
  pub rest : TreeBut key ws (n + 1) j
