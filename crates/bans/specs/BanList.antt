-- The ban list that comes beside an order: its refusal, what one that passes is, and bytes marked from it. Document 02, P8.
-- Assumes nothing.
use Rattle.std.specs.Prelude.{Bool, ◌&&◌, ◌||◌, List, [], ◌∷◌, ◌≡◌, ℕ, ◌-◌, ◌≤◌, ◌<◌, eqb, leb, ltb, length, get_or}
use Rattle.std.proofs.Math.Option.{Option}
use Rattle.replies.specs.First.{Test, ◌at◌, lowest}
use Rattle.bans.specs.Bans.{closed_in, listed_in}

-- the number at a position, from 1
abbrev pub ban_at : List ℕ → ℕ → ℕ
ban_at bans k = get_or bans (k - 1) 0

-- it is 0, above R, or not above the one before; the first has none before
unfoldable pub bad_ban_at : ℕ → List ℕ → ℕ → Bool
bad_ban_at roads bans k =
    eqb (ban_at bans k) 0
    || (ltb roads (ban_at bans k) || (ltb 1 k && leb (ban_at bans k) (ban_at bans (k - 1))))

-- 25 bad ban list: such a number; the first position of one
abbrev pub bad_bans : ℕ → List ℕ → Option ℕ
bad_bans roads bans = lowest (bad_ban_at roads bans) 1 (length bans)

-- a ban list on a map of so many roads: 25
abbrev pub ban_tests : ℕ → List ℕ → List Test
ban_tests roads bans = (25 at bad_bans roads bans) ∷ []

-- each number is above those before it
abbrev pub Rises : List ℕ → Type 0
Rises bans = (i j : ℕ) → i < j → j < length bans → get_or bans i 0 < get_or bans j 0

-- every number is below this one
abbrev pub AllBelow : ℕ → List ℕ → Type 0
AllBelow most bans = (i : ℕ) → i < length bans → get_or bans i 0 < most

-- a list that passes: roads that the map has, rising
pub record Rising (roads : ℕ) (bans : List ℕ) : Type 0 where
  pub low : (i : ℕ) → i < length bans → 1 ≤ get_or bans i 0
  pub high : (i : ℕ) → i < length bans → get_or bans i 0 ≤ roads
  pub rises : Rises bans

-- no byte is marked
abbrev pub Clear : List ℕ → Type 0
Clear closed = (k : ℕ) → get_or closed k 0 ≡ 0

-- bytes marked from a list, as many as before: they say the same of every road
pub record Marked (bans closed closed' : List ℕ) : Type 0 where
  pub size : length closed' ≡ length closed
  pub says : (r : ℕ) → closed_in closed' r ≡ listed_in bans r
