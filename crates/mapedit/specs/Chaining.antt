-- Chain making: each chain rises through all its junction's roads, and nothing else changes. Document 01, "Afterwards".
-- Assumes nothing.
use Rattle.std.specs.Prelude.{Result, ◌≡◌, List, ℕ, zero, suc, ◌+◌, ◌-◌, eqb}
use Rattle.words.specs.Word.{put_at}
use Rattle.replies.specs.declared.Reply.{Reply}
use Rattle.replies.specs.declared.Refusal.{Refusal}
use Rattle.replies.specs.First.{first_of}
use Rattle.replies.specs.Told.{succeeded, told_check}
use Rattle.booleans.specs.Pick.{pick}
use Rattle.roadmap.specs.Format.{junction_count, road_count, junction_at, road_at, road_from}
use Rattle.mapcheck.specs.Listed.{lowest_from}
use Rattle.mapcheck.specs.MapCheck.{chaining_tests}

-- the bytes with the value of each of the n numbers from k on, put as a word at its place
unfoldable pub put_all : (ℕ → ℕ) → (ℕ → ℕ) → ℕ → ℕ → List ℕ → List ℕ
put_all at value k zero bytes = bytes
put_all at value k (suc n) bytes = put_all at value (k + 1) n (put_at bytes (at k) (value k))

-- the first road of junction j: the lowest road from it, or 0
abbrev pub first_link : List ℕ → ℕ → ℕ
first_link map j = lowest_from (road_from map) j 1 (road_count map)

-- the next of road r: the lowest later road from the same junction, or 0
abbrev pub next_link : List ℕ → ℕ → ℕ
next_link map r = lowest_from (road_from map) (road_from map r) (r + 1) (road_count map - r)

-- where a road's next stands
abbrev pub next_at : List ℕ → ℕ → ℕ
next_at map r = road_at map r + 16

-- the map with these links, and all else as it was
unfoldable pub chained : List ℕ → List ℕ
chained map =
    put_all (next_at map) (next_link map) 1 (road_count map) (put_all junction_at (first_link map) 1 (junction_count map) map)

-- chain making: 1 to 6 (first and next aside), 8; else 0, 0, 0
unfoldable pub chaining_reply : List ℕ → Reply
chaining_reply map = first_of (chaining_tests map) (succeeded 0 0)

-- the map's bytes afterwards: a refusal changes none
unfoldable pub after_chaining : List ℕ → List ℕ
after_chaining map = pick (eqb (chaining_reply map).number 0) (chained map) map

-- what chain making owes: the reply, and every byte afterwards
pub record ChainMaking (before after : List ℕ) (answer : Result (Unit {0}) Refusal) : Type 0 where
  pub reply : told_check answer ≡ chaining_reply before
  pub bytes : after ≡ after_chaining before
