-- A junction's name: the reply, and the part of the map that spells it. Document 01, "Afterwards". Assumes nothing.
use Rattle.std.specs.Prelude.{ℕ, ◌+◌, List, [], ◌∷◌, ◌++◌, eqb, take, drop}
use Rattle.std.proofs.Math.Option.{Option}
use Rattle.replies.specs.declared.Reply.{Reply}
use Rattle.replies.specs.First.{◌at◌, placed, first_of}
use Rattle.replies.specs.Told.{succeeded}
use Rattle.booleans.specs.Pick.{pick}
use Rattle.roadmap.specs.Format.{junction_count, names_at, name_start, name_length}
use Rattle.mapcheck.specs.MapCheck.{outside, map_tests}

-- 20 unknown name: junction 0 or above J; junction
abbrev pub unknown_name : List ℕ → ℕ → Option ℕ
unknown_name map junction = placed (outside 1 (junction_count map) junction) junction

-- name: 1 to 8, 20; else 0, name length, 0
unfoldable pub name_reply : List ℕ → ℕ → Reply
name_reply map junction =
    first_of (map_tests map ++ ((20 at unknown_name map junction) ∷ [])) (succeeded (name_length map junction) 0)

-- where in the map the junction's name starts
abbrev pub name_at : List ℕ → ℕ → ℕ
name_at map junction = names_at map + name_start map junction

-- the part of the map that spells the junction's name, where the reply's number is 0; else empty
unfoldable pub name_part : List ℕ → ℕ → List ℕ
name_part map junction =
    pick (eqb (name_reply map junction).number 0)
    (take (name_length map junction) (drop (name_at map junction) map))
    []
