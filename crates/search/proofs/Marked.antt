-- Bytes marked from the list of banned roads make the trip that the list makes. Assumes nothing.
use mathlib.Core.Path.{◌≡◌, refl, subst}
use mathlib.Core.Bool.{true, false}
use mathlib.Core.List.{List, [], ◌∷◌}
use mathlib.Core.Logic.{⊎_elim}
use Prim.Native.Nat.{ℕ, ◌≤◌, ◌<◌}
use native.Mathlib.Omega.{arith}
use borrow.Author.Tests.{ltb-true, ltb-false}
use lib.Dec.{ltb}
use lib.ListN.{length, replicate, length-replicate, get_or-replicate, get_or-eq_default}
use Rattle.std.specs.Prelude.{Result}
use Rattle.booleans.proofs.Tests.{cases}
use Rattle.theory.specs.Lists.{memb}
use Rattle.roadmap.specs.Format.{most_roads, road_count}
use Rattle.bans.specs.Bans.{closed_in, listed_in, AgreeOn}
use Rattle.bans.specs.BanList.{AllBelow, Clear}
use Rattle.moves.specs.declared.given.OpenRun.{OpenRun}
use Rattle.moves.specs.OpenRuns.{listed_trip}
use Rattle.moves.specs.Trip.{Trip}
use Rattle.moves.specs.Runs.{trip_in}
use Rattle.moves.proofs.Trips.{same_bans}
use Rattle.search.specs.declared.Unfound.{Unfound}
use Rattle.search.specs.Turns.{OutcomeSays}

-- no byte of an array of zeros is marked
pub none_marked : (size : ℕ) → Clear (replicate size 0)
none_marked size k =
    ⊎_elim
    (λ (inside : ltb k size ≡ true). get_or-replicate size k 0 0 (ltb-true k size inside))
    (λ (beyond : ltb k size ≡ false). get_or-eq_default (replicate size 0) 0 (omega (arith, length-replicate {A = ℕ} size 0, ltb-false k size beyond)))
    (cases (ltb k size))

-- of an empty list no byte need be marked
pub unlisted : (bans : List ℕ) (roads : ℕ) → length bans ≤ 0 → AgreeOn roads (closed_in []) (listed_in bans)
unfolding memb
unlisted [] roads none r low high = refl
unlisted (x ∷ bans) roads none r low high = absurd (omega arith)

module _ (run : OpenRun) where
  -- an array with an entry for each road of any map has one for each road of the list
  pub entries : (size : ℕ) → most_roads < size → AllBelow (length (replicate {A = ℕ} size 0)) run.bans.now
  entries size enough i h =
      omega (arith, length-replicate {A = ℕ} size 0, run.listed.high i h, run.accepted.sized.roads, run.accepted.sized.few_roads)

  -- what a search ends with is said of the list's trip
  pub ends_listed : (closed : List ℕ) → AgreeOn (road_count run.map.now) (closed_in closed) (listed_in run.bans.now) → {fit : ℕ} {ws : List ℕ} {outcome : Result ℕ Unfound}
      → OutcomeSays (trip_in run.map.now (closed_in closed) run.about) fit ws outcome → OutcomeSays (listed_trip run) fit ws outcome
  ends_listed closed agree {fit} {ws} {outcome} =
      subst (λ (t : Trip). OutcomeSays t fit ws outcome) (same_bans run.map.now (closed_in closed) (listed_in run.bans.now) run.about agree)
