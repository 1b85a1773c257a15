-- Moves of the labels before that forestall a successor: it needs no turn of its own, and never will. Assumes nothing.
use mathlib.Core.Path.{◌≡◌, ◌∙◌, sym, subst}
use mathlib.Core.Bool.{true}
use mathlib.Core.List.{List}
use mathlib.Core.Logic.{inl, inr}
use Prim.Native.Nat.{ℕ, ◌-◌, ◌≤◌, ◌<◌}
use native.Mathlib.Omega.{arith}
use borrow.Author.Tests.{eq-eqb}
use lib.Dec.{T}
use lib.ListN.{get_or}
use Rattle.std.specs.Prelude.{Option, SomeIff, Some, None}
use Rattle.roadmap.specs.Format.{road_from}
use Rattle.mapcheck.proofs.Sound.{sound_map}
use Rattle.theory.specs.States.{Covered}
use Rattle.states.specs.declared.State.{State}
use Rattle.states.specs.States.{legal, covers}
use Rattle.states.proofs.Compared.{covers_legal}
use Rattle.moves.specs.declared.given.OpenRun.{OpenRun}
use Rattle.moves.specs.OpenRuns.{searched_trip}
use Rattle.moves.specs.Trip.{Trip, roads_in, junctions_in}
use Rattle.moves.proofs.Trips.{leaves_road_lem}
use Rattle.journeys.specs.Journeys.{start_in, succs}
use Rattle.journeys.proofs.Journeys.{succs_in}
use Rattle.labels.specs.declared.Place.{Place}
use Rattle.labels.specs.LabelWords.{label_at, settled}
use Rattle.labels.specs.Lists.{Lists}
use Rattle.labels.proofs.LabelWords.{settled_at}
use Rattle.candidates.specs.Candidates.{move_at, result_at}
use Rattle.candidates.specs.Next.{Forestalled, Needless}
use Rattle.candidates.specs.Trying.{Worth, allowed, AllStand, Contends, Preceded}
use Rattle.candidates.specs.declared.Rival.{Rival}
use Rattle.candidates.proofs.Searched.{tied, roads}
use Rattle.candidates.proofs.Results.{allowed_offers}

-- a road is worth trying where it begins
pub worth_road : (run : OpenRun) {s : State} {r : ℕ} → 1 ≤ r → r ≤ run.about.sizes.roads → s.junction ≡ road_from run.map.now r → Worth (searched_trip run) s r
worth_road run {s} {r} low high there =
    record {
      low = low;
      high = omega (arith, high, roads run);
      road = λ few. leaves_road_lem (tied run) s.junction r low (omega (arith, few, (tied run).roads)) ∙ eq-eqb _ _ (sym there);
      pause = λ more. absurd (omega (arith, high, roads run));
    }

-- the junction where it begins has a place
pub begins_within : (run : OpenRun) (r : ℕ) {places : ℕ} → junctions_in (searched_trip run) < places → 1 ≤ r → r ≤ run.about.sizes.roads → road_from run.map.now r < places
begins_within run r room low high =
    let road = (sound_map run.map.now run.accepted.mapped).roads r low (omega (arith, high, roads run, (tied run).roads)) in
    omega (arith, road.from.above, (tied run).junctions, room)

-- the last label at each junction is one there
pub lasts_stand : {ws : List ℕ} {ps : List Place} {n : ℕ} → Lists ws ps n → AllStand ws ps
lasts_stand L j known some = (L.heads j known).same some

-- and a pause for each label at the junction
pub worth_pause : {trip : Trip} {s l : State} {cursor : ℕ} → Worth trip s cursor → roads_in trip < cursor → l.junction ≡ s.junction → Worth trip l cursor
worth_pause worth more there =
    record { low = worth.low; high = worth.high; road = λ few. absurd (omega arith); pause = λ m. rw there (worth.pause m) }

-- a rival of a label contends where the move is worth trying for that
pub contends_lem : (trip : Trip) (ws : List ℕ) {label cursor : ℕ} (rival : Option Rival) → SomeIff rival (1 ≤ label) (record { label = label; cursor = cursor })
    → (1 ≤ label → Worth trip (label_at ws label) cursor) → Contends trip ws rival
contends_lem trip ws None is worth = tt
contends_lem trip ws (Some by) is worth = rw is.1 (is.0, worth is.0)

-- a label before leads to a state that covers a legal one: its move is legal too
pub preceded : (run : OpenRun) {ws : List ℕ} {k before cursor : ℕ} {t : State} → 1 ≤ k → k ≤ before → Worth (searched_trip run) (label_at ws k) cursor
    → allowed run.about (label_at ws k) cursor ≡ true → legal run.about.order t ≡ true → T (covers (result_at (searched_trip run) (label_at ws k) cursor) t)
    → Preceded (searched_trip run) ws before t
preceded run {ws} {k} {cursor = cursor} {t} low high worth may lawful over =
    let trip = searched_trip run in
    record {
      label = k;
      low = low;
      high = high;
      covers = (
        result_at trip (label_at ws k) cursor,
        succs_in trip (label_at ws k) (move_at trip (label_at ws k) cursor) (sym (allowed_offers run worth) ∙ may) (covers_legal trip.order t _ over (rw (tied run).order lawful)),
        over,
      );
    }

-- it stands in the list of labels
pub forestalled_by : {trip : Trip} {ws : List ℕ} {before n : ℕ} {t : State} → before ≤ n → Preceded trip ws before t → Forestalled trip (settled ws n) before t
forestalled_by {trip} {ws} {n = n} {t} few P = (
  P.label - 1,
  omega (arith, P.low, P.high),
  subst (λ (l : State). Covered covers (succs trip l) t) (sym (settled_at ws n P.label (start_in trip) P.low (omega (arith, P.high)))) P.covers,
)

-- what needs no turn needs none among more labels, where those before are the same
pub needless_kept : (trip : Trip) (L L' : List State) (before : ℕ) (t : State) → (Covered covers L t → Covered covers L' t)
    → ((i : ℕ) → i < before → get_or L' i (start_in trip) ≡ get_or L i (start_in trip)) → Needless trip L before t → Needless trip L' before t
needless_kept trip L L' before t more same (inl C) = inl (more C)
needless_kept trip L L' before t more same (inr F) =
    inr (F.0, F.1, subst (λ (s : State). Covered covers (succs trip s) t) (sym (same F.0 F.1)) F.2)
