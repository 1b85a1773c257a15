-- What a cursor's move is, when it is offered, and what it leads to: a drive, or a pause by its kind. Assumes nothing.
use mathlib.Core.Path.{◌≡◌, ◌∙◌, refl, sym, ap}
use mathlib.Core.Bool.{true, false, ◌&&◌}
use mathlib.Core.Logic.{⊎_elim}
use Prim.Native.Nat.{ℕ, zero, suc, ◌+◌, ◌-◌, ◌≤◌, ◌<◌}
use native.Mathlib.Omega.{arith}
use borrow.Author.Tests.{eq-eqb, ne_eqb, le-leb, lt-leb, leb-true, leb-false}
use lib.Dec.{leb}
use Rattle.booleans.proofs.Tests.{cases}
use Rattle.roadmap.specs.Format.{road_count}
use Rattle.roadmap.proofs.RoadTime.{at_most}
use Rattle.mapcheck.proofs.Sound.{sound_map}
use Rattle.driving.specs.Hours.{first_pause, last_pause, allows_pause, driven_on, cleared}
use Rattle.driving.specs.declared.Figures.{Figures}
use Rattle.states.specs.declared.State.{State}
use Rattle.states.specs.States.{legal}
use Rattle.moves.specs.declared.given.OpenRun.{OpenRun}
use Rattle.moves.specs.OpenRuns.{searched_trip}
use Rattle.moves.specs.Trip.{Stretch, Trip, none_banned, road_in, roads_in, park_in}
use Rattle.bans.specs.Bans.{closed_in}
use Rattle.moves.specs.Moves.{move, leaves, offers, entered_when, driven_from, paused, after}
use Rattle.moves.specs.Runs.{stretch_in}
use Rattle.moves.proofs.Stepped.{driven_in}
use Rattle.labels.specs.declared.Candidate.{Candidate}
use Rattle.candidates.specs.Candidates.{move_at, result_at, candidate_clock, no_clock, candidate_junction, Names, Fitting}
use Rattle.candidates.specs.Trying.{Worth, allowed}
use Rattle.candidates.proofs.Searched.{tied, roads}

module _ (trip : Trip) (s : State) (cursor : ℕ) where
  pub move_drive : cursor ≤ roads_in trip → move_at trip s cursor ≡ move 1 cursor
  unfolding move_at
  move_drive high = rw (le-leb _ _ high)

  pub move_pause : roads_in trip < cursor → move_at trip s cursor ≡ move (cursor - roads_in trip + 1) s.junction
  unfolding move_at
  move_pause low = rw (lt-leb _ _ low)

  pub offers_road : cursor ≤ roads_in trip → offers trip s (move_at trip s cursor) ≡ leaves trip s.junction cursor
  unfolding offers
  offers_road high = rw (move_drive high)

  pub offers_pause : roads_in trip < cursor → cursor < roads_in trip + last_pause →
      offers trip s (move_at trip s cursor) ≡ (park_in trip s.junction && allows_pause trip.order.rules s.figures (cursor - roads_in trip + 1))
  unfolding offers
  offers_pause low high =
      let kind : ℕ = cursor - roads_in trip + 1 in
      rw (move_pause low, ne_eqb kind 1 (λ e. omega arith), eq-eqb s.junction s.junction refl, le-leb first_pause kind (omega arith), le-leb kind last_pause (omega arith))

-- of a cursor worth trying the driver's figures decide
pub allowed_offers : (run : OpenRun) {s : State} {cursor : ℕ} → Worth (searched_trip run) s cursor → allowed run.about s cursor ≡ offers (searched_trip run) s (move_at (searched_trip run) s cursor)
allowed_offers run {s} {cursor} worth =
    ⊎_elim
    (λ (road : leb cursor run.about.sizes.roads ≡ true).
    let high : cursor ≤ roads_in (searched_trip run) = omega (arith, leb-true _ _ road, roads run) in
    rw road (sym (offers_road (searched_trip run) s cursor high ∙ worth.road high)))
    (λ (pause : leb cursor run.about.sizes.roads ≡ false).
    let low : roads_in (searched_trip run) < cursor = omega (arith, leb-false _ _ pause, roads run) in
    rw (pause, offers_pause (searched_trip run) s cursor low worth.high, worth.pause low, (tied run).order, roads run))
    (cases (leb cursor run.about.sizes.roads))

-- one whose move is allowed and legal names it
pub names : (run : OpenRun) {s reached : State} {cursor : ℕ} → Worth (searched_trip run) s cursor → reached ≡ result_at (searched_trip run) s cursor → allowed run.about s cursor ≡ true
    → legal run.about.order reached ≡ true → Names (searched_trip run) s cursor
names run worth is may lawful =
    record { low = worth.low; high = worth.high; offered = sym (allowed_offers run worth) ∙ may; lawful = rw (← is, (tied run).order) lawful }

-- the clock and the junction that go with a cursor
module _ (trip : Trip) (s : State) where
  pub clock_some : (cursor : ℕ) → 1 ≤ cursor → candidate_clock trip s cursor ≡ (result_at trip s cursor).clock.0
  unfolding candidate_clock
  clock_some zero low = absurd (omega arith)
  clock_some (suc c) low = refl

  pub clock_none : (cursor : ℕ) → cursor ≤ 0 → candidate_clock trip s cursor ≡ no_clock
  unfolding candidate_clock
  clock_none zero none = refl
  clock_none (suc c) none = absurd (omega arith)

  pub junction_some : (cursor : ℕ) → 1 ≤ cursor → candidate_junction trip s cursor ≡ (result_at trip s cursor).junction
  unfolding candidate_junction
  junction_some zero low = absurd (omega arith)
  junction_some (suc c) low = refl

  pub junction_none : (cursor : ℕ) → cursor ≤ 0 → candidate_junction trip s cursor ≡ 0
  unfolding candidate_junction
  junction_none zero none = refl
  junction_none (suc c) none = absurd (omega arith)

pub record DriveTime (entry clock seconds : ℕ) : Type 0 where
  pub after : entry ≤ clock
  pub is : clock - entry ≡ seconds
  pub few : seconds ≤ 1440000

module _ (run : OpenRun) (s : State) where
  -- when a road is entered
  abbrev entered_at : ℕ → ℕ
  entered_at road = entered_when (closed_in run.closed.now road) s.clock.0

  pub result_drive : (cursor : ℕ) → 1 ≤ cursor → cursor ≤ run.about.sizes.roads → (entry : ℕ) → entry ≡ entered_at cursor
      → driven_from entry (stretch_in run.map.now none_banned run.about cursor) s ≡ result_at (searched_trip run) s cursor
  unfolding after
  result_drive cursor low high entry enters =
      driven_in (tied run) s cursor (low, omega (arith, high, roads run, (tied run).roads)) entry enters
      ∙ rw (move_drive (searched_trip run) s cursor (omega (arith, high, roads run)))

  pub result_pause : (cursor : ℕ) → run.about.sizes.roads < cursor
      → paused (cursor - run.about.sizes.roads + 1) run.about.order.rules s ≡ result_at (searched_trip run) s cursor
  unfolding after
  result_pause cursor low =
      let kind : ℕ = cursor - roads_in (searched_trip run) + 1 in
      rw (move_pause (searched_trip run) s cursor (omega (arith, low, roads run)), ne_eqb kind 1 (λ e. omega (arith, low, roads run, e)), (tied run).order, roads run)

  -- a candidate with a cursor tells the state that its cursor leads to, but for the figures
  module _ {c : Candidate} (fit : Fitting (searched_trip run) s c) (some : 1 ≤ c.cursor) where
    abbrev reached : State
    reached = result_at (searched_trip run) s c.cursor

    pub told_clock : c.clock.0 ≡ reached.clock.0
    told_clock = fit.clock ∙ clock_some _ s c.cursor some

    pub told_state : {figures : Figures} → figures ≡ reached.figures → record { junction = c.junction; clock = c.clock; figures = figures } ≡ reached
    told_state is = λ i. record { junction = (fit.junction ∙ junction_some _ s c.cursor some) i; clock = record { 0 = told_clock i }; figures = is i }

    module _ (high : c.cursor ≤ run.about.sizes.roads) {entry : ℕ} (enters : entry ≡ entered_at c.cursor) where
      -- what a drive adds to the clock, once its road is entered, is its road time
      pub drive_time : DriveTime entry c.clock.0 (road_in (searched_trip run) c.cursor).seconds
      drive_time =
          let top : c.cursor ≤ road_count run.map.now = omega (arith, high, roads run, (tied run).roads) in
          let road = (sound_map run.map.now run.accepted.mapped).roads c.cursor some top in
          let stretch = (tied run).road c.cursor some top in
          let time = told_clock ∙ ap (λ (t : State). t.clock.0) (sym (result_drive c.cursor some high entry enters)) in
          record { after = omega arith; is = rw stretch (omega (arith, time)); few = rw stretch (at_most _ _ road.metres.below road.speed.above) }

      -- so the two moments tell the figures after it
      pub told_drive : driven_on (c.clock.0 - entry) s.figures ≡ reached.figures
      told_drive =
          let top : c.cursor ≤ road_count run.map.now = omega (arith, high, roads run, (tied run).roads) in
          ap (λ (seconds : ℕ). driven_on seconds s.figures) (drive_time.is ∙ ap (λ (road : Stretch). road.seconds) ((tied run).road c.cursor some top))
          ∙ ap (λ (t : State). t.figures) (result_drive c.cursor some high entry enters)

    pub told_pause : run.about.sizes.roads < c.cursor → cleared (c.cursor - run.about.sizes.roads + 1) s.figures ≡ reached.figures
    told_pause low = ap (λ (t : State). t.figures) (result_pause c.cursor low)
