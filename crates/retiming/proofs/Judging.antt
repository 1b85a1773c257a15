-- Refusals 15 to 19 one after the other, by where the walk ends. Assumes nothing.
use mathlib.Core.Path.{◌≡◌, ◌∙◌, refl, sym}
use mathlib.Core.Bool.{Bool, true, false, not, ◌&&◌, ◌||◌}
use mathlib.Core.List.{List, [], ◌∷◌, ◌++◌}
use Prim.Native.Nat.{ℕ, ◌+◌}
use borrow.Author.Tests.{eq-eqb, ne_eqb}
use lib.Dec.{eqb}
use lib.ListN.{length}
use Rattle.std.specs.Prelude.{Ok, Err}
use Rattle.replies.specs.declared.Refusal.{Refusal}
use Rattle.replies.specs.declared.Refusal.TheVariants.{TornSheet, Stray}
use Rattle.replies.specs.declared.Reply.{Reply}
use Rattle.replies.specs.First.{◌at◌, first_of, NoneFits, Refuses}
use Rattle.replies.specs.Told.{refused_at, succeeded}
use Rattle.replies.proofs.First.{none_fits, stops_at, passed_over}
use Rattle.driving.specs.declared.Order.{Order}
use Rattle.states.specs.declared.State.{State}
use Rattle.moves.specs.Trip.{Trip}
use Rattle.sheets.specs.declared.Heading.{Heading}
use Rattle.sheets.specs.Sheet.{heading_of, torn}
use Rattle.retiming.specs.Walk.{Walk, refused, reached, arrival_reached}
use Rattle.retiming.specs.Retiming.{moves_on, timing, sheet_tests, false_figures, false_header}
use Rattle.retiming.specs.Parts.{WalkSays, SheetSays, audited_run}

module _ (order : Order) (sheet : List ℕ) where
  pub torn_refuses : (timed : Walk) → torn sheet ≡ true → Refuses (sheet_tests order sheet timed) (TornSheet (length sheet))
  unfolding first_of
  torn_refuses timed e rest success = rw e

  module _ (whole : torn sheet ≡ false) where
    pub move_refuses : (timed : Walk) (why : Refusal) → WalkSays timed (Err why) → Refuses (sheet_tests order sheet timed) why
    unfolding first_of
    move_refuses (refused number move) why told rest success = rw whole (sym told)
    move_refuses (reached t rows) why told rest success = absurd told

    pub stray_refuses : (timed : Walk) (s : State) → WalkSays timed (Ok s) → (s.junction ≡ order.target → ⊥) →
        Refuses (sheet_tests order sheet timed) (Stray s.junction)
    unfolding first_of
    stray_refuses (refused number move) s ended off rest success = absurd ended
    stray_refuses (reached t rows) s ended off rest success = rw (whole, ← ended, ne_eqb _ _ off)

    pub none_of_15_to_19 : (timed : Walk) (s : State) → WalkSays timed (Ok s) → s.junction ≡ order.target →
        NoneFits (sheet_tests order sheet timed)
    none_of_15_to_19 (refused number move) s ended home = absurd ended
    none_of_15_to_19 (reached t rows) s ended home = (rw whole, (refl, (rw (← ended, eq-eqb _ _ home), tt)))

-- the figures of the state that a walk reached
pub arrival_reached_lem : (timed : Walk) (s : State) → WalkSays timed (Ok s) → arrival_reached timed ≡ s.clock.0
arrival_reached_lem (refused number move) s ended = absurd ended
arrival_reached_lem (reached t rows) s ended = rw ended

-- audit's last refusal: 18 for the header
module _ (order : Order) (sheet : List ℕ) (success : Reply) where
  pub header_false : (timed : Walk) (s : State) → NoneFits (sheet_tests order sheet timed) → WalkSays timed (Ok s) →
      false_figures (heading_of sheet) s ≡ true →
      first_of (sheet_tests order sheet timed ++ ((18 at false_header (heading_of sheet) timed) ∷ [])) success ≡ refused_at 18 (moves_on sheet + 1)
  header_false (refused number move) s passed ended e = absurd ended
  header_false (reached t rows) s passed ended e =
      none_fits (sheet_tests order sheet (reached t rows)) ((18 at false_header (heading_of sheet) (reached t rows)) ∷ []) success passed
      ∙ stops_at (18 at false_header (heading_of sheet) (reached t rows)) [] success (rw (← ended, e))

  pub header_true : (timed : Walk) (s : State) → NoneFits (sheet_tests order sheet timed) → WalkSays timed (Ok s) →
      false_figures (heading_of sheet) s ≡ false →
      first_of (sheet_tests order sheet timed ++ ((18 at false_header (heading_of sheet) timed) ∷ [])) success ≡ success
  unfolding first_of
  header_true (refused number move) s passed ended e = absurd ended
  header_true (reached t rows) s passed ended e =
      none_fits (sheet_tests order sheet (reached t rows)) ((18 at false_header (heading_of sheet) (reached t rows)) ∷ []) success passed
      ∙ passed_over (18 at false_header (heading_of sheet) (reached t rows)) [] success (rw (← ended, e))

-- a header that differs from the true one, with its own moves and labels, has a false figure
pub figures_compared : (h : Heading) (s : State) →
    false_figures h s
    ≡ not (eqb h.moves h.moves && (eqb h.arrival.0 s.clock.0 && (eqb h.spell.0 s.figures.spell.0 && (eqb h.shift.0 s.figures.shift.0 && (eqb h.week.0 s.figures.week.0 && eqb h.labels h.labels)))))
unfolding false_figures
figures_compared h s =
    rw (eq-eqb h.moves h.moves refl, eq-eqb h.labels h.labels refl)
    (some_not (eqb h.arrival.0 s.clock.0) (eqb h.spell.0 s.figures.spell.0) (eqb h.shift.0 s.figures.shift.0) (eqb h.week.0 s.figures.week.0))
  where
    some_not : (a b c d : Bool) → (not a || (not b || (not c || not d))) ≡ not (a && (b && (c && (d && true))))
    some_not true true true true = refl
    some_not true true true false = refl
    some_not true true false d = refl
    some_not true false c d = refl
    some_not false b c d = refl

-- audit's reply once a run is opened
module _ (trip : Trip) (sheet : List ℕ) where
  abbrev timed : Walk
  timed = timing true trip sheet

  module _ (s : State) (heading : Heading) (is : heading ≡ heading_of sheet) (ended : SheetSays true trip sheet (Ok s)) where
    pub audited_false : false_figures heading s ≡ true → refused_at 18 (heading.moves + 1) ≡ audited_run trip sheet
    audited_false e = rw is (sym (header_false trip.order sheet _ timed s ended.1 ended.2 (rw is at e)))

    pub audited_true : false_figures heading s ≡ false → succeeded heading.moves s.clock.0 ≡ audited_run trip sheet
    audited_true e =
        rw (is, ← arrival_reached_lem timed s ended.2) (sym (header_true trip.order sheet _ timed s ended.1 ended.2 (rw is at e)))
