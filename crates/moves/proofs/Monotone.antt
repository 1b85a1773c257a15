-- The monotonicity law: a state that is no worse stays no worse by the same move, in the same run or in an easier one.
-- Stated for two runs, since dominance and two runs compared both rest on it. Assumes nothing.
use mathlib.Core.Path.{◌≡◌, ◌∙◌, sym, ap}
use mathlib.Core.Bool.{Bool, true, false, ◌&&◌}
use mathlib.Core.List.{List, ◌∷◌}
use mathlib.Core.Logic.{⊎_elim}
use Prim.Native.Nat.{ℕ, ◌+◌, ◌≤◌}
use native.Mathlib.Omega.{arith}
use borrow.Author.Tests.{le-leb, leb-true, eq-eqb, eqb-true}
use lib.Dec.{T, leb, eqb}
use Rattle.booleans.proofs.Tests.{cases, and_true}
use Rattle.theory.specs.Figures.{none_above}
use Rattle.theory.proofs.Figures.{above_tail, above_more, above_trans}
use Rattle.theory.proofs.Changes.{Change, grows, changed_each, none_changed}
use Rattle.driving.specs.Hours.{first_pause, last_pause, pause_seconds}
use Rattle.driving.proofs.Hours.{drive_changes, figures_driven, pause_changes, figures_cleared, allowed_too, no_longer}
use Rattle.states.specs.declared.State.{State}
use Rattle.states.specs.States.{figures_of, limits_of, legal, covers}
use Rattle.states.proofs.Compared.{covers_junction, covers_clock, covers_figures, covers_made, times_above, legal_within, within_legal}
use Rattle.moves.specs.declared.Move.{Move}
use Rattle.moves.specs.Trip.{Trip, road_in, park_in, roads_in}
use Rattle.moves.specs.Moves.{leaves, may_pause, offers, entered, after, begins, move_seconds}
use Rattle.moves.specs.Compared.{Eases}
use Rattle.moves.proofs.Entering.{entered_eased}
use Rattle.moves.proofs.Stepped.{offered_road}
use Rattle.moves.proofs.Offered.{pause_allowed}

-- what a move does to each figure: its seconds are added to clock, and by its kind it drives on or clears
abbrev changes_of : Bool → ℕ → List Change
changes_of true kind = grows ∷ drive_changes
changes_of false kind = grows ∷ pause_changes kind

-- the state when a move begins: behind the queue
abbrev begun : Trip → State → Move → State
begun trip s m = record { junction = s.junction; clock = record { 0 = begins trip s.clock.0 m }; figures = s.figures }

-- the figures after a move are changes of those when it begins
figures_after_lem : (trip : Trip) (s : State) (m : Move) → figures_of (after trip s m) ≡ changed_each (changes_of (eqb m.kind 1) m.kind) (move_seconds trip m) (figures_of (begun trip s m))
unfolding after begins move_seconds changed_each
figures_after_lem trip s m =
    ⊎_elim
    (λ (drive : eqb m.kind 1 ≡ true).
    rw drive (ap (λ (l : List ℕ). (entered (road_in trip m.number) s.clock.0 + (road_in trip m.number).seconds) ∷ l) (figures_driven _ s.figures)))
    (λ (pause : eqb m.kind 1 ≡ false).
    rw pause
    (ap (λ (l : List ℕ). (s.clock.0 + pause_seconds trip.order.rules m.kind) ∷ l)
    (figures_cleared m.kind (pause_seconds trip.order.rules m.kind) s.figures)))
    (cases (eqb m.kind 1))

-- where B eases A, what A offers in a state B offers in one that is no worse
module _ (tb ta : Trip) (eases : Eases tb ta) (b a : State) (m : Move) (over : T (covers b a)) where
  same : b.junction ≡ a.junction
  same = covers_junction b a over

  eased_leaves : leaves ta a.junction m.number ≡ true → leaves tb b.junction m.number ≡ true
  eased_leaves e =
      let parts = and_true {a = leb 1 m.number && leb m.number (roads_in ta)} e in
      let range = and_true {a = leb 1 m.number} parts.0 in
      let low = leb-true 1 m.number range.0 in
      let high = leb-true m.number (roads_in ta) range.1 in
      rw (le-leb _ _ low, eases.roads, le-leb _ _ high, eases.from m.number low high, same) parts.1

  eased_pause : may_pause ta a m.kind ≡ true → may_pause tb b m.kind ≡ true
  eased_pause e =
      let parts = and_true {a = leb first_pause m.kind && leb m.kind last_pause} e in
      let here = and_true {a = park_in ta a.junction} parts.1 in
      rw (parts.0, same, eases.parks a.junction here.0)
      (allowed_too tb.order.rules ta.order.rules eases.rules b.figures a.figures m.kind (above_tail _ _ _ _ (covers_figures b a over)) here.1)

  eased_offers : offers ta a m ≡ true → offers tb b m ≡ true
  unfolding offers
  eased_offers e =
      ⊎_elim
      (λ (drive : eqb m.kind 1 ≡ true). rw drive (eased_leaves (rw drive at e)))
      (λ (pause : eqb m.kind 1 ≡ false).
      let here = and_true {a = eqb m.number a.junction} (rw pause at e) in
      rw (pause, eq-eqb m.number b.junction (eqb-true m.number a.junction here.0 ∙ sym same)) (eased_pause here.1))
      (cases (eqb m.kind 1))

  -- no move that A offers takes longer in B
  eased_seconds : offers ta a m ≡ true → move_seconds tb m ≤ move_seconds ta m
  unfolding offers move_seconds
  eased_seconds e =
      ⊎_elim
      (λ (drive : eqb m.kind 1 ≡ true). let range = offered_road ta a m e drive in rw drive (eases.seconds m.number range.0 range.1))
      (λ (pause : eqb m.kind 1 ≡ false).
      let may = (and_true {a = eqb m.number a.junction} (rw pause at e)).1 in
      rw pause
      (no_longer tb.order.rules ta.order.rules eases.rules a.figures m.kind (pause_allowed ta a m.kind may)))
      (cases (eqb m.kind 1))

  -- nor begins later
  eased_begins : offers ta a m ≡ true → T (none_above (figures_of (begun tb b m)) (figures_of (begun ta a m)))
  unfolding begins
  eased_begins e =
      let rest = above_tail _ _ _ _ (covers_figures b a over) in
      ⊎_elim
      (λ (drive : eqb m.kind 1 ≡ true).
      let range = offered_road ta a m e drive in
      rw drive
      (above_more _ _ _ _ (entered_eased (road_in tb m.number).banned (road_in ta m.number).banned _ _ (eases.banned m.number range.0 range.1) (covers_clock b a over)) rest))
      (λ (pause : eqb m.kind 1 ≡ false). rw pause (covers_figures b a over))
      (cases (eqb m.kind 1))

  -- and leads to the same junction
  eased_junction : offers ta a m ≡ true → (after tb b m).junction ≡ (after ta a m).junction
  unfolding after
  eased_junction e =
      ⊎_elim
      (λ (drive : eqb m.kind 1 ≡ true). let range = offered_road ta a m e drive in rw drive (eases.to m.number range.0 range.1))
      (λ (pause : eqb m.kind 1 ≡ false). rw pause same)
      (cases (eqb m.kind 1))

  -- the law: a legal move of A is a legal move of B, and its result is no worse
  pub record EasedMove : Type 0 where
    pub offered : offers tb b m ≡ true
    pub lawful : legal tb.order (after tb b m) ≡ true
    pub over_after : T (covers (after tb b m) (after ta a m))

  pub eased_move : offers ta a m ≡ true → legal ta.order (after ta a m) ≡ true → EasedMove
  eased_move offered lawful =
      let figures : T (none_above (figures_of (after tb b m)) (figures_of (after ta a m))) =
      rw (figures_after_lem tb b m, figures_after_lem ta a m)
      (none_changed (changes_of (eqb m.kind 1) m.kind) _ _ (figures_of (begun tb b m)) (figures_of (begun ta a m)) (eased_seconds offered) (eased_begins offered)) in
      let limits : T (none_above (limits_of ta.order) (limits_of tb.order)) =
      above_more _ _ _ _ (omega (arith, eases.latest)) eases.rules.limits in
      record {
        offered = eased_offers offered;
        lawful =
            within_legal tb.order (after tb b m)
            (above_trans _ _ _ (times_above (after tb b m) (after ta a m) figures) (above_trans _ _ _ (legal_within ta.order (after ta a m) lawful) limits));
        over_after = covers_made (after tb b m) (after ta a m) (eased_junction offered) figures;
      }
