-- The walk record by record. Assumes nothing.
use mathlib.Core.Path.{◌≡◌, ◌∙◌, refl, sym, ap, subst}
use mathlib.Core.Bool.{Bool, true, false, not, ◌&&◌}
use mathlib.Core.List.{List, [], ◌∷◌}
use Prim.Native.Nat.{ℕ, zero, suc, ◌+◌, ◌-◌, ◌≤◌}
use lib.Dec.{eqb, lit≤}
use native.Mathlib.Omega.{arith}
use Rattle.booleans.specs.Pick.{pick}
use Rattle.std.specs.Prelude.{Result, Ok, Err}
use Rattle.replies.specs.declared.Refusal.{Refusal}
use Rattle.states.specs.declared.State.{State}
use Rattle.moves.specs.declared.Move.{Move}
use Rattle.moves.specs.declared.Fault.{Fault}
use Rattle.moves.specs.declared.Fault.TheVariants.{Foreign, Overrun}
use Rattle.moves.specs.Trip.{Trip}
use Rattle.moves.specs.Moves.{judged, stepped, offers, after}
use Rattle.states.specs.States.{legal}
use Rattle.moves.specs.Runs.{SoundTrip, RangeIn}
use Rattle.moves.proofs.Rising.{range_after}
use Rattle.sheets.specs.Sheet.{row_at, rows_of}
use Rattle.sheets.specs.declared.Row.{Row}
use Rattle.retiming.specs.Walk.{Walk, refused, reached, move_of, true_row, recorded, walk}
use Rattle.retiming.specs.Parts.{clock_walk, WalkSays}

module _ (clocks : Bool) (trip : Trip) (k : ℕ) (s : State) (row : Row) (rows : List Row) where
  pub walk_foreign : stepped trip s (move_of row) ≡ Err Foreign → walk clocks trip k s (row ∷ rows) ≡ refused 16 k
  unfolding walk
  walk_foreign e = rw (e, walk)

  pub walk_overrun : stepped trip s (move_of row) ≡ Err Overrun → walk clocks trip k s (row ∷ rows) ≡ refused 17 k
  unfolding walk
  walk_overrun e = rw (e, walk)

  pub walk_moved : {t : State} → stepped trip s (move_of row) ≡ Ok t →
      walk clocks trip k s (row ∷ rows) ≡ pick (clocks && not (eqb row.clock.0 t.clock.0)) (refused 18 k) (recorded (true_row row t) (walk clocks trip (k + 1) t rows))
  unfolding walk
  walk_moved {t} e = rw (e, walk) (two (clocks && not (eqb row.clock.0 t.clock.0)))
    where
      two : (b : Bool) → (elim b as (λ x. Walk) [ true ↦ refused 18 k | false ↦ recorded (true_row row t) (walk clocks trip (k + 1) t rows) ]) ≡ pick b (refused 18 k) (recorded (true_row row t) (walk clocks trip (k + 1) t rows))
      two true = refl
      two false = refl

-- a move that led to a state was offered and legal
pub record MovedTo (trip : Trip) (s : State) (m : Move) (t : State) : Type 0 where
  pub offered : offers trip s m ≡ true
  pub lawful : legal trip.order (after trip s m) ≡ true
  pub result : t ≡ after trip s m

judged_moved : (offered lawful : Bool) (u t : State) → judged offered lawful u ≡ Ok t → (offered ≡ true) × (lawful ≡ true) × (t ≡ u)
judged_moved true true u t e = (refl, refl, cc)
judged_moved true false u t e = absurd (let z : ◌≡◌ {A = ℕ} 0 1 = cc in omega arith)
judged_moved false lawful u t e = absurd (let z : ◌≡◌ {A = ℕ} 0 1 = cc in omega arith)

pub moved_to : (trip : Trip) (s : State) (m : Move) (t : State) → stepped trip s m ≡ Ok t → MovedTo trip s m t
moved_to trip s m t e =
    let parts = judged_moved (offers trip s m) (legal trip.order (after trip s m)) (after trip s m) t e in
    record { offered = parts.0; lawful = parts.1; result = parts.2 }

-- what is said of a walk is said of it with one more record before it
says_recorded : (row : Row) (w : Walk) (r : Result State Refusal) → WalkSays w r → WalkSays (recorded row w) r
says_recorded row (refused number move) (Err why) h = h
says_recorded row (refused number move) (Ok s) h = h
says_recorded row (reached t rows) (Err why) h = h
says_recorded row (reached t rows) (Ok s) h = h

pub walk_end : (clocks : Bool) (trip : Trip) (k : ℕ) (s : State) → walk clocks trip k s [] ≡ reached s []
unfolding walk
walk_end clocks trip k s = refl

-- what one record does to the walk over it and all that follow
pub data OneRow (clocks : Bool) (trip : Trip) (k : ℕ) (s : State) (row : Row) : Type 0 where
  stops : (number : ℕ) → 16 ≤ number → ((rows : List Row) → walk clocks trip k s (row ∷ rows) ≡ refused number k) → OneRow clocks trip k s row
  passes : (t : State) → stepped trip s (move_of row) ≡ Ok t
      → ((rows : List Row) → walk clocks trip k s (row ∷ rows) ≡ recorded (true_row row t) (walk clocks trip (k + 1) t rows)) → OneRow clocks trip k s row

module _ (clocks : Bool) (trip : Trip) (k : ℕ) (s : State) (row : Row) where
  pub one_row : OneRow clocks trip k s row
  one_row = at (stepped trip s (move_of row)) refl
    where
      by_clock : (t : State) → stepped trip s (move_of row) ≡ Ok t → (b : Bool) → (clocks && not (eqb row.clock.0 t.clock.0)) ≡ b → OneRow clocks trip k s row
      by_clock t e true is = stops 18 (lit≤ tt) (λ rows. walk_moved clocks trip k s row rows e ∙ rw is refl)
      by_clock t e false is = passes t e (λ rows. walk_moved clocks trip k s row rows e ∙ rw is refl)

      at : (x : Result State Fault) → stepped trip s (move_of row) ≡ x → OneRow clocks trip k s row
      at (Err Foreign) e = stops 16 (lit≤ tt) (λ rows. walk_foreign clocks trip k s row rows e)
      at (Err Overrun) e = stops 17 (lit≤ tt) (λ rows. walk_overrun clocks trip k s row rows e)
      at (Ok t) e = by_clock t e (clocks && not (eqb row.clock.0 t.clock.0)) refl

  says : (r : Result State Refusal) {v w : Walk} → v ≡ w → WalkSays v r → WalkSays w r
  says r e g = subst (λ (x : Walk). WalkSays x r) e g

  last_reached_lem : {t : State} → recorded (true_row row t) (walk clocks trip (k + 1) t []) ≡ reached t (true_row row t ∷ [])
  last_reached_lem {t} = ap (recorded (true_row row t)) (walk_end clocks trip (k + 1) t)

  -- a record that is refused ends the walk over all that follow it
  pub says_refused : (rows : List Row) (why : Refusal) → WalkSays (walk clocks trip k s (row ∷ [])) (Err why) →
      WalkSays (walk clocks trip k s (row ∷ rows)) (Err why)
  says_refused rows why h = by one_row
    where
      by : OneRow clocks trip k s row → WalkSays (walk clocks trip k s (row ∷ rows)) (Err why)
      by (stops number late always) = says (Err why) (sym (always rows)) (says (Err why) (always []) h)
      by (passes t e always) = absurd (says (Err why) (always [] ∙ last_reached_lem) h)

  -- a record that leads to a state hands the walk on to those that follow
  pub record HandedOn (t : State) : Type 0 where
    pub moved : MovedTo trip s (move_of row) t
    pub always : (rows : List Row) → walk clocks trip k s (row ∷ rows) ≡ recorded (true_row row t) (walk clocks trip (k + 1) t rows)

  pub handed_on : (t : State) → WalkSays (walk clocks trip k s (row ∷ [])) (Ok t) → HandedOn t
  handed_on t h = by one_row
    where
      by : OneRow clocks trip k s row → HandedOn t
      by (stops number late always) = absurd (says (Ok t) (always []) h)
      by (passes u e always) =
          let same : t ≡ u = says (Ok t) (always [] ∙ last_reached_lem) h in
          rw same (record { moved = moved_to trip s (move_of row) u e; always = always })

  pub says_reached : (t : State) → HandedOn t → (rows : List Row) (r : Result State Refusal) → WalkSays (walk clocks trip (k + 1) t rows) r → WalkSays (walk clocks trip k s (row ∷ rows)) r
  says_reached t on rows r h = says r (sym (on.always rows)) (says_recorded (true_row row t) (walk clocks trip (k + 1) t rows) r h)

  -- and a state that its move led to is judged by its clock alone
  pub says_clock : {t : State} (r : Result State Refusal) → stepped trip s (move_of row) ≡ Ok t → WalkSays (clock_walk clocks k row.clock t) r →
      WalkSays (walk clocks trip k s (row ∷ [])) r
  says_clock {t} r e h = says r (sym (walk_moved clocks trip k s row [] e)) (by (clocks && not (eqb row.clock.0 t.clock.0)) h)
    where
      by : (b : Bool) → WalkSays (pick b (refused 18 k) (reached t [])) r → WalkSays (pick b (refused 18 k) (recorded (true_row row t) (walk clocks trip (k + 1) t []))) r
      by true g = g
      by false g = says r (sym (ap (recorded (true_row row t)) (walk_end clocks trip (k + 1) t))) (says_recorded (true_row row t) (reached t []) r g)

-- the records from number k on are record k and those after it
pub rows_next : (sheet : List ℕ) (k n : ℕ) → 1 ≤ n → rows_of sheet k n ≡ row_at sheet k ∷ rows_of sheet (k + 1) (n - 1)
unfolding rows_of
rows_next sheet k zero low = absurd (omega arith)
rows_next sheet k (suc n) low = ap (λ (m : ℕ). row_at sheet k ∷ rows_of sheet (k + 1) m) (less n)
  where
    less : (n : ℕ) → n ≡ suc n - 1
    less n = omega arith

-- a state in range is led to a state in range
pub range_moved : (trip : Trip) → SoundTrip trip → (s : State) (m : Move) (t : State) → RangeIn trip s → MovedTo trip s m t → RangeIn trip t
range_moved trip sound s m t range moved = rw moved.result (range_after trip sound s m moved.offered range moved.lawful)
