-- The loop over a sheet's records: what is known before record k. Assumes nothing.
use mathlib.Core.Path.{◌≡◌, ◌∙◌, refl, sym, ap, subst}
use mathlib.Core.Bool.{Bool}
use mathlib.Core.List.{List, [], ◌∷◌}
use Prim.Native.Nat.{ℕ, ◌+◌, ◌-◌, ◌≤◌, ◌<◌}
use native.Mathlib.Omega.{arith}
use Rattle.std.specs.Prelude.{Result, Ok, Err}
use Rattle.replies.specs.declared.Refusal.{Refusal}
use Rattle.states.specs.declared.State.{State}
use Rattle.states.specs.States.{start_of}
use Rattle.moves.specs.Trip.{Trip, junctions_in}
use Rattle.moves.specs.Runs.{SoundTrip, RangeIn}
use Rattle.moves.proofs.Rising.{start_range}
use Rattle.sheets.specs.declared.Row.{Row}
use Rattle.sheets.specs.Sheet.{row_at, rows_of}
use Rattle.retiming.specs.Walk.{Walk, move_of, walk}
use Rattle.retiming.specs.Retiming.{moves_on, timing}
use Rattle.retiming.specs.Parts.{WalkSays}
use Rattle.retiming.proofs.Walking.{walk_end, rows_next, says_refused, handed_on, says_reached, range_moved}

pub record Underway (clocks : Bool) (trip : Trip) (sheet : List ℕ) (moves k : ℕ) (s : State) : Type 0 where
  pub low : 1 ≤ k
  pub high : k ≤ moves + 1
  pub range : RangeIn trip s
  -- what the rest of the walk comes to is what the whole comes to
  pub rest : (r : Result State Refusal) → WalkSays (walk clocks trip k s (rows_of sheet k (moves + 1 - k))) r → WalkSays (timing clocks trip sheet) r

module _ {clocks : Bool} {trip : Trip} {sheet : List ℕ} {moves : ℕ} where
  pub underway_start : SoundTrip trip → moves ≡ moves_on sheet → {s : State} → s ≡ start_of trip.order → Underway clocks trip sheet moves 1 s
  unfolding timing
  underway_start sound is starts =
      let all : moves + 1 - 1 ≡ moves_on sheet = omega arith in
      rw starts
      (record {
        low = omega arith;
        high = omega arith;
        range = start_range (junctions_in trip) trip.order sound.ordered;
        rest = λ r h. subst (λ (n : ℕ). WalkSays (walk clocks trip 1 (start_of trip.order) (rows_of sheet 1 n)) r) all h;
      })

  module _ {k : ℕ} {s : State} (on : Underway clocks trip sheet moves k s) where
    -- the records from k on, where k is one of them
    these : k ≤ moves → rows_of sheet k (moves + 1 - k) ≡ row_at sheet k ∷ rows_of sheet (k + 1) (moves + 1 - (k + 1))
    these more = rows_next sheet k (moves + 1 - k) (omega arith) ∙ ap (λ (n : ℕ). row_at sheet k ∷ rows_of sheet (k + 1) n) (less k more)
      where
        less : (k : ℕ) → k ≤ moves → moves + 1 - k - 1 ≡ moves + 1 - (k + 1)
        less k more = omega arith

    whole : k ≤ moves → (r : Result State Refusal) → WalkSays (walk clocks trip k s (row_at sheet k ∷ rows_of sheet (k + 1) (moves + 1 - (k + 1)))) r → WalkSays (timing clocks trip sheet) r
    whole more r h = on.rest r (subst (λ (rows : List Row). WalkSays (walk clocks trip k s rows) r) (sym (these more)) h)

    pub underway_refused : k ≤ moves → {row : Row} → row ≡ row_at sheet k → (why : Refusal) → WalkSays (walk clocks trip k s (row ∷ [])) (Err why) →
        WalkSays (timing clocks trip sheet) (Err why)
    underway_refused more is why h =
        whole more (Err why) (says_refused clocks trip k s (row_at sheet k) (rows_of sheet (k + 1) (moves + 1 - (k + 1))) why (rw is at h))

    pub underway_next : SoundTrip trip → k ≤ moves → {row : Row} → row ≡ row_at sheet k → (t : State) → WalkSays (walk clocks trip k s (row ∷ [])) (Ok t) →
        Underway clocks trip sheet moves (k + 1) t
    underway_next sound more is t h =
        let handed = handed_on clocks trip k s (row_at sheet k) t (rw is at h) in
        record {
          low = omega arith;
          high = omega arith;
          range = range_moved trip sound s (move_of (row_at sheet k)) t on.range handed.moved;
          rest = λ r g. whole more r (says_reached clocks trip k s (row_at sheet k) t handed (rows_of sheet (k + 1) (moves + 1 - (k + 1))) r g);
        }

    pub underway_end : moves < k → WalkSays (timing clocks trip sheet) (Ok s)
    unfolding rows_of
    underway_end past =
        let none : moves + 1 - k ≡ 0 = omega arith in
        on.rest (Ok s)
        (subst (λ (n : ℕ). WalkSays (walk clocks trip k s (rows_of sheet k n)) (Ok s)) (sym none)
        (subst (λ (w : Walk). WalkSays w (Ok s)) (sym (walk_end clocks trip k s)) refl))
