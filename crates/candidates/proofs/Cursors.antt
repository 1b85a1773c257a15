-- Each successor is what some cursor leads to, so the best of all cursors is the next candidate. Assumes nothing.
use mathlib.Core.Path.{◌≡◌, ◌∙◌, sym, ap}
use mathlib.Core.Bool.{true}
use mathlib.Core.List.{List, Memᴰ}
use Prim.Native.Nat.{ℕ, ◌+◌, ◌-◌, ◌≤◌, ◌<◌}
use native.Mathlib.Omega.{arith}
use borrow.Author.Tests.{eq-eqb}
use lib.Dec.{T}
use Rattle.driving.specs.Hours.{last_pause}
use Rattle.theory.proofs.Sorting.{le_of_not, never_self}
use Rattle.states.specs.declared.State.{State}
use Rattle.states.proofs.Compared.{rank_order}
use Rattle.moves.specs.declared.Move.{Move}
use Rattle.moves.specs.Trip.{Trip, roads_in}
use Rattle.moves.specs.Moves.{move, offers}
use Rattle.moves.proofs.Stepped.{offered_road}
use Rattle.moves.proofs.Offered.{pause_range, Offer, by_drive, by_pause, offer}
use Rattle.journeys.specs.Journeys.{succs}
use Rattle.journeys.proofs.Journeys.{succs_from}
use Rattle.labels.specs.declared.Candidate.{Candidate}
use Rattle.candidates.specs.Candidates.{move_at, result_at, Names, no_candidate}
use Rattle.candidates.specs.Next.{above, Needless, Spent, NextIs}
use Rattle.candidates.specs.Trying.{Apart, BestBelow}
use Rattle.candidates.proofs.Results.{move_drive, move_pause}
use Rattle.candidates.proofs.Trials.{no_fit, below_below, below_apart}

module _ (trip : Trip) (s : State) where
  -- the cursor of an offered move
  record CursorOf (m : Move) : Type 0 where
    cursor : ℕ
    low : 1 ≤ cursor
    high : cursor < roads_in trip + last_pause
    is : move_at trip s cursor ≡ m

  cursor_of_lem : (m : Move) → offers trip s m ≡ true → Offer trip s m → CursorOf m
  cursor_of_lem m offered (by_drive e leaving) =
      let range = offered_road trip s m offered (eq-eqb _ _ (ap (λ (x : Move). x.kind) e)) in
      record {
        cursor = m.number;
        low = range.0;
        high = omega (arith, range.1);
        is = move_drive trip s m.number range.1 ∙ sym e;
      }
  cursor_of_lem m offered (by_pause e may) =
      let range = pause_range trip s m.kind may in
      let cursor : ℕ = roads_in trip + (m.kind - 1) in
      let kind : cursor - roads_in trip + 1 ≡ m.kind = omega (arith, range.0) in
      record {
        cursor = cursor;
        low = omega (arith, range.0);
        high = omega (arith, range.0, range.1);
        is = move_pause trip s cursor (omega (arith, range.0)) ∙ ap (λ (k : ℕ). move k s.junction) kind ∙ sym e;
      }

  -- each successor is what some cursor leads to
  record Led (t : State) : Type 0 where
    cursor : ℕ
    named : Names trip s cursor
    is : t ≡ result_at trip s cursor

  succs_led : (t : State) → Memᴰ t (succs trip s) → Led t
  succs_led t at =
      let one = succs_from trip s at in
      let by = cursor_of_lem one.move one.offered (offer trip s one.move one.offered) in
      record {
        cursor = by.cursor;
        named = record { low = by.low; high = by.high; offered = rw by.is one.offered; lawful = rw by.is one.lawful };
        is = rw by.is one.result;
      }

  -- there is no candidate where no successor above the bound needs a turn
  pub none_left : {labels : List State} {before : ℕ} {bound : State} → Spent trip labels before s bound → NextIs trip labels before s bound no_candidate
  none_left spent =
      record {
        passes = record { named = λ some. absurd (omega arith); higher = λ some. absurd (omega arith); passed = λ t at over below. spent t at over };
        fitting = no_fit trip s;
        uncovered = λ some. absurd (omega arith);
        spent = λ last some. absurd (omega arith);
      }

-- where all cursors are tried, the best is the next candidate
pub tried_all : {trip : Trip} {labels : List State} {before : ℕ} {s bound : State} {next : ℕ} {best : Candidate} → next ≤ 0 → BestBelow trip labels before s bound next best
    → NextIs trip labels before s bound best
tried_all {trip} {labels} {before} {s} {bound} {next} {best} end tried =
    record {
      passes = record {
        named = tried.found.held.named;
        higher = tried.found.higher;
        passed = λ t at over below. passed t at over (λ some. below_apart best.more _ _ (below some));
      };
      fitting = tried.found.held;
      uncovered = tried.found.uncovered;
      spent = λ last some t at over.
          passed t at (below_below t (result_at trip s best.cursor) bound (le_of_not rank_order (result_at trip s best.cursor) t over) (tried.found.higher some))
          (λ one. rw last (λ same. never_self rank_order t (result_at trip s best.cursor) (sym same) over));
    }
  where
    passed : (t : State) → Memᴰ t (succs trip s) → T (above bound t) → (1 ≤ best.cursor → Apart best.more (result_at trip s best.cursor) t) → Needless trip labels before t
    passed t at over apart =
        let led = succs_led trip s t at in
        rw led.is
        (tried.passed led.cursor (λ some. absurd (omega arith))
        (record { named = led.named; higher = rw (← led.is) over; apart = λ some. rw (← led.is) (apart some) }))
