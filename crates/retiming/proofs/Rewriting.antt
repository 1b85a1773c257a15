-- The second pass, which writes the records with their true clocks: what is known before record k. Assumes nothing.
use mathlib.Core.Path.{◌≡◌, ◌∙◌, refl, sym, ap, subst}
use mathlib.Core.Bool.{Bool, false}
use mathlib.Core.List.{List, [], ◌∷◌, ◌++◌}
use Prim.Native.Nat.{ℕ, zero, suc, ◌+◌, ◌-◌, ◌≤◌, ◌<◌}
use native.Mathlib.Omega.{arith}
use lib.ListN.{length, take, drop, length-take}
use lib.Seq.{length-take-le}
use Rattle.std.specs.Prelude.{Ok, Err}
use Rattle.replies.specs.declared.Refusal.{Refusal}
use Rattle.states.specs.declared.State.{State}
use Rattle.moves.specs.Trip.{Trip, junctions_in}
use Rattle.states.specs.States.{start_of}
use Rattle.moves.specs.Runs.{SoundTrip, RangeIn}
use Rattle.moves.proofs.Rising.{start_range}
use Rattle.sheets.specs.declared.Row.{Row}
use Rattle.sheets.specs.Sheet.{row_at, rows_of, sheet_needed, with_row}
use Rattle.sheets.specs.Written.{rows_put}
use Rattle.sheets.proofs.Writing.{none_from, row_behind, length_from}
use Rattle.retiming.specs.Walk.{Walk, refused, reached, move_of, true_row, recorded, walk}
use Rattle.retiming.specs.Retiming.{moves_on, timing}
use Rattle.retiming.specs.Parts.{WalkSays, Ends, last_reached, rows_reached}
use Rattle.retiming.proofs.Walking.{OneRow, stops, passes, one_row, walk_end, rows_next, says_refused, handed_on, range_moved}

-- a walk that reached a state is that state and its records
pub reached_is : (w : Walk) (s : State) → WalkSays w (Ok s) → w ≡ reached s (rows_reached w)
reached_is (refused number move) s ended = absurd ended
reached_is (reached t rows) s ended = ap (λ (x : State). reached x rows) (sym ended)

pub ends_is : (start : State) (w : Walk) → Ends w → w ≡ reached (last_reached start w) (rows_reached w)
ends_is start (refused number move) ended = absurd ended
ends_is start (reached t rows) ended = refl

pub says_ends : (w : Walk) (s : State) → WalkSays w (Ok s) → Ends w
says_ends (refused number move) s ended = ended
says_ends (reached t rows) s ended = tt

not_refused : {l : State} {ys : List Row} {w : Walk} (why : Refusal) → w ≡ reached l ys → WalkSays w (Err why) → ⊥
not_refused {l} {ys} why e h = subst (λ (x : Walk). WalkSays x (Err why)) e h

-- the first of the records reached, and the rest
pub record Cut (x : Row) (w : Walk) (l : State) (ys : List Row) : Type 0 where
  pub zs : List Row
  pub rest : w ≡ reached l zs
  pub is : ys ≡ x ∷ zs

pub cut : (x : Row) (w : Walk) (l : State) (ys : List Row) → recorded x w ≡ reached l ys → Cut x w l ys
cut x (refused number move) l ys e = absurd (let z : ◌≡◌ {A = ℕ} 0 1 = cc in omega arith)
cut x (reached s zs) l ys e = record { zs = zs; rest = cc; is = cc }

module _ {A : Type 0} where
  take_more : (i : ℕ) (xs zs : List A) {x : A} → drop i xs ≡ x ∷ zs → take (suc i) xs ≡ take i xs ++ (x ∷ [])
  take_more zero [] zs e = absurd (let z : ◌≡◌ {A = ℕ} 0 1 = cc in omega arith)
  take_more zero (y ∷ xs) zs {x} e = let same : y ≡ x = cc in ap (λ (a : A). a ∷ []) same
  take_more (suc i) [] zs e = absurd (let z : ◌≡◌ {A = ℕ} 0 1 = cc in omega arith)
  take_more (suc i) (y ∷ xs) zs e = ap (λ (l : List A). y ∷ l) (take_more i xs zs e)

  drop_more : (i : ℕ) (xs zs : List A) {x : A} → drop i xs ≡ x ∷ zs → drop (suc i) xs ≡ zs
  drop_more zero [] zs e = absurd (let z : ◌≡◌ {A = ℕ} 0 1 = cc in omega arith)
  drop_more zero (y ∷ xs) zs {x} e = cc
  drop_more (suc i) [] zs e = absurd (let z : ◌≡◌ {A = ℕ} 0 1 = cc in omega arith)
  drop_more (suc i) (y ∷ xs) zs e = drop_more i xs zs e

  drop_within : (i : ℕ) (xs zs : List A) {x : A} → drop i xs ≡ x ∷ zs → i < length xs
  drop_within zero [] zs e = absurd (let z : ◌≡◌ {A = ℕ} 0 1 = cc in omega arith)
  drop_within zero (y ∷ xs) zs e = omega arith
  drop_within (suc i) [] zs e = absurd (let z : ◌≡◌ {A = ℕ} 0 1 = cc in omega arith)
  drop_within (suc i) (y ∷ xs) zs e = omega (arith, drop_within i xs zs e)

  take_all : (i : ℕ) (xs : List A) → drop i xs ≡ [] → take i xs ≡ xs
  take_all zero [] e = refl
  take_all zero (y ∷ xs) e = absurd (let z : ◌≡◌ {A = ℕ} 0 1 = cc in omega arith)
  take_all (suc i) [] e = refl
  take_all (suc i) (y ∷ xs) e = ap (λ (l : List A). y ∷ l) (take_all i xs e)

-- as many records are reached as were walked over
pub walk_length : (clocks : Bool) (trip : Trip) (k : ℕ) (s : State) (rs : List Row) {l : State} {ys : List Row} → walk clocks trip k s rs ≡ reached l ys → length ys ≡ length rs
walk_length clocks trip k s [] {l} {ys} e = let none : ys ≡ [] = cc (walk_end clocks trip k s) in ap length none
walk_length clocks trip k s (row ∷ rs) {l} {ys} e = by (one_row clocks trip k s row) (λ t zs p. walk_length clocks trip (k + 1) t rs p)
  where
    never : {number : ℕ} → refused number k ≡ reached l ys → ⊥
    never p = let z : ◌≡◌ {A = ℕ} 0 1 = cc in omega arith

    by : OneRow clocks trip k s row → ((t : State) (zs : List Row) → walk clocks trip (k + 1) t rs ≡ reached l zs → length zs ≡ length rs) → length ys ≡ length (row ∷ rs)
    by (stops number late always) go = absurd (never (sym (always rs) ∙ e))
    by (passes t moved always) go =
        let rest = cut (true_row row t) (walk clocks trip (k + 1) t rs) l ys (sym (always rs) ∙ e) in
        ap length rest.is ∙ ap suc (go t rest.zs rest.rest)

pub record Rewriting (trip : Trip) (sheet : List ℕ) (moves : ℕ) (last : State) (rows : List Row) (before : List ℕ) (k : ℕ) (s : State) (out : List ℕ) : Type 0 where
  pub low : 1 ≤ k
  pub high : k ≤ moves + 1
  pub range : RangeIn trip s
  -- the rest of the walk gives the rest of the records
  pub left : walk false trip k s (rows_of sheet k (moves + 1 - k)) ≡ reached last (drop (k - 1) rows)
  -- and those before it are written
  pub done : out ≡ rows_put 0 (take (k - 1) rows) before

module _ {trip : Trip} {sheet : List ℕ} {moves : ℕ} {last : State} {rows : List Row} {before : List ℕ} where
  pub rewriting_start : SoundTrip trip → moves ≡ moves_on sheet → timing false trip sheet ≡ reached last rows → {s : State} → s ≡ start_of trip.order → Rewriting trip sheet moves last rows before 1 s before
  unfolding timing
  rewriting_start sound is timed starts =
      let all : moves + 1 - 1 ≡ moves_on sheet = omega arith in
      rw starts
      (record {
        low = omega arith;
        high = omega arith;
        range = start_range (junctions_in trip) trip.order sound.ordered;
        left = ap (λ (n : ℕ). walk false trip 1 (start_of trip.order) (rows_of sheet 1 n)) all ∙ timed;
        done = sym (none_from 0 before);
      })

  module _ {k : ℕ} {s : State} {out : List ℕ} (on : Rewriting trip sheet moves last rows before k s out) where
    these : k ≤ moves → walk false trip k s (rows_of sheet k (moves + 1 - k)) ≡ walk false trip k s (row_at sheet k ∷ rows_of sheet (k + 1) (moves + 1 - (k + 1)))
    these more =
        ap (walk false trip k s)
        (rows_next sheet k (moves + 1 - k) (omega arith) ∙ ap (λ (n : ℕ). row_at sheet k ∷ rows_of sheet (k + 1) n) (less k more))
      where
        less : (k : ℕ) → k ≤ moves → moves + 1 - k - 1 ≡ moves + 1 - (k + 1)
        less k more = omega arith

    pub never_refused : k ≤ moves → {row : Row} → row ≡ row_at sheet k → (why : Refusal) → WalkSays (walk false trip k s (row ∷ [])) (Err why) → ⊥
    never_refused more is why h =
        not_refused why (sym (these more) ∙ on.left)
        (says_refused false trip k s (row_at sheet k) (rows_of sheet (k + 1) (moves + 1 - (k + 1))) why (rw is at h))

    -- all are written where all have been walked over
    pub rewriting_end : moves < k → out ≡ rows_put 0 rows before
    unfolding rows_of
    rewriting_end past =
        let none_left : moves + 1 - k ≡ 0 = omega arith in
        let ended : reached s [] ≡ reached last (drop (k - 1) rows) =
        sym (ap (λ (n : ℕ). walk false trip k s (rows_of sheet k n)) none_left ∙ walk_end false trip k s) ∙ on.left in
        on.done ∙ ap (λ (l : List Row). rows_put 0 l before) (take_all (k - 1) rows (sym (cc ended)))

    -- the sheet keeps its length
    pub rewriting_length : sheet_needed moves ≤ length before → length out ≡ length before
    rewriting_length fits = ap length on.done ∙ length_from 0 (take (k - 1) rows) before (omega (arith, length-take (k - 1) rows, on.high))

    pub rewriting_next : SoundTrip trip → k ≤ moves → sheet_needed moves ≤ length before → {row : Row} → row ≡ row_at sheet k →
        (t : State) → WalkSays (walk false trip k s (row ∷ [])) (Ok t) → {after : List ℕ} → after ≡ with_row out k (true_row row t) →
        Rewriting trip sheet moves last rows before (k + 1) t after
    rewriting_next sound more fits is t h written =
        let handed = handed_on false trip k s (row_at sheet k) t (rw is at h) in
        let rest = cut (true_row (row_at sheet k) t) (walk false trip (k + 1) t (rows_of sheet (k + 1) (moves + 1 - (k + 1)))) last (drop (k - 1) rows)
        (sym (handed.always (rows_of sheet (k + 1) (moves + 1 - (k + 1)))) ∙ sym (these more) ∙ on.left) in
        let within = drop_within (k - 1) rows rest.zs rest.is in
        let next : k + 1 - 1 ≡ suc (k - 1) = omega (arith, on.low) in
        record {
          low = omega arith;
          high = omega arith;
          range = range_moved trip sound s (move_of (row_at sheet k)) t on.range handed.moved;
          left = rest.rest ∙ ap (reached last) (sym (ap (λ (i : ℕ). drop i rows) next ∙ drop_more (k - 1) rows rest.zs rest.is));
          done = (rw is at written)
              ∙ ap (λ (l : List ℕ). with_row l k (true_row (row_at sheet k) t)) on.done
              ∙ row_behind 0 (take (k - 1) rows) before k (true_row (row_at sheet k) t) (omega (arith, length-take-le (k - 1) rows (omega (arith, within)), on.low)) (omega arith)
              ∙ sym (ap (λ (l : List Row). rows_put 0 l before) (ap (λ (i : ℕ). take i rows) next ∙ take_more (k - 1) rows rest.zs rest.is));
        }
