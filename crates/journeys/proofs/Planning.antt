-- The reply of planning: which refusal fits when, and that accepted bytes make a sound run. Assumes nothing.
use mathlib.Core.Path.{◌≡◌, refl, ap}
use mathlib.Core.Bool.{Bool, true, false}
use mathlib.Core.List.{List, [], ◌∷◌, ◌++◌}
use mathlib.Core.Logic.{⊎_elim, ◌↔◌}
use mathlib.Core.Option.{Option, none, some}
use Prim.Native.Nat.{ℕ, ◌≤◌, ◌<◌}
use native.Mathlib.Omega.{arith}
use borrow.Author.Tests.{ne_eqb, lt-ltb, le-ltb, ltb-true, ltb-false}
use lib.Dec.{ltb, eqb}
use lib.ListN.{length}
use Rattle.booleans.proofs.Tests.{cases}
use Rattle.replies.specs.declared.Reply.{Reply}
use Rattle.replies.specs.Told.{succeeded, refused_at}
use Rattle.replies.specs.First.{Test, ◌at◌, refused_or, first_of, NoneFits}
use Rattle.replies.proofs.First.{none_fits, none_of_both}
use Rattle.roadmap.specs.Format.{junction_count, road_count}
use Rattle.mapcheck.specs.MapCheck.{map_tests, AcceptedMap}
use Rattle.driving.specs.Order.{order_tests}
use Rattle.driving.proofs.Accepted.{order_accepted}
use Rattle.states.specs.declared.State.{State}
use Rattle.moves.specs.declared.Move.{Move}
use Rattle.bans.specs.Bans.{listed_in}
use Rattle.bans.specs.BanList.{ban_tests}
use Rattle.moves.specs.Trip.{Trip}
use Rattle.moves.specs.Given.{Given, order_from, trip_from}
use Rattle.moves.specs.RunTests.{opening_tests, run_tests}
use Rattle.moves.proofs.Rising.{SoundTrip, sound_trip}
use Rattle.sheets.specs.Sheet.{short_sheet}
use Rattle.journeys.specs.Journeys.{Journey}
use Rattle.journeys.specs.Labels.{answer_in, label_count}
use Rattle.journeys.specs.Plan.{plan_moves, move_count, bytes_needed, planned_sheet}
use Rattle.journeys.specs.Planning.{full, no_road, search_tests, planned, search_reply, plan_reply, plan_sheet_when, plan_sheet}
use Rattle.states.specs.LabelSpace.{labels_that_fit}
use Rattle.journeys.proofs.Labels.{none_answered}
use Rattle.journeys.proofs.Plan.{plan_journey, plan_short}

-- Bytes.

-- an accepted map and order make a sound run, whichever roads are banned
pub accepted_sound : (given : Given) → AcceptedMap given.map → NoneFits (order_tests (junction_count given.map) given.order) → SoundTrip (trip_from given)
accepted_sound given mapped ordered = sound_trip given.map (listed_in given.bans) (order_from given) mapped (order_accepted (junction_count given.map) given.order ordered)

module _ (given : Given) (fit sheet : ℕ) where
  -- of a run whose map, order and list are accepted, what the search says
  pub reply_accepted : AcceptedMap given.map → NoneFits (order_tests (junction_count given.map) given.order) → NoneFits (ban_tests (road_count given.map) given.bans)
      → plan_reply given fit sheet ≡ search_reply (trip_from given) fit sheet
  unfolding plan_reply search_reply
  reply_accepted mapped ordered listed =
      none_fits (run_tests given) (search_tests (trip_from given) fit sheet) (planned (trip_from given))
      (none_of_both (opening_tests given.map given.order) (ban_tests (road_count given.map) given.bans) (none_of_both (map_tests given.map) (order_tests (junction_count given.map) given.order) mapped ordered) listed)

-- the two lists differ in one test, of which only the place may differ: where neither says its number, they say the same
same_but_one : (before rest : List Test) (k : ℕ) (p q : Option ℕ) (success : Reply)
    → ¬ ((first_of (before ++ (k at p) ∷ rest) success).number ≡ k) → ¬ ((first_of (before ++ (k at q) ∷ rest) success).number ≡ k)
    → first_of (before ++ (k at p) ∷ rest) success ≡ first_of (before ++ (k at q) ∷ rest) success
unfolding first_of
same_but_one [] rest k none none success f g = refl
same_but_one [] rest k none (some j) success f g = absurd (g refl)
same_but_one [] rest k (some i) none success f g = absurd (f refl)
same_but_one [] rest k (some i) (some j) success f g = absurd (f refl)
same_but_one (t ∷ ts) rest k p q success f g = go t.place (same_but_one ts rest k p q success) f g
  where
    a : Reply
    a = first_of (ts ++ (k at p) ∷ rest) success

    b : Reply
    b = first_of (ts ++ (k at q) ∷ rest) success

    go : (o : Option ℕ) → (¬ (a.number ≡ k) → ¬ (b.number ≡ k) → a ≡ b)
        → ¬ ((refused_or t.number o a).number ≡ k) → ¬ ((refused_or t.number o b).number ≡ k)
        → refused_or t.number o a ≡ refused_or t.number o b
    go none same f g = same f g
    go (some place) same f g = refl

-- runs that differ only in label space: where neither is full the replies are equal
pub reply_any_fit : (given : Given) (fit other sheet : ℕ)
    → ¬ ((plan_reply given fit sheet).number ≡ 12) → ¬ ((plan_reply given other sheet).number ≡ 12)
    → plan_reply given fit sheet ≡ plan_reply given other sheet
unfolding plan_reply
reply_any_fit given fit other sheet f g =
    let trip = trip_from given in
    same_but_one (run_tests given) ((13 at no_road trip) ∷ (14 at short_sheet (move_count trip) sheet) ∷ []) 12 (full trip fit) (full trip other) (planned trip) f g

-- The four answers of a search.
module _ (trip : Trip) (fit sheet : ℕ) where
  pub reply_full : fit < label_count trip → search_reply trip fit sheet ≡ refused_at 12 fit
  unfolding search_reply
  reply_full h = rw (lt-ltb fit (label_count trip) h)

  module _ (room : label_count trip ≤ fit) where
    pub reply_no_road : answer_in trip ≡ none → search_reply trip fit sheet ≡ refused_at 13 (label_count trip)
    unfolding search_reply
    reply_no_road e = rw (le-ltb fit (label_count trip) room, e)

    module _ {a : State} (e : answer_in trip ≡ some a) where
      pub reply_short : sheet < bytes_needed trip → search_reply trip fit sheet ≡ refused_at 14 (bytes_needed trip)
      unfolding search_reply
      reply_short h = rw (le-ltb fit (label_count trip) room, e, lt-ltb sheet (bytes_needed trip) h)

      pub reply_planned : bytes_needed trip ≤ sheet → search_reply trip fit sheet ≡ succeeded (label_count trip) a.clock.0
      unfolding search_reply
      reply_planned h = rw (le-ltb fit (label_count trip) room, e, le-ltb sheet (bytes_needed trip) h)

  -- one of the four holds
  pub data SearchCase : Type 0 where
    case_full : fit < label_count trip → search_reply trip fit sheet ≡ refused_at 12 fit → SearchCase
    case_no_road : label_count trip ≤ fit → answer_in trip ≡ none → search_reply trip fit sheet ≡ refused_at 13 (label_count trip) → SearchCase
    case_short : label_count trip ≤ fit → (a : State) → answer_in trip ≡ some a → sheet < bytes_needed trip
        → search_reply trip fit sheet ≡ refused_at 14 (bytes_needed trip) → SearchCase
    case_planned : label_count trip ≤ fit → (a : State) → answer_in trip ≡ some a → bytes_needed trip ≤ sheet
        → search_reply trip fit sheet ≡ succeeded (label_count trip) a.clock.0 → SearchCase

  pub search_case : SearchCase
  search_case =
      ⊎_elim
      (λ (above : ltb fit (label_count trip) ≡ true). let h = ltb-true fit (label_count trip) above in case_full h (reply_full h))
      (λ (room : ltb fit (label_count trip) ≡ false). with_room (ltb-false fit (label_count trip) room) (answer_in trip) refl)
      (cases (ltb fit (label_count trip)))
    where
      with_room : label_count trip ≤ fit → (o : Option State) → answer_in trip ≡ o → SearchCase
      with_room room none e = case_no_road room e (reply_no_road room e)
      with_room room (some a) e =
          ⊎_elim
          (λ (under : ltb sheet (bytes_needed trip) ≡ true). let h = ltb-true sheet (bytes_needed trip) under in case_short room a e h (reply_short room e h))
          (λ (long : ltb sheet (bytes_needed trip) ≡ false). let h = ltb-false sheet (bytes_needed trip) long in case_planned room a e h (reply_planned room e h))
          (cases (ltb sheet (bytes_needed trip)))

  abbrev pub number : ℕ
  number = (search_reply trip fit sheet).number

  numbered : (k place arrival : ℕ) → search_reply trip fit sheet ≡ record { number = k; place = place; arrival = arrival } → number ≡ k
  numbered k place arrival e = ap (λ (r : Reply). r.number) e

  -- full exactly when N is above the labels that fit
  pub full_exactly : (number ≡ 12) ↔ (fit < label_count trip)
  full_exactly = (λ e. by_case search_case e, λ h. ap (λ (r : Reply). r.number) (reply_full h))
    where
      by_case : SearchCase → number ≡ 12 → fit < label_count trip
      by_case (case_full h q) e = h
      by_case (case_no_road room n q) e = absurd (omega (arith, numbered 13 (label_count trip) 0 q))
      by_case (case_short room a s h q) e = absurd (omega (arith, numbered 14 (bytes_needed trip) 0 q))
      by_case (case_planned room a s h q) e = absurd (omega (arith, numbered 0 (label_count trip) a.clock.0 q))

  -- no road, where the labels fit, exactly when no legal journey exists
  pub no_road_exactly : SoundTrip trip → label_count trip ≤ fit → (number ≡ 13) ↔ ((ms : List Move) (t : State) → ¬ Journey trip ms t)
  no_road_exactly sound room = (
    λ e. none_answered trip sound (by_case search_case e),
    λ f. ap (λ (r : Reply). r.number) (reply_no_road room (by_none (answer_in trip) refl f)),
  )
    where
      by_case : SearchCase → number ≡ 13 → answer_in trip ≡ none
      by_case (case_full h q) e = absurd (omega arith)
      by_case (case_no_road room n q) e = n
      by_case (case_short room a s h q) e = absurd (omega (arith, numbered 14 (bytes_needed trip) 0 q))
      by_case (case_planned room a s h q) e = absurd (omega (arith, numbered 0 (label_count trip) a.clock.0 q))

      by_none : (o : Option State) → answer_in trip ≡ o → ((ms : List Move) (t : State) → ¬ Journey trip ms t) → answer_in trip ≡ none
      by_none none e f = e
      by_none (some a) e f = absurd (f (plan_moves trip) a (plan_journey trip sound e))

  -- a run that plans: the answer, with room for its labels and its sheet
  pub record PlannedFacts : Type 0 where
    pub answer : State
    pub answered : answer_in trip ≡ some answer
    pub room : label_count trip ≤ fit
    pub long : bytes_needed trip ≤ sheet
    pub told : search_reply trip fit sheet ≡ succeeded (label_count trip) answer.clock.0

  pub planned_facts : number ≡ 0 → PlannedFacts
  planned_facts e = by_case search_case e
    where
      by_case : SearchCase → number ≡ 0 → PlannedFacts
      by_case (case_full h q) e = absurd (omega (arith, numbered 12 fit 0 q))
      by_case (case_no_road room n q) e = absurd (omega (arith, numbered 13 (label_count trip) 0 q))
      by_case (case_short room a s h q) e = absurd (omega (arith, numbered 14 (bytes_needed trip) 0 q))
      by_case (case_planned room a s h q) e = record { answer = a; answered = s; room = room; long = h; told = q }

-- a plan whose labels fit has at most 999,999 moves
pub plan_few : (trip : Trip) → SoundTrip trip → (words : ℕ) → label_count trip ≤ labels_that_fit words → {a : State} → answer_in trip ≡ some a → move_count trip ≤ 999999
plan_few trip sound words room e = omega (arith, room, plan_short trip sound e)

module _ (given : Given) (fit : ℕ) (before : List ℕ) where
  abbrev told_number : ℕ
  told_number = (plan_reply given fit (length before)).number

  -- a plan is written whole
  pub sheet_planned : told_number ≡ 0 → plan_sheet given fit before ≡ planned_sheet (trip_from given) (answer_in (trip_from given)) before
  unfolding plan_sheet
  sheet_planned e = ap (λ (n : ℕ). plan_sheet_when (eqb n 0) (trip_from given) before) e

  -- a refusal leaves the sheet's bytes
  pub sheet_refused : ¬ (told_number ≡ 0) → plan_sheet given fit before ≡ before
  unfolding plan_sheet
  sheet_refused refused = ap (λ (b : Bool). plan_sheet_when b (trip_from given) before) (ne_eqb _ _ refused)

-- runs that differ only in label space: where neither is full the sheets are equal
pub sheet_any_fit : (given : Given) (fit other : ℕ) (before : List ℕ)
    → ¬ ((plan_reply given fit (length before)).number ≡ 12) → ¬ ((plan_reply given other (length before)).number ≡ 12)
    → plan_sheet given fit before ≡ plan_sheet given other before
unfolding plan_sheet
sheet_any_fit given fit other before f g =
    ap (λ (r : Reply). plan_sheet_when (eqb r.number 0) (trip_from given) before) (reply_any_fit given fit other (length before) f g)
