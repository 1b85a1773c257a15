-- Laws of journeys: moves one after another, timing, the sum of the moves' times, and what is reachable. Assumes nothing.
use mathlib.Core.Path.{◌≡◌, refl, sym, ap, subst, ◌∙◌}
use mathlib.Core.Bool.{Bool, true, false, ◌&&◌}
use mathlib.Core.List.{List, [], ◌∷◌, ◌++◌, Memᴰ}
use mathlib.Core.Logic.{⊎_elim}
use mathlib.Core.Option.{some}
use Prim.Native.Nat.{ℕ, ◌+◌}
use native.Mathlib.Omega.{arith}
use lib.Dec.{T}
use Rattle.booleans.proofs.Tests.{cases, and_true, T_true, true_T}
use Rattle.states.specs.declared.State.{State}
use Rattle.moves.specs.declared.Move.{Move}
use Rattle.std.specs.Prelude.{Ok}
use Rattle.moves.specs.Trip.{Trip, junctions_in}
use Rattle.moves.specs.Moves.{offers, offered, after, judged, stepped}
use Rattle.states.specs.States.{legal, covers}
use Rattle.moves.specs.Compared.{Eases}
use Rattle.moves.proofs.Offered.{offered_in, offered_from}
use Rattle.moves.specs.Runs.{InRange}
use Rattle.driving.specs.Accepted.{FiguresRise}
use Rattle.driving.proofs.Hours.{sound_rise}
use Rattle.moves.proofs.Rising.{SoundTrip, clock_after, after_rise, range_after, start_range}
use Rattle.moves.proofs.Entering.{begins_from}
use Rattle.moves.proofs.Monotone.{eased_move}
use Rattle.theory.specs.States.{Reach, start, step}
use Rattle.theory.proofs.Lists.{keep_from, keep_head, keep_tail}
use Rattle.journeys.specs.Journeys.{Leads, stay, go, Reached, timed, total_seconds, total_queues, results, succs}

module _ (trip : Trip) where
  -- one list of moves after another
  pub leads_append : {s t u : State} {ms ns : List Move} → Leads trip s ms t → Leads trip t ns u → Leads trip s (ms ++ ns) u
  leads_append stay q = q
  leads_append (go o l p) q = go o l (leads_append p q)

  -- a move after a list of moves
  pub leads_next : {s t : State} {ms : List Move} → Leads trip s ms t → (m : Move) → offers trip t m ≡ true → legal trip.order (after trip t m) ≡ true
      → Leads trip s (ms ++ m ∷ []) (after trip t m)
  leads_next p m o l = leads_append p (go o l stay)

  -- timing a list of moves gives the state that it leads to, and nothing where it leads nowhere
  pub leads_timed : {s t : State} {ms : List Move} → Leads trip s ms t → timed trip s ms ≡ some t
  unfolding timed
  leads_timed stay = refl
  leads_timed (go o l p) = rw (o, l, timed) (leads_timed p)

  pub timed_leads : (s : State) (ms : List Move) {t : State} → timed trip s ms ≡ some t → Leads trip s ms t
  unfolding timed
  timed_leads s [] {t} e = let same : s ≡ t = cc in subst (λ (z : State). Leads trip s [] z) same stay
  timed_leads s (m ∷ ms) {t} e =
      ⊎_elim
      (λ (yes' : (offers trip s m && legal trip.order (after trip s m)) ≡ true).
      let both = and_true {a = offers trip s m} yes' in
      go both.0 both.1 (timed_leads (after trip s m) ms (rw (yes', timed) at e)))
      (λ (no' : (offers trip s m && legal trip.order (after trip s m)) ≡ false).
      let never : ◌≡◌ {A = ℕ} 0 1 = cc (rw (no', timed) at e) in absurd (omega arith))
      (cases (offers trip s m && legal trip.order (after trip s m)))

  -- a move that is offered and legal is one that the step takes
  pub moved : (s : State) (m : Move) → offers trip s m ≡ true → legal trip.order (after trip s m) ≡ true → stepped trip s m ≡ Ok (after trip s m)
  moved s m o l = rw (o, l)

  pub moved_from : (s : State) (m : Move) {t : State} → stepped trip s m ≡ Ok t
      → (offers trip s m ≡ true) × (legal trip.order (after trip s m) ≡ true) × (t ≡ after trip s m)
  moved_from s m {t} e = by_tests (offers trip s m) (legal trip.order (after trip s m)) refl refl e
    where
      by_tests : (o l : Bool) → offers trip s m ≡ o → legal trip.order (after trip s m) ≡ l → judged o l (after trip s m) ≡ Ok t
          → (offers trip s m ≡ true) × (legal trip.order (after trip s m) ≡ true) × (t ≡ after trip s m)
      by_tests true true p q e = (p, q, cc)
      by_tests true false p q e = let never : ◌≡◌ {A = ℕ} 0 1 = cc in absurd (omega arith)
      by_tests false l p q e = let never : ◌≡◌ {A = ℕ} 0 1 = cc in absurd (omega arith)

  -- one list of moves leads to one state
  pub leads_one : {s t u : State} {ms : List Move} → Leads trip s ms t → Leads trip s ms u → t ≡ u
  leads_one p q = let a = leads_timed p in let b = leads_timed q in cc

  -- arrival less departure is the sum of road times, breaks and rests, a part of a break counting as a break and a weekly rest as a rest, and of
  -- the queues
  pub leads_clock : {s t : State} {ms : List Move} → Leads trip s ms t → t.clock.0 ≡ s.clock.0 + (total_seconds trip ms + total_queues trip s ms)
  unfolding total_seconds total_queues
  leads_clock {s} stay = omega arith
  leads_clock {s} (go {m = m} o l p) = omega (arith, leads_clock p, clock_after trip s m, begins_from trip s.clock.0 m)

  -- what one move leads to
  pub record OneMove (s t : State) : Type 0 where
    pub move : Move
    pub offered : offers trip s move ≡ true
    pub lawful : legal trip.order (after trip s move) ≡ true
    pub result : t ≡ after trip s move

  results_in : (s : State) (ms : List Move) {m : Move} → Memᴰ m ms → legal trip.order (after trip s m) ≡ true → Memᴰ (after trip s m) (results trip s ms)
  unfolding results
  results_in s [] at l = absurd (mathlib.Core.List.Memᴰ.not-nil at)
  results_in s (x ∷ xs) {m} at l =
      ⊎_elim
      (λ (same : m ≡ x).
      keep_head (legal trip.order (after trip s x)) (results trip s xs) (true_T (ap (λ (z : Move). legal trip.order (after trip s z)) (sym same) ∙ l)) (ap (after trip s) same))
      (λ (later : Memᴰ m xs). keep_tail (legal trip.order (after trip s x)) (after trip s x) (results_in s xs later l))
      (mathlib.Core.List.Memᴰ.cases_cons at)

  results_from : (s : State) (ms : List Move) {t : State} → Memᴰ t (results trip s ms)
      → (m : Move) × Memᴰ m ms × (legal trip.order (after trip s m) ≡ true) × (t ≡ after trip s m)
  unfolding results
  results_from s [] at = absurd (mathlib.Core.List.Memᴰ.not-nil at)
  results_from s (x ∷ xs) {t} at =
      ⊎_elim
      (λ (here : T (legal trip.order (after trip s x)) × (t ≡ after trip s x)). (x, mathlib.Core.List.Memᴰ.head refl, T_true here.0, here.1))
      (λ (later : Memᴰ t (results trip s xs)). let found = results_from s xs later in (found.0, mathlib.Core.List.Memᴰ.tail found.1, found.2, found.3))
      (keep_from (legal trip.order (after trip s x)) at)

  pub succs_in : (s : State) (m : Move) → offers trip s m ≡ true → legal trip.order (after trip s m) ≡ true → Memᴰ (after trip s m) (succs trip s)
  unfolding succs
  succs_in s m o l = results_in s (offered trip s) (offered_in trip s m o) l

  pub succs_from : (s : State) {t : State} → Memᴰ t (succs trip s) → OneMove s t
  unfolding succs
  succs_from s at =
      let found = results_from s (offered trip s) at in
      record { move = found.0; offered = offered_from trip s found.0 found.1; lawful = found.2; result = found.3 }

  -- what a list of moves leads to is reachable, and the other way round
  pub leads_reach : {s₀ s t : State} {ms : List Move} → Reach (succs trip) s₀ s → Leads trip s ms t → Reach (succs trip) s₀ t
  leads_reach r stay = r
  leads_reach {s = s} r (go {m = m} o l p) = leads_reach (step r (succs_in s m o l)) p

  pub reach_leads : {s₀ t : State} → Reach (succs trip) s₀ t → (ms : List Move) × Leads trip s₀ ms t
  reach_leads start = ([], stay)
  reach_leads {s₀} (step {s = s} {t = t} r at) =
      let before = reach_leads r in
      let one = succs_from s at in
      let ms : List Move = before.0 ++ one.move ∷ [] in
      (ms, subst (λ (z : State). Leads trip s₀ ms z) (sym one.result) (leads_next before.1 one.move one.offered one.lawful))

-- where B eases A, what A's moves lead to from a, they lead to in B from a state that is no worse, with a result that is no worse
pub eased_leads : (tb ta : Trip) → Eases tb ta → {b a t : State} {ms : List Move} → T (covers b a) → Leads ta a ms t → (u : State) × Leads tb b ms u × T (covers u t)
eased_leads tb ta eases {b} over stay = (b, stay, over)
eased_leads tb ta eases {b} {a} over (go {m = m} o l p) =
    let eased = eased_move tb ta eases b a m over o l in
    let rest = eased_leads tb ta eases {b = after tb b m} eased.over_after p in
    (rest.0, go eased.offered eased.lawful rest.1, rest.2)

-- a legal move keeps a state in range, so all that is reachable is in range
abbrev pub RangeIn : Trip → State → Type 0
RangeIn trip s = InRange (junctions_in trip) trip.order s

module _ (trip : Trip) (sound : SoundTrip trip) where
  pub leads_range : {s t : State} {ms : List Move} → RangeIn trip s → Leads trip s ms t → RangeIn trip t
  leads_range range stay = range
  leads_range range (go {s = s} {m = m} o l p) = leads_range (range_after trip sound s m o range l) p

  pub reached_range : {s : State} → Reached trip s → RangeIn trip s
  reached_range r = leads_range (start_range (junctions_in trip) trip.order sound.ordered) r.1

  -- spell ≤ shift ≤ week in all that is reachable
  leads_rise : {s t : State} {ms : List Move} → FiguresRise s.figures → Leads trip s ms t → FiguresRise t.figures
  leads_rise rise stay = rise
  leads_rise rise (go {s = s} {m = m} o l p) = leads_rise (after_rise trip s m rise) p

  pub reached_rise : {s : State} → Reached trip s → FiguresRise s.figures
  reached_rise r = leads_rise (sound_rise trip.order.figures trip.order.rules sound.ordered.sound_figures) r.1
