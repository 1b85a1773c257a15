-- The plan's moves are a legal journey from the start to the answer, fewer than the labels. Assumes nothing.
use mathlib.Core.Path.{◌≡◌, refl, sym, ap, subst, ◌∙◌}
use mathlib.Core.List.{List, [], ◌∷◌, ◌++◌, Memᴰ}
use mathlib.Core.Logic.{⊎_elim}
use mathlib.Core.Option.{Option, some}
use Prim.Native.Nat.{ℕ, zero, suc, ◌≤◌, ◌<◌, zero-le, suc-le-suc}
use native.Mathlib.Omega.{arith}
use borrow.Author.Tests.{lt-ltb, le-ltb}
use lib.Dec.{T, T_not}
use native.Mathlib.Nat.{eq-or-lt_of_le}
use lib.ListN.{length, get_or, length-append}
use Rattle.states.specs.declared.State.{State}
use Rattle.moves.specs.declared.Move.{Move}
use Rattle.moves.specs.Trip.{Trip}
use Rattle.moves.proofs.Rising.{SoundTrip}
use Rattle.theory.specs.Labels.{parent, within}
use Rattle.theory.proofs.Sorting.{strict_at}
use Rattle.theory.proofs.Lists.{mem_at, at_mem}
use Rattle.theory.proofs.Dominance.{no_way_back}
use Rattle.theory.proofs.Parents.{parent_at_lem, parent_none, parent_before}
use Rattle.journeys.specs.Journeys.{start_in, Leads, stay, Journey, succs}
use Rattle.states.specs.States.{same_state, ranks_no_higher}
use Rattle.journeys.specs.Labels.{answer_in, labels_in, label_count, label, parent_in}
use Rattle.journeys.specs.Plan.{move_to, one_move, moves_back, moves_of, plan_moves, move_count}
use Rattle.states.proofs.Compared.{rank_order, same_decides}
use Rattle.journeys.proofs.Journeys.{leads_next}
use Rattle.journeys.proofs.Laws.{laws, clock_rises, all_reachable}
use Rattle.journeys.proofs.Labels.{reached_reach, label_exactly, labels_rise, label_first, answer_ends, answer_is_label, home_answer, home_count}
use Rattle.journeys.proofs.ParentMove.{move_some}

-- one step back in any list, or none
module _ (trip : Trip) (L : List State) (t : State) where
  abbrev pub parent_at : ℕ
  parent_at = parent (succs trip) same_state L t

  pub back_none : length L ≤ parent_at → (most : ℕ) → moves_back trip L most t ≡ []
  unfolding moves_back
  back_none h zero = refl
  back_none h (suc most) = rw (le-ltb parent_at (length L) h, moves_back)

  pub back_more : parent_at < length L → (most : ℕ)
      → moves_back trip L (suc most) t ≡ moves_back trip L most (get_or L parent_at (start_in trip)) ++ one_move (move_to trip (get_or L parent_at (start_in trip)) t)
  unfolding moves_back
  back_more h most = rw (lt-ltb parent_at (length L) h, moves_back)

module _ (trip : Trip) where
  -- the moves back from label i
  abbrev pub moves_at : ℕ → ℕ → List Move
  moves_at most i = moves_back trip (labels_in trip) most (label trip i)

  -- they lead from the start to label i, and are at most i
  pub record MovesLead (most i : ℕ) : Type 0 where
    pub leads : Leads trip (start_in trip) (moves_at most i) (label trip i)
    pub few : length (moves_at most i) ≤ i

module _ (trip : Trip) (sound : SoundTrip trip) where
  -- the parent of a label other than the start stands before it, and has a move to it
  pub parent_lower : (i : ℕ) → 0 < i → i < label_count trip → parent_in trip (label trip i) < i
  unfolding parent_in labels_in
  parent_lower i h k = parent_before (laws trip sound) same_decides (clock_rises trip sound) (all_reachable trip sound) _ (start_in trip) i h k

  pub parent_move : (i : ℕ) → 0 < i → i < label_count trip → Memᴰ (label trip i) (succs trip (label trip (parent_in trip (label trip i))))
  unfolding parent_in
  parent_move i h k = parent_at_lem (succs trip) same_decides (start_in trip) (labels_in trip) (label trip i) (omega (arith, parent_lower i h k))

  -- the start has none
  pub start_orphan : label_count trip ≤ parent_in trip (start_in trip)
  unfolding parent_in
  start_orphan =
      parent_none (succs trip) same_decides (start_in trip) (labels_in trip) (start_in trip)
      (λ i h at.
      let d = ((label_exactly trip sound (label trip i)).0 (mem_at (start_in trip) (labels_in trip) i h)).0 in
      no_way_back (laws trip sound) (clock_rises trip sound) (reached_reach trip d.reached) at)

  -- none from the first label, else the parent's and one more
  pub moves_first : (most : ℕ) → moves_at trip most 0 ≡ []
  unfolding parent_in
  moves_first most = rw (label_first trip sound) (back_none trip (labels_in trip) (start_in trip) start_orphan most)

  pub moves_next : (most i : ℕ) → 0 < i → i < label_count trip
      → moves_at trip (suc most) i ≡ moves_at trip most (parent_in trip (label trip i)) ++ one_move (move_to trip (label trip (parent_in trip (label trip i))) (label trip i))
  unfolding parent_in
  moves_next most i h k = back_more trip (labels_in trip) (label trip i) (omega (arith, parent_lower i h k)) most

  at_first : (most : ℕ) → MovesLead trip most 0
  at_first most =
      record {
        leads =
            subst (λ (ms : List Move). Leads trip (start_in trip) ms (label trip 0)) (sym (moves_first most))
            (subst (λ (z : State). Leads trip (start_in trip) [] z) (sym (label_first trip sound)) stay);
        few = omega (arith, ap length (moves_first most));
      }

  one_further : (most i : ℕ) → 0 < i → i < label_count trip → MovesLead trip most (parent_in trip (label trip i)) → MovesLead trip (suc most) i
  one_further most i h k before =
      let p : ℕ = parent_in trip (label trip i) in
      let found = move_some trip (label trip p) (label trip i) (parent_move i h k) in
      let same : moves_at trip (suc most) i ≡ moves_at trip most p ++ found.0 ∷ [] = moves_next most i h k ∙ ap (λ (o : Option Move). moves_at trip most p ++ one_move o) found.1 in
      let leads : Leads trip (start_in trip) (moves_at trip most p ++ found.0 ∷ []) (label trip i) =
      subst (λ (z : State). Leads trip (start_in trip) (moves_at trip most p ++ found.0 ∷ []) z) found.2.result
      (leads_next trip before.leads found.0 found.2.offered found.2.lawful) in
      record {
        leads = subst (λ (ms : List Move). Leads trip (start_in trip) ms (label trip i)) (sym same) leads;
        few = omega (arith, ap length same, length-append (moves_at trip most p) (found.0 ∷ []), before.few, parent_lower i h k);
      }

  pub moves_lead : (most i : ℕ) → i ≤ most → i < label_count trip → MovesLead trip most i
  moves_lead zero zero h k = at_first zero
  moves_lead zero (suc j) h k = absurd (omega arith)
  moves_lead (suc most) zero h k = at_first (suc most)
  moves_lead (suc most) (suc j) h k =
      let lower = parent_lower (suc j) (suc-le-suc zero-le) k in
      one_further most (suc j) (suc-le-suc zero-le) k (moves_lead most (parent_in trip (label trip (suc j))) (omega arith) (omega arith))

  -- however many moves back are allowed, if they are enough
  pub moves_enough : (most more i : ℕ) → i ≤ most → i ≤ more → i < label_count trip → moves_at trip most i ≡ moves_at trip more i
  moves_enough zero more zero h g k = moves_first zero ∙ sym (moves_first more)
  moves_enough zero more (suc j) h g k = absurd (omega arith)
  moves_enough (suc most) more zero h g k = moves_first (suc most) ∙ sym (moves_first more)
  moves_enough (suc most) zero (suc j) h g k = absurd (omega arith)
  moves_enough (suc most) (suc more) (suc j) h g k =
      let lower = parent_lower (suc j) (suc-le-suc zero-le) k in
      let p : ℕ = parent_in trip (label trip (suc j)) in
      moves_next most (suc j) (suc-le-suc zero-le) k
      ∙ ap (λ (ms : List Move). ms ++ one_move (move_to trip (label trip p) (label trip (suc j)))) (moves_enough most more p (omega arith) (omega arith) (omega arith))
      ∙ sym (moves_next more (suc j) (suc-le-suc zero-le) k)

  module _ {a : State} (e : answer_in trip ≡ some a) where
    -- the answer is the label at this index
    pub answer_at : (i : ℕ) × (i < label_count trip) × (a ≡ label trip i)
    answer_at = at_mem (start_in trip) (labels_in trip) (answer_is_label trip sound e)

    -- and it is the last: no label ranks higher
    pub answer_last : (n : ℕ) → label_count trip ≡ suc n → a ≡ label trip n
    answer_last n size =
        ⊎_elim
        (λ (same : answer_at.0 ≡ n). answer_at.2 ∙ ap (label trip) same)
        (λ (earlier : answer_at.0 < n).
        absurd (T_not (ranks_no_higher (label trip n) (label trip answer_at.0))
        (strict_at rank_order (start_in trip) (labels_rise trip sound) answer_at.0 n earlier (omega arith))
        (subst (λ (z : State). T (ranks_no_higher (label trip n) z)) answer_at.2 within_answer)))
        (eq-or-lt_of_le {n = answer_at.0} {m = n} (omega (arith, answer_at.1)))
      where
        within_answer : T (ranks_no_higher (label trip n) a)
        within_answer =
            let facts : T (within ranks_no_higher (answer_in trip) (label trip n)) = ((label_exactly trip sound (label trip n)).0 (mem_at (start_in trip) (labels_in trip) n (omega arith))).1 in
            rw e at facts

    -- the plan's moves are those back from that label
    pub plan_from : (i : ℕ) → a ≡ label trip i → plan_moves trip ≡ moves_at trip (label_count trip) i
    unfolding plan_moves
    plan_from i same = ap (moves_of trip (labels_in trip)) e ∙ ap (moves_back trip (labels_in trip) (label_count trip)) same

    plan_at : plan_moves trip ≡ moves_at trip (label_count trip) answer_at.0
    plan_at = plan_from answer_at.0 answer_at.2

    -- the plan's moves are a legal journey from the start to the answer
    pub plan_journey : Journey trip (plan_moves trip) a
    plan_journey =
        let found = moves_lead (label_count trip) answer_at.0 (omega (arith, answer_at.1)) answer_at.1 in
        record {
          leads =
              subst (λ (ms : List Move). Leads trip (start_in trip) ms a) (sym plan_at)
              (subst (λ (z : State). Leads trip (start_in trip) (moves_at trip (label_count trip) answer_at.0) z) (sym answer_at.2) found.leads);
          ends = answer_ends trip sound e;
        }

    -- M < N
    pub plan_short : move_count trip < label_count trip
    plan_short =
        omega (arith, ap length plan_at, (moves_lead (label_count trip) answer_at.0 (omega (arith, answer_at.1)) answer_at.1).few, answer_at.1)

  -- source equal to target: no moves
  pub home_plan : trip.order.source ≡ trip.order.target → plan_moves trip ≡ []
  home_plan home = no_moves (plan_moves trip) (omega (arith, plan_short (home_answer trip sound home), home_count trip sound home))
    where
      no_moves : (ms : List Move) → length ms < 1 → ms ≡ []
      no_moves [] h = refl
      no_moves (m ∷ ms) h = absurd (omega arith)
