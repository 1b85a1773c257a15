-- The loop's invariant: it holds when the start is settled, when a label is added, and when a cursor moves on.
-- Assumes nothing.
use mathlib.Core.Path.{◌≡◌, refl, sym, subst, ◌∙◌}
use mathlib.Core.List.Memᴰ
use mathlib.Core.List.{List, [], ◌∷◌, ◌++◌, Memᴰ}
use mathlib.Core.Option.{some}
use Prim.Native.Nat.{ℕ, zero, suc, ◌+◌, ◌≤◌, ◌<◌}
use native.Mathlib.Omega.{arith}
use lib.Dec.{T}
use lib.ListN.{length, get_or, set, length-append, length-set}
use Rattle.states.specs.declared.State.{State}
use Rattle.moves.specs.Trip.{Trip}
use Rattle.moves.proofs.Rising.{SoundTrip}
use Rattle.theory.specs.Lists.{sorted_nil, sorted_cons}
use Rattle.theory.specs.States.{Covered}
use Rattle.theory.proofs.Sorting.{le_self}
use Rattle.theory.proofs.Dominance.{start_undominated}
use Rattle.journeys.specs.Journeys.{start_in, at_target}
use Rattle.states.specs.States.{covers, ranks_no_higher}
use Rattle.states.proofs.Compared.{rank_order, same_decides}
use Rattle.journeys.proofs.Laws.{laws}
use Rattle.journeys.proofs.Labels.{TopIn}
use Rattle.journeys.proofs.Endings.{LowestIn}
use Rattle.candidates.specs.Candidates.{result_at}
use Rattle.candidates.specs.Next.{Passes}
use Rattle.settling.specs.Settling.{state_at, candidate_of, Pending, Parents, Searching, Winner}
use Rattle.settling.proofs.Lists.{snoc_elim, snoc_at, set_elim, state_kept, state_new, cursor_kept, cursor_new, candidate_kept, candidate_new}
use Rattle.settling.proofs.Pending.{candidate_in, pending_first, pending_wider, pending_next}
use Rattle.settling.proofs.Winners.{won_above, grown_lowest, grown_parents}

-- The start.
module _ (trip : Trip) (sound : SoundTrip trip) where
  one_elim : (Q : State → Type 0) → Q (start_in trip) → (l : State) → Memᴰ l (start_in trip ∷ []) → Q l
  one_elim Q q l m = subst Q (sym (Memᴰ.eq_of_singleton m)) q

  pub begin_parents : Parents trip (start_in trip ∷ []) (0 ∷ [])
  begin_parents = record { as_many = refl; root = refl; rest = λ i low h. absurd (omega arith); before = λ i low h. absurd (omega arith) }

  -- the start alone, which is not at target
  pub begin : (v : ℕ) → ¬ T (at_target trip (start_in trip)) → Passes trip (start_in trip ∷ []) 0 (start_in trip) (start_in trip) v
      → Searching trip (start_in trip ∷ []) (v ∷ []) (0 ∷ [])
  begin v away next =
      record {
        some_label = omega arith;
        first = refl;
        rises = sorted_cons (λ y m. absurd (Memᴰ.not-nil m)) sorted_nil;
        tops = one_elim (TopIn trip) (start_undominated (laws trip sound) same_decides);
        away = one_elim (λ l. ¬ T (at_target trip l)) away;
        as_many = refl;
        pending = at;
        parents = begin_parents;
      }
    where
      at : (i : ℕ) → i < 1 → Pending trip (start_in trip ∷ []) i (state_at trip (start_in trip ∷ []) i) (get_or (v ∷ []) i 0)
      at zero h =
          pending_first trip sound (start_in trip ∷ []) 0 (start_in trip) v (one_elim (λ l. T (ranks_no_higher l (start_in trip))) (le_self rank_order (start_in trip))) next
      at (suc i) h = absurd (omega arith)

module _ (trip : Trip) (L : List State) (C P : List ℕ) (s : Searching trip L C P) where
  -- a label's candidate is covered, and its cursor moves on
  pub advanced : (w v : ℕ) → w < length L → 1 ≤ get_or C w 0 → Covered covers L (candidate_of trip L C w)
      → Passes trip L w (state_at trip L w) (candidate_of trip L C w) v → Searching trip L (set C w v) P
  advanced w v h has cov next =
      record {
        some_label = s.some_label;
        first = s.first;
        rises = s.rises;
        tops = s.tops;
        away = s.away;
        as_many = length-set C w v ∙ s.as_many;
        pending = λ i k.
            set_elim C w v (λ i u. Pending trip L i (state_at trip L i) u) (omega (arith, s.as_many, h))
            (pending_next trip L w (state_at trip L w) (get_or C w 0) v has (s.pending w h) cov next) i (λ other. s.pending i k);
        parents = s.parents;
      }

-- A turn whose candidate is covered: the winner's cursor moves on.
pub turn_covered : (trip : Trip) (L : List State) (C P : List ℕ) → Searching trip L C P → (w : ℕ) → Winner trip L C w → (v : ℕ) → Covered covers L (candidate_of trip L C w)
    → Passes trip L w (state_at trip L w) (candidate_of trip L C w) v → Searching trip L (set C w v) P
turn_covered trip L C P s w win v cov next = advanced trip L C P s w v win.within win.has cov next

-- A turn whose candidate is not covered and not at target: first it becomes the next label, with u as its cursor, then the winner's cursor moves on.
module _ (trip : Trip) (sound : SoundTrip trip) (L : List State) (C P : List ℕ) (s : Searching trip L C P) (w : ℕ) (win : Winner trip L C w)
    (u : ℕ) (next : Passes trip (L ++ candidate_of trip L C w ∷ []) (length L) (candidate_of trip L C w) (candidate_of trip L C w) u) where
  abbrev won : State
  won = candidate_of trip L C w

  -- in the longer lists the winner still wins
  pub settled_winner : Winner trip (L ++ won ∷ []) (C ++ u ∷ []) w
  settled_winner =
      record {
        within = omega (arith, length-append L (won ∷ []), win.within);
        has = omega (arith, cursor_kept trip L won C u s.as_many w win.within, win.has);
        least = λ i h has.
            rw (kept w win.within)
            (snoc_at (λ i. 1 ≤ get_or (C ++ u ∷ []) i 0 → T (ranks_no_higher won (candidate_of trip (L ++ won ∷ []) (C ++ u ∷ []) i))) L won
            (λ i h has. rw (kept i h) (win.least i h (omega (arith, cursor_kept trip L won C u s.as_many i h, has)))) last i h has);
        first = λ i k has e.
            let h : i < length L = omega (arith, k, win.within) in
            win.first i k (omega (arith, cursor_kept trip L won C u s.as_many i h, has)) (sym (kept i h) ∙ e ∙ kept w win.within);
      }
    where
      kept : (i : ℕ) → i < length L → candidate_of trip (L ++ won ∷ []) (C ++ u ∷ []) i ≡ candidate_of trip L C i
      kept = candidate_kept trip L won C u s.as_many

      last : 1 ≤ get_or (C ++ u ∷ []) (length L) 0 → T (ranks_no_higher won (candidate_of trip (L ++ won ∷ []) (C ++ u ∷ []) (length L)))
      last has =
          rw (candidate_new trip L won C u s.as_many)
          ((laws trip sound).rising won (result_at trip won u) (candidate_in trip won u (next.named (omega (arith, cursor_new trip L won C u s.as_many, has)))))

  module _ (new : ¬ Covered covers L won) (out : ¬ T (at_target trip won)) where
    -- the candidate is the next label, and the winner its parent
    pub turn_settled : Searching trip (L ++ won ∷ []) (C ++ u ∷ []) (P ++ (w + 1) ∷ [])
    turn_settled =
        record {
          some_label = omega (arith, length-append L (won ∷ []));
          first = state_kept trip L won 0 s.some_label ∙ s.first;
          rises = low.rises;
          tops = low.tops;
          away = snoc_elim (λ l. ¬ T (at_target trip l)) L won s.away out;
          as_many = omega (arith, length-append L (won ∷ []), length-append C (u ∷ []), s.as_many);
          pending = snoc_at (λ i. Pending trip (L ++ won ∷ []) i (state_at trip (L ++ won ∷ []) i) (get_or (C ++ u ∷ []) i 0)) L won old last;
          parents = grown_parents trip sound L C P s w win new;
        }
      where
        low : LowestIn trip (L ++ won ∷ []) (some won)
        low = grown_lowest trip sound L C P s w win new

        old : (i : ℕ) → i < length L → Pending trip (L ++ won ∷ []) i (state_at trip (L ++ won ∷ []) i) (get_or (C ++ u ∷ []) i 0)
        old i h =
            rw (state_kept trip L won i h, cursor_kept trip L won C u s.as_many i h)
            (pending_wider trip L i won (state_at trip L i) (get_or C i 0) (omega arith) (win.least i h) (s.pending i h))

        last : Pending trip (L ++ won ∷ []) (length L) (state_at trip (L ++ won ∷ []) (length L)) (get_or (C ++ u ∷ []) (length L) 0)
        last =
            rw (state_new trip L won, cursor_new trip L won C u s.as_many)
            (pending_first trip sound (L ++ won ∷ []) (length L) won u
            (snoc_elim (λ l. T (ranks_no_higher l won)) L won (won_above trip L C P s w win) (le_self rank_order won)) next)
