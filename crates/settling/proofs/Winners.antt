-- What is known of the winner's candidate: it is reachable, and all that ranks below it is covered; where it is not covered it is undominated,
-- the next in rank, and the winner is its parent. Assumes nothing.
use mathlib.Core.Path.{◌≡◌, sym, ap, subst, ◌∙◌}
use mathlib.Core.List.Memᴰ
use mathlib.Core.List.{List, [], ◌∷◌, ◌++◌, Memᴰ}
use mathlib.Core.Option.{Option, some}
use Prim.Native.Nat.{ℕ, ◌+◌, ◌≤◌, ◌<◌}
use native.Mathlib.Omega.{arith}
use lib.Dec.{T}
use lib.ListN.{length, get_or, length-append, get_or-append}
use lib.Seq.{get_or_at}
use Rattle.states.specs.declared.State.{State}
use Rattle.moves.specs.Trip.{Trip}
use Rattle.moves.proofs.Rising.{SoundTrip}
use Rattle.theory.specs.States.{step, Covered}
use Rattle.theory.specs.Labels.{parent}
use Rattle.theory.specs.Settling.{leo}
use Rattle.theory.proofs.Lists.{mem_at, at_mem}
use Rattle.theory.proofs.Sorting.{strictly, strict_snoc}
use Rattle.theory.proofs.Settling.{below_leo, uncovered_new, next_undominated, lowest_settled}
use Rattle.theory.proofs.Parents.{parent_is, parent_append}
use Rattle.journeys.specs.Journeys.{start_in, succs}
use Rattle.states.specs.States.{same_state, covers, ranks_no_higher}
use Rattle.states.proofs.Compared.{rank_order, same_decides}
use Rattle.journeys.proofs.Laws.{laws}
use Rattle.journeys.proofs.Labels.{ReachIn, TopIn}
use Rattle.journeys.proofs.Endings.{SettledIn, LowestIn}
use Rattle.settling.specs.Settling.{state_at, candidate_of, Parents, Searching, Winner}
use Rattle.settling.proofs.Lists.{snoc_elim, snoc_at, state_kept, state_new}
use Rattle.settling.proofs.Pending.{candidate_in}
use Rattle.settling.proofs.Closing.{left_behind}

-- the label at an index is a member
pub label_in : (trip : Trip) (L : List State) (i : ℕ) → i < length L → Memᴰ (state_at trip L i) L
label_in trip L i h = mem_at (start_in trip) L i h

module _ (trip : Trip) (L : List State) (C P : List ℕ) (s : Searching trip L C P) where
  pub start_in_lem : Memᴰ (start_in trip) L
  start_in_lem = subst (λ (z : State). Memᴰ z L) s.first (label_in trip L 0 s.some_label)

  module _ (w : ℕ) (win : Winner trip L C w) where
    -- the winner has a move to its candidate
    pub won_in : Memᴰ (candidate_of trip L C w) (succs trip (state_at trip L w))
    won_in = candidate_in trip (state_at trip L w) (get_or C w 0) ((s.pending w win.within).named win.has)

    pub won_reached : ReachIn trip (candidate_of trip L C w)
    won_reached = step (s.tops (state_at trip L w) (label_in trip L w win.within)).reach won_in

    -- no label ranks above it
    pub won_above : (l : State) → Memᴰ l L → T (ranks_no_higher l (candidate_of trip L C w))
    won_above = (s.pending w win.within).above win.has

-- what the labels lead to below all candidates is covered
pub candidates_settled : (trip : Trip) → SoundTrip trip → (L : List State) (C P : List ℕ) → Searching trip L C P → (b : Option State)
    → ((i : ℕ) → i < length L → 1 ≤ get_or C i 0 → T (leo ranks_no_higher b (some (candidate_of trip L C i)))) → SettledIn trip L b
candidates_settled trip sound L C P s b low =
    record {
      has_start = start_in_lem trip L C P s;
      closed = λ l t ml mt k.
          let g = at_mem (start_in trip) L ml in
          left_behind trip sound L C P s g.0 g.1 t (subst (λ (z : State). Memᴰ t (succs trip z)) g.2 mt)
          (λ j up has. below_leo (laws trip sound) b (some (candidate_of trip L C j)) t (low j (omega (arith, up, g.1)) has) k);
    }

module _ (trip : Trip) (sound : SoundTrip trip) (L : List State) (C P : List ℕ) (s : Searching trip L C P) (w : ℕ) (win : Winner trip L C w) where
  abbrev won : State
  won = candidate_of trip L C w

  -- what the labels lead to below it is covered
  pub won_settled : SettledIn trip L (some won)
  won_settled = candidates_settled trip sound L C P s (some won) win.least

  -- so the labels are the lowest undominated states, up to it
  pub won_lowest : LowestIn trip L (some won)
  won_lowest = lowest_settled (laws trip sound) same_decides won_settled s.rises s.tops

  module _ (new : ¬ Covered covers L won) where
    pub won_top : TopIn trip won
    won_top = next_undominated (laws trip sound) same_decides won_settled (won_reached trip L C P s w win) new

    -- the labels with it added are the lowest undominated states up to it
    pub grown_lowest : LowestIn trip (L ++ won ∷ []) (some won)
    grown_lowest =
        record {
          rises = strict_snoc rank_order won s.rises
              (λ l m. strictly rank_order l won (won_above trip L C P s w win l m) (λ e. uncovered_new (laws trip sound) L new (subst (λ (z : State). Memᴰ z L) e m)));
          tops = snoc_elim (TopIn trip) L won s.tops won_top;
          has_below = λ u d k. Memᴰ.append_left (won ∷ []) (won_lowest.has_below u d k);
        }

    -- the winner is its parent: a label before it with a move to it would have it as its candidate
    pub won_parent : parent (succs trip) same_state L won ≡ w
    won_parent =
        parent_is (succs trip) same_decides (start_in trip) L won w win.within (won_in trip L C P s w win)
        (λ j k q.
        new (left_behind trip sound L C P s j (omega (arith, k, win.within)) won q
        (λ i up has.
        strictly rank_order won (candidate_of trip L C i) (win.least i (omega (arith, k, up, win.within)) has) (λ e. win.first i (omega (arith, k, up)) has (sym e)))))

    -- and the parents with it added are the definition's
    pub grown_parents : Parents trip (L ++ won ∷ []) (P ++ (w + 1) ∷ [])
    grown_parents =
        record {
          as_many = omega (arith, length-append L (won ∷ []), length-append P ((w + 1) ∷ []), s.parents.as_many);
          root = get_or-append P ((w + 1) ∷ []) 0 0 (omega (arith, s.parents.as_many, s.some_label)) ∙ s.parents.root;
          rest = λ i low h. snoc_at (λ i. 1 ≤ i → get_or (P ++ (w + 1) ∷ []) i 0 ≡ parent_of i + 1) L won old_rest (λ low. new_rest) i h low;
          before = λ i low h. snoc_at (λ i. 1 ≤ i → parent_of i < i) L won old_before (λ low. rw new_parent win.within) i h low;
        }
      where
        parent_of : ℕ → ℕ
        parent_of i = parent (succs trip) same_state (L ++ won ∷ []) (state_at trip (L ++ won ∷ []) i)

        kept : (t : State) → parent (succs trip) same_state L t < length L → parent (succs trip) same_state (L ++ won ∷ []) t ≡ parent (succs trip) same_state L t
        kept t h = parent_append (succs trip) same_decides (start_in trip) L t (won ∷ []) h

        old_parent : (i : ℕ) → i < length L → 1 ≤ i → parent_of i ≡ parent (succs trip) same_state L (state_at trip L i)
        old_parent i h low =
            ap (parent (succs trip) same_state (L ++ won ∷ [])) (state_kept trip L won i h)
            ∙ kept (state_at trip L i) (omega (arith, s.parents.before i low h, h))

        new_parent : parent_of (length L) ≡ w
        new_parent =
            ap (parent (succs trip) same_state (L ++ won ∷ [])) (state_new trip L won)
            ∙ kept won (omega (arith, won_parent, win.within)) ∙ won_parent

        old_rest : (i : ℕ) → i < length L → 1 ≤ i → get_or (P ++ (w + 1) ∷ []) i 0 ≡ parent_of i + 1
        old_rest i h low =
            get_or-append P ((w + 1) ∷ []) 0 i (omega (arith, s.parents.as_many, h))
            ∙ s.parents.rest i low h ∙ ap (λ (k : ℕ). k + 1) (sym (old_parent i h low))

        new_rest : get_or (P ++ (w + 1) ∷ []) (length L) 0 ≡ parent_of (length L) + 1
        new_rest = get_or_at P (w + 1) [] 0 (length L) s.parents.as_many ∙ ap (λ (k : ℕ). k + 1) (sym new_parent)

        old_before : (i : ℕ) → i < length L → 1 ≤ i → parent_of i < i
        old_before i h low = rw (old_parent i h low) (s.parents.before i low h)
