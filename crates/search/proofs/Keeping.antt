-- What the candidates say of the labels, carried on when a label comes in and when a candidate changes. Assumes nothing.
use mathlib.Core.Path.{◌≡◌, ◌∙◌, sym, ap, ap₂, subst, subst₂}
use mathlib.Core.Bool.{false}
use mathlib.Core.List.{List, Memᴰ}
use Prim.Native.Nat.{ℕ, ◌+◌, ◌-◌, ◌≤◌, ◌<◌}
use native.Mathlib.Omega.{arith}
use native.Mathlib.Nat.{le_refl}
use native.Mathlib.Decide.{dec_le, ℕ_discrete}
use lib.Dec.{T}
use lib.ListN.{length}
use Rattle.states.specs.declared.State.{State}
use Rattle.states.specs.States.{covers}
use Rattle.moves.specs.Trip.{Trip}
use Rattle.theory.specs.States.{Covered}
use Rattle.journeys.specs.Journeys.{succs}
use Rattle.labels.specs.declared.Candidate.{Candidate}
use Rattle.labels.specs.declared.Place.{Place}
use Rattle.labels.specs.LabelWords.{label_at, cursor_of, candidate_of, settled, Added}
use Rattle.labels.proofs.LabelWords.{same_label, settled_by_label, mem_settled}
use Rattle.labels.specs.Lists.{place_at}
use Rattle.labels.proofs.Lists.{covered_by}
use Rattle.candidates.specs.Candidates.{result_at}
use Rattle.candidates.specs.Next.{above, Needless, Spent, NextIs}
use Rattle.candidates.specs.Trying.{Stands, Ranged}
use Rattle.candidates.proofs.Rivals.{needless_kept}
use Rattle.winners.specs.Keys.{candidate, OnlyWinners}
use Rattle.winners.specs.Mending.{Advanced}
use Rattle.winners.proofs.Keys.{same_cursor, only_label, only_candidate}
use Rattle.winners.proofs.Steps.{added_label, added_candidate, advanced_labels}
use Rattle.search.specs.Underway.{Kept, Underway}
use Rattle.search.proofs.Columns.{state_next}

-- more labels cover more
covered_more : (ws : List ℕ) (m n : ℕ) (t : State) → m ≤ n → Covered covers (settled ws m) t → Covered covers (settled ws n) t
covered_more ws m n t h C =
    let N = mem_settled ws m C.0 C.1 in
    covered_by ws n N.k t N.low (omega (arith, N.high)) (subst (λ (a : State). T (covers a t)) N.is C.2)

-- and what needs no turn needs none
needless_more : (trip : Trip) (ws : List ℕ) (m n before : ℕ) (t : State) → m ≤ n → before ≤ m → Needless trip (settled ws m) before t → Needless trip (settled ws n) before t
needless_more trip ws m n before t h b =
    needless_kept trip (settled ws m) (settled ws n) before t (covered_more ws m n t h) (λ i k. state_next trip ws n i (omega arith) ∙ sym (state_next trip ws m i (omega arith)))

module _ (trip : Trip) (ws : List ℕ) where
  -- a candidate that was just looked for, above some bound, among labels 1 to m
  next_kept : (m n k : ℕ) (s bound : State) (L : List State) (c : Candidate) → k - 1 ≤ m → m ≤ n → settled ws m ≡ L → label_at ws k ≡ s → candidate_of ws k ≡ c
      → NextIs trip L (k - 1) s bound c → Kept trip ws n k
  next_kept m n k s bound L c before within labels label is found =
      record {
        fresh = λ has C. next.uncovered has (covered_more ws (k - 1) m _ before C);
        spent = λ more has t in-succs over. needless_more trip ws m n (k - 1) t within before (next.spent more has t in-succs over);
      }
    where
      next : NextIs trip (settled ws m) (k - 1) (label_at ws k) bound (candidate_of ws k)
      next =
          subst (NextIs trip (settled ws m) (k - 1) (label_at ws k) bound) (sym is)
          (subst₂ (λ (l : List State) (z : State). NextIs trip l (k - 1) z bound c) (sym labels) (sym label) found)

  -- the candidate of a label that is as it was
  same_kept : (ws' : List ℕ) (n n' k : ℕ) → ((m : ℕ) → 1 ≤ m → m ≤ n → label_at ws' m ≡ label_at ws m) → candidate_of ws' k ≡ candidate_of ws k
      → 1 ≤ k → k ≤ n → n ≤ n' → Kept trip ws n k → Kept trip ws' n' k
  same_kept ws' n n' k labels same low high more K =
      record {
        fresh = λ has C.
            K.fresh (omega (arith, cursor)) (subst₂ (λ (l : List State) (z : State). Covered covers l z) (settled_by_label ws ws' (k - 1) (λ m a b. labels m a (omega arith))) reached C);
        spent = λ last has t in-succs over.
            needless_more trip ws' n n' (k - 1) t more (omega arith)
            (subst (λ (l : List State). Needless trip l (k - 1) t) (sym (settled_by_label ws ws' n labels))
            (K.spent (sym (ap (λ (c : Candidate). c.more) same) ∙ last) (omega (arith, cursor)) t
            (subst (λ (s : State). Memᴰ t (succs trip s)) (labels k low high) in-succs) (subst (λ (s : State). T (above s t)) reached over)));
      }
    where
      cursor : (candidate_of ws' k).cursor ≡ (candidate_of ws k).cursor
      cursor = same_cursor same

      reached : candidate trip ws' k ≡ candidate trip ws k
      reached = ap₂ (result_at trip) (labels k low high) cursor

-- A label has come in.
module _ (trip : Trip) (ws ws₁ ws' : List ℕ) {n : ℕ} {label : State} {parent : ℕ} {c : Candidate} (A : Added ws ws₁ n label parent c) (only : OnlyWinners ws₁ ws') where
  labels : (m : ℕ) → 1 ≤ m → m ≤ n → label_at ws' m ≡ label_at ws m
  labels m low high = only_label ws₁ ws' only m low ∙ added_label A m low high

  pub added_kept : ((k : ℕ) → 1 ≤ k → k ≤ n → Kept trip ws n k) → (bound : State) → NextIs trip (settled ws n) n label bound c
      → (k : ℕ) → 1 ≤ k → k ≤ n + 1 → Kept trip ws' (n + 1) k
  added_kept kept bound next k low high = go (dec_le k n)
    where
      go : Dec (k ≤ n) → Kept trip ws' (n + 1) k
      go (yes h) =
          same_kept trip ws ws' n (n + 1) k labels (only_candidate ws₁ ws' only k ∙ added_candidate A k low h) low h (omega arith) (kept k low h)
      go (no h) =
          let e : n + 1 ≡ k = omega arith in
          let last : n ≡ n + 1 - 1 = omega arith in
          subst (Kept trip ws' (n + 1)) e
          (next_kept trip ws' n (n + 1) (n + 1) label bound (settled ws n) c (omega arith) (omega arith) (settled_by_label ws ws' n labels)
          (only_label ws₁ ws' only (n + 1) (omega arith) ∙ A.is_label) (only_candidate ws₁ ws' only (n + 1) ∙ A.is_candidate)
          (subst (λ (before : ℕ). NextIs trip (settled ws n) before label bound c) last next))

-- A candidate has changed.
pub advanced_kept : {trip : Trip} {ws ws' : List ℕ} {n r : ℕ} {c : Candidate} → Advanced trip ws ws' n r c → 1 ≤ r → r ≤ n
    → ((k : ℕ) → 1 ≤ k → k ≤ n → Kept trip ws n k) → (bound : State) → NextIs trip (settled ws n) (r - 1) (label_at ws r) bound c → (k : ℕ) → 1 ≤ k → k ≤ n → Kept trip ws' n k
advanced_kept {trip} {ws} {ws'} {n} {r} {c} A low-r high-r kept bound next k low high = go (ℕ_discrete k r)
  where
    labels : (m : ℕ) → 1 ≤ m → m ≤ n → label_at ws' m ≡ label_at ws m
    labels = same_label ws ws' n (advanced_labels A)

    go : Dec (k ≡ r) → Kept trip ws' n k
    go (yes e) =
        subst (Kept trip ws' n) (sym e)
        (next_kept trip ws' n n r (label_at ws r) bound (settled ws n) c (omega arith) (le_refl n) A.settled (labels r low-r high-r) A.is_candidate next)
    go (no other) = same_kept trip ws ws' n n k labels (A.candidates k low other) low high (le_refl n) (kept k low high)

-- What is told of a label's candidate, once its words are read.
module _ {trip : Trip} {ws : List ℕ} {n k : ℕ} (K : Kept trip ws n k) (has : 1 ≤ cursor_of ws k) {c : State} (is : c ≡ candidate trip ws k) where
  pub told_fresh : Covered covers (settled ws (k - 1)) c → ⊥
  told_fresh C = K.fresh has (subst (Covered covers (settled ws (k - 1))) is C)

  pub told_spent : {s : State} {last : Candidate} → s ≡ label_at ws k → last ≡ candidate_of ws k → last.more ≡ false → Spent trip (settled ws n) (k - 1) s c
  told_spent label read none = subst₂ (Spent trip (settled ws n) (k - 1)) (sym label) (sym is) (K.spent (sym (ap (λ (v : Candidate). v.more) read) ∙ none) has)

-- What the search for a next candidate asks of the labels.
module _ {trip : Trip} {ws : List ℕ} {ps : List Place} {n : ℕ} (U : Underway trip ws ps n) where
  -- those before one are in range
  pub ranged_before : (before : ℕ) → before ≤ n → Ranged trip ws before
  ranged_before before h k low high = (U.ready k low (omega (arith, h, high))).range

  -- the last of all at a junction stands there
  pub told_head : (j : ℕ) → j < length ps → Stands ws j (place_at ps j).last
  told_head j h = (U.lists.heads j h).same
