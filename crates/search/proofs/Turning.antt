-- A turn of the loop, in the words: a candidate passed over, and a label settled. Assumes nothing.
use mathlib.Core.Path.{◌≡◌, ◌∙◌, refl, sym, subst, subst₂}
use mathlib.Core.List.Memᴰ
use mathlib.Core.List.{List, [], ◌∷◌, ◌++◌}
use Prim.Native.Nat.{ℕ, ◌+◌, ◌-◌, ◌≤◌, ◌<◌}
use native.Mathlib.Omega.{arith}
use native.Mathlib.Nat.{le_refl}
use lib.Dec.{T}
use lib.ListN.{length, set}
use Rattle.states.specs.declared.State.{State}
use Rattle.moves.specs.Trip.{Trip}
use Rattle.moves.specs.Runs.{SoundTrip, RangeIn}
use Rattle.theory.specs.States.{Covered}
use Rattle.journeys.specs.Journeys.{at_target}
use Rattle.states.specs.States.{covers}
use Rattle.journeys.proofs.Laws.{laws}
use Rattle.labels.specs.declared.Candidate.{Candidate}
use Rattle.labels.specs.declared.Place.{Place}
use Rattle.labels.specs.LabelWords.{label_at, cursor_of, winner_of, settled}
use Rattle.labels.specs.Lists.{LabelAdded}
use Rattle.labels.proofs.Lists.{lists_same}
use Rattle.candidates.specs.Candidates.{result_at}
use Rattle.candidates.specs.Next.{Passes, NextIs}
use Rattle.winners.specs.Keys.{key_at}
use Rattle.winners.specs.Mending.{Advanced, Mended}
use Rattle.winners.proofs.Keys.{result_range, same_cursor, only_label, only_labels, only_candidate, key_kept}
use Rattle.winners.proofs.Steps.{added_label, added_candidate, advanced_labels, key_added}
use Rattle.settling.specs.Settling.{state_at, candidate_of, Searching, Winner}
use Rattle.settling.proofs.Pending.{needless_wider}
use Rattle.settling.proofs.Turns.{turn_covered, turn_settled, settled_winner}
use Rattle.search.specs.Underway.{cursors_of, parents_of, Underway, Chosen, Onward}
use Rattle.search.proofs.Columns.{states_length, state_is, candidate_is, advanced_states, advanced_parents, advanced_cursors, added_states, added_cursors, added_parents}
use Rattle.search.proofs.Keeping.{added_kept, advanced_kept}

-- what is passed stays so with one more label
pub passes_wider : (trip : Trip) (L : List State) (before : ℕ) (c s bound : State) (v : ℕ) → before ≤ length L
    → Passes trip L before s bound v → Passes trip (L ++ c ∷ []) before s bound v
passes_wider trip L before c s bound v h next =
    record {
      named = next.named;
      higher = next.higher;
      passed = λ t m over below. needless_wider trip L c before t h (next.passed t m over below);
    }

-- the key below which the search is, told otherwise
pub onward_as : {trip : Trip} {k k' : ℕ} {ws : List ℕ} {ps : List Place} {n : ℕ} → k ≡ k' → Onward trip k ws ps n → Onward trip k' ws ps n
onward_as {trip} {ws = ws} e O = record { underway = O.underway; higher = subst (λ (k : ℕ). k < key_at trip ws (winner_of ws 1)) e O.higher }

module _ {trip : Trip} {ws : List ℕ} {ps : List Place} {n : ℕ} (U : Underway trip ws ps n) {r : ℕ} {c : State} (won : Chosen trip ws n r c) where
  -- the loop's candidate is c, and its label the one in the words
  pub loop_candidate : candidate_of trip (settled ws n) (cursors_of ws n) (r - 1) ≡ c
  loop_candidate = candidate_is trip ws n r won.low won.high ∙ sym won.is

  pub loop_state : state_at trip (settled ws n) (r - 1) ≡ label_at ws r
  loop_state = state_is trip ws n r won.low won.high

  -- the candidate is covered, and the label has its next
  pub passed_over : {ws' : List ℕ} {v : Candidate} → Covered covers (settled ws n) c
      → NextIs trip (settled ws n) (r - 1) (label_at ws r) c v → Advanced trip ws ws' n r v → Underway trip ws' ps n
  passed_over {v = v} cov next A =
      record {
        low = U.low;
        lists = lists_same (advanced_labels A) (A.ready n U.low (le_refl n)).room U.lists;
        wide = U.wide;
        ready = A.ready;
        tree = A.tree;
        loop = rw (advanced_states A, advanced_parents A, advanced_cursors A won.low won.high) turned;
        kept = advanced_kept A won.low won.high U.kept c next;
      }
    where
      turned : Searching trip (settled ws n) (set (cursors_of ws n) (r - 1) v.cursor) (parents_of ws n)
      turned =
          turn_covered trip (settled ws n) (cursors_of ws n) (parents_of ws n) U.loop (r - 1) won.winner v.cursor
          (subst (λ (z : State). Covered covers (settled ws n) z) (sym loop_candidate) cov)
          (subst₂ (λ (s z : State). Passes trip (settled ws n) (r - 1) s z v.cursor) (sym loop_state) (sym loop_candidate) next.passes)

  -- the candidate is not covered and not at target: it is the next label
  module _ (sound : SoundTrip trip) (new : ¬ Covered covers (settled ws n) c) (out : ¬ T (at_target trip c)) {ws₁ ws' : List ℕ} {ps' : List Place} {u : Candidate}
      (next : NextIs trip (settled ws n) n c c u) (A : LabelAdded ws ws₁ ps' n c r u)
      (M : Mended trip ws₁ ws' (n + 1)) where
    abbrev cand : State
    cand = candidate_of trip (settled ws n) (cursors_of ws n) (r - 1)

    loop_next : Passes trip (settled ws n ++ cand ∷ []) (length (settled ws n)) cand cand u.cursor
    loop_next =
        rw (states_length trip ws n)
        (subst (λ (z : State). Passes trip (settled ws n ++ z ∷ []) n z z u.cursor) (sym loop_candidate)
        (passes_wider trip (settled ws n) n c c c u.cursor (omega (arith, states_length trip ws n)) next.passes))

    states : settled ws' (n + 1) ≡ settled ws n ++ c ∷ []
    states = added_states ws ws₁ ws' A.added M.only

    cursors : cursors_of ws' (n + 1) ≡ cursors_of ws n ++ u.cursor ∷ []
    cursors = added_cursors ws ws₁ ws' A.added M.only

    turned : Searching trip (settled ws n ++ c ∷ []) (cursors_of ws n ++ u.cursor ∷ []) (parents_of ws n ++ r ∷ [])
    turned =
        let back : r - 1 + 1 ≡ r = omega (arith, won.low) in
        subst₂ (λ (z : State) (p : ℕ). Searching trip (settled ws n ++ z ∷ []) (cursors_of ws n ++ u.cursor ∷ []) (parents_of ws n ++ p ∷ [])) loop_candidate back
        (turn_settled trip sound (settled ws n) (cursors_of ws n) (parents_of ws n) U.loop (r - 1) won.winner u.cursor loop_next
        (subst (λ (z : State). ¬ Covered covers (settled ws n) z) (sym loop_candidate) new)
        (subst (λ (z : State). ¬ T (at_target trip z)) (sym loop_candidate) out))

    pub settles : length ps' ≡ length ps → Underway trip ws' ps' (n + 1)
    settles wide =
        record {
          low = omega (arith, U.low);
          lists = lists_same (only_labels ws₁ ws' M.only (n + 1)) (M.ready (n + 1) (omega arith) (le_refl (n + 1))).room A.lists;
          wide = rw wide U.wide;
          ready = M.ready;
          tree = M.tree;
          loop = rw (states, cursors, added_parents ws ws₁ ws' A.added M.only) turned;
          kept = added_kept trip ws ws₁ ws' A.added M.only U.kept c next;
        }

    -- which covers it now
    pub settled_now : Covered covers (settled ws' (n + 1)) c
    settled_now = rw states (c, Memᴰ.append_right (settled ws n) (Memᴰ.head refl), (laws trip sound).cov_refl c)

    cursor_kept : cursor_of ws' r ≡ cursor_of ws r
    cursor_kept = same_cursor (only_candidate ws₁ ws' M.only r ∙ added_candidate A.added r won.low won.high)

    label_kept : label_at ws' r ≡ label_at ws r
    label_kept = only_label ws₁ ws' M.only r won.low ∙ added_label A.added r won.low won.high

    -- and its parent's candidate is the lowest still
    pub still_chosen : Chosen trip ws' (n + 1) r c
    still_chosen =
        record {
          low = won.low;
          high = omega (arith, won.high);
          has = rw cursor_kept won.has;
          is = subst₂ (λ (l : State) (k : ℕ). c ≡ result_at trip l k) (sym label_kept) (sym cursor_kept) won.is;
          winner = rw (states, cursors)
              (subst (λ (z : State). Winner trip (settled ws n ++ z ∷ []) (cursors_of ws n ++ u.cursor ∷ []) (r - 1)) loop_candidate
              (settled_winner trip sound (settled ws n) (cursors_of ws n) (parents_of ws n) U.loop (r - 1) won.winner u.cursor loop_next));
        }

    -- its parent's key is as it was
    pub key_same : key_at trip ws' r ≡ key_at trip ws r
    key_same = key_kept ws₁ ws' M.only trip r ∙ key_added A.added trip r won.high

  -- a candidate is in range
  pub chosen_range : SoundTrip trip → RangeIn trip c
  chosen_range sound =
      let S = U.ready r won.low won.high in
      subst (RangeIn trip) (sym won.is) (result_range trip sound (label_at ws r) (cursor_of ws r) S.range (S.fitting.named won.has))
