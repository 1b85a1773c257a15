-- Each turn raises the key of the lowest-ranked candidate, so the loop ends. Assumes nothing.
use mathlib.Core.Path.{◌≡◌, ◌∙◌, sym, ap, subst, subst₂}
use mathlib.Core.List.{List}
use Prim.Native.Nat.{ℕ, ◌+◌, ◌-◌, ◌*◌, ◌≤◌, ◌<◌}
use native.Mathlib.Omega.{arith}
use native.Mathlib.Decide.{dec_le}
use lib.ListN.{set}
use Rattle.booleans.proofs.Tests.{T_true, true_T}
use Rattle.states.specs.declared.State.{State}
use Rattle.moves.specs.Trip.{Trip}
use Rattle.moves.specs.Runs.{SoundTrip}
use Rattle.states.proofs.Compared.{rank_order}
use Rattle.labels.specs.declared.Candidate.{Candidate}
use Rattle.labels.specs.declared.Place.{Place}
use Rattle.labels.specs.LabelWords.{label_at, cursor_of, winner_of, settled}
use Rattle.states.specs.RankNumber.{word_base, Small, rank_number}
use Rattle.candidates.specs.Next.{Passes, NextIs}
use Rattle.winners.specs.Keys.{no_key, key_at, candidate}
use Rattle.winners.specs.Mending.{Advanced, LeastKey}
use Rattle.states.proofs.Ranks.{rank_low, number_low}
use Rattle.winners.proofs.Keys.{key_open, key_below, key_has, result_small}
use Rattle.winners.proofs.Steps.{leads}
use Rattle.settling.specs.Settling.{candidate_of, Winner, Later}
use Rattle.settling.proofs.Rising.{covered_later}
use Rattle.search.specs.Underway.{cursors_of, parents_of, Underway, Chosen}
use Rattle.search.proofs.Columns.{candidate_is, advanced_states, advanced_cursors}
use Rattle.search.proofs.Leading.{is_winner}
use Rattle.search.proofs.Turning.{loop_candidate, loop_state}

-- a later turn has a higher key
later_key : (c c' : State) (r r' : ℕ) → Small c → Small c' → 1 ≤ r → 1 ≤ r' → r < word_base → Later c (r - 1) c' (r' - 1)
    → rank_number c * word_base + r < rank_number c' * word_base + r'
later_key c c' r r' small small' low low' few later = go (dec_le (rank_number c') (rank_number c))
  where
    under : rank_number c ≤ rank_number c'
    under = rank_low c c' small small' (T_true later.rank)

    go : Dec (rank_number c' ≤ rank_number c) → rank_number c * word_base + r < rank_number c' * word_base + r'
    go (yes h) =
        let same : c ≡ c' = rank_order.antisym c c' later.rank (true_T (number_low c' c small' small h)) in
        omega (arith, under, later.number same)
    go (no h) = omega (arith, under)

module _ {trip : Trip} (sound : SoundTrip trip) {ws : List ℕ} {ps : List Place} {n : ℕ} (U : Underway trip ws ps n) {r : ℕ} {c : State} (won : Chosen trip ws n r c)
    {ws' : List ℕ} {v : Candidate} (next : NextIs trip (settled ws n) (r - 1) (label_at ws r) c v) (A : Advanced trip ws ws' n r v) where
  leads' : LeastKey trip ws' n (winner_of ws' 1)
  leads' = leads trip ws' n U.low A.tree

  small : Small c
  small =
      subst Small (sym won.is) (result_small trip sound (label_at ws r) (cursor_of ws r) (U.ready r won.low won.high).range ((U.ready r won.low won.high).fitting.named won.has))

  key_is : key_at trip ws r ≡ rank_number c * word_base + r
  key_is = key_open trip ws r won.low won.has ∙ ap (λ (z : State). rank_number z * word_base + r) (sym won.is)

  module _ (r' : ℕ) (L' : LeastKey trip ws' n r') (low' : 1 ≤ r') (has' : 1 ≤ cursor_of ws' r') where
    small' : Small (candidate trip ws' r')
    small' =
        result_small trip sound (label_at ws' r') (cursor_of ws' r') (A.ready r' low' L'.within).range ((A.ready r' low' L'.within).fitting.named has')

    winner' : Winner trip (settled ws n) (set (cursors_of ws n) (r - 1) v.cursor) (r' - 1)
    winner' =
        subst₂ (λ (l : List State) (k : List ℕ). Winner trip l k (r' - 1)) (advanced_states A) (advanced_cursors A won.low won.high)
        (is_winner trip sound ws' n A.ready r' L' low' has')

    candidate' : candidate_of trip (settled ws n) (set (cursors_of ws n) (r - 1) v.cursor) (r' - 1) ≡ candidate trip ws' r'
    candidate' =
        subst₂ (λ (l : List State) (k : List ℕ). candidate_of trip l k (r' - 1) ≡ candidate trip ws' r') (advanced_states A) (advanced_cursors A won.low won.high)
        (candidate_is trip ws' n r' low' L'.within)

    later' : Later c (r - 1) (candidate trip ws' r') (r' - 1)
    later' =
        subst₂ (λ (z z' : State). Later z (r - 1) z' (r' - 1)) (loop_candidate U won) candidate'
        (covered_later trip (settled ws n) (cursors_of ws n) (parents_of ws n) U.loop (r - 1) won.winner v.cursor
        (subst₂ (λ (s z : State). Passes trip (settled ws n) (r - 1) s z v.cursor) (sym (loop_state U won)) (sym (loop_candidate U won)) next.passes)
        (r' - 1) winner')

    higher : key_at trip ws r < key_at trip ws' r'
    higher =
        omega (arith, key_is, key_open trip ws' r' low' has', later_key c (candidate trip ws' r') r r' small small' won.low low' (U.ready r won.low won.high).small later')

  -- the root's key is higher than the one that was passed over
  pub root_rises : key_at trip ws r < key_at trip ws' (winner_of ws' 1)
  root_rises = go (dec_le no_key (key_at trip ws' (winner_of ws' 1)))
    where
      go : Dec (no_key ≤ key_at trip ws' (winner_of ws' 1)) → key_at trip ws r < key_at trip ws' (winner_of ws' 1)
      go (yes h) = omega (arith, key_below trip sound ws r won.low (U.ready r won.low won.high) won.has)
      go (no h) = let live = key_has trip sound ws' (winner_of ws' 1) (omega arith) in higher (winner_of ws' 1) leads' live.0 live.1
