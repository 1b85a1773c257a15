-- Counting the moves back from the last label to the first. Assumes nothing.
use mathlib.Core.Path.{◌≡◌, ap, subst}
use mathlib.Core.List.{List, [], ◌∷◌}
use Prim.Native.Nat.{ℕ, ◌+◌, ◌-◌, ◌≤◌, ◌<◌}
use native.Mathlib.Omega.{arith}
use lib.ListN.{length, length-append}
use Rattle.moves.specs.Trip.{Trip}
use Rattle.moves.specs.Runs.{SoundTrip}
use Rattle.labels.specs.LabelWords.{parent_of}
use Rattle.journeys.specs.Labels.{label, parent_in}
use Rattle.journeys.specs.Plan.{move_count}
use Rattle.journeys.proofs.Rows.{row_at, plan_rows_length}
use Rattle.readback.specs.Held.{Holds, Found, Descends, CountsMoves}
use Rattle.readback.proofs.Back.{rows_back, back_first, back_next, plan_back}

module _ (trip : Trip) (words : List ℕ) (n : ℕ) (held : Holds trip words n) where
  -- the word of a label's parent, by number
  pub parent_word : (k : ℕ) → 1 < k → k ≤ n → parent_of words k ≡ parent_in trip (label trip (k - 1)) + 1
  parent_word k low high =
      let back : k - 1 + 1 ≡ k = omega arith in
      subst (λ (j : ℕ). parent_of words j ≡ parent_in trip (label trip (k - 1)) + 1) back (held.parents (k - 1) (omega arith) (omega arith))

  pub held_descends : Descends words n
  held_descends =
      record {
        low = held.low;
        fits = held.fits;
        parents = λ k low high.
            record {
              low = omega (arith, parent_word k low high);
              below = omega (arith, parent_word k low high, held.before (k - 1) (omega arith) (omega arith));
            };
      }

-- m moves counted, and those to label k yet to count
pub record Counting (words : List ℕ) (n k m : ℕ) : Type 0 where
  pub low : 1 ≤ k
  pub few : m + k ≤ n
  pub counts : (trip : Trip) → SoundTrip trip → Found trip words n → move_count trip ≡ m + length (rows_back trip (k - 1))

module _ (words : List ℕ) (n : ℕ) where
  pub count_first : 1 ≤ n → Counting words n n 0
  count_first low =
      record {
        low = low;
        few = omega arith;
        counts = λ trip sound found.
            omega (arith, plan_rows_length trip, ap length (plan_back trip sound found.answered (n - 1) (omega (arith, found.held.count))));
      }

  pub count_next : Descends words n → (k m : ℕ) → Counting words n k m → 1 < k → Counting words n (parent_of words k) (m + 1)
  count_next descends k m counting more =
      let high : k ≤ n = omega (arith, counting.few) in
      let parent = descends.parents k more high in
      record {
        low = parent.low;
        few = omega (arith, parent.below, counting.few);
        counts = λ trip sound found. one_more trip sound found high;
      }
    where
      one_more : (trip : Trip) → SoundTrip trip → Found trip words n → k ≤ n → move_count trip ≡ m + 1 + length (rows_back trip (parent_of words k - 1))
      one_more trip sound found high =
          let back = back_next trip sound (k - 1) (omega arith) (omega (arith, found.held.count)) in
          let p : ℕ = parent_in trip (label trip (k - 1)) in
          let at_parent : parent_of words k - 1 ≡ p = omega (arith, parent_word trip words n found.held k more high) in
          rw at_parent (omega (arith, counting.counts trip sound found, ap length back.rows, length-append (rows_back trip p) (row_at back.by_move (label trip (k - 1)) ∷ [])))

  pub count_end : (k m : ℕ) → Counting words n k m → k ≤ 1 → CountsMoves words n m
  count_end k m counting end trip sound found =
      let first : k - 1 ≡ 0 = omega (arith, counting.low) in
      omega (arith, counting.counts trip sound found, ap (λ (i : ℕ). length (rows_back trip i)) first, ap length (back_first trip sound))
