-- Refusal 25, number by number, and what a list is that passes. Assumes nothing.
use mathlib.Core.Path.{◌≡◌, refl}
use mathlib.Core.Bool.{true, false}
use mathlib.Core.List.{List, [], ◌∷◌}
use mathlib.Core.Logic.{⊎_elim}
use Prim.Native.Nat.{ℕ, zero, suc, ◌+◌, ◌-◌, ◌≤◌, ◌<◌}
use native.Mathlib.Nat.{eq-or-lt_of_le}
use native.Mathlib.Omega.{arith}
use borrow.Author.Tests.{lt-ltb, le-ltb, ltb-true, ltb-false, le-leb, lt-leb, leb-true, leb-false, eq-eqb, ne_eqb}
use lib.Dec.{eqb, leb, ltb}
use lib.ListN.{length, get_or}
use Rattle.booleans.proofs.Tests.{cases, not_both, or_right}
use Rattle.replies.specs.First.{NoneFits}
use Rattle.replies.proofs.First.{NoneBelow, lowest_is_none}
use Rattle.bans.specs.BanList.{bad_ban_at, ban_tests, Rising}

-- the number before an index; 0 before the first
abbrev pub number_before : List ℕ → ℕ → ℕ
number_before bans i = get_or (0 ∷ bans) i 0

module _ (roads : ℕ) (bans : List ℕ) where
  abbrev number : ℕ → ℕ
  number i = get_or bans i 0

  -- not above the one before, or 0 where it is the first
  pub too_low : (i : ℕ) → number i ≤ number_before bans i → bad_ban_at roads bans (i + 1) ≡ true
  unfolding bad_ban_at
  too_low zero h = rw (eq-eqb (number 0) 0 (omega arith))
  too_low (suc i) h =
      let here : suc i + 1 - 1 ≡ suc i = omega arith in
      let before : suc i + 1 - 1 - 1 ≡ i = omega arith in
      rw (before, here, lt-ltb 1 (suc i + 1) (omega arith), le-leb (number (suc i)) (number i) h)
      (or_right (eqb (number (suc i)) 0) (or_right (ltb roads (number (suc i))) refl))

  pub too_high : (i : ℕ) → roads < number i → bad_ban_at roads bans (i + 1) ≡ true
  unfolding bad_ban_at
  too_high i h =
      let here : i + 1 - 1 ≡ i = omega arith in
      rw (here, lt-ltb roads (number i) h) (or_right (eqb (number i) 0) refl)

  pub right : (i : ℕ) → number_before bans i < number i → number i ≤ roads → bad_ban_at roads bans (i + 1) ≡ false
  unfolding bad_ban_at
  right zero low high = rw (ne_eqb (number 0) 0 (λ e. omega arith), le-ltb roads (number 0) high)
  right (suc i) low high =
      let here : suc i + 1 - 1 ≡ suc i = omega arith in
      let before : suc i + 1 - 1 - 1 ≡ i = omega arith in
      rw (
        before,
        here,
        ne_eqb (number (suc i)) 0 (λ e. omega arith),
        le-ltb roads (number (suc i)) high,
        lt-ltb 1 (suc i + 1) (omega arith),
        lt-leb (number (suc i)) (number i) low,
      )

  -- where no number is wrong
  module _ (none-bad : NoneBelow (bad_ban_at roads bans) 1 (1 + length bans)) where
    above_before : (i : ℕ) → i < length bans → number_before bans i < number i
    above_before i h =
        ⊎_elim
        (λ (e : leb (number i) (number_before bans i) ≡ true). absurd (not_both (too_low i (leb-true _ _ e)) (none-bad (i + 1) (omega arith) (omega arith))))
        (λ (e : leb (number i) (number_before bans i) ≡ false). leb-false _ _ e)
        (cases (leb (number i) (number_before bans i)))

    within : (i : ℕ) → i < length bans → number i ≤ roads
    within i h =
        ⊎_elim
        (λ (e : ltb roads (number i) ≡ true). absurd (not_both (too_high i (ltb-true _ _ e)) (none-bad (i + 1) (omega arith) (omega arith))))
        (λ (e : ltb roads (number i) ≡ false). ltb-false _ _ e)
        (cases (ltb roads (number i)))

    above_all : (i j : ℕ) → i < j → j < length bans → number i < number j
    above_all i zero less h = absurd (omega arith)
    above_all i (suc j) less h =
        ⊎_elim
        (λ (e : i ≡ j). rw e (above_before (suc j) h))
        (λ (l : i < j). omega (arith, above_all i j l (omega arith), above_before (suc j) h))
        (eq-or-lt_of_le (omega arith))

  -- a list that passes has roads of the map alone, rising
  pub bans_accepted : NoneFits (ban_tests roads bans) → Rising roads bans
  bans_accepted accepted =
      let none-bad = lowest_is_none (bad_ban_at roads bans) 1 (length bans) accepted.0 in
      record {
        low = λ i h. omega (arith, above_before none-bad i h);
        high = within none-bad;
        rises = above_all none-bad;
      }

-- a list of no roads
pub none_listed : (roads : ℕ) → Rising roads []
none_listed roads = record { low = λ i h. absurd (omega arith); high = λ i h. absurd (omega arith); rises = λ i j l h. absurd (omega arith) }
