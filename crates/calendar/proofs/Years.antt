-- In which year a day lies, and that a feast lies in its own year: a day is a feast of some year exactly when it is one of its own.
-- Assumes nothing.
use mathlib.Core.Path.{◌≡◌, refl}
use mathlib.Core.Bool.{Bool, true, false, ◌||◌}
use mathlib.Core.Logic.{⊎_elim}
use Prim.Native.Nat.{ℕ, zero, suc, ◌+◌, ◌-◌, ◌*◌, ◌/◌, ◌≤◌, ◌<◌}
use native.Mathlib.Nat.{eq-or-lt_of_le}
use native.Mathlib.Omega.{arith}
use borrow.Author.Tests.{leb-true, leb-false, eqb-true}
use lib.Dec.{leb, eqb}
use Rattle.std.proofs.Math.Bool.{or-false}
use Rattle.booleans.proofs.Tests.{cases, or_cases}
use Rattle.calendar.specs.Calendar.{days_before}
use Rattle.calendar.specs.Easter.{easter_of}
use Rattle.calendar.specs.Gate.{easter_in, is_feast_of, is_feast_within, easter_years}
use Rattle.calendar.proofs.Made.{made, same_values}

-- up to 2099 there is a leap year in each four, 2000 the first
pub first_day : (k : ℕ) → k < 101 → days_before k ≡ (1461 * k + 3) / 4
unfolding days_before made
first_day = same_values days_before (λ k. (1461 * k + 3) / 4) 101 refl

-- from 22 March to 25 April
pub record InSpring (easter : ℕ) : Type 0 where
  pub low : 81 ≤ easter
  pub high : easter ≤ 116

pub easter_in_spring : (k : ℕ) → k < easter_years → InSpring (easter_of (2000 + k))
unfolding easter_of made
easter_in_spring k h =
    let inside = same_values (λ k. (81 - easter_of (2000 + k)) + (easter_of (2000 + k) - 116)) (λ k. 0) easter_years refl k h in
    in_spring (easter_of (2000 + k)) inside
  where
    in_spring : (easter : ℕ) → (81 - easter) + (easter - 116) ≡ 0 → InSpring easter
    in_spring easter e = record { low = omega arith; high = omega arith }

-- a year is over when the next begins, and when a later one does
year_long : (k : ℕ) → days_before k + 365 ≤ days_before (suc k)
unfolding days_before
year_long k = omega arith

year_before : (j k : ℕ) → j < k → days_before j + 365 ≤ days_before k
year_before j zero h = absurd (omega arith)
year_before j (suc k) h =
    ⊎_elim
    (λ (e : j ≡ k). rw e (year_long k))
    (λ (l : j < k). omega (arith, year_before j k l, year_long k))
    (eq-or-lt_of_le (omega arith))

-- a feast is between the Friday before Easter and the Monday after Whit Sunday
record Near (easter day : ℕ) : Type 0 where
  low : easter ≤ day + 2
  high : day ≤ easter + 50

feast_near : (easter day : ℕ) → is_feast_of easter day ≡ true → Near easter day
feast_near easter day e =
    ⊎_elim
    (λ a. let z = eqb-true (day + 2) easter a in record { low = omega arith; high = omega arith })
    (λ r.
    ⊎_elim
    (λ a. let z = eqb-true day (easter + 1) a in record { low = omega arith; high = omega arith })
    (λ r.
    ⊎_elim
    (λ a. let z = eqb-true day (easter + 39) a in record { low = omega arith; high = omega arith })
    (λ a. let z = eqb-true day (easter + 50) a in record { low = omega arith; high = omega arith })
    (or_cases (eqb day (easter + 39)) (eqb day (easter + 50)) r))
    (or_cases (eqb day (easter + 1)) (eqb day (easter + 39) || eqb day (easter + 50)) r))
    (or_cases (eqb (day + 2) easter) (eqb day (easter + 1) || (eqb day (easter + 39) || eqb day (easter + 50))) e)

or_none : {a b : Bool} → a ≡ false → b ≡ false → (a || b) ≡ false
or_none {a = false} p q = q
or_none {a = true} p q = p

module _ (k day : ℕ) (from : days_before k ≤ day) (to : day < days_before (suc k)) where
  -- no feast of another year
  other_year : (j : ℕ) → j < easter_years → (j ≡ k → ⊥) → is_feast_of (easter_in j) day ≡ false
  other_year j few other =
      ⊎_elim
      (λ (feast : is_feast_of (easter_in j) day ≡ true).
      let near = feast_near (easter_in j) day feast in
      let spring = easter_in_spring j few in
      absurd
      (⊎_elim
      (λ (later : leb (suc k) j ≡ true).
      ⊎_elim
      (λ (next : suc k ≡ j). omega (arith, rw next at to))
      (λ (l : suc k < j). omega (arith, year_before (suc k) j l))
      (eq-or-lt_of_le (leb-true (suc k) j later)))
      (λ (earlier : leb (suc k) j ≡ false).
      ⊎_elim
      other
      (λ (l : j < k). omega (arith, year_before j k l))
      (eq-or-lt_of_le (omega (arith, leb-false (suc k) j earlier))))
      (cases (leb (suc k) j))))
      (λ (none : is_feast_of (easter_in j) day ≡ false). none)
      (cases (is_feast_of (easter_in j) day))

  -- none of the years before its own
  none_before : (n : ℕ) → n ≤ easter_years → n ≤ k → is_feast_within n day ≡ false
  unfolding is_feast_within
  none_before zero few h = refl
  none_before (suc n) few h =
      or_none (other_year n (omega arith) (λ e. omega arith)) (none_before n (omega arith) (omega arith))

  pub own_year : (n : ℕ) → n ≤ easter_years → k < n → is_feast_within n day ≡ is_feast_of (easter_in k) day
  unfolding is_feast_within
  own_year zero few h = absurd (omega arith)
  own_year (suc n) few h =
      ⊎_elim
      (λ (same : k ≡ n). rw (← same, none_before k (omega arith) (omega arith)) (or-false (is_feast_of (easter_in k) day)))
      (λ (less : k < n). rw (other_year n (omega arith) (λ e. omega arith)) (own_year n (omega arith) less))
      (eq-or-lt_of_le (omega arith))

-- the year of a day, after 2000
abbrev years_of : ℕ → ℕ
years_of day = 4 * day / 1461

-- it begins no later than the day and ends after it
pub record Year (day : ℕ) : Type 0 where
  few : years_of day < 100
  first : days_before (years_of day) ≡ (1461 * years_of day + 3) / 4
  pub from : (1461 * years_of day + 3) / 4 ≤ day
  to : day < days_before (suc (years_of day))
  pub spring : InSpring (easter_of (2000 + years_of day))

pub year : (day : ℕ) → day < 36525 → Year day
year day h =
    let few : years_of day < 100 = omega arith in
    record {
      few = few;
      first = first_day (years_of day) (omega arith);
      from = omega arith;
      to = rw (first_day (suc (years_of day)) (omega arith)) (omega arith);
      spring = easter_in_spring (years_of day) (omega arith);
    }

-- Easter of that year, by the table's entry
pub easter_by : (day easter : ℕ) → day < 36525 → easter ≡ easter_of (2000 + years_of day) → (1461 * years_of day + 3) / 4 + easter - 1 ≡ easter_in (years_of day)
easter_by day easter h e = let y = year day h in rw (y.first, e) refl

-- a day is a feast of some year exactly when it is one of its own
pub own_feast : (day : ℕ) → day < 36525 → is_feast_within easter_years day ≡ is_feast_of (easter_in (years_of day)) day
own_feast day h =
    let y = year day h in
    own_year (years_of day) day (omega (arith, y.first, y.from)) y.to easter_years (omega arith) (omega (arith, y.few))
