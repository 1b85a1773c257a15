-- The Gregorian calendar from 1 January 2000 on. Document 02, P8. Assumes nothing.
use Rattle.std.specs.Prelude.{Bool, not, ◌&&◌, ◌||◌, ℕ, zero, suc, ◌+◌, ◌%◌, eqb}
use Rattle.booleans.specs.Pick.{pick}

-- every fourth year, but of the hundreds only every fourth
abbrev pub is_leap : ℕ → Bool
is_leap year = eqb (year % 4) 0 && (not (eqb (year % 100) 0) || eqb (year % 400) 0)

-- 29 February, where the year has one
abbrev pub leap_days : ℕ → ℕ
leap_days year = pick (is_leap year) 1 0

abbrev pub days_in : ℕ → ℕ
days_in year = 365 + leap_days year

-- the days from 1 January 2000 to 1 January of so many years later
unfoldable pub days_before : ℕ → ℕ
days_before zero = 0
days_before (suc years) = days_before years + days_in (2000 + years)
