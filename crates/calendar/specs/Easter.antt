-- Easter by the Gregorian reckoning of Meeus, Jones and Butcher, with the letters that it is printed with. Document 02, P8.
-- Assumes nothing.
use Rattle.std.specs.Prelude.{ℕ, ◌+◌, ◌-◌, ◌*◌, ◌/◌, ◌%◌}
use Rattle.calendar.specs.Calendar.{leap_days}

-- the number that month and day are read from; of no difference is the second greater
unfoldable pub reckoned : ℕ → ℕ
reckoned year =
    let a = year % 19 in
    let b = year / 100 in
    let c = year % 100 in
    let d = b / 4 in
    let e = b % 4 in
    let f = (b + 8) / 25 in
    let g = (b - f + 1) / 3 in
    let h = (19 * a + b - d - g + 15) % 30 in
    let i = c / 4 in
    let k = c % 4 in
    let l = (32 + 2 * e + 2 * i - h - k) % 7 in
    let m = (a + 11 * h + 22 * l) / 451 in
    h + l - 7 * m + 114

-- 3 is March, 4 April
abbrev pub easter_month : ℕ → ℕ
easter_month year = reckoned year / 31

abbrev pub easter_day : ℕ → ℕ
easter_day year = reckoned year % 31 + 1

-- the day of the year, from 1: January, February, March where the month is April, and the day of the month
unfoldable pub easter_of : ℕ → ℕ
unfolding reckoned
easter_of year = 31 + (28 + leap_days year) + 31 * (easter_month year - 3) + easter_day year
