-- Ban days, and when a banned road may be entered. Document 02, P8. Assumes nothing.
use Rattle.std.specs.Prelude.{Bool, false, ◌&&◌, ◌||◌, ℕ, zero, suc, ◌+◌, ◌-◌, ◌*◌, ◌/◌, ◌%◌, ltb, eqb}
use Rattle.booleans.specs.Pick.{pick}
use Rattle.calendar.specs.Calendar.{days_before}
use Rattle.calendar.specs.Easter.{easter_of}

-- clock 0 is 00:00 on 1 January 2000, and that day is day 0
abbrev pub day_seconds : ℕ
day_seconds = 86400

abbrev pub day_of : ℕ → ℕ
day_of clock = clock / day_seconds

abbrev pub time_of : ℕ → ℕ
time_of clock = clock % day_seconds

-- day 0 is a Saturday
abbrev pub is_sunday : ℕ → Bool
is_sunday day = eqb (day % 7) 1

-- the day that is Easter, so many years after 2000
abbrev pub easter_in : ℕ → ℕ
easter_in years = days_before years + easter_of (2000 + years) - 1

-- Good Friday, Easter Monday, Ascension and Whit Monday, where that day is Easter
abbrev pub is_feast_of : ℕ → ℕ → Bool
is_feast_of easter day =
    eqb (day + 2) easter || (eqb day (easter + 1) || (eqb day (easter + 39) || eqb day (easter + 50)))

-- one of those of some year, of so many from 2000 on
unfoldable pub is_feast_within : ℕ → ℕ → Bool
is_feast_within zero day = false
is_feast_within (suc years) day = is_feast_of (easter_in years) day || is_feast_within years day

-- the years of the table: 2000 to 2299
abbrev pub easter_years : ℕ
easter_years = 300

-- after 2299 Sundays alone
unfoldable pub is_ban_day : ℕ → Bool
unfolding is_feast_within days_before easter_of
is_ban_day day = is_sunday day || is_feast_within easter_years day

-- the ban of a day ends at 22:00
abbrev pub opening_time : ℕ
opening_time = 79200

-- when a lorry that comes at this clock enters, where the days that pass the test are ban days: it queues until 22:00
abbrev pub opened_by : (ℕ → Bool) → ℕ → ℕ
opened_by banned clock =
    pick (banned (day_of clock) && ltb (time_of clock) opening_time) (day_seconds * day_of clock + opening_time) clock

unfoldable pub gate_of : ℕ → ℕ
unfolding is_ban_day
gate_of clock = opened_by is_ban_day clock
