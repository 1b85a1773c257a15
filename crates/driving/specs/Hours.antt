-- The driver's figures: what they are compared with, and what a drive and a pause of each kind make of them. Document 01, "Moves", and
-- document 02, P5 and P7. Assumes nothing.
use Rattle.std.specs.Prelude.{ℕ, ◌+◌, ◌-◌, Bool, true, false, not, ◌&&◌, List, [], ◌∷◌, ◌++◌, eqb, get_or}
use Rattle.driving.specs.declared.Figures.{Figures}
use Rattle.driving.specs.declared.Rules.{Rules}

-- spell, shift and week
abbrev pub wheel_figures : Figures → List ℕ
wheel_figures f = f.spell.0 ∷ f.shift.0 ∷ f.week.0 ∷ []

-- the limit of each
abbrev pub wheel_limits : Rules → List ℕ
wheel_limits r = r.spell_limit.0 ∷ r.shift_limit.0 ∷ r.week_limit.0 ∷ []

-- what no limit of sound rules is above
abbrev pub highest_limits : List ℕ
highest_limits = 1000000 ∷ 1000000 ∷ 1000000 ∷ []

-- a state with the mark is better than one without
abbrev pub mark_figure : Bool → ℕ
mark_figure true = 0
mark_figure false = 1

abbrev pub unmarked : Figures → ℕ
unmarked f = mark_figure f.marked

-- what is compared of two drivers, lower is better in each: the mark comes last
abbrev pub driver_figures : Figures → List ℕ
driver_figures f = wheel_figures f ++ (unmarked f ∷ [])

-- what none of these is above, where the wheel figures are within sound limits
abbrev pub highest_figures : List ℕ
highest_figures = highest_limits ++ (1 ∷ [])

-- drive: its time is added to spell, shift and week, and the mark stays
abbrev pub driven_on : ℕ → Figures → Figures
driven_on seconds f =
    record {
      spell = record { 0 = f.spell.0 + seconds };
      shift = record { 0 = f.shift.0 + seconds };
      week = record { 0 = f.week.0 + seconds };
      marked = f.marked;
    }

-- kinds of pause: 2 break, 3 rest, 4 first part, 5 second part, 6 weekly
abbrev pub first_pause : ℕ
first_pause = 2

abbrev pub last_pause : ℕ
last_pause = 6

-- how many they are
abbrev pub pause_count : ℕ
pause_count = last_pause + 1 - first_pause

-- both parts zero means no split
abbrev pub has_split : Rules → Bool
has_split r = not (eqb r.first_part.0 0 && eqb r.second_part.0 0)

-- what each pause takes: break, rest and weekly rest, and each part its own length
abbrev pub whole_times : Rules → List ℕ
whole_times r = r.break_time.0 ∷ r.rest_time.0 ∷ r.weekly_rest.0 ∷ []

abbrev pub part_times : Rules → List ℕ
part_times r = r.first_part.0 ∷ r.second_part.0 ∷ []

-- what a pause adds to the clock, by kind
abbrev pub pause_times : Rules → List ℕ
pause_times r =
    r.break_time.0
    ∷ r.rest_time.0
    ∷ r.first_part.0
    ∷ r.second_part.0
    ∷ r.weekly_rest.0
    ∷ []

abbrev pub pause_seconds : Rules → ℕ → ℕ
pause_seconds r kind = get_or (pause_times r) (kind - first_pause) 0

-- whether the rules have a pause of each kind for these figures: a part where they have a split, and a second one needs the mark
abbrev pub allowances : Rules → Figures → List Bool
allowances r f = true ∷ true ∷ has_split r ∷ (has_split r && f.marked) ∷ true ∷ []

abbrev pub allows_pause : Rules → Figures → ℕ → Bool
allows_pause r f kind = get_or (allowances r f) (kind - first_pause) false

-- break: spell 0, and no mark
abbrev pub after_break : Figures → Figures
after_break f = record { spell = record { 0 = 0 }; shift = f.shift; week = f.week; marked = false }

-- rest: spell 0, shift 0, and no mark; the week stays
abbrev pub after_rest : Figures → Figures
after_rest f = record { spell = record { 0 = 0 }; shift = record { 0 = 0 }; week = f.week; marked = false }

-- first part: sets the mark and leaves spell
abbrev pub after_first : Figures → Figures
after_first f = record { spell = f.spell; shift = f.shift; week = f.week; marked = true }

-- second part: clears the mark, and spell 0
abbrev pub after_second : Figures → Figures
after_second f = record { spell = record { 0 = 0 }; shift = f.shift; week = f.week; marked = false }

-- weekly: clears everything, the mark included
abbrev pub after_weekly : Figures → Figures
after_weekly f = record { spell = record { 0 = 0 }; shift = record { 0 = 0 }; week = record { 0 = 0 }; marked = false }

-- the figures after a pause, by kind
abbrev pub clearings : List (Figures → Figures)
clearings = after_break ∷ after_rest ∷ after_first ∷ after_second ∷ after_weekly ∷ []

abbrev pub cleared : ℕ → Figures → Figures
cleared kind f = get_or clearings (kind - first_pause) (λ f. f) f
