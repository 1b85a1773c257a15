-- The kinds of pause by their numbers. Assumes nothing.
use Rattle.std.specs.Prelude.{◌≡◌, ℕ, ◌<◌, ◌⊎◌, Result, MatchResult}
use Rattle.driving.specs.declared.Pause.{Pause}
use Rattle.driving.specs.declared.Pause.TheVariants.{Break, Rest, FirstPart, SecondPart, WeeklyRest}
use Rattle.driving.specs.declared.NoPause.{NoPause}
use Rattle.driving.specs.Hours.{first_pause, last_pause}

abbrev pub pause_number : Pause → ℕ
pause_number Break = 2
pause_number Rest = 3
pause_number FirstPart = 4
pause_number SecondPart = 5
pause_number WeeklyRest = 6

-- the kind of pause of a number, or a number that is none's
abbrev pub PauseNumbered : ℕ → Result Pause NoPause → Type 0
PauseNumbered number found =
    MatchResult found
    (λ pause. pause_number pause ≡ number)
    (λ none. (none.0 ≡ number) × ((number < first_pause) ⊎ (last_pause < number)))
