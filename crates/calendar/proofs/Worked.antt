-- Gates worked by hand, computed together, and Easter 2024. Assumes nothing.
use mathlib.Core.Bool.{Bool, true, ◌&&◌}
use mathlib.Core.List.{List, [], ◌∷◌}
use Prim.Native.Nat.{ℕ}
use lib.Dec.{T, eqb}
use Rattle.calendar.specs.Easter.{reckoned, easter_month, easter_day, easter_of}
use Rattle.calendar.specs.Gate.{is_ban_day, gate_of}

-- 31 March, the 91st day of the year
easter_2024 : T (eqb (easter_month 2024) 3 && (eqb (easter_day 2024) 31 && eqb (easter_of 2024) 91))
unfolding reckoned easter_of
easter_2024 = tt

-- a clock, and when a lorry that comes then may enter
record Case : Type 0 where
  comes : ℕ
  enters : ℕ

infixr 40 ◌until◌
abbrev ◌until◌ : ℕ → ℕ → Case
comes until enters = record { comes = comes; enters = enters }

-- it enters at once
abbrev free : ℕ → Case
free comes = comes until comes

every : List Case → Bool
unfolding gate_of
every [] = true
every (c ∷ cs) = let rest = every cs in eqb (gate_of c.comes) c.enters && rest

worked : T (every (
    -- Saturday 1 January 2000 and its last second; Sunday at 00:00, a second before 22:00, at 22:00
    free 0 ∷ free 86399 ∷ (86400 until 165600) ∷ (165599 until 165600) ∷ free 165600
    -- Good Friday of 2000; Easter Sunday at 22:00; Easter Monday; the Tuesday after it; Ascension; Whit Monday
    ∷ (9590400 until 9669600) ∷ free 9842400 ∷ (9849600 until 9928800) ∷ free 9936000
    ∷ (13132800 until 13212000) ∷ (14083200 until 14162400)
    -- Good Friday of 2024
    ∷ (764985600 until 765064800) ∷ []))
unfolding every gate_of is_ban_day
worked = tt
