-- How long a road takes. Document 01, "Road time", rounded as document 02 (P2) says. Assumes nothing.
use Rattle.std.specs.Prelude.{true, false, ℕ, ◌+◌, ◌*◌, ◌/◌, ◌%◌, max, ltb, eqb}

-- the quotient to the nearest whole number, an exact half to the even one: the lower number, the even one of two or the upper number, as
-- twice the remainder is below, at or above the divisor
unfoldable pub nearest : ℕ → ℕ → ℕ
nearest dividend divisor =
    let lower = dividend / divisor in
    let twice = 2 * (dividend % divisor) in
    elim (ltb twice divisor) [ true ↦ lower | false ↦ elim (eqb twice divisor) [ true ↦ lower + lower % 2 | false ↦ lower + 1 ] ]

-- 18 × metres / (5 × km per hour) to the nearest second, an exact half to the even one, and never below 1
unfoldable pub road_seconds : ℕ → ℕ → ℕ
road_seconds metres speed = max 1 (nearest (18 * metres) (5 * speed))

abbrev pub most_metres : ℕ
most_metres = 2000000

abbrev pub least_speed : ℕ
least_speed = 5

abbrev pub most_speed : ℕ
most_speed = 130
