-- The laws of road time: the nearest second, a tie even, at least 1, no longer for fewer metres, no longer for a higher speed; and its
-- greatest value. Assumes nothing.
use mathlib.Core.Path.{◌≡◌, ◌∙◌, refl, ap}
use Prim.Native.Nat.{ℕ, ◌*◌, ◌%◌, ◌≤◌, ◌<◌}
use native.Mathlib.Omega.{arith}
use native.Mathlib.Decide.{dec_le}
use native.Mathlib.Nat.{mul-zero, max-eq_right, le_refl, le_antisymm}
use Rattle.roadmap.specs.RoadTime.{nearest, road_seconds, most_metres, least_speed}
use Rattle.roadmap.proofs.Rounding.{apart, Rounds, rounds, ordered}

module _ (metres speed : ℕ) (moving : 1 ≤ speed) where
  rounded : Rounds (18 * metres) (5 * speed) (nearest (18 * metres) (5 * speed))
  rounded = rounds (18 * metres) (5 * speed) (omega arith)

  -- half a second and less takes the least second
  pub least_second : 2 * (18 * metres) ≤ 5 * speed → road_seconds metres speed ≡ 1
  unfolding road_seconds
  least_second short =
      let none : Rounds (18 * metres) (5 * speed) 0 = record { near = omega (arith, mul-zero (5 * speed)); even = λ tie. refl } in
      omega (arith, ordered (omega arith) (le_refl _) (le_refl _) rounded none)

  -- more than that takes the nearest second
  module _ (more : 5 * speed < 2 * (18 * metres)) where
    nearest_not_0 : 1 ≤ nearest (18 * metres) (5 * speed)
    nearest_not_0 =
        elim (dec_le 1 (nearest (18 * metres) (5 * speed))) [
          | yes is ↦ is
          | no none ↦
              let zero_time : 5 * speed * nearest (18 * metres) (5 * speed) ≡ 0 = ap (λ (x : ℕ). 5 * speed * x) (omega arith) ∙ mul-zero (5 * speed) in
              absurd (omega (arith, rounded.near))
        ]

    pub is_nearest : road_seconds metres speed ≡ nearest (18 * metres) (5 * speed)
    unfolding road_seconds
    is_nearest = max-eq_right nearest_not_0

    time_rounds : Rounds (18 * metres) (5 * speed) (road_seconds metres speed)
    time_rounds = rw is_nearest rounded

    -- it lies at most half a second from the quotient
    pub nearest_second : 2 * apart (5 * speed * road_seconds metres speed) (18 * metres) ≤ 5 * speed
    nearest_second = time_rounds.near

    -- of two equally near seconds the even one is taken
    pub tie_is_even : 2 * apart (5 * speed * road_seconds metres speed) (18 * metres) ≡ 5 * speed → road_seconds metres speed % 2 ≡ 0
    tie_is_even = time_rounds.even

    -- no other number has these two properties
    pub no_other : (t : ℕ) → Rounds (18 * metres) (5 * speed) t → t ≡ road_seconds metres speed
    no_other t other =
        le_antisymm
        (ordered (omega arith) (le_refl _) (le_refl _) other time_rounds)
        (ordered (omega arith) (le_refl _) (le_refl _) time_rounds other)

  -- every road takes at least 1 second; in this form, with premises that it can do without, `moves` cites it
  pub at_least_1 : 1 ≤ metres → 1 ≤ road_seconds metres speed
  unfolding road_seconds
  at_least_1 far = omega arith

-- the longest road at the lowest speed
pub at_most : (metres speed : ℕ) → metres ≤ most_metres → least_speed ≤ speed → road_seconds metres speed ≤ 1440000
unfolding road_seconds
at_most metres speed near fast =
    let longest : Rounds 36000000 25 1440000 = record { near = omega arith; even = λ tie. omega arith } in
    omega (arith, ordered (omega arith) (omega arith) (omega arith) (rounded metres speed (omega arith)) longest)

-- a longer road takes no less, a faster one no more
pub monotone : (metres metres' speed speed' : ℕ) → 1 ≤ speed → metres ≤ metres' → speed ≤ speed' → road_seconds metres speed' ≤ road_seconds metres' speed
unfolding road_seconds
monotone metres metres' speed speed' moving longer faster =
    omega (arith, ordered (omega arith) (omega arith) (omega arith) (rounded metres speed' (omega arith)) (rounded metres' speed moving))

pub no_longer_for_fewer_metres : (metres metres' speed : ℕ) → 1 ≤ speed → metres ≤ metres' → road_seconds metres speed ≤ road_seconds metres' speed
no_longer_for_fewer_metres metres metres' speed moving fewer = monotone metres metres' speed speed moving fewer (le_refl speed)

pub no_longer_for_higher_speed : (metres speed speed' : ℕ) → 1 ≤ speed → speed ≤ speed' → road_seconds metres speed' ≤ road_seconds metres speed
no_longer_for_higher_speed metres speed speed' moving higher = monotone metres metres speed speed' moving (le_refl metres) higher
