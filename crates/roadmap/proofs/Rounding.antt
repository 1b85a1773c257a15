-- The laws of rounding to the nearest whole number, an exact half to the even one: it is nearest and even, and a higher dividend or a
-- lower divisor never gives less. Assumes nothing.
use mathlib.Core.Path.{◌≡◌, ◌∙◌, ap}
use Prim.Native.Nat.{ℕ, suc, ◌+◌, ◌*◌, ◌-◌, ◌/◌, ◌%◌, ◌≤◌, ◌<◌}
use native.Mathlib.Omega.{arith}
use native.Mathlib.Decide.{dec_le}
use native.Mathlib.Nat.{div-add-mod, mod-lt, mul-add, mul-one, mul-suc, mul-le-mul_left, mul-le-mul_right}
use borrow.Author.Tests.{lt-ltb, le-ltb, eq-eqb, ne_eqb}
use Rattle.roadmap.specs.RoadTime.{nearest}

-- how far two numbers lie apart
abbrev pub apart : ℕ → ℕ → ℕ
apart a b = (a - b) + (b - a)

-- t is nearest to n / d, and the even one of two that are as near
pub record Rounds (n d t : ℕ) : Type 0 where
  pub near : 2 * apart (d * t) n ≤ d
  pub even : 2 * apart (d * t) n ≡ d → t % 2 ≡ 0

-- which of the two whole numbers beside the quotient is taken: at an exact half the last bit of the lower one decides
module _ (n d : ℕ) where
  pub takes_lower : 2 * (n % d) + n / d % 2 ≤ d → nearest n d ≡ n / d
  unfolding nearest
  takes_lower near =
      elim (dec_le d (2 * (n % d))) [
        | no below ↦ rw (lt-ltb (2 * (n % d)) d (omega arith), nearest)
        | yes half ↦ rw (le-ltb (2 * (n % d)) d half, eq-eqb (2 * (n % d)) d (omega arith), nearest) (omega arith)
      ]

  pub takes_upper : d < 2 * (n % d) + n / d % 2 → nearest n d ≡ n / d + 1
  unfolding nearest
  takes_upper near =
      elim (dec_le (2 * (n % d)) d) [
        | no above ↦ rw (le-ltb (2 * (n % d)) d (omega arith), ne_eqb (2 * (n % d)) d (omega arith), nearest)
        | yes half ↦ rw (le-ltb (2 * (n % d)) d (omega arith), eq-eqb (2 * (n % d)) d (omega arith), nearest) (omega arith)
      ]

module _ (n d : ℕ) (positive : 1 ≤ d) where
  whole : d * (n / d) + n % d ≡ n
  whole = div-add-mod n d

  -- what the definition gives is nearest and even
  pub rounds : Rounds n d (nearest n d)
  rounds =
      elim (dec_le (2 * (n % d) + n / d % 2) d) [
        | yes near ↦ rw (takes_lower n d near) record { near = omega (arith, whole); even = λ tie. omega (arith, whole) }
        | no far ↦
            let next : d * (n / d + 1) ≡ d * (n / d) + d = mul-add d (n / d) 1 ∙ ap (λ (x : ℕ). d * (n / d) + x) (mul-one d) in
            let rest : n % d < d = mod-lt n {m = d} positive in
            rw (takes_upper n d (omega arith)) record { near = omega (arith, whole); even = λ tie. omega (arith, whole) }
      ]

-- a dividend that is no higher and a divisor that is no lower give no more
pub ordered : {n n' d d' t t' : ℕ} → 1 ≤ d → n ≤ n' → d ≤ d' → Rounds n d' t → Rounds n' d t' → t ≤ t'
ordered {n} {n'} {d} {d'} {t} {t'} positive less more a b =
    elim (dec_le t t') [ yes below ↦ below | no above ↦ absurd (crossed (omega arith)) ]
  where
    wide : d * t' ≤ d' * t'
    wide = mul-le-mul_right t' more

    -- two apart, the quotients would be in the other order
    neighbours : t' < t → t ≡ suc t'
    neighbours above =
        elim (dec_le t (suc t')) [
          | yes close ↦ omega arith
          | no far ↦
              absurd
              (omega (arith, a.near, b.near, wide, mul-le-mul_left {m = suc (suc t')} {n = t} d' (omega arith), mul-suc d' (suc t'), mul-suc d' t'))
        ]

    -- one apart, both would be ties, and one of two neighbours is odd
    crossed : t' < t → ⊥
    crossed above =
        let gap : d' * t ≡ d' * t' + d' = ap (λ (x : ℕ). d' * x) (neighbours above) ∙ mul-suc d' t' in
        omega (arith, neighbours above, a.even (omega (arith, a.near, b.near, wide)), b.even (omega (arith, a.near, b.near, wide)))
