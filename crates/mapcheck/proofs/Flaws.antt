-- The bits that tell whether bytes side by side are letters: each byte is judged by itself. Assumes nothing.
use mathlib.Core.Path.{◌≡◌, ◌∙◌, refl, sym, ap, ap₂}
use mathlib.Core.Bool.{Bool, true, false, not, ◌||◌}
use mathlib.Core.Logic.{⊎_elim}
use Prim.Native.Nat.{ℕ, zero, suc, ◌+◌, ◌*◌, ◌-◌, ◌/◌, ◌%◌, ◌≤◌, ◌<◌}
use native.Mathlib.Omega.{arith}
use native.Mathlib.Nat.{mod-eq_of_lt}
use borrow.Author.Tests.{eqb-true, eq-eqb, ne_eqb, ltb-true, ltb-false}
use lib.Dec.{eqb, ltb, lit<}
use lib.Bits.{bit_and, bit_or, and_block, or_block, and_le_l, and_le_r, or_lt, or_add_and, or_shr, and_mask, and_high, and_zero_r}
use Rattle.booleans.proofs.Tests.{cases, not_both}
use Rattle.mapcheck.specs.MapCheck.{outside}
use Rattle.mapcheck.specs.Lettered.{bad_bytes}

-- the byte b, n times
abbrev pub repeated : ℕ → ℕ → ℕ
repeated zero b = 0
repeated (suc n) b = repeated n b * 256 + b

-- of n bytes, the high bit of each that is no letter
abbrev pub flaws : ℕ → ℕ → ℕ
flaws n value =
    let low = bit_and value (repeated n 0x7F) in
    bit_and (bit_or (bit_or value (low + repeated n 0x01)) (repeated n 0x9F - low)) (repeated n 0x80)

repeated_le : (n a b : ℕ) → a ≤ b → repeated n a ≤ repeated n b
repeated_le zero a b le = omega arith
repeated_le (suc n) a b le = omega (arith, repeated_le n a b le)

-- a byte below n others: no sum or difference leaves its byte
module _ (n others byte : ℕ) (is_byte : byte < 256) where
  abbrev lows : ℕ
  lows = bit_and others (repeated n 0x7F)

  abbrev low : ℕ
  low = bit_and byte 0x7F

  low_apart : bit_and (others * 256 + byte) (repeated (suc n) 0x7F) ≡ lows * 256 + low
  low_apart = and_block 8 others (repeated n 0x7F) byte 0x7F is_byte (lit< tt)

  above_apart : lows * 256 + low + repeated (suc n) 0x01 ≡ (lows + repeated n 0x01) * 256 + (low + 0x01)
  above_apart = omega arith

  below_apart : repeated (suc n) 0x9F - (lows * 256 + low) ≡ (repeated n 0x9F - lows) * 256 + (0x9F - low)
  below_apart = omega (arith, and_le_r byte 0x7F, and_le_r others (repeated n 0x7F), repeated_le n 0x7F 0x9F (omega arith))

  above_fits : low + 0x01 < 256
  above_fits = omega (arith, and_le_r byte 0x7F)

  below_fits : 0x9F - low < 256
  below_fits = omega arith

  first_fits : bit_or byte (low + 0x01) < 256
  first_fits = or_lt 8 byte (low + 0x01) is_byte above_fits

  flaws_apart : flaws (suc n) (others * 256 + byte) ≡ flaws n others * 256 + flaws 1 byte
  flaws_apart =
      let others_first : ℕ = bit_or others (lows + repeated n 0x01) in
      let byte_first : ℕ = bit_or byte (low + 0x01) in
      rw (
        low_apart,
        above_apart,
        below_apart,
        or_block 8 others (lows + repeated n 0x01) byte (low + 0x01) is_byte above_fits,
        or_block 8 others_first (repeated n 0x9F - lows) byte_first (0x9F - low) first_fits below_fits,
      )
      (and_block 8 (bit_or others_first (repeated n 0x9F - lows)) (repeated n 0x80) (bit_or byte_first (0x9F - low)) 0x80 (or_lt 8 byte_first (0x9F - low) first_fits below_fits) (lit< tt))

-- bits joined are none where those of both are none
or_none : (a b : ℕ) → bit_or a b ≡ 0 → (a ≡ 0) × (b ≡ 0)
or_none a b e =
    (omega (arith, or_add_and a b, and_le_r a b), omega (arith, or_add_and a b, and_le_l a b))

none_or : (a b : ℕ) → a ≡ 0 → b ≡ 0 → bit_or a b ≡ 0
none_or a b e f = omega (arith, or_add_and a b)

-- one byte: its high bit, that of its low bits and one, and that of 0x9F less them
module _ (byte : ℕ) (is_byte : byte < 256) where
  abbrev top_bit : ℕ
  top_bit = byte / 128

  abbrev above_bit : ℕ
  above_bit = (byte % 128 + 0x01) / 128

  abbrev below_bit : ℕ
  below_bit = (0x9F - byte % 128) / 128

  abbrev joined_bit : ℕ
  joined_bit = bit_or (bit_or top_bit above_bit) below_bit

  one_bit : joined_bit < 2
  one_bit = or_lt 1 (bit_or top_bit above_bit) below_bit (or_lt 1 top_bit above_bit (omega arith) (omega arith)) (omega arith)

  flaws_byte : flaws 1 byte ≡ joined_bit * 128
  flaws_byte =
      rw (and_mask byte 7)
      (and_high (bit_or (bit_or byte (byte % 128 + 0x01)) (0x9F - byte % 128)) 1 7
      ∙ rw (or_shr (bit_or byte (byte % 128 + 0x01)) (0x9F - byte % 128) 7, or_shr byte (byte % 128 + 0x01) 7, mod-eq_of_lt one_bit) refl)

  clear_letter : flaws 1 byte ≡ 0 → (0x20 ≤ byte) × (byte ≤ 0x7E)
  clear_letter e =
      let none : joined_bit ≡ 0 = omega (arith, e, flaws_byte) in
      let both = or_none (bit_or top_bit above_bit) below_bit none in
      let first = or_none top_bit above_bit both.0 in
      (omega (arith, both, first, is_byte), omega (arith, both, first, is_byte))

  letter_clear : 0x20 ≤ byte → byte ≤ 0x7E → flaws 1 byte ≡ 0
  letter_clear low high =
      let none : joined_bit ≡ 0 = none_or (bit_or top_bit above_bit) below_bit (none_or top_bit above_bit (omega arith) (omega arith)) (omega arith) in
      omega (arith, none, flaws_byte)

  flawed_byte : not (eqb (flaws 1 byte) 0) ≡ outside 0x20 0x7E byte
  unfolding outside
  flawed_byte =
      ⊎_elim
      (λ (under : ltb byte 0x20 ≡ true).
      rw (under, ne_eqb (flaws 1 byte) 0 (λ e. omega (arith, clear_letter e, ltb-true byte 0x20 under))) refl)
      (λ (low : ltb byte 0x20 ≡ false).
      ⊎_elim
      (λ (over : ltb 0x7E byte ≡ true).
      rw (low, over, ne_eqb (flaws 1 byte) 0 (λ e. omega (arith, clear_letter e, ltb-true 0x7E byte over))) refl)
      (λ (high : ltb 0x7E byte ≡ false).
      rw (low, high, eq-eqb (flaws 1 byte) 0 (letter_clear (ltb-false byte 0x20 low) (ltb-false 0x7E byte high))) refl)
      (cases (ltb 0x7E byte)))
      (cases (ltb byte 0x20))

-- a byte is flawed or one of the others is
either : (others byte : ℕ) → not (eqb (others * 256 + byte) 0) ≡ (not (eqb byte 0) || not (eqb others 0))
either others byte =
    ⊎_elim
    (λ (none : eqb byte 0 ≡ true).
    ⊎_elim
    (λ (all : eqb others 0 ≡ true). rw (none, all, eq-eqb (others * 256 + byte) 0 (omega (arith, eqb-true byte 0 none, eqb-true others 0 all))) refl)
    (λ (one : eqb others 0 ≡ false). rw (none, one, ne_eqb (others * 256 + byte) 0 (λ e. not_both (eq-eqb others 0 (omega (arith, e))) one)) refl)
    (cases (eqb others 0)))
    (λ (one : eqb byte 0 ≡ false). rw (one, ne_eqb (others * 256 + byte) 0 (λ e. not_both (eq-eqb byte 0 (omega (arith, e))) one)) refl)
    (cases (eqb byte 0))

-- for every number of bytes and every value of them
pub flawed : (n value : ℕ) → not (eqb (flaws n value) 0) ≡ bad_bytes n value
flawed zero value = rw (and_zero_r (bit_or (bit_or value (bit_and value 0 + 0)) (0 - bit_and value 0))) refl
flawed (suc n) value =
    let digits : value / 256 * 256 + value % 256 ≡ value = omega arith in
    let is_byte : value % 256 < 256 = omega arith in
    ap (λ (v : ℕ). not (eqb (flaws (suc n) v) 0)) (sym digits)
    ∙ ap (λ (f : ℕ). not (eqb f 0)) (flaws_apart n (value / 256) (value % 256) is_byte)
    ∙ either (flaws n (value / 256)) (flaws 1 (value % 256))
    ∙ ap₂ (λ (a b : Bool). a || b) (flawed_byte (value % 256) is_byte) (flawed n (value / 256))
