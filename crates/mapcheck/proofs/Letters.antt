-- Words of letters in the map: what the test of words says of the bytes. Assumes nothing.
use mathlib.Core.Path.{◌≡◌, ◌∙◌, refl, sym, ap}
use mathlib.Core.Bool.{Bool, true, false, ◌||◌}
use mathlib.Core.List.{List, ◌++◌}
use mathlib.Core.Logic.{⊎_elim}
use Prim.Native.Nat.{ℕ, zero, suc, ◌+◌, ◌*◌, ◌-◌, ◌/◌, ◌%◌, ◌≤◌, ◌<◌}
use native.Mathlib.Omega.{arith}
use native.Mathlib.Nat.{add_assoc, eq-or-lt_of_le}
use borrow.Author.Tests.{ltb-true, ltb-false}
use lib.Dec.{ltb}
use lib.ListN.{length, get_or, drop}
use Rattle.std.proofs.Math.ListN.{get_or-append}
use Rattle.std.proofs.Math.Seq.{drop-append_seam}
use Rattle.std.proofs.lemmas.List.{get_or-drop, drop-drop, length-append, length-drop}
use Rattle.booleans.proofs.Tests.{cases, or_false}
use Rattle.replies.specs.First.{lowest}
use Rattle.replies.proofs.First.{NoneBelow, lowest_past}
use Rattle.words.specs.Word.{word_at}
use Rattle.mapcheck.specs.MapCheck.{outside, bad_letter_at}
use Rattle.mapcheck.specs.Lettered.{bad_bytes, bad_word, Lettered}

-- four tests, and what follows them
or_all : (a b c d e : Bool) → (a || (b || (c || (d || e)))) ≡ ((a || (b || (c || (d || false)))) || e)
or_all true b c d e = refl
or_all false true c d e = refl
or_all false false true d e = refl
or_all false false false true e = refl
or_all false false false false e = refl

-- a low byte, and the bytes above it
low_byte : (value more : ℕ) → (value + more * 256) % 256 ≡ value % 256
low_byte value more = omega arith

above_it : (value more : ℕ) → (value + more * 256) / 256 ≡ value / 256 + more
above_it value more = omega arith

-- the bytes of two words, the second above the first
pub bytes_of_two : (first second : ℕ) → first < 4294967296 → bad_bytes 8 (first + second * 4294967296) ≡ (bad_word first || bad_word second)
unfolding bad_word
bytes_of_two first second is_word =
    let v1 : ℕ = first / 256 in
    let v2 : ℕ = v1 / 256 in
    let v3 : ℕ = v2 / 256 in
    let m1 : ℕ = second * 256 in
    let m2 : ℕ = m1 * 256 in
    let m3 : ℕ = m2 * 256 in
    let bad : ℕ → Bool = outside 0x20 0x7E in
    let spread : first + second * 4294967296 ≡ first + m3 * 256 = omega arith in
    let second_only : v3 / 256 + second ≡ second = omega (arith, is_word) in
    rw (spread, above_it first m3, above_it v1 m2, above_it v2 m1, above_it v3 second, second_only, low_byte first m3, low_byte v1 m2, low_byte v2 m1, low_byte v3 second)
    (or_all (bad (first % 256)) (bad (v1 % 256)) (bad (v2 % 256)) (bad (v3 % 256)) (bad_bytes 4 second))

-- the number that n bytes spell, the lowest first
abbrev spelt : ℕ → List ℕ → ℕ → ℕ
spelt zero map i = 0
spelt (suc n) map i = get_or map i 0 + spelt n map (i + 1) * 256

module _ (map : List ℕ) (are_bytes : (i : ℕ) → get_or map i 0 < 256) where
  spelt_letters : (n i : ℕ) → bad_bytes n (spelt n map i) ≡ false → NoneBelow (bad_letter_at map) i (i + n)
  unfolding bad_letter_at
  spelt_letters zero i letters x low high = absurd (omega arith)
  spelt_letters (suc n) i letters x low high =
      let byte : ℕ = get_or map i 0 in
      let others : ℕ = spelt n map (i + 1) in
      let this : (byte + others * 256) % 256 ≡ byte = omega (arith, are_bytes i) in
      let those : (byte + others * 256) / 256 ≡ others = omega (arith, are_bytes i) in
      let both = or_false {a = outside 0x20 0x7E byte} {b = bad_bytes n others} (rw (this, those) at letters) in
      ⊎_elim
      (λ (same : i ≡ x). rw (← same) both.0)
      (λ (l : i < x). spelt_letters n (i + 1) both.1 x (omega arith) (omega arith))
      (eq-or-lt_of_le low)

  word_spelt : (i : ℕ) → word_at map i ≡ spelt 4 map i
  unfolding word_at
  word_spelt i = rw (add_assoc i 1 1, add_assoc i 2 1) (omega arith)

  -- past a word of letters that was read
  pub past_word : (i : ℕ) {word : ℕ} → i + 4 ≤ length map → word ≡ word_at map i → bad_word word ≡ false → Lettered map i (i + 4)
  unfolding bad_word
  past_word i inside read letters =
      record { low = omega arith; high = inside; letters = spelt_letters 4 i (rw (read ∙ word_spelt i) at letters) }

-- one stretch after the other
pub past_both : {map : List ℕ} {from middle to : ℕ} → Lettered map from middle → Lettered map middle to → Lettered map from to
past_both {map} {from} {middle} {to} first second =
    record {
      low = omega (arith, first, second);
      high = second.high;
      letters = λ i low high.
          ⊎_elim
          (λ (before : ltb i middle ≡ true). first.letters i low (ltb-true i middle before))
          (λ (after : ltb i middle ≡ false). second.letters i (ltb-false i middle after) high)
          (cases (ltb i middle));
    }

-- a pair of words, with the rest of the map behind it
module _ (map pair rest : List ℕ) (at : ℕ) (cut : drop at map ≡ pair ++ rest) (size : length pair ≡ 8) where
  byte_within : (k : ℕ) → k < 8 → get_or pair k 0 ≡ get_or map (at + k) 0
  byte_within k low = sym (get_or-append pair rest 0 k (omega arith)) ∙ rw (← cut) (get_or-drop at map k 0)

  word_within : (k i : ℕ) → k ≤ 4 → i ≡ at + k → word_at pair k ≡ word_at map i
  unfolding word_at
  word_within k i low here =
      rw (here, add_assoc at k 1, add_assoc at k 2, add_assoc at k 3, byte_within k (omega arith), byte_within (k + 1) (omega arith), byte_within (k + 2) (omega arith), byte_within (k + 3) (omega arith))

  pub rest_behind : rest ≡ drop (at + 8) map
  rest_behind = sym (drop-append_seam pair rest) ∙ rw (← cut, size) (drop-drop 8 at map)

  pair_inside : at + 8 ≤ length map
  pair_inside = omega (arith, ap length cut, length-append pair rest, length-drop at map)

  pub past_pair : ((i : ℕ) → get_or map i 0 < 256) → {first second : ℕ} → first ≡ word_at pair 0 → second ≡ word_at pair 4 →
      (bad_word first || bad_word second) ≡ false → Lettered map at (at + 8)
  past_pair are_bytes {first} {second} is-first is-second letters =
      let both = or_false letters in
      let one : Lettered map at (at + 4) = past_word map are_bytes at (omega (arith, pair_inside)) (is-first ∙ word_within 0 at (omega arith) (omega arith)) both.0 in
      let other : Lettered map (at + 4) (at + 4 + 4) = past_word map are_bytes (at + 4) (omega (arith, pair_inside)) (is-second ∙ word_within 4 (at + 4) (omega arith) refl) both.1 in
      rw (add_assoc at 4 4) at (past_both one other)

-- the lowest bad letter is behind them
pub lowest_behind : {map : List ℕ} {from to : ℕ} → Lettered map from to → lowest (bad_letter_at map) from (length map - from) ≡ lowest (bad_letter_at map) to (length map - to)
lowest_behind {map} {from} {to} past =
    let count : to - from + (length map - to) ≡ length map - from = omega (arith, past) in
    let reached : from + (to - from) ≡ to = omega (arith, past) in
    rw (count, reached) at (lowest_past (bad_letter_at map) from (to - from) (length map - to) (λ x low high. past.letters x low (omega (arith, past))))
