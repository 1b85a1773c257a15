-- Words of letters: what the test of a word says of its bytes. Assumes nothing.
use mathlib.Core.Path.{◌≡◌, ◌∙◌, refl, sym}
use mathlib.Core.Bool.{Bool, true, false, not, ◌&&◌, ◌||◌}
use mathlib.Core.Logic.{◌↔◌}
use Prim.Native.Nat.{ℕ, ◌/◌, ◌%◌, ◌<◌}
use native.Mathlib.Omega.{arith}
use borrow.Author.Tests.{le-ltb, not-true, not-false}
use lib.Dec.{T}
use Rattle.booleans.proofs.Tests.{T_true, true_T}
use Rattle.theory.specs.Lists.{every}
use Rattle.theory.proofs.Lists.{every_at, every_of}
use Rattle.sheets.specs.Sheet.{word_bytes}
use Rattle.mapcheck.specs.MapCheck.{outside}
use Rattle.mapcheck.specs.Lettered.{bad_word}
use Rattle.mapcheck.proofs.Counts.{within}
use Rattle.demands.specs.Letters.{Letter, AllLetters}

abbrev is_letter : ℕ → Bool
is_letter byte = not (outside 0x20 0x7E byte)

letter_told : (byte : ℕ) → T (is_letter byte) → Letter byte
letter_told byte told = let bounds = within {low = 0x20} {high = 0x7E} {value = byte} (not-true (outside 0x20 0x7E byte) (T_true told)) in (bounds.above, bounds.below)

letter_passes : (byte : ℕ) → Letter byte → T (is_letter byte)
unfolding outside
letter_passes byte letter = rw (le-ltb byte 0x20 letter.0, le-ltb 0x7E byte letter.1) tt

or_not : (a b : Bool) → (a || not b) ≡ not (not a && b)
or_not true b = refl
or_not false b = refl

-- one byte is no letter, or not all the others are letters
word_bytes_lem : (word : ℕ) → word < 4294967296 → bad_word word ≡ not (every is_letter (word_bytes word))
unfolding every bad_word word_bytes
word_bytes_lem word is_word =
    let third : word / 256 / 256 % 256 ≡ word / 65536 % 256 = omega arith in
    let fourth : word / 256 / 256 / 256 % 256 ≡ word / 16777216 = omega (arith, is_word) in
    let bad : ℕ → Bool = outside 0x20 0x7E in
    let last : Bool = is_letter (word / 16777216) && true in
    let two : Bool = is_letter (word / 65536 % 256) && last in
    let three : Bool = is_letter (word / 256 % 256) && two in
    rw (third, fourth, or_not (bad (word / 16777216)) true, or_not (bad (word / 65536 % 256)) last, or_not (bad (word / 256 % 256)) two, or_not (bad (word % 256)) three) refl

pub letters_exactly : (word : ℕ) → word < 4294967296 → (bad_word word ≡ false) ↔ AllLetters word
letters_exactly word is_word =
    let all : Bool = every is_letter (word_bytes word) in (
      λ passes byte in-it. letter_told byte (every_at is_letter (word_bytes word) (true_T (not-false all (sym (word_bytes_lem word is_word) ∙ passes))) in-it),
      λ letters. word_bytes_lem word is_word ∙ rw (T_true {b = all} (every_of is_letter (word_bytes word) (λ byte in-it. letter_passes byte (letters byte in-it)))) refl,
    )
