-- What a word that is put leaves: it is read back, the length stays, and all that lies apart from it stays. Assumes nothing.
use mathlib.Core.Path.{◌≡◌, ◌∙◌}
use mathlib.Core.List.{List}
use mathlib.Core.Logic.{◌⊎◌, ⊎_elim, inl, inr}
use Prim.Native.Nat.{ℕ, ◌+◌, ◌*◌, ◌/◌, ◌%◌, ◌≤◌, ◌<◌}
use native.Mathlib.Omega.{arith}
use native.Mathlib.Nat.{add-zero}
use lib.Dec.{lit<}
use lib.ListN.{length, get_or, set, length-set}
use lib.Seq.{get_or-set_same, get_or-set_other}
use Rattle.words.specs.Word.{word_at, put_at}

-- i is none of the n places from `at` on
abbrev pub Apart : ℕ → ℕ → ℕ → Type 0
Apart at n i = (i < at) ⊎ (at + n ≤ i)

pub length_put : (s : List ℕ) (at value : ℕ) → length (put_at s at value) ≡ length s
unfolding put_at
length_put s at value = simp length-set

digits : (w : ℕ) → w % 256 + w / 256 % 256 * 256 + w / 65536 % 256 * 65536 + w / 16777216 * 16777216 ≡ w
digits w = omega arith

-- the byte k of the four of a put
module _ (s : List ℕ) (at b0 b1 b2 b3 : ℕ) (fits : at + 4 ≤ length s) where
  abbrev s1 : List ℕ
  s1 = set s at b0

  abbrev s2 : List ℕ
  s2 = set s1 (at + 1) b1

  abbrev s3 : List ℕ
  s3 = set s2 (at + 2) b2

  abbrev s4 : List ℕ
  s4 = set s3 (at + 3) b3

  byte_0 : get_or s4 at 0 ≡ b0
  byte_0 =
      get_or-set_other s3 (at + 3) at b3 0 (λ e. omega arith)
      ∙ get_or-set_other s2 (at + 2) at b2 0 (λ e. omega arith)
      ∙ get_or-set_other s1 (at + 1) at b1 0 (λ e. omega arith)
      ∙ get_or-set_same s at b0 0 (omega arith)

  byte_1 : get_or s4 (at + 1) 0 ≡ b1
  byte_1 =
      get_or-set_other s3 (at + 3) (at + 1) b3 0 (λ e. omega arith)
      ∙ get_or-set_other s2 (at + 2) (at + 1) b2 0 (λ e. omega arith)
      ∙ get_or-set_same s1 (at + 1) b1 0 (simp length-set (omega arith))

  byte_2 : get_or s4 (at + 2) 0 ≡ b2
  byte_2 =
      get_or-set_other s3 (at + 3) (at + 2) b3 0 (λ e. omega arith)
      ∙ get_or-set_same s2 (at + 2) b2 0 (simp length-set (omega arith))

  byte_3 : get_or s4 (at + 3) 0 ≡ b3
  byte_3 = get_or-set_same s3 (at + 3) b3 0 (simp length-set (omega arith))

  -- and a byte apart from them
  byte_apart : (i : ℕ) → Apart at 4 i → get_or s4 i 0 ≡ get_or s i 0
  byte_apart i apart =
      let n0 : i ≡ at → ⊥ = λ e. ⊎_elim (λ l. omega arith) (λ l. omega arith) apart in
      let n1 : i ≡ at + 1 → ⊥ = λ e. ⊎_elim (λ l. omega arith) (λ l. omega arith) apart in
      let n2 : i ≡ at + 2 → ⊥ = λ e. ⊎_elim (λ l. omega arith) (λ l. omega arith) apart in
      let n3 : i ≡ at + 3 → ⊥ = λ e. ⊎_elim (λ l. omega arith) (λ l. omega arith) apart in
      get_or-set_other s3 (at + 3) i b3 0 n3
      ∙ get_or-set_other s2 (at + 2) i b2 0 n2
      ∙ get_or-set_other s1 (at + 1) i b1 0 n1
      ∙ get_or-set_other s at i b0 0 n0

-- a byte apart from the word is as it was
pub put_byte_apart : (s : List ℕ) (at value i : ℕ) → at + 4 ≤ length s → Apart at 4 i → get_or (put_at s at value) i 0 ≡ get_or s i 0
unfolding put_at
put_byte_apart s at value i fits apart =
    byte_apart s at (value % 256) (value / 256 % 256) (value / 65536 % 256) (value / 16777216) fits i apart

-- the word that is put is the word that is read
pub put_same : (s : List ℕ) (at value : ℕ) → at + 4 ≤ length s → word_at (put_at s at value) at ≡ value
unfolding word_at put_at
put_same s at value fits =
    let b0 : ℕ = value % 256 in
    let b1 : ℕ = value / 256 % 256 in
    let b2 : ℕ = value / 65536 % 256 in
    let b3 : ℕ = value / 16777216 in
    simp
    (byte_0 s at b0 b1 b2 b3 fits, byte_1 s at b0 b1 b2 b3 fits, byte_2 s at b0 b1 b2 b3 fits, byte_3 s at b0 b1 b2 b3 fits)
    (digits value)

-- two lists with the same four bytes have the same word
pub same_word : (s t : List ℕ) (at : ℕ) → ((k : ℕ) → k < 4 → get_or s (at + k) 0 ≡ get_or t (at + k) 0) → word_at s at ≡ word_at t at
unfolding word_at
same_word s t at same =
    let zeroth : get_or s at 0 ≡ get_or t at 0 = rw add-zero at (same 0 (lit< tt)) in
    simp (zeroth, same 1 (lit< tt), same 2 (lit< tt), same 3 (lit< tt))

-- a word apart from it is as it was
pub put_apart : (s : List ℕ) (at value other : ℕ) → at + 4 ≤ length s → (other + 4 ≤ at) ⊎ (at + 4 ≤ other) → word_at (put_at s at value) other ≡ word_at s other
put_apart s at value other fits apart =
    same_word (put_at s at value) s other
    (λ k below. put_byte_apart s at value (other + k) fits (⊎_elim (λ l. inl (omega arith)) (λ l. inr (omega arith)) apart))
