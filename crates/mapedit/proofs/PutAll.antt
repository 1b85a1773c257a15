-- Words put one after the other: they are read back, all that lies apart from them stays, and a later word takes the place
-- of an earlier one. Assumes nothing.
use mathlib.Core.Path.{◌≡◌, ◌∙◌, refl, sym, ap}
use mathlib.Core.List.{List}
use mathlib.Core.Logic.{◌⊎◌, inl, inr, ⊎_elim}
use Prim.Native.Nat.{ℕ, zero, suc, ◌+◌, ◌*◌, ◌/◌, ◌%◌, ◌≤◌, ◌<◌}
use native.Mathlib.Omega.{arith}
use native.Mathlib.Nat.{eq-or-lt_of_le}
use lib.Dec.{lit<}
use lib.ListN.{length, get_or, set}
use lib.Seq.{set-set, set_comm, set-get_or}
use Rattle.words.specs.Word.{word_at, put_at}
use Rattle.words.proofs.Put.{Apart, length_put, put_byte_apart, put_same, same_word}
use Rattle.mapedit.specs.Chaining.{put_all}

-- two words that have no byte in common
abbrev pub WordsApart : ℕ → ℕ → Type 0
WordsApart p q = (p + 4 ≤ q) ⊎ (q + 4 ≤ p)

-- four bytes, one after the other
abbrev four : List ℕ → ℕ → ℕ → ℕ → ℕ → ℕ → List ℕ
four s p b0 b1 b2 b3 = set (set (set (set s p b0) (p + 1) b1) (p + 2) b2) (p + 3) b3

module _ (s : List ℕ) (q b0 b1 b2 b3 x : ℕ) where
  -- a byte that lies apart may be written before or after
  four_set : (i : ℕ) → Apart q 4 i → four (set s i x) q b0 b1 b2 b3 ≡ set (four s q b0 b1 b2 b3) i x
  four_set i apart =
      let n0 : i ≡ q → ⊥ = λ e. ⊎_elim (λ l. omega arith) (λ l. omega arith) apart in
      let n1 : i ≡ q + 1 → ⊥ = λ e. ⊎_elim (λ l. omega arith) (λ l. omega arith) apart in
      let n2 : i ≡ q + 2 → ⊥ = λ e. ⊎_elim (λ l. omega arith) (λ l. omega arith) apart in
      let n3 : i ≡ q + 3 → ⊥ = λ e. ⊎_elim (λ l. omega arith) (λ l. omega arith) apart in
      rw
      (set_comm s i q x b0 n0, set_comm (set s q b0) i (q + 1) x b1 n1, set_comm (set (set s q b0) (q + 1) b1) i (q + 2) x b2 n2)
      (set_comm (set (set (set s q b0) (q + 1) b1) (q + 2) b2) i (q + 3) x b3 n3)

  -- a byte of the four that was written before is lost
  four_0 : four (set s q x) q b0 b1 b2 b3 ≡ four s q b0 b1 b2 b3
  four_0 = rw (set-set s q x b0)

  four_1 : four (set s (q + 1) x) q b0 b1 b2 b3 ≡ four s q b0 b1 b2 b3
  four_1 = rw (set_comm s (q + 1) q x b0 (λ e. omega arith), set-set (set s q b0) (q + 1) x b1)

  four_2 : four (set s (q + 2) x) q b0 b1 b2 b3 ≡ four s q b0 b1 b2 b3
  four_2 =
      rw (
        set_comm s (q + 2) q x b0 (λ e. omega arith),
        set_comm (set s q b0) (q + 2) (q + 1) x b1 (λ e. omega arith),
        set-set (set (set s q b0) (q + 1) b1) (q + 2) x b2,
      )

  four_3 : four (set s (q + 3) x) q b0 b1 b2 b3 ≡ four s q b0 b1 b2 b3
  four_3 =
      rw (
        set_comm s (q + 3) q x b0 (λ e. omega arith),
        set_comm (set s q b0) (q + 3) (q + 1) x b1 (λ e. omega arith),
        set_comm (set (set s q b0) (q + 1) b1) (q + 3) (q + 2) x b2 (λ e. omega arith),
        set-set (set (set (set s q b0) (q + 1) b1) (q + 2) b2) (q + 3) x b3,
      )

-- two words that lie apart may be put in either order
pub put_commute : (s : List ℕ) (p a q b : ℕ) → WordsApart p q → put_at (put_at s p a) q b ≡ put_at (put_at s q b) p a
unfolding put_at
put_commute s p a q b apart =
    let a0 : ℕ = a % 256 in
    let a1 : ℕ = a / 256 % 256 in
    let a2 : ℕ = a / 65536 % 256 in
    let a3 : ℕ = a / 16777216 in
    let b0 : ℕ = b % 256 in
    let b1 : ℕ = b / 256 % 256 in
    let b2 : ℕ = b / 65536 % 256 in
    let b3 : ℕ = b / 16777216 in
    four_set (set (set (set s p a0) (p + 1) a1) (p + 2) a2) q b0 b1 b2 b3 a3 (p + 3) (clear 3 (lit< tt))
    ∙ ap (λ (l : List ℕ). set l (p + 3) a3)
    (four_set (set (set s p a0) (p + 1) a1) q b0 b1 b2 b3 a2 (p + 2) (clear 2 (lit< tt))
    ∙ ap (λ (l : List ℕ). set l (p + 2) a2)
    (four_set (set s p a0) q b0 b1 b2 b3 a1 (p + 1) (clear 1 (lit< tt))
    ∙ ap (λ (l : List ℕ). set l (p + 1) a1) (four_set s q b0 b1 b2 b3 a0 p (⊎_elim (λ l. inl (omega arith)) (λ l. inr (omega arith)) apart))))
  where
    clear : (k : ℕ) → k < 4 → Apart q 4 (p + k)
    clear k l = ⊎_elim (λ o. inl (omega arith)) (λ o. inr (omega arith)) apart

-- the later of two words at one place stays
pub put_twice : (s : List ℕ) (p a b : ℕ) → put_at (put_at s p a) p b ≡ put_at s p b
unfolding put_at
put_twice s p a b =
    let a0 : ℕ = a % 256 in
    let a1 : ℕ = a / 256 % 256 in
    let a2 : ℕ = a / 65536 % 256 in
    let a3 : ℕ = a / 16777216 in
    let b0 : ℕ = b % 256 in
    let b1 : ℕ = b / 256 % 256 in
    let b2 : ℕ = b / 65536 % 256 in
    let b3 : ℕ = b / 16777216 in
    four_3 (set (set (set s p a0) (p + 1) a1) (p + 2) a2) p b0 b1 b2 b3 a3
    ∙ four_2 (set (set s p a0) (p + 1) a1) p b0 b1 b2 b3 a2
    ∙ four_1 (set s p a0) p b0 b1 b2 b3 a1
    ∙ four_0 s p b0 b1 b2 b3 a0

module _ (b0 b1 b2 b3 : ℕ) (l0 : b0 < 256) (l1 : b1 < 256) (l2 : b2 < 256) (l3 : b3 < 256) where
  -- the bytes of the word that they spell
  digit_0 : (b0 + b1 * 256 + b2 * 65536 + b3 * 16777216) % 256 ≡ b0
  digit_0 = omega arith

  digit_1 : (b0 + b1 * 256 + b2 * 65536 + b3 * 16777216) / 256 % 256 ≡ b1
  digit_1 = omega arith

  digit_2 : (b0 + b1 * 256 + b2 * 65536 + b3 * 16777216) / 65536 % 256 ≡ b2
  digit_2 = omega arith

  digit_3 : (b0 + b1 * 256 + b2 * 65536 + b3 * 16777216) / 16777216 ≡ b3
  digit_3 = omega arith

-- a word put where it stands changes nothing
pub put_own : (s : List ℕ) (p : ℕ) → ((i : ℕ) → get_or s i 0 < 256) → put_at s p (word_at s p) ≡ s
unfolding put_at word_at
put_own s p bytes =
    let b0 : ℕ = get_or s p 0 in
    let b1 : ℕ = get_or s (p + 1) 0 in
    let b2 : ℕ = get_or s (p + 2) 0 in
    let b3 : ℕ = get_or s (p + 3) 0 in
    rw (
      digit_0 b0 b1 b2 b3 (bytes _) (bytes _) (bytes _) (bytes _),
      digit_1 b0 b1 b2 b3 (bytes _) (bytes _) (bytes _) (bytes _),
      digit_2 b0 b1 b2 b3 (bytes _) (bytes _) (bytes _) (bytes _),
      digit_3 b0 b1 b2 b3 (bytes _) (bytes _) (bytes _) (bytes _),
      set-get_or s p 0,
      set-get_or s (p + 1) 0,
      set-get_or s (p + 2) 0,
      set-get_or s (p + 3) 0,
    )

-- the words of the n numbers from k on lie within a list of so many bytes
abbrev pub Fit : (ℕ → ℕ) → ℕ → ℕ → ℕ → Type 0
Fit at k n size = (i : ℕ) → k ≤ i → i < k + n → at i + 4 ≤ size

-- a byte lies apart from all of them
abbrev pub ByteApart : (ℕ → ℕ) → ℕ → ℕ → ℕ → Type 0
ByteApart at k n p = (i : ℕ) → k ≤ i → i < k + n → Apart (at i) 4 p

-- and so does a word
abbrev pub ApartFrom : (ℕ → ℕ) → ℕ → ℕ → ℕ → Type 0
ApartFrom at k n q = (i : ℕ) → k ≤ i → i < k + n → WordsApart (at i) q

-- they lie one after the other
abbrev pub Spread : (ℕ → ℕ) → Type 0
Spread at = (i j : ℕ) → 1 ≤ i → i < j → at i + 4 ≤ at j

module _ (at value : ℕ → ℕ) where
  pub length_put_all : (k n : ℕ) (s : List ℕ) → length (put_all at value k n s) ≡ length s
  unfolding put_all
  length_put_all k zero s = refl
  length_put_all k (suc n) s = length_put_all (k + 1) n (put_at s (at k) (value k)) ∙ length_put s (at k) (value k)

  -- a byte that lies apart is as it was
  pub put_all_byte : (k n : ℕ) (s : List ℕ) (p : ℕ) → Fit at k n (length s) → ByteApart at k n p → get_or (put_all at value k n s) p 0 ≡ get_or s p 0
  unfolding put_all
  put_all_byte k zero s p fit apart = refl
  put_all_byte k (suc n) s p fit apart =
      put_all_byte (k + 1) n (put_at s (at k) (value k)) p
      (λ i l h. rw (length_put s (at k) (value k)) (fit i (omega arith) (omega arith)))
      (λ i l h. apart i (omega arith) (omega arith))
      ∙ put_byte_apart s (at k) (value k) p (fit k (omega arith) (omega arith)) (apart k (omega arith) (omega arith))

  -- and so is a word
  pub put_all_word : (k n : ℕ) (s : List ℕ) (q : ℕ) → Fit at k n (length s) → ApartFrom at k n q → word_at (put_all at value k n s) q ≡ word_at s q
  put_all_word k n s q fit apart =
      same_word (put_all at value k n s) s q
      (λ b below.
      put_all_byte k n s (q + b) fit (λ i l h. ⊎_elim (λ o. inr (omega arith)) (λ o. inl (omega arith)) (apart i l h)))

  -- a word that lies apart may be put before or after
  pub put_past : (k n : ℕ) (s : List ℕ) (q x : ℕ) → ApartFrom at k n q → put_at (put_all at value k n s) q x ≡ put_all at value k n (put_at s q x)
  unfolding put_all
  put_past k zero s q x apart = refl
  put_past k (suc n) s q x apart =
      put_past (k + 1) n (put_at s (at k) (value k)) q x (λ i l h. apart i (omega arith) (omega arith))
      ∙ ap (λ (l : List ℕ). put_all at value (k + 1) n l) (put_commute s (at k) (value k) q x (apart k (omega arith) (omega arith)))

  -- one more word, after the others
  pub put_last : (k n m : ℕ) (s : List ℕ) → m ≡ k + n → put_all at value k (suc n) s ≡ put_at (put_all at value k n s) (at m) (value m)
  unfolding put_all
  put_last k zero m s is_m = let same : m ≡ k = omega arith in rw same
  put_last k (suc n) m s is_m = put_last (k + 1) n m (put_at s (at k) (value k)) (omega arith)

  -- words put where they stand change nothing
  pub put_all_own : (k n : ℕ) (s : List ℕ) → ((i : ℕ) → get_or s i 0 < 256) → ((i : ℕ) → k ≤ i → i < k + n → word_at s (at i) ≡ value i) → put_all at value k n s ≡ s
  unfolding put_all
  put_all_own k zero s bytes own = refl
  put_all_own k (suc n) s bytes own =
      ap (λ (l : List ℕ). put_all at value (k + 1) n l)
      (ap (λ (v : ℕ). put_at s (at k) v) (sym (own k (omega arith) (omega arith))) ∙ put_own s (at k) bytes)
      ∙ put_all_own (k + 1) n s bytes (λ i l h. own i (omega arith) (omega arith))

  module _ (spread : Spread at) where
    -- a word lies apart from all that come after it
    pub later : (k n i : ℕ) → 1 ≤ i → i < k → ApartFrom at k n (at i)
    later k n i low before j l h = inr (spread i j low (omega arith))

    -- each word is read back
    pub put_all_read : (k n : ℕ) (s : List ℕ) (i : ℕ) → 1 ≤ k → Fit at k n (length s) → k ≤ i → i < k + n → word_at (put_all at value k n s) (at i) ≡ value i
    unfolding put_all
    put_all_read k zero s i from_1 fit low high = absurd (omega arith)
    put_all_read k (suc n) s i from_1 fit low high =
        ⊎_elim
        (λ (same : k ≡ i).
        rw (← same)
        (put_all_word (k + 1) n (put_at s (at k) (value k)) (at k) fit' (later (k + 1) n k from_1 (omega arith))
        ∙ put_same s (at k) (value k) (fit k (omega arith) (omega arith))))
        (λ (l : k < i). put_all_read (k + 1) n (put_at s (at k) (value k)) i (omega arith) fit' (omega arith) (omega arith))
        (eq-or-lt_of_le low)
      where
        fit' : Fit at (k + 1) n (length (put_at s (at k) (value k)))
        fit' i l h = rw (length_put s (at k) (value k)) (fit i (omega arith) (omega arith))

-- equal values, equal bytes
pub put_all_same : (at value value' : ℕ → ℕ) (k n : ℕ) (s : List ℕ) → ((i : ℕ) → k ≤ i → i < k + n → value i ≡ value' i)
    → put_all at value k n s ≡ put_all at value' k n s
unfolding put_all
put_all_same at value value' k zero s same = refl
put_all_same at value value' k (suc n) s same =
    rw (same k (omega arith) (omega arith))
    (put_all_same at value value' (k + 1) n (put_at s (at k) (value' k)) (λ i l h. same i (omega arith) (omega arith)))

module _ (at value value' : ℕ → ℕ) (spread : Spread at) where
  -- words put where others were
  pub put_all_twice : (k n : ℕ) (s : List ℕ) → 1 ≤ k → put_all at value' k n (put_all at value k n s) ≡ put_all at value' k n s
  unfolding put_all
  put_all_twice k zero s from_1 = refl
  put_all_twice k (suc n) s from_1 =
      ap (λ (l : List ℕ). put_all at value' (k + 1) n l)
      (put_past at value (k + 1) n (put_at s (at k) (value k)) (at k) (value' k) (later at value spread (k + 1) n k from_1 (omega arith)))
      ∙ put_all_twice (k + 1) n (put_at (put_at s (at k) (value k)) (at k) (value' k)) (omega arith)
      ∙ ap (λ (l : List ℕ). put_all at value' (k + 1) n l) (put_twice s (at k) (value k) (value' k))

  -- one of the words put anew
  pub put_over : (k n : ℕ) (s : List ℕ) (i : ℕ) → 1 ≤ k → k ≤ i → i < k + n → ((j : ℕ) → (j ≡ i → ⊥) → value j ≡ value' j)
      → put_at (put_all at value k n s) (at i) (value' i) ≡ put_all at value' k n s
  unfolding put_all
  put_over k zero s i from_1 low high same = absurd (omega arith)
  put_over k (suc n) s i from_1 low high same =
      ⊎_elim
      (λ (here : k ≡ i).
      rw (← here)
      (put_past at value (k + 1) n (put_at s (at k) (value k)) (at k) (value' k) (later at value spread (k + 1) n k from_1 (omega arith))
      ∙ ap (λ (l : List ℕ). put_all at value (k + 1) n l) (put_twice s (at k) (value k) (value' k))
      ∙ put_all_same at value value' (k + 1) n (put_at s (at k) (value' k)) (λ j l h. same j (λ e. omega arith))))
      (λ (l : k < i).
      put_over (k + 1) n (put_at s (at k) (value k)) i (omega arith) (omega arith) (omega arith) same
      ∙ ap (λ (x : ℕ). put_all at value' (k + 1) n (put_at s (at k) x)) (same k (λ e. omega arith)))
      (eq-or-lt_of_le low)
