-- The bytes of words, records and headers: how many they are, and that putting words writes them. Assumes nothing.
use mathlib.Core.Path.{◌≡◌, ◌∙◌, refl}
use mathlib.Core.List.{List, [], ◌∷◌, ◌++◌, append_assoc}
use Prim.Native.Nat.{ℕ, suc, ◌+◌, ◌*◌, ◌-◌, ◌≤◌, ◌/◌, ◌%◌}
use native.Mathlib.Omega.{arith}
use lib.ListN.{length, take, drop, length-append}
use lib.Seq.{sets-eq, take-add, drop-drop}
use Rattle.words.specs.Word.{put_at}
use Rattle.sheets.specs.declared.Heading.{Heading}
use Rattle.sheets.specs.declared.Row.{Row}
use Rattle.sheets.specs.Sheet.{word_bytes, header_bytes, record_bytes, heading_bytes, row_bytes, rows_bytes, with_heading, with_row_behind, with_row}
use Rattle.sheets.proofs.Splice.{splice, length_splice, splice_next}

pub length_word : (w : ℕ) → length (word_bytes w) ≡ 4
unfolding word_bytes
length_word w = refl

pub length_row : (row : Row) → length (row_bytes row) ≡ record_bytes
unfolding row_bytes
length_row row = simp (length-append, length_word)

pub length_rows : (rows : List Row) → length (rows_bytes rows) ≡ record_bytes * length rows
unfolding rows_bytes
length_rows [] = refl
length_rows (row ∷ rows) = simp (length-append, length_row, length_rows rows) (omega arith)

pub length_heading : (h : Heading) → length (heading_bytes h) ≡ header_bytes
unfolding heading_bytes
length_heading h = simp (length-append, length_word)

-- a word that is put is its four bytes, and the rest stays
pub put_split : (s : List ℕ) (at w : ℕ) → at + 4 ≤ length s → put_at s at w ≡ take at s ++ word_bytes w ++ drop (at + 4) s
unfolding put_at word_bytes
put_split s at w fits =
    let e1 : at + 1 ≡ suc at = omega arith in
    let e2 : at + 2 ≡ suc (suc at) = omega arith in
    let e3 : at + 3 ≡ suc (suc (suc at)) = omega arith in
    rw (e1, e2, e3) (sets-eq (w % 256 ∷ w / 256 % 256 ∷ w / 65536 % 256 ∷ w / 16777216 ∷ []) s at fits)

-- a word put behind bytes just written
pub put_next : (s xs : List ℕ) (a b e w : ℕ) → a + length xs ≡ b → b + 4 ≡ e → e ≤ length s → put_at (splice s a xs b) b w ≡ splice s a (xs ++ word_bytes w) e
put_next s xs a b e w first second fits =
    put_split (splice s a xs b) b w (rw (length_splice s xs a b first (omega arith)) (omega arith))
    ∙ rw second (splice_next s xs (word_bytes w) a b e first (rw length_word second) fits)

-- a record's three words, put one after the other
pub put_row_lem : (part : List ℕ) (k : ℕ) (row : Row) → 1 ≤ k → record_bytes * k ≤ length part
    → put_at (put_at (put_at part (record_bytes * (k - 1)) row.kind) (record_bytes * (k - 1) + 4) row.number) (record_bytes * (k - 1) + 8) row.clock.0 ≡ with_row_behind part k row
unfolding row_bytes
put_row_lem part k row low fits = put (record_bytes * (k - 1)) (record_bytes * k) (omega arith) fits
  where
    put : (a e : ℕ) → a + record_bytes ≡ e → e ≤ length part → put_at (put_at (put_at part a row.kind) (a + 4) row.number) (a + 8) row.clock.0 ≡ splice part a (row_bytes row) e
    put a e whole fits =
        let one : List ℕ = word_bytes row.kind in
        rw
        (put_split part a row.kind (omega arith), put_next part one a (a + 4) (a + 8) row.number (rw length_word) (omega arith) (omega arith))
        (put_next part (one ++ word_bytes row.number) a (a + 8) e row.clock.0 (simp (length-append, length_word)) (omega arith) fits)

-- a header's six
pub put_heading_lem : (s : List ℕ) (h : Heading) → header_bytes ≤ length s → put_at (put_at (put_at (put_at (put_at (put_at s 0 h.moves) 4 h.arrival.0) 8 h.spell.0) 12 h.shift.0) 16 h.week.0) 20 h.labels ≡ with_heading s h
unfolding heading_bytes
put_heading_lem s h fits =
    let one : List ℕ = word_bytes h.moves in
    let two : List ℕ = one ++ word_bytes h.arrival.0 in
    let three : List ℕ = two ++ word_bytes h.spell.0 in
    let four : List ℕ = three ++ word_bytes h.shift.0 in
    let five : List ℕ = four ++ word_bytes h.week.0 in
    rw
    (put_split s 0 h.moves (omega arith), put_next s one 0 4 8 h.arrival.0 (rw length_word) refl (omega arith), put_next s two 0 8 12 h.spell.0 (simp (length-append, length_word)) refl (omega arith), put_next s three 0 12 16 h.shift.0 (simp (length-append, length_word)) refl (omega arith), put_next s four 0 16 20 h.week.0 (simp (length-append, length_word)) refl (omega arith))
    (put_next s five 0 20 header_bytes h.labels (simp (length-append, length_word)) refl fits)

-- a record written into the part behind the header is the same record of the whole sheet
pub behind_header : (s : List ℕ) (k : ℕ) (row : Row) → take header_bytes s ++ with_row_behind (drop header_bytes s) k row ≡ with_row s k row
behind_header s k row = rw (take-add header_bytes (record_bytes * (k - 1)) s) (simp (drop-drop, append_assoc))
