-- Records written one by one, from the front or from the back, and the header: together they are the sheet afterwards.
-- Assumes nothing.
use mathlib.Core.Path.{◌≡◌, refl, sym}
use mathlib.Core.List.{List, [], ◌∷◌, ◌++◌, append_assoc, append-nil}
use Prim.Native.Nat.{ℕ, suc, ◌+◌, ◌-◌, ◌≤◌, ◌<◌}
use native.Mathlib.Numerals.{add-one}
use native.Mathlib.Nat.{add-zero, zero-add}
use native.Mathlib.Omega.{arith}
use lib.ListN.{length, drop, get_or, length-append, length-drop, take-append-drop}
use lib.Seq.{drop-length, drop-cons}
use Rattle.sheets.specs.declared.Heading.{Heading}
use Rattle.sheets.specs.declared.Row.{Row}
use Rattle.sheets.specs.Sheet.{header_bytes, sheet_needed, heading_bytes, row_bytes, rows_bytes, sheet_after, with_heading, with_row}
use Rattle.sheets.specs.Written.{rows_put, backward}
use Rattle.sheets.proofs.Splice.{length_splice, splice_next, splice_before}
use Rattle.sheets.proofs.Bytes.{length_row, length_rows, length_heading}

pub length_with_row : (s : List ℕ) (k : ℕ) (row : Row) → 1 ≤ k → sheet_needed k ≤ length s → length (with_row s k row) ≡ length s
length_with_row s k row low fits =
    length_splice s (row_bytes row) (sheet_needed (k - 1)) (sheet_needed k) (rw length_row (omega arith)) fits

pub length_from : (n : ℕ) (rows : List Row) (s : List ℕ) → sheet_needed (n + length rows) ≤ length s → length (rows_put n rows s) ≡ length s
unfolding rows_put
length_from n rows s fits =
    length_splice s (rows_bytes rows) (sheet_needed n) (sheet_needed (n + length rows)) (rw length_rows (omega arith)) fits

pub none_from : (n : ℕ) (s : List ℕ) → rows_put n [] s ≡ s
unfolding rows_put rows_bytes
none_from n s = simp (add-zero, append-nil, take-append-drop)

rows_snoc : (rows : List Row) (row : Row) → rows_bytes (rows ++ (row ∷ [])) ≡ rows_bytes rows ++ row_bytes row
unfolding rows_bytes
rows_snoc [] row = append-nil (row_bytes row)
rows_snoc (first ∷ rows) row = rw (rows_snoc rows row, append_assoc)

-- one record more behind them: record j
pub row_behind : (n : ℕ) (rows : List Row) (s : List ℕ) (j : ℕ) (row : Row) → j ≡ n + length rows + 1 → sheet_needed j ≤ length s → with_row (rows_put n rows s) j row ≡ rows_put n (rows ++ (row ∷ [])) s
unfolding rows_put
row_behind n rows s j row next fits =
    let front : sheet_needed (j - 1) ≡ sheet_needed (n + length rows) = omega arith in
    let end : n + (length rows + 1) ≡ j = omega arith in
    rw (rows_snoc rows row, length-append rows (row ∷ []), end, front)
    (splice_next s (rows_bytes rows) (row_bytes row) (sheet_needed n) (sheet_needed (n + length rows)) (sheet_needed j) (rw length_rows (omega arith)) (rw length_row (omega arith)) fits)

-- one record more before them: record j
pub row_before : (n : ℕ) (rows : List Row) (s : List ℕ) (j : ℕ) (row : Row) → j ≡ n + 1 → sheet_needed (j + length rows) ≤ length s → with_row (rows_put j rows s) j row ≡ rows_put n (row ∷ rows) s
unfolding rows_put rows_bytes
row_before n rows s j row next fits =
    let front : sheet_needed (j - 1) ≡ sheet_needed n = omega arith in
    let end : n + suc (length rows) ≡ j + length rows = omega arith in
    rw (end, front)
    (splice_before s (row_bytes row) (rows_bytes rows) (sheet_needed n) (sheet_needed j) (sheet_needed (j + length rows)) (rw length_row (omega arith)) (rw length_rows (omega arith)) fits)

module _ (h : Heading) (rows : List Row) (s : List ℕ) (fits : sheet_needed (length rows) ≤ length s) where
  -- the header after all records
  pub heading_last : with_heading (rows_put 0 rows s) h ≡ sheet_after h rows s
  unfolding rows_put sheet_after
  heading_last =
      rw (zero-add (length rows))
      (splice_before s (heading_bytes h) (rows_bytes rows) 0 header_bytes (sheet_needed (length rows)) (rw length_heading) (rw length_rows) fits)

pub backward_from : (rows : List Row) (k : ℕ) (s : List ℕ) → k ≤ length rows → backward rows k s ≡ rows_put k (drop k rows) s
unfolding backward rows_put
backward_from rows k s most =
    let end : k + (length rows - k) ≡ length rows = omega arith in
    rw (length-drop k rows, end)

pub backward_start : (rows : List Row) (s : List ℕ) → backward rows (length rows) s ≡ s
backward_start rows s =
    rw (backward_from rows (length rows) s (omega arith), drop-length rows) (none_from (length rows) s)

pub backward_step : (rows : List Row) (k : ℕ) (s : List ℕ) (d : Row) → k < length rows → sheet_needed (length rows) ≤ length s → with_row (backward rows (k + 1) s) (k + 1) (get_or rows k d) ≡ backward rows k s
backward_step rows k s d more fits =
    rw (backward_from rows k s (omega arith), backward_from rows (k + 1) s (omega arith), drop-cons rows k d more)
    (rw (sym (add-one k)) (row_before k (drop (k + 1) rows) s (k + 1) (get_or rows k d) refl (rw (length-drop (k + 1) rows) (omega arith))))

pub backward_end : (h : Heading) (rows : List Row) (s : List ℕ) → sheet_needed (length rows) ≤ length s → with_heading (backward rows 0 s) h ≡ sheet_after h rows s
backward_end h rows s fits = rw (backward_from rows 0 s (omega arith)) (heading_last h rows s fits)
