-- A sheet that was written, read back from its bytes. Assumes nothing.
use mathlib.Core.Path.{◌≡◌, ap, ◌∙◌}
use mathlib.Core.List.{List, ◌++◌}
use Prim.Native.Nat.{ℕ}
use lib.ListN.{length, drop, length-append}
use lib.Seq.{drop_at}
use Rattle.sheets.specs.declared.Heading.{Heading}
use Rattle.sheets.specs.declared.Row.{Row}
use Rattle.sheets.specs.Sheet.{heading_bytes, heading_of, rows_bytes, rows_of, sheet_needed, sheet_after}
use Rattle.sheets.proofs.Bytes.{length_rows, length_heading}
use Rattle.sheets.proofs.Reading.{heading_back, rows_back_lem}
use Rattle.retiming.specs.Retiming.{moves_on}

rest_after : (h : Heading) (rows : List Row) (s : List ℕ) → drop (sheet_needed (length rows)) (sheet_after h rows s) ≡ drop (sheet_needed (length rows)) s
unfolding sheet_after
rest_after h rows s =
    drop_at (heading_bytes h ++ rows_bytes rows) (drop (sheet_needed (length rows)) s) (sheet_needed (length rows)) (simp (length-append, length_heading, length_rows))

module _ (h : Heading) (rows : List Row) (sheet : List ℕ) (count : h.moves ≡ length rows) {sheet' : List ℕ} (is : sheet' ≡ sheet_after h rows sheet) where
  pub heading_read : heading_of sheet' ≡ h
  heading_read = ap heading_of is ∙ heading_back h rows sheet

  pub count_read : moves_on sheet' ≡ length rows
  count_read = ap (λ (g : Heading). g.moves) heading_read ∙ count

  pub rows_read : rows_of sheet' 1 (moves_on sheet') ≡ rows
  rows_read = ap (rows_of sheet' 1) count_read ∙ ap (λ (s : List ℕ). rows_of s 1 (length rows)) is ∙ rows_back_lem h rows sheet

  -- bytes after 24 + 12M stay
  pub rest_stays : drop (sheet_needed (moves_on sheet')) sheet' ≡ drop (sheet_needed (moves_on sheet')) sheet
  rest_stays = rw (count_read, is) (rest_after h rows sheet)
