-- What contracts of callers cite: a sheet on which records are being written, and a sheet that is not torn. Assumes nothing.
use Rattle.std.specs.Prelude.{◌≡◌, List, ◌++◌, ℕ, ◌+◌, ◌≤◌, length, take, drop}
use Rattle.sheets.specs.declared.Row.{Row}
use Rattle.sheets.specs.Sheet.{header_bytes, sheet_needed, heading_of, rows_bytes, most_moves}

-- the sheet with these records behind its first n
unfoldable pub rows_put : ℕ → List Row → List ℕ → List ℕ
rows_put n rows s = take (sheet_needed n) s ++ rows_bytes rows ++ drop (sheet_needed (n + length rows)) s

-- the sheet with all but the first k
unfoldable pub backward : List Row → ℕ → List ℕ → List ℕ
backward rows k s = take (sheet_needed k) s ++ rows_bytes (drop k rows) ++ drop (sheet_needed (length rows)) s

-- what a sheet that is not torn is
pub record Whole (sheet : List ℕ) : Type 0 where
  pub long : header_bytes ≤ length sheet
  pub few : (heading_of sheet).moves ≤ most_moves
  pub exact : length sheet ≡ sheet_needed (heading_of sheet).moves
