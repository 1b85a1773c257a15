-- What has been written is read back, and its bytes are a sheet that is not torn. Assumes nothing.
use mathlib.Core.Bool.{Bool, true, false, not, ◌||◌}
use mathlib.Core.List.{List, [], ◌∷◌, ◌++◌, append_assoc, append-nil}
use mathlib.Core.Logic.{⊎_elim}
use mathlib.Core.Option.{none}
use mathlib.Core.Path.{◌≡◌, ◌∙◌, refl, ap}
use Prim.Native.Nat.{ℕ, zero, suc, ◌+◌, ◌*◌, ◌-◌, ◌≤◌, ◌<◌, ◌/◌, ◌%◌}
use native.Mathlib.Nat.{add-zero, add_assoc, add-sub_cancel_left}
use native.Mathlib.Numerals.{one-add}
use native.Mathlib.Omega.{arith}
use borrow.Author.Tests.{ltb-false, eqb-true, not-false, le-ltb, eq-eqb}
use lib.Dec.{ltb, eqb}
use lib.ListN.{length, take, drop, get_or, length-append}
use lib.Seq.{take_at, drop-nil}
use Rattle.booleans.proofs.Tests.{cases, some_not_none, or_false}
use Rattle.words.specs.Word.{word_at}
use Rattle.words.proofs.Joined.{word_past}
use Rattle.sheets.specs.declared.Heading.{Heading}
use Rattle.sheets.specs.declared.Row.{Row}
use Rattle.sheets.specs.Sheet.{word_bytes, header_bytes, record_bytes, sheet_needed, heading_bytes, heading_of, row_bytes, rows_bytes, row_at, rows_of, most_moves, sheet_after, torn, torn_sheet}
use Rattle.sheets.specs.Written.{Whole}
use Rattle.sheets.proofs.Splice.{length_splice}
use Rattle.sheets.proofs.Bytes.{length_row, length_rows, length_heading}

digits : (w : ℕ) → w % 256 + w / 256 % 256 * 256 + w / 65536 % 256 * 65536 + w / 16777216 * 16777216 ≡ w
digits w = omega arith

-- the header of bytes that begin with it
pub heading_here : (h : Heading) (t : List ℕ) → heading_of (heading_bytes h ++ t) ≡ h
unfolding heading_bytes word_bytes word_at
heading_here h t =
    let w1 : word_at (heading_bytes h ++ t) 0 ≡ h.moves = digits h.moves in
    let w2 : word_at (heading_bytes h ++ t) 4 ≡ h.arrival.0 = digits h.arrival.0 in
    let w3 : word_at (heading_bytes h ++ t) 8 ≡ h.spell.0 = digits h.spell.0 in
    let w4 : word_at (heading_bytes h ++ t) 12 ≡ h.shift.0 = digits h.shift.0 in
    let w5 : word_at (heading_bytes h ++ t) 16 ≡ h.week.0 = digits h.week.0 in
    let w6 : word_at (heading_bytes h ++ t) 20 ≡ h.labels = digits h.labels in
    λ i.
    record {
      moves = w1 i;
      arrival = record { 0 = w2 i };
      spell = record { 0 = w3 i };
      shift = record { 0 = w4 i };
      week = record { 0 = w5 i };
      labels = w6 i;
    }

-- the three words from `at` on
abbrev row_from : List ℕ → ℕ → Row
row_from bytes at =
    record { kind = word_at bytes at; number = word_at bytes (at + 4); clock = record { 0 = word_at bytes (at + 8) } }

row_here : (row : Row) (t : List ℕ) → row_from (row_bytes row ++ t) 0 ≡ row
unfolding row_bytes word_bytes word_at
row_here row t = λ i. record { kind = digits row.kind i; number = digits row.number i; clock = record { 0 = digits row.clock.0 i } }

row_past : (p t : List ℕ) (n at : ℕ) → length p ≡ n → row_from (p ++ t) (n + at) ≡ row_from t at
row_past p t n at e =
    rw (add_assoc n at 4, add_assoc n at 8, word_past p t n at e, word_past p t n (at + 4) e, word_past p t n (at + 8) e)

-- record i, counted from 0, of bytes that begin with records
row_among : (rows : List Row) (t : List ℕ) (i : ℕ) (d : Row) → i < length rows → row_from (rows_bytes rows ++ t) (record_bytes * i) ≡ get_or rows i d
unfolding rows_bytes
row_among [] t i d below = absurd (omega arith)
row_among (row ∷ rows) t zero d below = rw append_assoc (row_here row (rows_bytes rows ++ t))
row_among (row ∷ rows) t (suc i) d below =
    let next : record_bytes * suc i ≡ record_bytes + record_bytes * i = omega arith in
    rw (next, append_assoc)
    (row_past (row_bytes row) (rows_bytes rows ++ t) record_bytes (record_bytes * i) (length_row row) ∙ row_among rows t i d (omega arith))

-- records that are each as the list has them
pub rows_are : (sheet : List ℕ) (rows : List Row) (k : ℕ) (d : Row) → ((i : ℕ) → i < length rows → row_at sheet (k + i) ≡ get_or rows i d) → rows_of sheet k (length rows) ≡ rows
unfolding rows_of
rows_are sheet [] k d same = refl
rows_are sheet (row ∷ rows) k d same =
    let here : row_at sheet k ≡ row = rw (add-zero k) at (same 0 (omega arith)) in
    rw (here, rows_are sheet rows (k + 1) d (λ i below. rw (add_assoc k 1 i) (rw (one-add i) (same (suc i) (omega arith)))))

pub length_rows_of : (sheet : List ℕ) (k n : ℕ) → length (rows_of sheet k n) ≡ n
unfolding rows_of
length_rows_of sheet k zero = refl
length_rows_of sheet k (suc n) = ap suc (length_rows_of sheet (k + 1) n)

blank : Row
blank = record { kind = 0; number = 0; clock = record { 0 = 0 } }

pub length_after : (h : Heading) (rows : List Row) (s : List ℕ) → sheet_needed (length rows) ≤ length s → length (sheet_after h rows s) ≡ length s
unfolding sheet_after
length_after h rows s fits =
    length_splice s (heading_bytes h ++ rows_bytes rows) 0 (sheet_needed (length rows)) (simp (length-append, length_heading, length_rows) (omega arith)) fits

module _ (h : Heading) (rows : List Row) (s : List ℕ) where
  pub heading_back : heading_of (sheet_after h rows s) ≡ h
  unfolding sheet_after
  heading_back = rw append_assoc (heading_here h (rows_bytes rows ++ drop (sheet_needed (length rows)) s))

  pub row_back : (k : ℕ) (d : Row) → 1 ≤ k → k ≤ length rows → row_at (sheet_after h rows s) k ≡ get_or rows (k - 1) d
  unfolding sheet_after
  row_back k d low high =
      let rest : List ℕ = drop (sheet_needed (length rows)) s in
      rw append_assoc
      (row_past (heading_bytes h) (rows_bytes rows ++ rest) header_bytes (record_bytes * (k - 1)) (length_heading h) ∙ row_among rows rest (k - 1) d (omega arith))

  pub rows_back_lem : rows_of (sheet_after h rows s) 1 (length rows) ≡ rows
  rows_back_lem =
      rows_are (sheet_after h rows s) rows 1 blank
      (λ i below. row_back (1 + i) blank (omega arith) (omega arith) ∙ rw (add-sub_cancel_left 1 i))

  -- the header and the records alone are what the writing leaves of an empty list
  pub prefix_after : take (sheet_needed (length rows)) (sheet_after h rows s) ≡ sheet_after h rows []
  unfolding sheet_after
  prefix_after =
      take_at (heading_bytes h ++ rows_bytes rows) (drop (sheet_needed (length rows)) s) (sheet_needed (length rows)) (simp (length-append, length_heading, length_rows))
      ∙ rw (drop-nil (sheet_needed (length rows)), append-nil)

  pub length_prefix : length (take (sheet_needed (length rows)) (sheet_after h rows s)) ≡ sheet_needed (length rows)
  unfolding sheet_after
  length_prefix = rw prefix_after (simp (length-append, length_heading, length_rows, drop-nil) (omega arith))

-- of that prefix
module _ (h : Heading) (rows : List Row) (s : List ℕ) where
  pub prefix_heading : heading_of (take (sheet_needed (length rows)) (sheet_after h rows s)) ≡ h
  prefix_heading = rw (prefix_after h rows s) (heading_back h rows [])

  pub prefix_rows : rows_of (take (sheet_needed (length rows)) (sheet_after h rows s)) 1 (length rows) ≡ rows
  prefix_rows = rw (prefix_after h rows s) (rows_back_lem h rows [])

pub whole_sheet : (sheet : List ℕ) → torn sheet ≡ false → Whole sheet
unfolding torn
whole_sheet sheet e =
    let short : Bool = ltb (length sheet) header_bytes in
    let many : Bool = ltb most_moves (heading_of sheet).moves in
    let other : Bool = not (eqb (length sheet) (sheet_needed (heading_of sheet).moves)) in
    let whole = or_false {a = short} {b = many || other} e in
    let late = or_false {a = many} {b = other} whole.1 in
    record {
      long = ltb-false _ _ whole.0;
      few = ltb-false _ _ late.0;
      exact = eqb-true _ _ (not-false _ late.1);
    }

pub whole_untorn : (sheet : List ℕ) → Whole sheet → torn sheet ≡ false
unfolding torn
whole_untorn sheet w = simp (le-ltb _ _ w.long, le-ltb _ _ w.few, eq-eqb _ _ w.exact)

pub none_whole : (sheet : List ℕ) → torn_sheet sheet ≡ none → Whole sheet
none_whole sheet e =
    ⊎_elim
    (λ (fits : torn sheet ≡ true). absurd (some_not_none (rw fits at e)))
    (λ (clear : torn sheet ≡ false). whole_sheet sheet clear)
    (cases (torn sheet))

-- the written header and records are a sheet that is not torn
pub prefix_whole : (h : Heading) (rows : List Row) (s : List ℕ) → h.moves ≡ length rows → length rows ≤ most_moves → torn (take (sheet_needed (length rows)) (sheet_after h rows s)) ≡ false
prefix_whole h rows s count few =
    let sheet : List ℕ = take (sheet_needed (length rows)) (sheet_after h rows s) in
    let long : length sheet ≡ sheet_needed (length rows) = length_prefix h rows s in
    let moves : (heading_of sheet).moves ≡ length rows = ap (λ (g : Heading). g.moves) (prefix_heading h rows s) ∙ count in
    whole_untorn sheet (record { long = omega arith; few = omega arith; exact = omega arith })

pub prefix_untorn : (h : Heading) (rows : List Row) (s : List ℕ) → h.moves ≡ length rows → length rows ≤ most_moves → torn_sheet (take (sheet_needed (length rows)) (sheet_after h rows s)) ≡ none
prefix_untorn h rows s count few = simp (prefix_whole h rows s count few)
