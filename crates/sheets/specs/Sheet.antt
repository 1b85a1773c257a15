-- The plan sheet: its format, what is read from it and what is written to it, and refusals 14 and 15.
-- Document 01, "Plan sheet" and "Replies", and document 02, P7. Assumes nothing.
use Rattle.std.specs.Prelude.{Bool, not, ◌||◌, List, [], ◌∷◌, ◌++◌, ℕ, zero, suc, ◌+◌, ◌*◌, ◌-◌, ◌/◌, ◌%◌, ltb, eqb, length, take, drop}
use Rattle.std.proofs.Math.Option.{Option}
use Rattle.words.specs.Word.{word_at}
use Rattle.replies.specs.First.{placed}
use Rattle.states.specs.declared.State.{State}
use Rattle.sheets.specs.declared.Heading.{Heading}
use Rattle.sheets.specs.declared.Row.{Row}

-- the four bytes of a word, the lowest first
unfoldable pub word_bytes : ℕ → List ℕ
word_bytes w = w % 256 ∷ w / 256 % 256 ∷ w / 65536 % 256 ∷ w / 16777216 ∷ []

-- the bytes of the header, of a record, and of a sheet of m moves
abbrev pub header_bytes : ℕ
header_bytes = 24

abbrev pub record_bytes : ℕ
record_bytes = 12

abbrev pub sheet_needed : ℕ → ℕ
sheet_needed m = header_bytes + record_bytes * m

-- the header, six words: moves M, arrival, spell, shift, week, N
unfoldable pub heading_bytes : Heading → List ℕ
heading_bytes h =
    word_bytes h.moves
    ++ word_bytes h.arrival.0
    ++ word_bytes h.spell.0
    ++ word_bytes h.shift.0
    ++ word_bytes h.week.0
    ++ word_bytes h.labels

-- of so many moves to a state, with N
abbrev pub heading_for : ℕ → State → ℕ → Heading
heading_for moves s labels =
    record {
      moves = moves;
      arrival = s.clock;
      spell = s.figures.spell;
      shift = s.figures.shift;
      week = s.figures.week;
      labels = labels;
    }

abbrev pub heading_of : List ℕ → Heading
heading_of sheet =
    record {
      moves = word_at sheet 0;
      arrival = record { 0 = word_at sheet 4 };
      spell = record { 0 = word_at sheet 8 };
      shift = record { 0 = word_at sheet 12 };
      week = record { 0 = word_at sheet 16 };
      labels = word_at sheet 20;
    }

-- then M records of three words: kind, number, clock after
unfoldable pub row_bytes : Row → List ℕ
row_bytes row = word_bytes row.kind ++ word_bytes row.number ++ word_bytes row.clock.0

unfoldable pub rows_bytes : List Row → List ℕ
rows_bytes [] = []
rows_bytes (row ∷ rows) = row_bytes row ++ rows_bytes rows

-- record k, counted from 1
abbrev pub row_at : List ℕ → ℕ → Row
row_at sheet k =
    record {
      kind = word_at sheet (sheet_needed (k - 1));
      number = word_at sheet (sheet_needed (k - 1) + 4);
      clock = record { 0 = word_at sheet (sheet_needed (k - 1) + 8) };
    }

-- the n records from number k on
unfoldable pub rows_of : List ℕ → ℕ → ℕ → List Row
rows_of sheet k zero = []
rows_of sheet k (suc n) = row_at sheet k ∷ rows_of sheet (k + 1) n

abbrev pub most_moves : ℕ
most_moves = 999999

-- the sheet afterwards: bytes after 24 + 12M stay
unfoldable pub sheet_after : Heading → List Row → List ℕ → List ℕ
sheet_after h rows before = heading_bytes h ++ rows_bytes rows ++ drop (sheet_needed (length rows)) before

-- the sheet with its header alone written
abbrev pub with_heading : List ℕ → Heading → List ℕ
with_heading sheet h = heading_bytes h ++ drop header_bytes sheet

-- the part of the sheet behind its header, with record k alone written
abbrev pub with_row_behind : List ℕ → ℕ → Row → List ℕ
with_row_behind part k row = take (record_bytes * (k - 1)) part ++ row_bytes row ++ drop (record_bytes * k) part

-- the sheet with record k alone written
abbrev pub with_row : List ℕ → ℕ → Row → List ℕ
with_row sheet k row = take (sheet_needed (k - 1)) sheet ++ row_bytes row ++ drop (sheet_needed k) sheet

-- 14 short sheet: under 24 + 12M; bytes needed
abbrev pub short_sheet : ℕ → ℕ → Option ℕ
short_sheet moves bytes = placed (ltb bytes (sheet_needed moves)) (sheet_needed moves)

-- 15 torn sheet: under 24, M above 999,999, or not 24 + 12M; length
unfoldable pub torn : List ℕ → Bool
torn sheet =
    ltb (length sheet) header_bytes
    || (ltb most_moves (heading_of sheet).moves || not (eqb (length sheet) (sheet_needed (heading_of sheet).moves)))

abbrev pub torn_sheet : List ℕ → Option ℕ
torn_sheet sheet = placed (torn sheet) (length sheet)
