-- A tachograph's trace: its records, and the pauses that neighbouring records make. Document 02, P3. Assumes nothing.
use Rattle.std.specs.Prelude.{Bool, true, false, List, [], ◌∷◌, ℕ, zero, suc, ◌+◌, ◌*◌, ◌-◌, ◌/◌, eqb, length}
use Rattle.words.specs.Word.{word_at}
use Rattle.replay.specs.declared.TraceRecord.{TraceRecord}

-- activities: 0 other work, 1 driving, 2 pause
abbrev pub driving : ℕ
driving = 1

abbrev pub pause : ℕ
pause = 2

abbrev pub is_driving : TraceRecord → Bool
is_driving r = eqb r.activity driving

abbrev pub is_pause : TraceRecord → Bool
is_pause r = eqb r.activity pause

-- pairs of words: activity, seconds
abbrev pub trace_record_bytes : ℕ
trace_record_bytes = 8

-- record k, counted from 1
abbrev pub trace_record_at : List ℕ → ℕ → TraceRecord
trace_record_at trace k =
    record { activity = word_at trace (trace_record_bytes * (k - 1)); seconds = word_at trace (trace_record_bytes * (k - 1) + 4) }

-- the n records from number k on
unfoldable pub records_from : List ℕ → ℕ → ℕ → List TraceRecord
records_from trace k zero = []
records_from trace k (suc n) = trace_record_at trace k ∷ records_from trace (k + 1) n

abbrev pub record_count : List ℕ → ℕ
record_count trace = length trace / trace_record_bytes

-- the first n records, and all of them
abbrev pub first_records : List ℕ → ℕ → List TraceRecord
first_records trace n = records_from trace 1 n

abbrev pub records_of : List ℕ → List TraceRecord
records_of trace = first_records trace (record_count trace)

-- a pause of so many seconds
abbrev pub pause_of : ℕ → TraceRecord
pause_of seconds = record { activity = pause; seconds = seconds }

-- a pause in front of activities of which no two neighbours are pauses
unfoldable pub paused_before : ℕ → List TraceRecord → List TraceRecord
paused_before seconds [] = pause_of seconds ∷ []
paused_before seconds (r ∷ rs) =
    elim (is_pause r) [ true ↦ pause_of (seconds + r.seconds) ∷ rs | false ↦ pause_of seconds ∷ r ∷ rs ]

-- neighbouring pauses count as one pause: its length is their sum
unfoldable pub joined : List TraceRecord → List TraceRecord
joined [] = []
joined (r ∷ rs) = elim (is_pause r) [ true ↦ paused_before r.seconds (joined rs) | false ↦ r ∷ joined rs ]
