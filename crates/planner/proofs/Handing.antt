-- What is handed back where the search found an answer: the plan, or that the sheet is short for it. Assumes nothing.
use mathlib.Core.Path.{◌≡◌, ◌∙◌, refl, sym, ap, ap₂}
use mathlib.Core.List.{List}
use mathlib.Core.Option.{Option, some}
use Prim.Native.Nat.{ℕ, ◌-◌, ◌^◌, ◌≤◌, ◌<◌}
use native.Mathlib.Omega.{arith}
use lib.ListN.{length}
use Rattle.std.specs.Prelude.{Ok, Err}
use Rattle.replies.specs.declared.Refusal.TheVariants.{ShortSheet}
use Rattle.replies.specs.Told.{succeeded}
use Rattle.states.specs.declared.State.{State}
use Rattle.moves.specs.Trip.{Trip}
use Rattle.moves.specs.Runs.{SoundTrip}
use Rattle.moves.specs.OpenRuns.{listed_trip}
use Rattle.sheets.specs.declared.Heading.{Heading}
use Rattle.sheets.specs.Sheet.{heading_for, sheet_needed, with_heading}
use Rattle.sheets.specs.Written.{backward}
use Rattle.journeys.specs.Labels.{answer_in, label}
use Rattle.journeys.specs.Plan.{move_count, plan_rows, heading_at, planned_sheet}
use Rattle.journeys.proofs.Plan.{answer_last, plan_short}
use Rattle.journeys.proofs.Planning.{reply_short, reply_planned}
use Rattle.labels.specs.LabelWords.{label_at}
use Rattle.readback.specs.declared.FoundLabels.{FoundLabels}
use Rattle.readback.specs.Held.{Found}
use Rattle.readback.proofs.Listed.{listed_sound}
use Rattle.readback.proofs.Read.{label_held}
use Rattle.readback.proofs.Backward.{sheet_written}
use Rattle.planner.specs.Parts.{HandedBack}

module _ (trip : Trip) (sound : SoundTrip trip) (words : List ℕ) (n : ℕ) (found : Found trip words n) where
  -- the answer is the last label
  pub answer_held : answer_in trip ≡ some (label_at words n)
  answer_held =
      let last : found.answered.0 ≡ label trip (n - 1) = answer_last trip sound found.answered.1 (n - 1) (omega (arith, found.held.count, found.held.low)) in
      found.answered.1 ∙ ap some (last ∙ sym (label_held trip words n found.held n found.held.low (omega arith)))

module _ (labels : FoundLabels) where
  abbrev trip : Trip
  trip = listed_trip labels.run.now

  abbrev words : List ℕ
  words = labels.words.now

  abbrev n : ℕ
  n = labels.count

  pub moves_few : move_count trip < 2 ^ 32
  moves_few = omega (arith, plan_short trip (listed_sound labels.run.now) labels.last, labels.held.count, labels.few)

  module _ (moves : ℕ) (counted : moves ≡ move_count trip) (before : List ℕ) where
    pub handed_short : (needed : ℕ) → needed ≡ sheet_needed moves → length before < needed → HandedBack trip before before (Err (ShortSheet needed))
    handed_short needed counts short =
        record {
          reply = λ fit room. rw (counts, counted) (sym (reply_short trip fit (length before) room labels.last (rw (counts, counted) at short)));
          bytes = refl;
        }

    heading_same : heading_for moves (label_at words n) n ≡ heading_at trip (label_at words n)
    heading_same = ap₂ (λ (m k : ℕ). heading_for m (label_at words n) k) counted labels.held.count

    pub handed_written : sheet_needed moves ≤ length before → (last : State) → last ≡ label_at words n → (heading : Heading) → heading ≡ heading_for moves last n → (rows after : List ℕ)
        → rows ≡ backward (plan_rows trip) 0 before → after ≡ with_heading rows heading
        → HandedBack trip before after (Ok (record { labels = n; arrival = last.clock }))
    handed_written fits last is heading made rows after moved written =
        let enough : sheet_needed (move_count trip) ≤ length before = rw counted at fits in
        record {
          reply = λ fit room.
              ap (λ (l : State). succeeded n l.clock.0) is
              ∙ ap (λ (count : ℕ). succeeded count (label_at words n).clock.0) labels.held.count
              ∙ sym (reply_planned trip fit (length before) room labels.last enough);
          bytes = written
              ∙ ap₂ (λ (s : List ℕ) (h : Heading). with_heading s h) moved made
              ∙ ap (λ (l : State). with_heading (backward (plan_rows trip) 0 before) (heading_for moves l n)) is
              ∙ ap (with_heading (backward (plan_rows trip) 0 before)) heading_same
              ∙ sheet_written trip (heading_at trip (label_at words n)) before enough
              ∙ ap (λ (o : Option State). planned_sheet trip o before) (sym labels.last);
        }
