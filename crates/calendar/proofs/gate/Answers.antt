-- A ban day before 22:00, from 22:00 on, and another day.
use Rattle.std.proofs.Common.{◌∙◌, sym}
use Rattle.calendar.specs.Gate.{is_ban_day, gate_of}
use Rattle.calendar.proofs.Opening.{ban_queues, free_enters, late_enters}
use Rattle.calendar.proofs.gate.Goals as goal
use Rattle.calendar.proofs.gate.Goals.{else-clock-lt-OPENING_TIME-via-then-clock-lt-OPENING_TIME+else-is_ban_day, else-clock-lt-OPENING_TIME-via-else-clock-lt-OPENING_TIME}

pub returns-then-is_ban_day : goal.returns-then-is_ban_day
unfolding gate_of
returns-then-is_ban_day c =
    sym (ban_queues is_ban_day c.args.clock.0 (sym c.is_ban_day.ensures ∙ c.if-is_ban_day.true) c.if-clock-lt-OPENING_TIME.true)

pub returns-else-clock-lt-OPENING_TIME : goal.returns-else-clock-lt-OPENING_TIME
unfolding gate_of
returns-else-clock-lt-OPENING_TIME c =
    elim c.else-clock-lt-OPENING_TIME.branch [
      | else-clock-lt-OPENING_TIME-via-then-clock-lt-OPENING_TIME+else-is_ban_day w ↦ sym (free_enters is_ban_day c.args.clock.0 (sym w.is_ban_day.ensures ∙ w.if-is_ban_day.false))
      | else-clock-lt-OPENING_TIME-via-else-clock-lt-OPENING_TIME w ↦ sym (late_enters is_ban_day c.args.clock.0 w.if-clock-lt-OPENING_TIME.false)
    ]
