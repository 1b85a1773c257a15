-- The laws of the gate, on the calendar's ban days. Assumes nothing.
use mathlib.Core.Path.{◌≡◌}
use Prim.Native.Nat.{ℕ, ◌+◌, ◌≤◌}
use Rattle.calendar.specs.Gate.{is_ban_day, gate_of}
use Rattle.calendar.proofs.Opening.{no_earlier, within_queue, monotone, opens}

pub gate_no_earlier : (c : ℕ) → c ≤ gate_of c
unfolding gate_of
gate_no_earlier = no_earlier is_ban_day

pub gate_within : (c : ℕ) → gate_of c ≤ c + 79200
unfolding gate_of
gate_within = within_queue is_ban_day

pub gate_monotone : (c d : ℕ) → c ≤ d → gate_of c ≤ gate_of d
unfolding gate_of
gate_monotone = monotone is_ban_day

pub gate_opens : (c : ℕ) → gate_of (gate_of c) ≡ gate_of c
unfolding gate_of
gate_opens = opens is_ban_day
