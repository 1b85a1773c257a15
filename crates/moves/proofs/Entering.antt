-- When a move begins: never before the lorry is there, at most a queue later, and no later for a lorry that comes no later, where B's banned
-- roads are among A's. Assumes nothing.
use mathlib.Core.Path.{◌≡◌, refl}
use mathlib.Core.Bool.{Bool, true, false}
use mathlib.Core.Logic.{⊎_elim}
use Prim.Native.Nat.{ℕ, ◌+◌, ◌≤◌}
use native.Mathlib.Omega.{arith}
use lib.Dec.{eqb}
use Rattle.booleans.proofs.Tests.{cases, not_both}
use Rattle.calendar.proofs.Gates.{gate_no_earlier, gate_within, gate_monotone}
use Rattle.moves.specs.declared.Move.{Move}
use Rattle.moves.specs.Trip.{Trip, road_in}
use Rattle.moves.specs.Moves.{entered_when, begins}

pub entered_from : (banned : Bool) (c : ℕ) → c ≤ entered_when banned c
entered_from true c = gate_no_earlier c
entered_from false c = omega arith

pub entered_within : (banned : Bool) (c : ℕ) → entered_when banned c ≤ c + 79200
entered_within true c = gate_within c
entered_within false c = omega arith

-- false with slack: a lorry that comes a second later may miss the gate
pub entered_eased : (b a : Bool) (c d : ℕ) → (b ≡ true → a ≡ true) → c ≤ d → entered_when b c ≤ entered_when a d
entered_eased true true c d among le = gate_monotone c d le
entered_eased true false c d among le = absurd (not_both (among refl) refl)
entered_eased false true c d among le = omega (arith, gate_no_earlier d)
entered_eased false false c d among le = le

pub begins_from : (trip : Trip) (c : ℕ) (m : Move) → c ≤ begins trip c m
unfolding begins
begins_from trip c m =
    ⊎_elim
    (λ (drive : eqb m.kind 1 ≡ true). rw drive (entered_from (road_in trip m.number).banned c))
    (λ (pause : eqb m.kind 1 ≡ false). rw pause (omega arith))
    (cases (eqb m.kind 1))
