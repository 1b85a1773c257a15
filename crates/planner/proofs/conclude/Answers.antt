use Rattle.std.proofs.Common.{arith}
use Rattle.readback.proofs.Listed.{listed_sound}
use Rattle.planner.proofs.Handing.{answer_held}
use Rattle.planner.proofs.Outcomes.{found_held, outcome_found}
use Rattle.planner.proofs.conclude.Goals as goal

pub invariant_of-hand_back : goal.invariant_of-hand_back
invariant_of-hand_back c =
    let ends = outcome_found (rw c.in-Ok.is at c.requires) in
    let sound = listed_sound c.args.run.now in
    let found = found_held _ c.args.words.now c.in-Ok.count sound ends.0 in
    record { held = found.held; last = answer_held _ sound c.args.words.now c.in-Ok.count found; few = omega (arith, ends.1) }
