use Rattle.std.proofs.Common.{arith}
use Rattle.readback.proofs.Listed.{listed_sound, found_in}
use Rattle.planner.proofs.Handing.{moves_few, handed_short}
use Rattle.planner.proofs.hand_back.Goals as goal

pub overflow_cast-moves : goal.overflow_cast-moves
overflow_cast-moves c =
    let found = c.args.found.now in omega (arith, c.count_moves-moves.ensures _ (listed_sound found.run.now) (found_in found), moves_few found)

pub returns-then-sheet-needed : goal.returns-then-sheet-needed
returns-then-sheet-needed c =
    let found = c.args.found.now in
    handed_short found c.count_moves-moves.result (c.count_moves-moves.ensures _ (listed_sound found.run.now) (found_in found)) c.args.sheet.now
    c.sheet_needed-needed.result c.sheet_needed-needed.ensures c.if-sheet-needed.true

pub write_plan-requires : goal.write_plan-requires
write_plan-requires c =
    let found = c.args.found.now in
    (c.count_moves-moves.ensures _ (listed_sound found.run.now) (found_in found), omega (arith, c.sheet_needed-needed.ensures, c.if-sheet-needed.false))
