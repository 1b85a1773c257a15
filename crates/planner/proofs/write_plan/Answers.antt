use Rattle.planner.proofs.Handing.{handed_written}
use Rattle.planner.proofs.write_plan.Goals as goal

pub returns : goal.returns
returns c =
    handed_written c.args.found.now c.args.moves c.requires.0 c.args.sheet.now c.requires.1
    c.read_label-answer.result c.read_label-answer.ensures c.heading_for.result c.heading_for.ensures _ _ c.write_moves.ensures c.put_heading.ensures
