use Rattle.std.proofs.Common.{arith}
use Rattle.candidates.proofs.Searched.{roads}
use Rattle.candidates.proofs.Rivals.{contends_lem}
use Rattle.candidates.proofs.rival_of.Goals as goal

pub returns-then-run-cursor : goal.returns-then-run-cursor
returns-then-run-cursor c =
    contends_lem _ _ c.of.result c.of.ensures (c.requires.worth (omega (arith, c.if-run-cursor.true, roads c.args.run.now)))
