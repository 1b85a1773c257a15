-- Before record k those before it are written with their true clocks.
use Rattle.std.proofs.Common.{false}
use Rattle.states.specs.States.{start_of}
use Rattle.moves.specs.OpenRuns.{listed_trip}
use Rattle.retiming.specs.Retiming.{timing}
use Rattle.retiming.specs.Parts.{last_reached, rows_reached}
use Rattle.retiming.proofs.Rewriting.{Rewriting}
use Rattle.retiming.proofs.write_rows.Given as goal

abbrev pub invariant-loop-k : goal.invariant-loop-k
invariant-loop-k l =
    let timed = timing false (listed_trip l.run) l.sheet in
    Rewriting (listed_trip l.run) l.sheet l.moves (last_reached (start_of l.run.about.order) timed) (rows_reached timed) l.initial.out l.k l.state l.out
