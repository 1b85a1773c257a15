use Rattle.std.proofs.Common.{false, ◌∙◌, ap, arith, sym}
use Rattle.states.specs.States.{start_of}
use Rattle.bans.specs.Bans.{listed_in}
use Rattle.moves.specs.OpenRuns.{listed_trip}
use Rattle.moves.proofs.Trips.{run_tied}
use Rattle.moves.proofs.Rising.{run_sound}
use Rattle.retiming.specs.Retiming.{timing}
use Rattle.retiming.proofs.Rewriting.{ends_is, rewriting_start, never_refused, rewriting_next, rewriting_length, rewriting_end}
use Rattle.retiming.proofs.write_rows.Goals as goal

pub loop-k-init : goal.loop-k-init
loop-k-init c =
    let run = c.args.run.now in
    rewriting_start (run_sound _ _ _ run.accepted) c.word-moves.ensures
    (ends_is (start_of run.about.order) (timing false (listed_trip run) c.args.sheet.now) c.requires.ends)
    (c.start_of-state.ensures ∙ ap start_of (sym (run_tied run.map.now (listed_in run.bans.now) run.about).order))

-- the first pass met no refusal, so this one meets none
pub unreachable-requires : goal.unreachable-requires
unreachable-requires c = never_refused c.loop-k.invariant c.loop-k-test.true c.read_row-row.ensures c.in_default.field-0 c.in_default.ensures

-- the other sheet is as long as it came
pub write_row-requires : goal.write_row-requires
write_row-requires c =
    let long = rewriting_length c.loop-k.invariant (rw c.word-moves.ensures c.requires.sheet_in_bounds) in
    (c.loop-k.invariant.low, omega (arith, long, c.requires.sheet_in_bounds, c.word-moves.ensures, c.loop-k-test.true))

pub loop-k-preserved : goal.loop-k-preserved
loop-k-preserved c =
    rewriting_next c.loop-k.invariant (run_sound _ _ _ c.args.run.now.accepted) c.loop-k-test.true (rw c.word-moves.ensures c.requires.sheet_in_bounds) c.read_row-row.ensures c.in-Ok.next c.in-Ok.ensures c.write_row.ensures

pub returns : goal.returns
returns c = rewriting_end c.loop-k.invariant c.loop-k-test.false

-- after the last record
pub returns-in-Ok : goal.returns-in-Ok
returns-in-Ok c =
    rewriting_end
    (rewriting_next c.loop-k.invariant (run_sound _ _ _ c.args.run.now.accepted) c.loop-k-test.true (rw c.word-moves.ensures c.requires.sheet_in_bounds) c.read_row-row.ensures c.in-Ok.next c.in-Ok.ensures c.write_row.ensures)
    (omega arith)
