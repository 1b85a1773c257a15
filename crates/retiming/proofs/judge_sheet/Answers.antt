use Rattle.std.proofs.Common.{◌∙◌, sym}
use Rattle.bans.specs.Bans.{listed_in}
use Rattle.moves.specs.OpenRuns.{listed_trip}
use Rattle.moves.proofs.Trips.{run_tied}
use Rattle.sheets.proofs.Reading.{whole_sheet}
use Rattle.retiming.specs.Retiming.{timing}
use Rattle.retiming.proofs.Judging.{stray_refuses, none_of_15_to_19}
use Rattle.retiming.proofs.judge_sheet.Goals as goal

pub returns-then-state-run : goal.returns-then-state-run
returns-then-state-run c =
    let run = c.args.run.now in
    let trip = listed_trip run in
    stray_refuses trip.order c.args.sheet.now (sym c.is_torn.ensures ∙ c.if-is_torn.false) (timing c.args.clocks trip c.args.sheet.now) c.in_ok-state.state c.in_ok-state.ensures
    (rw (run_tied run.map.now (listed_in run.bans.now) run.about).order c.if-state-run.true)

pub returns : goal.returns
returns c =
    let run = c.args.run.now in
    let trip = listed_trip run in
    let untorn = sym c.is_torn.ensures ∙ c.if-is_torn.false in
    let home = none_of_15_to_19 trip.order c.args.sheet.now untorn (timing c.args.clocks trip c.args.sheet.now) c.in_ok-state.state c.in_ok-state.ensures
    (rw (run_tied run.map.now (listed_in run.bans.now) run.about).order c.if-state-run.false) in
    (whole_sheet c.args.sheet.now untorn, home, c.in_ok-state.ensures)
