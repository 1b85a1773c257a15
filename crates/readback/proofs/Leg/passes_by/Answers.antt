-- The test is the definition's: there is a road, and its drive does not lead legally to t.
use Rattle.std.proofs.Common.{not, ap}
use Rattle.std.proofs.lemmas.Bool.{lt-ltb, le-ltb}
use Rattle.readback.specs.Moving.{passes_by}
use Rattle.readback.proofs.Listed.{listed_tied}
use Rattle.readback.proofs.Leading.{drive_leads}
use Rattle.readback.proofs.Leg.passes_by.Goals as goal

pub returns-then-road-gt0 : goal.returns-then-road-gt0
unfolding passes_by
returns-then-road-gt0 c =
    let tied = listed_tied c.args.self.now.run.now in
    let driven = c.after_listed_drive in
    rw (lt-ltb 0 c.args.road c.if-road-gt0.true, drive_leads tied c.args.self.now.from c.args.self.now.to c.args.road driven.result driven.ensures)
    (ap not c.leads_to.ensures)

pub returns-else-road-gt0 : goal.returns-else-road-gt0
unfolding passes_by
returns-else-road-gt0 c = rw (le-ltb 0 c.args.road c.if-road-gt0.false)
