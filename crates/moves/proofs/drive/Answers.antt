use Rattle.bans.specs.Bans.{listed_in}
use Rattle.moves.proofs.Trips.{run_tied}
use Rattle.moves.proofs.Stepped.{drive_by_map}
use Rattle.moves.proofs.drive.Goals as goal

pub returns-then-not-leaves_road : goal.returns-then-not-leaves_road
returns-then-not-leaves_road c =
    let run = c.args.run.now in
    let banned = listed_in run.bans.now in
    rw (drive_by_map (run_tied run.map.now banned run.about) c.args.state c.args.r, ← c.leaves_road.ensures banned, c.if-not-leaves_road.true)

pub returns : goal.returns
returns c =
    let run = c.args.run.now in
    let banned = listed_in run.bans.now in
    rw (drive_by_map (run_tied run.map.now banned run.about) c.args.state c.args.r, ← c.leaves_road.ensures banned, c.if-not-leaves_road.false, ← c.after_listed_drive.ensures)
    c.judge.ensures
