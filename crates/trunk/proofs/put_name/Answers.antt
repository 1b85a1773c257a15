-- The place and the length of the name, or 0 and 0.
use Rattle.trunk.proofs.Calls.{put_named, put_refused}
use Rattle.trunk.proofs.put_name.Goals as goal
use Rattle.trunk.proofs.put_name.Goals.{in-Ok, in-Err}

pub returns : goal.returns
returns c =
    elim c.match-told.branch [
      | in-Ok w ↦ rw w.from-is (put_named c.args.map.now c.args.junction c.args.part.now (rw w.in-Ok.is at c.requires.told_value) w.name_place.ensures)
      | in-Err w ↦ rw w.from-is (put_refused c.args.map.now c.args.junction c.args.part.now _ (rw w.in-Err.is at c.requires.told_value))
    ]
