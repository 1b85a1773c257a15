-- The bytes say what the part of the list that was passed says.
use Rattle.bans.proofs.Marking.{none_marked, one_marked}
use Rattle.bans.proofs.mark.Goals as goal

pub loop-road-init : goal.loop-road-init
loop-road-init c = none_marked c.args.closed.now c.requires.clear

pub loop-road-preserved : goal.loop-road-preserved
loop-road-preserved c =
    one_marked _ _ _ c.loop-road.road-index c.loop-road-test.true c.loop-road.invariant (c.requires.all_below _ c.loop-road-test.true)
