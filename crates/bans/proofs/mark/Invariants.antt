use Rattle.std.proofs.Common.{take}
use Rattle.bans.specs.BanList.{Marked}
use Rattle.bans.proofs.mark.Given as goal

abbrev pub invariant-loop-road : goal.invariant-loop-road
invariant-loop-road l = Marked (take l.road-index l.bans) l.fn.closed l.closed
