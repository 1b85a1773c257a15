-- Before road r those above it are linked.
use Rattle.std.proofs.Common.{◌≡◌, ◌+◌, ◌-◌}
use Rattle.mapedit.proofs.Linked.{linked}
use Rattle.mapedit.proofs.link_roads.Given as goal

abbrev pub invariant-loop-r : goal.invariant-loop-r
invariant-loop-r l = l.map ≡ linked l.initial.map (l.r + 1) (l.sizes.roads - l.r)
