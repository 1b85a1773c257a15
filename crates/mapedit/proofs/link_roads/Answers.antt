use Rattle.std.proofs.Common.{◌≡◌, ◌∙◌, ◌+◌, ◌-◌, ℕ, List, arith, sym}
use Rattle.roadmap.specs.Format.{road_count}
use Rattle.mapedit.proofs.Linked.{linked_none, linked_all, still_sized, still_known, linked_less}
use Rattle.mapedit.proofs.link_roads.Goals as goal

pub loop-r-init : goal.loop-r-init
loop-r-init c =
    let map : List ℕ = c.args.map.now in
    let roads : ℕ = c.args.sizes.roads in
    let none : roads - roads ≡ 0 = omega arith in
    sym c.requires.map_value
    ∙ linked_none map c.requires.has_sizes.whole
    ∙ rw (none, c.requires.has_sizes.roads)

pub link_road-requires-clause-has_sizes : goal.link_road-requires-clause-has_sizes
link_road-requires-clause-has_sizes c = still_sized _ _ c.requires.has_sizes c.loop-r.r (omega arith) c.loop-r.invariant

pub link_road-requires-clause-from_known : goal.link_road-requires-clause-from_known
link_road-requires-clause-from_known c =
    still_known _ _ c.requires.has_sizes c.loop-r.r (omega arith) c.loop-r.invariant (c.requires.by_index c.loop-r.r (omega arith) (omega arith))

pub loop-r-preserved : goal.loop-r-preserved
loop-r-preserved c =
    linked_less _ _ c.requires.has_sizes c.loop-r.r (omega arith) c.loop-r.invariant (omega arith)
    (c.requires.by_index c.loop-r.r (omega arith) (omega arith)) c.link_road.ensures

pub returns : goal.returns
returns c =
    let map : List ℕ = c.args.map.now in
    let r : ℕ = c.loop-r.r in
    let from_1 : r + 1 ≡ 1 = omega arith in
    let all : c.args.sizes.roads - r ≡ road_count map = omega arith in
    c.loop-r.invariant ∙ rw (from_1, all) (linked_all map c.requires.has_sizes.whole)
