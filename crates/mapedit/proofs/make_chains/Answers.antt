-- The passes begin where no refusal fits, and clearing does not change what is chained.
use Rattle.std.proofs.Common.{◌∙◌, Ok, arith, ap}
use Rattle.std.proofs.lemmas.Result.{err_from_is_err_and}
use Rattle.replies.specs.First.{NoneFits}
use Rattle.roadmap.specs.Format.{HasSizes}
use Rattle.mapcheck.specs.MapCheck.{chaining_tests}
use Rattle.mapedit.specs.Chaining.{chained}
use Rattle.mapcheck.proofs.Tried.{chaining_tried, has_header, has_sizes, unchained_sizes}
use Rattle.mapedit.proofs.Linked.{cleared_sizes, cleared_known, cleared_twice, chained_cleared}
use Rattle.mapedit.proofs.Making.{made_refused, made_passed, from_known}
use Rattle.mapedit.proofs.make_chains.Goals as goal
use Rattle.mapedit.proofs.make_chains.Goals.{In_ok-check_unchained, After-sizes_of-sizes}

pub returns-in_err-check_unchained : goal.returns-in_err-check_unchained
returns-in_err-check_unchained c =
    let p = err_from_is_err_and c.from_residual.result c.from_residual.ensures.1 in
    rw (p.1, p.2) (made_refused _ c.in_err-check_unchained.field-0.0 c.in_err-check_unchained.ensures)

-- no refusal fits
none : (c : In_ok-check_unchained) → NoneFits (chaining_tests c.args.map.now)
none c = chaining_tried _ (Ok tt) c.in_ok-check_unchained.ensures

pub sizes_of-sizes-requires : goal.sizes_of-sizes-requires
sizes_of-sizes-requires c = has_header _ (unchained_sizes _ (none (goal.at.sizes_of-sizes-requires c).In_ok-check_unchained))

-- so the map has the counts that were read
sized : (c : After-sizes_of-sizes) → HasSizes c.args.map.now c.sizes_of-sizes.result
sized c = has_sizes _ _ (unchained_sizes _ (chaining_tried _ (Ok tt) c.in_ok-check_unchained.ensures)) c.sizes_of-sizes.ensures

pub clear_firsts-requires : goal.clear_firsts-requires
clear_firsts-requires c = sized (goal.at.clear_firsts-requires c).After-sizes_of-sizes

pub link_roads-requires-clause-has_sizes : goal.link_roads-requires-clause-has_sizes
link_roads-requires-clause-has_sizes c =
    let has = sized (goal.at.link_roads-requires-clause-has_sizes c).After-sizes_of-sizes in
    rw c.clear_firsts.ensures (cleared_sizes _ has.whole _ has)

pub link_roads-requires-clause-by_index : goal.link_roads-requires-clause-by_index
link_roads-requires-clause-by_index c r low high =
    let has = sized (goal.at.link_roads-requires-clause-by_index c).After-sizes_of-sizes in
    rw c.clear_firsts.ensures
    (cleared_known _ has.whole r (from_known _ (none (goal.at.link_roads-requires-clause-by_index c).In_ok-check_unchained) r low (omega arith)))

pub link_roads-requires-clause-map_value : goal.link_roads-requires-clause-map_value
link_roads-requires-clause-map_value c =
    rw c.clear_firsts.ensures (cleared_twice _ (sized (goal.at.link_roads-requires-clause-map_value c).After-sizes_of-sizes).whole)

pub returns : goal.returns
returns c =
    made_passed _ c.in_ok-check_unchained.ensures
    (c.link_roads.ensures ∙ ap chained c.clear_firsts.ensures ∙ chained_cleared _ (sized (goal.at.returns c).After-sizes_of-sizes).whole)
