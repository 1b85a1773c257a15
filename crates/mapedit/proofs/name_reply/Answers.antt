-- Each refusal is one of the law's cases.
use Rattle.std.proofs.Common.{◌∙◌, Ok, Err, ap, rules, tests}
use Rattle.std.proofs.lemmas.Result.{err_from_is_err_and}
use Rattle.replies.specs.Told.{told_count}
use Rattle.mapcheck.specs.MapCheck.{outside, AcceptedMap}
use Rattle.mapcheck.proofs.Tried.{map_tried, has_header, has_sizes, accepted_sizes}
use Rattle.mapedit.proofs.Named.{refused_map, unknown, named}
use Rattle.mapedit.proofs.name_reply.Goals as goal
use Rattle.mapedit.proofs.name_reply.Goals.{In_ok-check_map}

pub returns-in_err-check_map : goal.returns-in_err-check_map
returns-in_err-check_map c =
    let p = err_from_is_err_and c.from_residual.result c.from_residual.ensures.1 in
    rw (p.1, p.2) (refused_map _ _ _ (map_tried c.args.map.now (Err c.in_err-check_map.field-0.0) c.in_err-check_map.ensures))

-- the map passed the check
accepted : (c : In_ok-check_map) → AcceptedMap c.args.map.now
accepted c = map_tried _ (Ok tt) c.in_ok-check_map.ensures

pub sizes_of-sizes-requires : goal.sizes_of-sizes-requires
sizes_of-sizes-requires c = has_header _ (accepted_sizes _ (accepted (goal.at.sizes_of-sizes-requires c).In_ok-check_map))

pub returns-then-not-contains : goal.returns-then-not-contains
unfolding outside
returns-then-not-contains c =
    unknown _ _ (accepted (goal.at.returns-then-not-contains c).In_ok-check_map) (search (rules, tests))

pub invariant_of-map : goal.invariant_of-map
invariant_of-map c = record { has_sizes = has_sizes _ _ (accepted_sizes _ (accepted (goal.at.invariant_of-map c).In_ok-check_map)) c.sizes_of-sizes.ensures }

pub returns : goal.returns
unfolding outside
returns c =
    ap told_count c.name_length.ensures ∙ named _ _ (accepted (goal.at.returns c).In_ok-check_map) (search (rules, tests))
