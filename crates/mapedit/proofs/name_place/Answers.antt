-- A junction that has a name is one of the map's.
use Rattle.std.proofs.Common.{arith}
use Rattle.mapcheck.proofs.Tried.{has_header, has_sizes, accepted_sizes}
use Rattle.mapedit.proofs.Named.{number_named}
use Rattle.mapedit.proofs.name_place.Goals as goal

pub sizes_of-sizes-requires : goal.sizes_of-sizes-requires
sizes_of-sizes-requires c = has_header _ (accepted_sizes _ (number_named _ _ c.requires).accepted)

pub invariant_of-map : goal.invariant_of-map
invariant_of-map c =
    record { has_sizes = has_sizes _ _ (accepted_sizes _ (number_named _ _ c.requires).accepted) c.sizes_of-sizes.ensures }

pub name_start-requires : goal.name_start-requires
name_start-requires c =
    let known = (number_named _ _ c.requires).known in
    (known.above, omega arith)
