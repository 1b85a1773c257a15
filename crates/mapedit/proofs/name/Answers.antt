-- The name that the reply measures lies within the map.
use Rattle.std.proofs.Common.{◌≡◌, ℕ, ◌+◌, ◌≤◌, List, length, arith, rules, sym, ap}
use Rattle.replies.specs.declared.Reply.{Reply}
use Rattle.replies.specs.Told.{succeeded}
use Rattle.mapcheck.proofs.Tried.{has_whole, accepted_sizes}
use Rattle.mapedit.specs.Name.{name_reply, name_at}
use Rattle.mapedit.proofs.Named.{number_named, length_named, part_named, part_refused}
use Rattle.mapedit.proofs.name.Goals as goal

-- the name ends within the map
within_map : (map : List ℕ) (junction from long : ℕ) → succeeded long 0 ≡ name_reply map junction → from ≡ name_at map junction
    → from + long ≤ length map
within_map map junction from long told is-from =
    let named-so = number_named _ _ (sym (ap (λ (r : Reply). r.number) told)) in
    omega (arith, is-from, length_named _ _ told, named-so.inside, has_whole _ (accepted_sizes _ named-so.accepted))

pub overflow_add-end : goal.overflow_add-end
overflow_add-end c =
    let inside = within_map _ _ _ _ c.in-Ok.ensures c.name_place-from.ensures in
    omega arith

pub slice_bounds-result-end : goal.slice_bounds-result-end
slice_bounds-result-end c =
    let inside = within_map _ _ _ _ c.in-Ok.ensures c.name_place-from.ensures in
    search rules

pub returns-in-Ok : goal.returns-in-Ok
returns-in-Ok c =
    part_named _ _ c.name_place-from.result (c.name_place-from.result + c.in-Ok.length) c.in-Ok.ensures c.name_place-from.ensures (omega arith)

pub returns-in-Err : goal.returns-in-Err
returns-in-Err c = part_refused _ _ _ c.in-Err.ensures
