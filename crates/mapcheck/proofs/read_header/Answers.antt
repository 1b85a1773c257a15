-- Each return is one of the laws of refusals 1 to 4.
use mathlib.Core.Path.{◌≡◌, ◌∙◌, refl, sym}
use native.Mathlib.Omega.{arith}
use Prim.Native.Nat.{◌+◌}
use Rattle.roadmap.specs.Format.{length_needed}
use Rattle.replies.specs.First.{NoneFits}
use Rattle.mapcheck.specs.MapCheck.{size_tests}
use Rattle.mapcheck.proofs.Tried.{has_sizes}
use Rattle.mapcheck.proofs.Counts.{judged_counts, refuses_short, refuses_strange, refuses_oversize, refuses_misfit, none_of_1_to_4}
use Rattle.mapcheck.proofs.read_header.Goals as goal
use Rattle.mapcheck.proofs.read_header.Goals.{Else-map-needed}

pub returns-then-map-lt-HEADER_BYTES : goal.returns-then-map-lt-HEADER_BYTES
returns-then-map-lt-HEADER_BYTES c = refuses_short c.args.map.now c.if-map-lt-HEADER_BYTES.true

pub returns-then-map_format-ne1 : goal.returns-then-map_format-ne1
returns-then-map_format-ne1 c =
    refuses_strange _ c.if-map-lt-HEADER_BYTES.false (λ e. c.if-map_format-ne1.true (c.map_format.ensures ∙ e))

pub returns-in-Some : goal.returns-in-Some
returns-in-Some c =
    let counts = c.sizes_of-sizes.ensures in
    refuses_oversize _ c.if-map-lt-HEADER_BYTES.false (sym c.map_format.ensures ∙ c.if-map_format-ne1.false)
    (judged_counts _ c.sizes_of-sizes.result counts.0 counts.1 counts.2 c.in-Some.ensures)

pub returns-then-map-needed : goal.returns-then-map-needed
returns-then-map-needed c =
    let counts = c.sizes_of-sizes.ensures in
    let sizes = c.sizes_of-sizes.result in
    let needed : c.names_at.result + sizes.names ≡ length_needed c.args.map.now = omega arith in
    rw needed
    (refuses_misfit _ c.if-map-lt-HEADER_BYTES.false (sym c.map_format.ensures ∙ c.if-map_format-ne1.false)
    (judged_counts _ sizes counts.0 counts.1 counts.2 c.in_default.ensures)
    (λ e. c.if-map-needed.true (e ∙ sym needed)))

-- none of refusals 1 to 4 fits
fitting : (c : Else-map-needed) → NoneFits (size_tests c.args.map.now)
fitting c =
    let counts = c.sizes_of-sizes.ensures in
    none_of_1_to_4 _ c.if-map-lt-HEADER_BYTES.false (sym c.map_format.ensures ∙ c.if-map_format-ne1.false)
    (judged_counts _ c.sizes_of-sizes.result counts.0 counts.1 counts.2 c.in_default.ensures) (omega arith)

pub invariant_of-result : goal.invariant_of-result
invariant_of-result c =
    record { has_sizes = has_sizes _ _ (fitting (goal.at.invariant_of-result c).Else-map-needed) c.sizes_of-sizes.ensures }

pub returns : goal.returns
returns c =
    let none = fitting (goal.at.returns c).Else-map-needed in
    (refl, has_sizes _ _ none c.sizes_of-sizes.ensures, none)
