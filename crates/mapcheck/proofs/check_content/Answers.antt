use mathlib.Core.Path.{◌∙◌, sym}
use Rattle.replies.proofs.First.{stops_at, passed_over}
use Rattle.mapcheck.proofs.Sound.{links_of}
use Rattle.mapcheck.proofs.Fields.{content_passed}
use Rattle.mapcheck.proofs.check_content.Goals as goal

pub returns-in-Some : goal.returns-in-Some
returns-in-Some c = sym (stops_at _ _ _ (sym c.in-Some.ensures))

pub returns-in-Some-bad_road : goal.returns-in-Some-bad_road
returns-in-Some-bad_road c = sym (passed_over _ _ _ (sym c.in_default.ensures) ∙ stops_at _ _ _ (sym c.in-Some-bad_road.ensures))

pub invariant_of-check_chains : goal.invariant_of-check_chains
invariant_of-check_chains c =
    record {
      links = links_of _ (rw c.if-links.true at (sym c.in_default.ensures)) (rw c.if-links.true at (sym c.in_default-bad_road.ensures));
    }

pub returns-then-links : goal.returns-then-links
returns-then-links c =
    content_passed _ (sym c.in_default.ensures) (sym c.in_default-bad_road.ensures) c.if-links.true c.check_chains.ensures

pub returns-else-links : goal.returns-else-links
returns-else-links c =
    content_passed _ (sym c.in_default.ensures) (sym c.in_default-bad_road.ensures) c.if-links.false c.check_letters.ensures
