use mathlib.Core.Path.{◌∙◌, sym}
use Rattle.replies.specs.Told.{succeeded}
use Rattle.replies.proofs.First.{none_fits}
use Rattle.mapcheck.specs.MapCheck.{size_tests}
use Rattle.mapcheck.specs.Found.{content_tests}
use Rattle.mapcheck.proofs.check_parts.Goals as goal

pub returns : goal.returns
returns c =
    let map = c.args.map.now in
    let header = c.in_ok-map.ensures in
    rw header.0 at c.check_content.ensures
    ∙ sym (none_fits (size_tests map) (content_tests c.args.links map) (succeeded 0 0) header.2)
