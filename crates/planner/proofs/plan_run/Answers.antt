use Rattle.std.proofs.Common.{ap, sym}
use Rattle.states.specs.LabelSpace.{labels_that_fit}
use Rattle.planner.proofs.Opening.{ends_with}
use Rattle.planner.proofs.plan_run.Goals as goal

pub conclude-requires : goal.conclude-requires
conclude-requires c = ends_with (ap labels_that_fit (sym c.search-outcome.auto.words)) c.search-outcome.ensures.ends
