-- What the search of the bytes' trip ends with is said of the list's.
use Rattle.search.proofs.Marked.{ends_listed}
use Rattle.search.proofs.search_with.Goals as goal

pub returns : goal.returns
returns c = ends_listed c.args.run.now c.args.closed.now c.requires.agree c.search_labels.ensures
