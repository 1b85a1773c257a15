-- Bytes marked from the list say of every road what it says.
use Rattle.std.proofs.Common.{arith}
use Rattle.search.proofs.Marked.{none_marked, entries}
use Rattle.search.proofs.search_marked.Goals as goal

pub mark-requires : goal.mark-requires
mark-requires c = record { all_below = entries c.args.run.now 40961 (omega arith); clear = none_marked 40961 }

pub search_with-requires-clause-agree : goal.search_with-requires-clause-agree
search_with-requires-clause-agree c = λ r low high. c.mark.ensures.says r
