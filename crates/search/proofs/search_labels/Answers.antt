use Rattle.std.proofs.Common.{arith}
use Rattle.candidates.proofs.Searched as searched
use Rattle.search.proofs.search_labels.Goals as goal

pub search_sized-requires-clause-places : goal.search_sized-requires-clause-places
search_sized-requires-clause-places c = (omega (arith, searched.junctions c.args.run.now), omega arith)

pub search_sized-requires-else-run-lt-FEW_ENTRIES-clause-places : goal.search_sized-requires-else-run-lt-FEW_ENTRIES-clause-places
search_sized-requires-else-run-lt-FEW_ENTRIES-clause-places c = (omega (arith, (searched.sound c.args.run.now).few), omega arith)
