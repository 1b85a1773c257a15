use mathlib.Core.Path.{◌≡◌}
use lib.ListN.{drop}
use Rattle.std.specs.Slice.Iter.{chunks_exact_rest, chunks_exact_size}
use Rattle.mapcheck.specs.Lettered.{Lettered}
use Rattle.mapcheck.proofs.past_pairs.Given as goal

abbrev pub invariant-loop-pair : goal.invariant-loop-pair
invariant-loop-pair l =
    (chunks_exact_size l.pair-iterator ≡ 8) × (chunks_exact_rest l.pair-iterator ≡ drop l.past l.map) × Lettered l.map l.from l.past
