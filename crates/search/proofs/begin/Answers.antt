-- The start is in range, and stands as the only label once the tree is entered. Assumes nothing.
use Rattle.std.proofs.Common.{arith}
use Rattle.moves.specs.OpenRuns.{searched_trip}
use Rattle.candidates.proofs.Searched as searched
use Rattle.winners.proofs.Keys.{fitting_packs}
use Rattle.winners.proofs.Steps.{entering}
use Rattle.search.proofs.Beginning.{start_within, first_ready, begun}
use Rattle.search.proofs.begin.Goals as goal

pub next_candidate-next-requires-clause-range_in : goal.next_candidate-next-requires-clause-range_in
next_candidate-next-requires-clause-range_in c = start_within c.args.run.now c.start_of-start.ensures

pub add_label-requires-clause-lists : goal.add_label-requires-clause-lists
add_label-requires-clause-lists c =
    (c.requires.lists, omega (arith, (start_within c.args.run.now c.start_of-start.ensures).high, c.requires.run_in_bounds.0))

pub add_label-requires-clause-junction_bound : goal.add_label-requires-clause-junction_bound
add_label-requires-clause-junction_bound c =
    let sound = searched.sound c.args.run.now in
    let range = start_within c.args.run.now c.start_of-start.ensures in
    (omega (arith, range.high, sound.few), fitting_packs _ sound _ _ range c.next_candidate-next.ensures.fitting)

pub enter-requires-clause-ready : goal.enter-requires-clause-ready
enter-requires-clause-ready c =
    first_ready c.args.run.now c.start_of-start.ensures c.next_candidate-next.ensures c.add_label.ensures c.add_label.auto.words

pub enter-requires-clause-entering : goal.enter-requires-clause-entering
enter-requires-clause-entering c = entering c.add_label.ensures.added (searched_trip c.args.run.now) (λ k low high. absurd (omega arith))

pub returns : goal.returns
returns c =
    begun c.args.run.now c.start_of-start.ensures c.next_candidate-next.ensures c.add_label.ensures c.enter.ensures
    (omega (arith, c.add_label.auto.places, c.requires.run_in_bounds.0))
