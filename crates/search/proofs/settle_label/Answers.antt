use Rattle.std.proofs.Common.{arith, le_refl}
use Rattle.moves.specs.OpenRuns.{searched_trip}
use Rattle.candidates.proofs.Searched as searched
use Rattle.winners.proofs.Keys.{fitting_packs}
use Rattle.winners.proofs.Steps.{entering, ready_added}
use Rattle.search.proofs.Keeping.{ranged_before, told_head}
use Rattle.search.proofs.Turning.{onward_as, settles, settled_now, still_chosen, key_same, chosen_range}
use Rattle.search.proofs.settle_label.Goals as goal

-- the candidate's junction has a place
pub bounds-places-candidate : goal.bounds-places-candidate
bounds-places-candidate c =
    let U = c.requires.underway in
    omega (arith, (chosen_range U c.requires.chosen (searched.sound c.args.run.now)).high, U.wide)

pub next_candidate-next-requires-clause-range_in : goal.next_candidate-next-requires-clause-range_in
next_candidate-next-requires-clause-range_in c = chosen_range c.requires.underway c.requires.chosen (searched.sound c.args.run.now)

pub next_candidate-next-requires-clause-before_le_n : goal.next_candidate-next-requires-clause-before_le_n
next_candidate-next-requires-clause-before_le_n c =
    let U = c.requires.underway in
    let range = chosen_range U c.requires.chosen (searched.sound c.args.run.now) in
    (le_refl _, ranged_before U _ (le_refl _), told_head U _ (omega (arith, range.high, U.wide)), omega arith)

pub add_label-requires-clause-lists : goal.add_label-requires-clause-lists
add_label-requires-clause-lists c =
    let U = c.requires.underway in
    (U.lists, omega (arith, (chosen_range U c.requires.chosen (searched.sound c.args.run.now)).high, U.wide))

pub add_label-requires-clause-junction_bound : goal.add_label-requires-clause-junction_bound
add_label-requires-clause-junction_bound c =
    let sound = searched.sound c.args.run.now in
    let range = chosen_range c.requires.underway c.requires.chosen sound in
    (omega (arith, range.high, sound.few), fitting_packs _ sound _ _ range c.next_candidate-next.ensures.fitting)

pub enter-requires-clause-ready : goal.enter-requires-clause-ready
enter-requires-clause-ready c =
    let U = c.requires.underway in
    ready_added c.add_label.ensures.added (searched_trip c.args.run.now) U.ready c.add_label.auto.words (omega arith) (omega arith)
    (chosen_range U c.requires.chosen (searched.sound c.args.run.now)) c.next_candidate-next.ensures.fitting

pub enter-requires-clause-entering : goal.enter-requires-clause-entering
enter-requires-clause-entering c = entering c.add_label.ensures.added (searched_trip c.args.run.now) c.requires.underway.tree

pub pass_over-requires-clause-underway : goal.pass_over-requires-clause-underway
pass_over-requires-clause-underway c =
    let new = c.requires.uncovered_off_target in
    settles c.requires.underway c.requires.chosen (searched.sound c.args.run.now) new.0 new.1 c.next_candidate-next.ensures c.add_label.ensures c.enter.ensures c.add_label.auto.places

pub pass_over-requires-clause-chosen : goal.pass_over-requires-clause-chosen
pass_over-requires-clause-chosen c =
    let new = c.requires.uncovered_off_target in
    still_chosen c.requires.underway c.requires.chosen (searched.sound c.args.run.now) new.0 new.1 c.next_candidate-next.ensures c.add_label.ensures c.enter.ensures

pub pass_over-requires-clause-covered : goal.pass_over-requires-clause-covered
pass_over-requires-clause-covered c =
    let new = c.requires.uncovered_off_target in
    settled_now c.requires.underway c.requires.chosen (searched.sound c.args.run.now) new.0 new.1 c.next_candidate-next.ensures c.add_label.ensures c.enter.ensures

pub returns : goal.returns
returns c =
    let new = c.requires.uncovered_off_target in
    onward_as (key_same c.requires.underway c.requires.chosen (searched.sound c.args.run.now) new.0 new.1 c.next_candidate-next.ensures c.add_label.ensures c.enter.ensures) c.pass_over.ensures
