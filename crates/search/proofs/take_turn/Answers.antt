use Rattle.std.proofs.Common.{arith}
use Rattle.std.proofs.lemmas.Bool.Decides.{nat_tests}
use Rattle.moves.specs.OpenRuns.{searched_trip}
use Rattle.candidates.proofs.Searched as searched
use Rattle.search.specs.Turns.{exhausted}
use Rattle.search.proofs.Offering.{leader_live, leader_done, root_least, says_below}
use Rattle.search.proofs.take_turn.Goals as goal
use Rattle.search.proofs.take_turn.Goals.{then-w-eq0-via-then-w-eq0, then-w-eq0-via-else-w-eq0+then-eq}

pub returns-then-w-eq0 : goal.returns-then-w-eq0
returns-then-w-eq0 c =
    let U = c.requires.underway in
    exhausted (leader_done (searched.sound c.args.run.now) U (c.leading-w.ensures _ U.tree) (λ low. elim c.then-w-eq0.branch [
      | then-w-eq0-via-then-w-eq0 w ↦ omega arith
      | then-w-eq0-via-else-w-eq0+then-eq w ↦ grind (arith, nat_tests)
    ]))

pub offer-requires-clause-least_key : goal.offer-requires-clause-least_key
offer-requires-clause-least_key c =
    let U = c.requires.underway in
    let lead = c.leading-w.ensures _ U.tree in
    (lead, leader_live (searched.sound c.args.run.now) U lead (omega (arith, c.if-w-eq0.false)) (grind (arith, nat_tests)))

pub returns : goal.returns
returns c =
    let U = c.requires.underway in
    let lead = c.leading-w.ensures (searched_trip c.args.run.now) U.tree in
    says_below (root_least (searched.sound c.args.run.now) U (omega (arith, c.if-w-eq0.false)) lead.within) c.offer.ensures
