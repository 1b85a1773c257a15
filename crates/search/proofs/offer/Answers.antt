use Rattle.std.proofs.Common.{arith}
use Rattle.candidates.proofs.Searched as searched
use Rattle.search.specs.Turns.{goes}
use Rattle.search.proofs.Keeping.{told_fresh}
use Rattle.search.proofs.Turning.{chosen_range}
use Rattle.search.proofs.Offering.{leader_chosen}
use Rattle.search.proofs.offer.Goals as goal

pub covered-requires-clause-known : goal.covered-requires-clause-known
covered-requires-clause-known c =
    let U = c.requires.underway in
    let sound = searched.sound c.args.run.now in
    let won = leader_chosen sound U c.requires.least_key.0 c.requires.least_key.1 c.candidate_at-candidate.ensures in
    omega (arith, (chosen_range U won sound).high, U.wide)

pub covered-requires-clause-since_le_n : goal.covered-requires-clause-since_le_n
covered-requires-clause-since_le_n c =
    let U = c.requires.underway in
    let won = leader_chosen (searched.sound c.args.run.now) U c.requires.least_key.0 c.requires.least_key.1 c.candidate_at-candidate.ensures in
    (omega (arith, won.high), told_fresh (U.kept _ won.low won.high) won.has c.candidate_at-candidate.ensures)

pub pass_over-requires-clause-chosen : goal.pass_over-requires-clause-chosen
pass_over-requires-clause-chosen c =
    leader_chosen (searched.sound c.args.run.now) c.requires.underway c.requires.least_key.0 c.requires.least_key.1 c.candidate_at-candidate.ensures

pub returns-then-covered : goal.returns-then-covered
returns-then-covered c = goes c.pass_over.ensures c.requires.fits

pub settle-requires-clause-chosen : goal.settle-requires-clause-chosen
settle-requires-clause-chosen c =
    leader_chosen (searched.sound c.args.run.now) c.requires.underway c.requires.least_key.0 c.requires.least_key.1 c.candidate_at-candidate.ensures
