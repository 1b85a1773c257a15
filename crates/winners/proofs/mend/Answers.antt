use Rattle.std.proofs.Common.{arith, le_refl}
use Rattle.winners.proofs.Contenders.{named}
use Rattle.winners.proofs.Steps.{child_within, begun, afresh, mended}
use Rattle.winners.proofs.mend.Goals as goal

pub contender_of-best-requires : goal.contender_of-best-requires
contender_of-best-requires c =
    let r = c.requires in
    let within = child_within _ _ _ _ _ _ r.tree_but (omega (arith, r.le_i.0)) c.winner_within-left.ensures in
    λ p. (r.ready _ p within).room

pub loop-j-init : goal.loop-j-init
loop-j-init c =
    let r = c.requires in
    let low = r.le_i.0 in
    let high = r.le_i.1 in
    let within = child_within _ _ _ _ _ _ r.tree_but (omega (arith, low)) c.winner_within-left.ensures in
    afresh (begun r.ready r.tree_but low high c.winner_within-left.ensures
    (named (λ p. r.ready _ p within) (omega (arith, within, (r.ready _ (omega (arith, low, high)) (le_refl _)).small)) c.contender_of-best.ensures))

pub returns : goal.returns
returns c = mended c.loop-j.invariant (omega (arith, c.loop-j-test.false))
