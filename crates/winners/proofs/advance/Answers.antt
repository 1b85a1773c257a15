use Rattle.candidates.proofs.Searched as searched
use Rattle.winners.proofs.Steps.{packs, turned_ready, turned_but, turned}
use Rattle.winners.proofs.advance.Goals as goal

pub set_candidate-requires : goal.set_candidate-requires
set_candidate-requires c =
    let r = c.requires in
    (r.le_k.0, (r.ready _ r.le_k.0 r.le_k.1).room, packs (searched.sound c.args.run.now) r.le_k.0 r.le_k.1 r.ready r.fitting)

pub mend-requires-clause-ready : goal.mend-requires-clause-ready
mend-requires-clause-ready c =
    let r = c.requires in
    rw c.set_candidate.ensures (turned_ready (searched.sound c.args.run.now) r.le_k.0 r.le_k.1 r.ready r.fitting)

pub mend-requires-clause-tree_but : goal.mend-requires-clause-tree_but
mend-requires-clause-tree_but c =
    let r = c.requires in
    rw c.set_candidate.ensures (turned_but (searched.sound c.args.run.now) r.le_k.0 r.le_k.1 r.ready r.fitting r.tree)

pub returns : goal.returns
returns c =
    let r = c.requires in
    turned (searched.sound c.args.run.now) r.le_k.0 r.le_k.1 r.ready r.fitting c.set_candidate.ensures c.mend.ensures
