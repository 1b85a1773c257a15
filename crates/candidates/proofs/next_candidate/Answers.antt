-- Before a cursor all those below it are tried, and at the end all.
use Rattle.candidates.proofs.Trials.{tried_none, tried_over}
use Rattle.candidates.proofs.Cursors.{tried_all}
use Rattle.candidates.proofs.next_candidate.Goals as goal

pub loop-cursor-init : goal.loop-cursor-init
loop-cursor-init c = record {
  worth = c.first_cursor-cursor.ensures.worth;
  tried = tried_over c.first_cursor-cursor.ensures (tried_none _ _ c.args.of.before c.args.of.state c.args.bound);
}

pub loop-cursor-preserved : goal.loop-cursor-preserved
loop-cursor-preserved c = record {
  worth = c.following-cursor.ensures.worth;
  tried = tried_over c.following-cursor.ensures c.weigh-weighed.ensures;
}

pub returns : goal.returns
returns c = tried_all c.loop-cursor-test.false c.loop-cursor.invariant.tried
