-- The store of its words adds the label, and the lists follow.
use Rattle.std.proofs.Common.{arith, ◌∙◌, ap}
use Prim.Native.Nat.{max}
use Rattle.labels.proofs.LabelWords.{label_stored}
use Rattle.labels.proofs.Lists.{lists_added}
use Rattle.labels.proofs.add_label.Goals as goal

pub returns : goal.returns
returns c =
    let new = label_stored _ c.store.new.words _ c.args.label _ c.args.c _ c.requires.junction_bound.1 c.requires.n_bound.1 c.store.ensures in
    record {
      added = new.0;
      lists = rw (c.max.ensures ∙ ap (max _) c.room.ensures, c.max-2.ensures ∙ ap (max _) c.room-2.ensures) (lists_added new.0 c.requires.lists.0 c.requires.lists.1 new.1 (omega (arith, c.store.auto.words)));
    }
