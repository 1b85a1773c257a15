-- The walk goes back along the labels of the junction; none that it has passed covers the label.
use Rattle.std.proofs.Common.{arith}
use Rattle.labels.proofs.Lists.{covered_by, told_covers, told_not, no_spell_room, no_shift_room, walk_first, walk_step, walk_end}
use Rattle.labels.proofs.settled.SettledLabels.covered.Goals.{then-place-room-via-then-place-room, then-place-room-via-else-place-room+then-place-room-2}
use Rattle.labels.proofs.settled.SettledLabels.covered.Goals as goal

pub returns-then-place-room : goal.returns-then-place-room
returns-then-place-room c =
    elim c.then-place-room.branch [
      | then-place-room-via-then-place-room w ↦
          no_spell_room c.args.label c.args.self.now.lists c.requires.known (rw (← c.room.ensures) w.if-place-room.true)
      | then-place-room-via-else-place-room+then-place-room-2 w ↦
          no_shift_room c.args.label c.args.self.now.lists c.requires.known (rw (← w.room-else-place-room.ensures) w.if-place-room-2.true)
    ]

pub loop-k-init : goal.loop-k-init
loop-k-init c = walk_first c.args.label c.args.self.now.lists c.requires.known

pub returns-then-covers : goal.returns-then-covers
returns-then-covers c =
    covered_by _ _ c.loop-k.k _ (omega arith) c.loop-k.invariant.high
    (told_covers _ c.read_label.ensures c.covers.ensures c.if-covers.true)

pub loop-k-preserved : goal.loop-k-preserved
loop-k-preserved c =
    rw c.previous-k.ensures
    (walk_step c.args.label c.args.self.now.lists c.requires.known c.loop-k.k (omega arith) c.loop-k.invariant
    (told_not _ c.read_label.ensures c.covers.ensures c.if-covers.false))

pub returns : goal.returns
returns c = walk_end c.requires.since_le_n.1 c.loop-k.invariant (omega arith)
