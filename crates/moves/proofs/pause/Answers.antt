use Rattle.std.proofs.Common.{◌∙◌, sym, eq-eqb, ne_eqb, arith}
use Rattle.states.proofs.Compared.{legal_clock}
use Rattle.moves.specs.Trip.{none_banned}
use Rattle.moves.specs.Runs.{trip_in}
use Rattle.moves.proofs.Trips.{run_tied}
use Rattle.moves.proofs.Offered.{pause_range}
use Rattle.moves.proofs.Stepped.{pause_by_map}
use Rattle.moves.proofs.pause.Goals as goal
use Rattle.moves.proofs.pause.Goals.{then-m-state-via-then-m-state, then-m-state-via-else-m-state+then-not-may_pause}

pub returns-then-m-state : goal.returns-then-m-state
returns-then-m-state c banned =
    let run = c.args.run.now in
    rw (pause_by_map (run_tied run.map.now banned run.about) c.args.state c.args.m c.requires.not_a_drive)
    (elim c.then-m-state.branch [
      | then-m-state-via-then-m-state w ↦ rw (ne_eqb _ _ w.if-m-state.true)
      | then-m-state-via-else-m-state+then-not-may_pause w ↦ rw (eq-eqb _ _ w.if-m-state.false, ← w.may_pause.ensures banned, w.if-not-may_pause.true)
    ])

pub numbered-pause-requires : goal.numbered-pause-requires
numbered-pause-requires c =
    let run = c.args.run.now in
    pause_range (trip_in run.map.now none_banned run.about) c.args.state c.args.m.kind (sym (c.may_pause.ensures none_banned) ∙ c.if-not-may_pause.false)

pub after_pause-requires : goal.after_pause-requires
after_pause-requires c =
    let ordered = c.args.run.now.accepted.ordered in
    (ordered.sound_rules, omega (arith, legal_clock c.args.run.now.about.order c.args.state c.requires.in_range.lawful, ordered.latest_high))

pub returns : goal.returns
returns c banned =
    let run = c.args.run.now in
    rw (pause_by_map (run_tied run.map.now banned run.about) c.args.state c.args.m c.requires.not_a_drive, eq-eqb _ _ c.if-m-state.false, ← c.may_pause.ensures banned, c.if-not-may_pause.false, ← c.numbered-pause.ensures, ← c.after_pause.ensures)
    c.judge.ensures
