use Rattle.std.proofs.Common.{◌∙◌, ap, sym}
use Rattle.bans.specs.Bans.{listed_in}
use Rattle.moves.specs.Moves.{paused}
use Rattle.moves.proofs.Rising.{clock_high, range_in}
use Rattle.readback.proofs.Listed.{listed_tied, listed_sound}
use Rattle.readback.proofs.Leading.{pause_leads}
use Rattle.readback.proofs.Leg.pauses_to.Goals as goal

pub may_pause-requires : goal.may_pause-requires
may_pause-requires c = range_in (listed_tied c.args.self.now.run.now) c.args.self.now.in_range

pub after_pause-requires : goal.after_pause-requires
after_pause-requires c = (c.args.self.now.run.now.accepted.ordered.sound_rules, clock_high _ (listed_sound c.args.self.now.run.now) c.args.self.now.from c.args.self.now.in_range)

pub returns-then-may_pause : goal.returns-then-may_pause
returns-then-may_pause c =
    let run = c.args.self.now.run.now in
    let reached = c.after_pause.ensures ∙ ap (λ kind. paused kind run.about.order.rules c.args.self.now.from) c.numbered.ensures in
    c.leads_to.ensures
    ∙ sym (pause_leads (listed_tied run) c.args.self.now.from c.args.self.now.to c.args.kind c.after_pause.result (sym (c.if-may_pause.ensures (listed_in run.bans.now))) reached)
