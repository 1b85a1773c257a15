-- A drive's seconds are what it adds to the clock, once its road is entered.
use Rattle.std.proofs.Common.{◌∙◌, arith}
use Rattle.moves.proofs.Rising.{clock_high, figures_high}
use Rattle.candidates.proofs.Searched.{sound, roads}
use Rattle.candidates.proofs.Results.{drive_time, told_state, told_drive, told_pause}
use Rattle.candidates.proofs.result_by.Goals.{then-c-roads, else-c-roads}
use Rattle.candidates.proofs.result_by.Goals as goal

pub entry_at-entry-requires : goal.entry_at-entry-requires
entry_at-entry-requires c = clock_high _ (sound c.args.run.now) c.args.state c.requires.range_in

pub overflow_sub-c : goal.overflow_sub-c
overflow_sub-c c = (drive_time c.args.run.now c.args.state c.requires.fitting.0 c.requires.fitting.1 c.if-c-roads.true c.entry_at-entry.ensures.0).after

pub driven-figures-requires : goal.driven-figures-requires
driven-figures-requires c =
    let time = drive_time c.args.run.now c.args.state c.requires.fitting.0 c.requires.fitting.1 c.if-c-roads.true c.entry_at-entry.ensures.0 in
    (figures_high _ (sound c.args.run.now) c.args.state c.requires.range_in, rw time.is time.few)

pub pause_under-requires : goal.pause_under-requires
pause_under-requires c = (c.if-c-roads.false, omega (arith, (c.requires.fitting.0.named c.requires.fitting.1).high, roads c.args.run.now))

pub returns : goal.returns
returns c =
    told_state c.args.run.now c.args.state c.requires.fitting.0 c.requires.fitting.1
    (elim c.if-c-roads.branch [
      | then-c-roads w ↦
          w.figures-is ∙ w.driven-figures.ensures ∙ told_drive c.args.run.now c.args.state c.requires.fitting.0 c.requires.fitting.1 w.if-c-roads.true w.entry_at-entry.ensures.0
      | else-c-roads w ↦
          w.figures-is ∙ w.cleared-figures.ensures ∙ rw w.pause_under.ensures (told_pause c.args.run.now c.args.state c.requires.fitting.0 c.requires.fitting.1 w.if-c-roads.false)
    ])
