use Rattle.std.proofs.Common.{◌∙◌, arith}
use Rattle.moves.proofs.Rising.{clock_high, drives_on}
use Rattle.candidates.proofs.Searched.{sound, roads}
use Rattle.candidates.proofs.Results.{result_drive, result_pause}
use Rattle.candidates.proofs.result_at.Goals as goal

pub after_drive-requires-clause-entry_bound : goal.after_drive-requires-clause-entry_bound
after_drive-requires-clause-entry_bound c = (c.requires.enters.1, (drives_on _ _ _ c.args.state c.args.run.now.accepted c.requires.range_in).1)

pub returns-then-cursor-roads : goal.returns-then-cursor-roads
returns-then-cursor-roads c = c.after_drive.ensures ∙ result_drive c.args.run.now c.args.state c.args.cursor c.requires.le_cursor.0 c.if-cursor-roads.true _ c.requires.enters.0

pub pause_under-requires : goal.pause_under-requires
pause_under-requires c = (c.if-cursor-roads.false, omega (arith, c.requires.le_cursor.1, roads c.args.run.now))

pub after_pause-requires : goal.after_pause-requires
after_pause-requires c = (c.args.run.now.accepted.ordered.sound_rules, clock_high _ (sound c.args.run.now) c.args.state c.requires.range_in)

pub returns : goal.returns
returns c = c.after_pause.ensures ∙ rw c.pause_under.ensures (result_pause c.args.run.now c.args.state c.args.cursor c.if-cursor-roads.false)
