-- The list says whether the road is banned, so the drive is the trip's.
use Rattle.std.proofs.Common.{Bool, ap, ◌∙◌}
use Rattle.bans.specs.Bans.{listed_in}
use Rattle.moves.specs.Moves.{entered_when}
use Rattle.moves.proofs.Trips.{run_tied}
use Rattle.moves.proofs.Rising.{drives_on}
use Rattle.moves.proofs.Stepped.{driven_in}
use Rattle.moves.proofs.after_listed_drive.Goals as goal

pub is_listed-requires : goal.is_listed-requires
is_listed-requires c = c.args.run.now.listed.rises

pub entry_time-entry-requires : goal.entry_time-entry-requires
entry_time-entry-requires c =
    let run = c.args.run.now in (drives_on _ (listed_in run.bans.now) _ c.args.state run.accepted c.requires.range_in).0

pub after_drive-requires : goal.after_drive-requires
after_drive-requires c =
    let run = c.args.run.now in
    record { entry_bound = (c.entry_time-entry.ensures.1, (drives_on _ (listed_in run.bans.now) _ c.args.state run.accepted c.requires.range_in).1); le_r = c.requires.le_r }

pub returns : goal.returns
returns c =
    let run = c.args.run.now in
    let banned = listed_in run.bans.now in
    c.after_drive.ensures
    ∙ driven_in (run_tied run.map.now banned run.about) c.args.state c.args.r c.requires.le_r c.entry_time-entry.result.0
    (c.entry_time-entry.ensures.0 ∙ ap (λ (b : Bool). entered_when b c.args.state.clock.0) c.is_listed.ensures)
