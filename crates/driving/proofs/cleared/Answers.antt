use Rattle.driving.proofs.cleared.Goals as goal

pub returns-in-FirstPart : goal.returns-in-FirstPart
returns-in-FirstPart c = rw c.in-FirstPart.is
