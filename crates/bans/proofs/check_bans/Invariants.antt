use Rattle.std.proofs.Common.{◌≡◌, ◌+◌}
use Rattle.replies.proofs.First.{NoneBelow}
use Rattle.bans.specs.BanList.{bad_ban_at}
use Rattle.bans.proofs.Accepted.{number_before}
use Rattle.bans.proofs.check_bans.Given as goal

abbrev pub invariant-loop-i : goal.invariant-loop-i
invariant-loop-i l = (l.before ≡ number_before l.bans l.i) × NoneBelow (bad_ban_at l.roads l.bans) 1 (l.i + 1)
