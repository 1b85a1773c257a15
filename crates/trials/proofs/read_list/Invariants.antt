-- Each turn reads one word more. Assumes nothing.
use Rattle.std.proofs.Common.{◌-◌, ◌≤◌, length}
use Rattle.trials.proofs.read_list.Given as goal

abbrev pub invariant-loop-count : goal.invariant-loop-count
invariant-loop-count l = l.count ≤ length l.list

abbrev pub decreases-loop-count : goal.decreases-loop-count
decreases-loop-count l = length l.list - l.count
