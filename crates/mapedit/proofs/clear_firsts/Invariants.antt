-- Before junction j those below it are cleared.
use Rattle.std.proofs.Common.{◌≡◌, ◌≤◌, ◌+◌, ◌-◌}
use Rattle.roadmap.specs.Format.{junction_at}
use Rattle.mapedit.specs.Chaining.{put_all}
use Rattle.mapedit.proofs.clear_firsts.Given as goal

abbrev pub invariant-loop-j : goal.invariant-loop-j
invariant-loop-j l = (l.j ≤ l.j-end + 1) × (l.map ≡ put_all junction_at (λ i. 0) 1 (l.j - 1) l.initial.map)
