-- The first wrong number is the first that the loop meets.
use mathlib.Core.Path.{◌≡◌, refl, sym}
use mathlib.Core.Bool.{true}
use mathlib.Core.List.{[]}
use Prim.Native.Nat.{◌+◌}
use native.Mathlib.Numerals.{add-one}
use native.Mathlib.Omega.{arith}
use Rattle.replies.specs.First.{first_of}
use Rattle.replies.proofs.First.{one_more, lowest_found, lowest_none, stops_at, passed_over}
use Rattle.bans.specs.BanList.{bad_ban_at}
use Rattle.bans.proofs.Accepted.{too_low, too_high, right}
use Rattle.bans.proofs.check_bans.Goals as goal
use Rattle.bans.proofs.check_bans.Goals.{then-road-before-via-then-road-before, then-road-before-via-else-road-before+then-roads-road}

pub loop-i-init : goal.loop-i-init
loop-i-init c = (refl, λ x low high. absurd (omega arith))

pub returns-then-road-before : goal.returns-then-road-before
returns-then-road-before c =
    let a = c.args in
    let i = c.loop-i.i in
    let wrong : bad_ban_at a.roads a.bans.now (i + 1) ≡ true =
    elim c.then-road-before.branch [
      | then-road-before-via-then-road-before w ↦ too_low a.roads a.bans.now i (omega (arith, w.if-road-before.true))
      | then-road-before-via-else-road-before+then-roads-road w ↦ too_high a.roads a.bans.now i w.if-roads-road.true
    ] in
    sym (stops_at _ _ _ (lowest_found _ 1 _ (i + 1) (omega arith) (omega arith) c.loop-i.invariant.1 wrong))

pub loop-i-preserved : goal.loop-i-preserved
loop-i-preserved c =
    let a = c.args in
    let i = c.loop-i.i in
    (rw add-one, one_more _ c.loop-i.invariant.1 (right a.roads a.bans.now i (omega arith) c.if-roads-road.false))

pub returns : goal.returns
unfolding first_of
returns c = sym (passed_over _ [] _ (lowest_none _ 1 _ (λ x low high. c.loop-i.invariant.1 x low (omega arith))))
