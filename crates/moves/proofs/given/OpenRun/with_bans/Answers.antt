-- The list is judged by the counts that were read from the map.
use Rattle.std.proofs.Common.{ℕ, List, Err, Ok, ◌≡◌, refl}
use Rattle.std.specs.Prelude.{Result}
use Rattle.std.proofs.lemmas.Result.{err_from_is_err_and}
use Rattle.replies.specs.declared.Refusal.{Refusal}
use Rattle.replies.specs.First.{first_of, Tried}
use Rattle.replies.specs.Told.{succeeded, told_check}
use Rattle.replies.proofs.First.{tried}
use Rattle.roadmap.specs.Format.{road_count}
use Rattle.bans.specs.BanList.{ban_tests}
use Rattle.bans.proofs.Accepted.{bans_accepted}
use Rattle.moves.specs.declared.given.OpenRun.{OpenRun}
use Rattle.moves.proofs.given.OpenRun.with_bans.Goals as goal

bans_tried : (run : OpenRun) (bans : List ℕ) (answer : Result (Unit {0}) Refusal)
    → told_check answer ≡ first_of (ban_tests run.about.sizes.roads bans) (succeeded 0 0) → Tried (ban_tests (road_count run.map.now) bans) answer
bans_tried run bans answer told = rw (← run.accepted.sized.roads) (tried (ban_tests run.about.sizes.roads bans) answer tt told)

pub returns-in_err-check_bans : goal.returns-in_err-check_bans
returns-in_err-check_bans c =
    let p = err_from_is_err_and c.from_residual.result c.from_residual.ensures.1 in
    rw (p.1, p.2) (bans_tried c.args.self c.args.bans.now (Err c.in_err-check_bans.field-0.0) c.in_err-check_bans.ensures)

pub invariant_of-result : goal.invariant_of-result
invariant_of-result c =
    let run = c.args.self in
    record {
      accepted = run.accepted;
      listed = bans_accepted (road_count run.map.now) c.args.bans.now (bans_tried run c.args.bans.now (Ok tt) c.in_ok-check_bans.ensures);
    }

pub returns : goal.returns
returns c = (bans_tried c.args.self c.args.bans.now (Ok tt) c.in_ok-check_bans.ensures, refl, refl, refl)
