use Rattle.std.proofs.Common.{◌≡◌, ◌∙◌, ◌-◌, refl, arith}
use Rattle.roadmap.specs.Format.{junction_count}
use Rattle.mapedit.specs.Chaining.{put_all}
use Rattle.mapedit.specs.Passes.{cleared}
use Rattle.mapedit.proofs.Linked.{clear_more}
use Rattle.mapedit.proofs.clear_firsts.Goals as goal

pub loop-j-init : goal.loop-j-init
unfolding put_all
loop-j-init c = (omega arith, refl)

pub loop-j-preserved : goal.loop-j-preserved
loop-j-preserved c =
    (omega arith, clear_more c.args.map.now (omega arith) (omega arith) c.loop-j.invariant.1 c.junction_at.ensures c.put_word.ensures)

pub returns : goal.returns
unfolding cleared
returns c =
    let ended : c.loop-j.j - 1 ≡ junction_count c.args.map.now = omega arith in
    c.loop-j.invariant.1 ∙ rw ended

pub returns-2 : goal.returns-2
unfolding cleared
returns-2 c =
    clear_more c.args.map.now (omega arith) (omega arith) c.loop-j.invariant.1 c.junction_at.ensures c.put_word.ensures
