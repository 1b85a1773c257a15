-- The labels that fit are lent, and the words after them stay.
use Rattle.std.proofs.Common.{◌∙◌, sym, eqb-true, arith}
use Rattle.bans.specs.Bans.{listed_in}
use Rattle.moves.proofs.Rising.{run_sound}
use Rattle.search.proofs.Marked.{unlisted}
use Rattle.search.proofs.Lending.{none_fits, part_searched}
use Rattle.search.proofs.search.Goals as goal

pub returns-then-fit-eq0 : goal.returns-then-fit-eq0
returns-then-fit-eq0 c =
    let run = c.args.run.now in
    none_fits _ (run_sound run.map.now (listed_in run.bans.now) run.about run.accepted) c.args.words.now (sym c.labels_that_fit-fit.ensures ∙ c.if-fit-eq0.true)

pub search_with-requires-clause-agree : goal.search_with-requires-clause-agree
search_with-requires-clause-agree c = unlisted c.args.run.now.bans.now _ (omega (arith, eqb-true _ _ (sym c.is_empty.ensures ∙ c.if-is_empty.true)))

pub returns-then-is_empty : goal.returns-then-is_empty
returns-then-is_empty c = part_searched _ c.args.words.now c.search_with.new.words c.labels_that_fit-fit.ensures c.search_with.auto.words c.search_with.ensures

pub returns-else-is_empty : goal.returns-else-is_empty
returns-else-is_empty c = part_searched _ c.args.words.now c.search_marked.new.words c.labels_that_fit-fit.ensures c.search_marked.auto.words c.search_marked.ensures
