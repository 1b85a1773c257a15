use Rattle.std.proofs.Common.{List, ℕ, ◌∙◌, ap₂}
use Rattle.sheets.specs.declared.Heading.{Heading}
use Rattle.sheets.specs.Sheet.{with_heading}
use Rattle.retiming.proofs.Retimes.{retimed_written}
use Rattle.retiming.proofs.retime_run.Goals as goal

pub returns : goal.returns
returns c =
    retimed_written _ _ _ c.in_ok-state.state c.in_ok-state.ensures c.read_heading-given.result c.read_heading-given.ensures c.sheet_needed-needed.result c.sheet_needed-needed.ensures c.if-out-needed.false c.put_heading.new.sheet
    (c.put_heading.ensures ∙ ap₂ (λ (l : List ℕ) (h : Heading). with_heading l h) c.write_rows.ensures c.heading_for-heading.ensures)
