-- A record of the lent part is the same record of the whole sheet. Assumes nothing.
use Rattle.std.proofs.Common.{◌∙◌, ap, List, ◌++◌, ℕ, take}
use Rattle.words.proofs.Tail.{tail_part, tail_put}
use Rattle.sheets.specs.Sheet.{header_bytes, with_row_behind}
use Rattle.sheets.proofs.Bytes.{behind_header}
use Rattle.sheets.proofs.write_row.Goals as goal

pub returns : goal.returns
returns c =
    let args = c.args in
    let s : List ℕ = args.sheet.now in
    tail_put header_bytes s c.put_row.new.part
    ∙ ap (λ (l : List ℕ). take header_bytes s ++ l) (c.put_row.ensures ∙ ap (λ (l : List ℕ). with_row_behind l args.k args.row) (tail_part header_bytes s))
    ∙ behind_header s args.k args.row
