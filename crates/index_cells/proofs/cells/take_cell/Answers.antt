use Rattle.std.proofs.Common.{◌∙◌}
use Rattle.index_cells.proofs.Reading.{taken-at}
use Rattle.index_cells.proofs.cells.take_cell.Goals as goal

pub returns-clause-cell : goal.returns-clause-cell
returns-clause-cell c =
    taken-at c.args.page.now c.args.at (record { kind = c.args.page.now.kind; bytes = c.in_ok-bytes.bytes; view = c.view_at.result }) c.requires.within
    (λ usable cells has. c.in_ok-bytes.ensures ∙ c.bytes_at.ensures usable cells has) c.view_at.ensures
