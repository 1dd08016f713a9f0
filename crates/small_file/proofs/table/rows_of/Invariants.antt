use Rattle.std.proofs.Common.{take, map}
use Rattle.std.specs.List.{AllZip}
use Rattle.common_spec.specs.Reading.{Reads}
use Rattle.small_file.specs.Pages.{cell_of}
use Rattle.small_file.proofs.table.rows_of.Given as goal

abbrev pub invariant-loop-cell : goal.invariant-loop-cell
invariant-loop-cell g l = AllZip (λ cell row. Reads (g.R.SmallRow.table.IsRow cell) row) (map (cell_of l.page) (take l.cell-index l.cells)) l.rows.items
