use Rattle.cell_codec.specs.CellLaws.{cell-same}
use Rattle.cell_codec.proofs.cell.cell_has_one_reading.Goals as goal

pub returns : goal.returns
returns c = cell-same
