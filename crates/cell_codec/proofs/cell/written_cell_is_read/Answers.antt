use Rattle.cell_codec.specs.CellLaws.{cell-written, whole_cell-read, whole_cell-payload, interior_cell-writable, whole_index_leaf_cell-writable, whole_index_interior_cell-writable}
use Rattle.cell_codec.proofs.cell.written_cell_is_read.Goals as goal

pub returns : goal.returns
returns c = record {
  cell = cell-written;
  whole = whole_cell-read;
  payload = whole_cell-payload;
  interior = interior_cell-writable;
  index_leaf = whole_index_leaf_cell-writable;
  index_interior = whole_index_interior_cell-writable;
}
