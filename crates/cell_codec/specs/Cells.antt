-- Cells at the front of bytes, and views that can be written (Database File Format, section 1.6).
use Rattle.std.specs.Prelude.{◌≡◌, ℕ, ℤ, pos, ◌+◌, ◌^◌, ◌<◌, ◌≤◌, List, length, take, drop}
use Rattle.std.specs.Int.{w64, cast_unsigned}
use Rattle.std.specs.Int.RustNames.{FitsSigned}
use Rattle.byteorder.specs.Endian.{big_number}
use Rattle.format_spec.specs.declared.PageKind.{PageKind}
use Rattle.format_spec.specs.declared.PageKind.TheVariants.{IndexInterior, TableInterior, IndexLeaf, TableLeaf}
use Rattle.format_spec.specs.declared.CellView.{CellView}
use Rattle.format_spec.specs.Varint.{IsVarint, varint}
use Rattle.format_spec.specs.Cell.{IsCell, payload_limit, local_size, child_size, overflow_size, cell_bytes, table_leaf_cell}
use Rattle.cell_codec.specs.declared.cell.LocalPart.{LocalPart}
use Rattle.cell_codec.specs.declared.cell.CellFault.{CellFault}
use Rattle.cell_codec.specs.declared.cell.CellFault.TheVariants.{ShortCell, SizeOverLimit}

-- the bytes begin with a cell
abbrev pub BeginsWithCell : PageKind → ℕ → List ℕ → CellView → Type 0
BeginsWithCell kind usable bytes cell = (cell.size ≤ length bytes) × IsCell kind usable (take cell.size bytes) cell

-- the bytes begin with the length of a payload that is over the greatest one
abbrev pub BeginsWithLengthOver : List ℕ → Type 0
BeginsWithLengthOver bytes = (value : ℕ) × (n : ℕ) × (n ≤ length bytes) × IsVarint (take n bytes) value × (payload_limit < value)

-- where a cell of the kind has it, the payload's length is over the greatest one
abbrev pub BeginsOverLimit : PageKind → List ℕ → Type 0
BeginsOverLimit TableLeaf bytes = BeginsWithLengthOver bytes
BeginsOverLimit TableInterior bytes = ⊥
BeginsOverLimit IndexLeaf bytes = BeginsWithLengthOver bytes
BeginsOverLimit IndexInterior bytes = BeginsWithLengthOver (drop 4 bytes)

-- why bytes begin with no cell: the payload's length is over the greatest one, or else they end inside the cell
abbrev pub HasCellFault : PageKind → ℕ → List ℕ → CellFault → Type 0
HasCellFault kind usable bytes ShortCell = ((cell : CellView) → ¬ BeginsWithCell kind usable bytes cell) × ¬ BeginsOverLimit kind bytes
HasCellFault kind usable bytes SizeOverLimit = BeginsOverLimit kind bytes

-- how many bytes of a cell the local part of a payload takes, with those that name the first overflow page
abbrev pub part_size : PageKind → ℕ → ℕ → ℕ
part_size kind usable payload = local_size kind usable payload + overflow_size (local_size kind usable payload) payload

-- the bytes begin with the local part of a payload
pub record IsLocalPart (kind : PageKind) (usable payload : ℕ) (bytes : List ℕ) (part : LocalPart) : Type 0 where
  pub local : part.local ≡ local_size kind usable payload
  pub size : part.size ≡ part.local + overflow_size part.local payload
  pub within : part.size ≤ length bytes
  pub overflow : part.overflow ≡ big_number (overflow_size part.local payload) (take (overflow_size part.local payload) (drop part.local bytes))

-- the fields that the kind lacks are 0
abbrev pub LackedAreZero : PageKind → CellView → Type 0
LackedAreZero TableLeaf cell = cell.child ≡ 0
LackedAreZero TableInterior cell = cell.payload ≡ 0
LackedAreZero IndexLeaf cell = (cell.rowid ≡ pos 0) × (cell.child ≡ 0)
LackedAreZero IndexInterior cell = cell.rowid ≡ pos 0

-- where the local payload begins in the shortest spelling
abbrev pub spelled_local_at : PageKind → CellView → ℕ
spelled_local_at TableLeaf cell = length (varint cell.payload) + length (varint (cast_unsigned w64 cell.rowid))
spelled_local_at TableInterior cell = 0
spelled_local_at IndexLeaf cell = length (varint cell.payload)
spelled_local_at IndexInterior cell = 4 + length (varint cell.payload)

-- the view is that of the cell's shortest spelling with this local payload
pub record IsWritable (kind : PageKind) (usable : ℕ) (cell : CellView) (local_bytes : List ℕ) : Type 0 where
  pub limit : cell.payload ≤ payload_limit
  pub rowid : FitsSigned w64 cell.rowid
  pub child : cell.child < 2 ^ 32
  pub local : cell.local ≡ local_size kind usable cell.payload
  pub local_length : length local_bytes ≡ cell.local
  pub overflow : cell.overflow < 2 ^ 32
  pub no_overflow : cell.payload ≤ cell.local → cell.overflow ≡ 0
  pub lacked : LackedAreZero kind cell
  pub local_at : cell.local_at ≡ spelled_local_at kind cell
  pub size : cell.size ≡ length (cell_bytes kind cell local_bytes)

-- the view of a table leaf's cell whose payload lies in it whole
abbrev pub whole_cell : ℤ → List ℕ → CellView
whole_cell rowid payload = record {
  size = length (table_leaf_cell rowid payload);
  rowid = rowid;
  child = 0;
  payload = length payload;
  local_at = length (varint (length payload)) + length (varint (cast_unsigned w64 rowid));
  local = length payload;
  overflow = 0;
}

-- the view of a table interior page's cell
abbrev pub interior_cell : ℕ → ℤ → CellView
interior_cell child rowid = record {
  size = 4 + length (varint (cast_unsigned w64 rowid));
  rowid = rowid;
  child = child;
  payload = 0;
  local_at = 0;
  local = 0;
  overflow = 0;
}

-- the view of an index page's cell whose payload lies in it whole; a leaf's has the child 0
abbrev pub whole_index_cell : PageKind → ℕ → List ℕ → CellView
whole_index_cell kind child payload = record {
  size = child_size kind + length (varint (length payload)) + length payload;
  rowid = pos 0;
  child = child;
  payload = length payload;
  local_at = child_size kind + length (varint (length payload));
  local = length payload;
  overflow = 0;
}
