-- The cells of b-tree pages (Database File Format, section 1.6).
use Rattle.std.specs.Prelude.{◌≡◌, ℕ, ℤ, pos, ◌+◌, ◌-◌, ◌*◌, ◌/◌, ◌%◌, ◌≤◌, nat_lt, nat_le, if◌then◌else◌, List, ◌++◌, length}
use Rattle.std.specs.Int.{w64, cast_signed, cast_unsigned}
use Rattle.byteorder.specs.Endian.{big_bytes, big_number}
use Rattle.format_spec.specs.declared.PageKind.{PageKind}
use Rattle.format_spec.specs.declared.PageKind.TheVariants.{IndexInterior, TableInterior, IndexLeaf, TableLeaf}
use Rattle.format_spec.specs.declared.CellView.{CellView}
use Rattle.format_spec.specs.Varint.{IsVarint, varint}

-- the greatest length of a payload
abbrev pub payload_limit : ℕ
payload_limit = 2147483647

-- the longest payload that lies in a cell whole, on pages with so many usable bytes; a table interior page, whose cells have no payload, goes with the leaves of its tree
abbrev pub max_local : PageKind → ℕ → ℕ
max_local TableLeaf usable = usable - 35
max_local TableInterior usable = usable - 35
max_local IndexLeaf usable = (usable - 12) * 64 / 255 - 23
max_local IndexInterior usable = (usable - 12) * 64 / 255 - 23

-- the least that a cell keeps of a longer payload
abbrev pub min_local : ℕ → ℕ
min_local usable = (usable - 12) * 32 / 255 - 23

-- what a cell keeps of a longer payload where that is not over the greatest length: the rest fills overflow pages
abbrev pub fitted_local : ℕ → ℕ → ℕ
fitted_local usable payload = min_local usable + (payload - min_local usable) % (usable - 4)

-- how many bytes of a payload lie in its cell
abbrev pub local_size : PageKind → ℕ → ℕ → ℕ
local_size kind usable payload =
    if nat_le payload (max_local kind usable) then payload
    else if nat_le (fitted_local usable payload) (max_local kind usable) then fitted_local usable payload
    else min_local usable

-- how many bytes of a cell name its first overflow page
abbrev pub overflow_size : ℕ → ℕ → ℕ
overflow_size local payload = if nat_lt local payload then 4 else 0

-- how many bytes of a cell name its left child
abbrev pub child_size : PageKind → ℕ
child_size TableLeaf = 0
child_size TableInterior = 4
child_size IndexLeaf = 0
child_size IndexInterior = 4

-- a table leaf's cell: the payload's length, the rowid, the local payload, and the first overflow page where there is one
pub record IsTableLeafCell (usable : ℕ) (bytes : List ℕ) (cell : CellView) : Type 0 where
  pub payload_bytes : List ℕ
  pub rowid_bytes : List ℕ
  pub rowid_number : ℕ
  pub local_bytes : List ℕ
  pub overflow_bytes : List ℕ
  pub whole : bytes ≡ payload_bytes ++ (rowid_bytes ++ (local_bytes ++ overflow_bytes))
  pub payload : IsVarint payload_bytes cell.payload
  pub limit : cell.payload ≤ payload_limit
  pub rowid_varint : IsVarint rowid_bytes rowid_number
  pub rowid : cell.rowid ≡ cast_signed w64 rowid_number
  pub local_at : cell.local_at ≡ length payload_bytes + length rowid_bytes
  pub local : cell.local ≡ local_size TableLeaf usable cell.payload
  pub local_length : length local_bytes ≡ cell.local
  pub overflow_length : length overflow_bytes ≡ overflow_size cell.local cell.payload
  pub overflow : cell.overflow ≡ big_number (length overflow_bytes) overflow_bytes
  pub child : cell.child ≡ 0
  pub size : cell.size ≡ length bytes

-- a table interior page's cell: the left child and the rowid
pub record IsTableInteriorCell (bytes : List ℕ) (cell : CellView) : Type 0 where
  pub child_bytes : List ℕ
  pub rowid_bytes : List ℕ
  pub rowid_number : ℕ
  pub whole : bytes ≡ child_bytes ++ rowid_bytes
  pub child_length : length child_bytes ≡ 4
  pub child : cell.child ≡ big_number 4 child_bytes
  pub rowid_varint : IsVarint rowid_bytes rowid_number
  pub rowid : cell.rowid ≡ cast_signed w64 rowid_number
  pub payload : cell.payload ≡ 0
  pub local_at : cell.local_at ≡ 0
  pub local : cell.local ≡ 0
  pub overflow : cell.overflow ≡ 0
  pub size : cell.size ≡ length bytes

-- an index page's cell: the left child on an interior page, the payload's length, the local payload, and the first overflow page where there is one
pub record IsIndexCell (kind : PageKind) (usable : ℕ) (bytes : List ℕ) (cell : CellView) : Type 0 where
  pub child_bytes : List ℕ
  pub payload_bytes : List ℕ
  pub local_bytes : List ℕ
  pub overflow_bytes : List ℕ
  pub whole : bytes ≡ child_bytes ++ (payload_bytes ++ (local_bytes ++ overflow_bytes))
  pub child_length : length child_bytes ≡ child_size kind
  pub child : cell.child ≡ big_number (length child_bytes) child_bytes
  pub payload : IsVarint payload_bytes cell.payload
  pub limit : cell.payload ≤ payload_limit
  pub local_at : cell.local_at ≡ length child_bytes + length payload_bytes
  pub local : cell.local ≡ local_size kind usable cell.payload
  pub local_length : length local_bytes ≡ cell.local
  pub overflow_length : length overflow_bytes ≡ overflow_size cell.local cell.payload
  pub overflow : cell.overflow ≡ big_number (length overflow_bytes) overflow_bytes
  pub rowid : cell.rowid ≡ pos 0
  pub size : cell.size ≡ length bytes

-- the bytes are exactly one cell, as the view says
abbrev pub IsCell : PageKind → ℕ → List ℕ → CellView → Type 0
IsCell TableLeaf = IsTableLeafCell
IsCell TableInterior = λ _. IsTableInteriorCell
IsCell IndexLeaf = IsIndexCell IndexLeaf
IsCell IndexInterior = IsIndexCell IndexInterior

-- the shortest spelling of an index page's cell with the given local payload
unfoldable pub index_cell_bytes : PageKind → CellView → List ℕ → List ℕ
index_cell_bytes kind cell local =
    big_bytes (child_size kind) cell.child ++ (varint cell.payload ++ (local ++ big_bytes (overflow_size cell.local cell.payload) cell.overflow))

-- the shortest spelling of a cell with the given local payload, where its rowid has 64 bits and its page numbers 32
unfoldable pub cell_bytes : PageKind → CellView → List ℕ → List ℕ
cell_bytes TableLeaf cell local =
    varint cell.payload ++ (varint (cast_unsigned w64 cell.rowid) ++ (local ++ big_bytes (overflow_size cell.local cell.payload) cell.overflow))
cell_bytes TableInterior cell local = big_bytes 4 cell.child ++ varint (cast_unsigned w64 cell.rowid)
cell_bytes IndexLeaf cell local = index_cell_bytes IndexLeaf cell local
cell_bytes IndexInterior cell local = index_cell_bytes IndexInterior cell local

-- the shortest spelling of a table leaf's cell whose payload lies in it whole
unfoldable pub table_leaf_cell : ℤ → List ℕ → List ℕ
table_leaf_cell rowid payload = varint (length payload) ++ (varint (cast_unsigned w64 rowid) ++ payload)
