-- Cells of an index that go from one page to another (Database File Format, section 1.6).
use Rattle.std.specs.Prelude.{◌≡◌, ℕ, ◌+◌, ◌-◌, List, ◌++◌, drop, length, slice_index_or}
use Rattle.byteorder.specs.Endian.{big_bytes, big_number}
use Rattle.format_spec.specs.declared.PageKind.{PageKind}
use Rattle.format_spec.specs.declared.CellView.{CellView}
use Rattle.format_spec.specs.Cell.{IsCell, child_size}
use Rattle.put_spec.specs.Steps.{Spelled}
use Rattle.tree_walk.specs.declared.page.TreePage.{TreePage}
use Rattle.tree_level.specs.Changes.{HasSpelled}
use Rattle.index_cells.specs.declared.cells.Taken.{Taken}

-- the cell as it is spelled
abbrev pub cell_of : Taken → Spelled
cell_of taken = record { bytes = taken.bytes; view = taken.view }

-- a page that was read has this cell at an index, however its cells are read
abbrev pub IsCellAt : TreePage → ℕ → Taken → Type 0
IsCellAt page at taken = (usable : ℕ) (cells : List Spelled) (d : Spelled) → HasSpelled usable page cells → slice_index_or cells at d ≡ cell_of taken

-- the bytes are one cell of its kind
abbrev pub IsWhole : ℕ → Taken → Type 0
IsWhole usable taken = IsCell taken.kind usable taken.bytes taken.view

-- the bytes of a cell of an index in a page of another kind: behind the child, which a leaf's cell has not, it stays
abbrev pub respelled : PageKind → PageKind → ℕ → List ℕ → List ℕ
respelled kind other child bytes = big_bytes (child_size other) child ++ drop (child_size kind) bytes

-- and what they say
abbrev pub respelled_view : PageKind → PageKind → ℕ → CellView → CellView
respelled_view kind other child view = record {
  size = view.size + child_size other - child_size kind;
  rowid = view.rowid;
  child = big_number (length (big_bytes (child_size other) child)) (big_bytes (child_size other) child);
  payload = view.payload;
  local_at = view.local_at + child_size other - child_size kind;
  local = view.local;
  overflow = view.overflow;
}
