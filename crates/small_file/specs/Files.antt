-- The pages of a small file, as they are read.
use Rattle.std.specs.Prelude.{ℕ, pos, List, [], ◌∷◌, map, drop}
use Rattle.byte_fields.specs.Bytes.{part_of}
use Rattle.format_spec.specs.declared.PageKind.TheVariants.{TableLeaf}
use Rattle.format_spec.specs.Page.{IsPage}
use Rattle.small_spec.specs.SmallFile.{IsWholeCell, IsSmallFile}
use Rattle.small_file.specs.declared.page.PlacedCell.{PlacedCell}
use Rattle.small_file.specs.Pages.{cell_of, HoldsCells}

-- the part of a cell's payload that lies in it
abbrev pub payload_of : List ℕ → PlacedCell → List ℕ
payload_of page cell = part_of (cell_of page cell) cell.view.local_at cell.view.local

-- a page has one cell, the row of the schema with this record
abbrev pub HasSchema : List ℕ → List ℕ → Type 0
HasSchema page schema = (cell : List ℕ) × IsPage page 1 4096 TableLeaf (cell ∷ []) 0 × IsWholeCell cell (pos 1) schema

-- The bytes are a small file with this row of the schema, and these are the cells of its second page, and no others.
pub record HoldsTable (bytes schema : List ℕ) (cells : List PlacedCell) : Type 0 where
  pub second : HoldsCells (drop 4096 bytes) 2 cells
  pub file : IsSmallFile bytes schema (map (cell_of (drop 4096 bytes)) cells)
