-- The page of a packed leaf.
use Rattle.std.specs.Prelude.{ℕ, ◌≤◌, List, length, map, All}
use Rattle.format_spec.specs.declared.PageKind.TheVariants.{TableLeaf}
use Rattle.format_spec.specs.declared.CellView.{CellView}
use Rattle.format_spec.specs.Cell.{IsCell}
use Rattle.format_spec.specs.Page.{IsPage, packed_leaf}
use Rattle.small_spec.specs.declared.TargetRow.{TargetRow}
use Rattle.small_spec.specs.Inserts.{page_room}

-- a table leaf's cell, of at least four bytes
abbrev pub IsLeafCell : List ℕ → Type 0
IsLeafCell cell = ((view : CellView) × IsCell TableLeaf 4096 cell view) × (4 ≤ length cell)

-- Rows for which one page has room make an accepted page, whose cells are theirs in order.
abbrev pub PackedLeafIsPage : Type 0
PackedLeafIsPage = (rows : List TargetRow) → page_room rows ≤ 4096 → All IsLeafCell (map (λ row. row.cell) rows) →
    IsPage (packed_leaf 4096 (map (λ row. row.cell) rows)) 2 4096 TableLeaf (map (λ row. row.cell) rows) 0
