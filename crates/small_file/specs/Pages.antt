-- Where the cells of a page stand.
use Rattle.std.specs.Prelude.{◌≡◌, ℕ, ◌+◌, ◌≤◌, List, map}
use Rattle.std.specs.List.{All, enumerate_from}
use Rattle.byte_fields.specs.Bytes.{part_of}
use Rattle.format_spec.specs.declared.PageKind.TheVariants.{TableLeaf}
use Rattle.format_spec.specs.declared.CellView.{CellView}
use Rattle.format_spec.specs.Cell.{IsCell}
use Rattle.format_spec.specs.Page.{IsPage, cell_place}
use Rattle.small_file.specs.declared.page.PlacedCell.{PlacedCell}

-- the bytes of a cell that stands in a page
abbrev pub cell_of : List ℕ → PlacedCell → List ℕ
cell_of page cell = part_of page cell.place cell.view.size

-- the cells with these views, each at the place that the page's array has at its index
abbrev pub placed : List ℕ → ℕ → List CellView → List PlacedCell
placed page number views = map (λ entry. record { place = cell_place page number TableLeaf entry.0; view = entry.1 }) (enumerate_from 0 views)

-- a cell stands in the page
pub record IsPlaced (page : List ℕ) (cell : PlacedCell) : Type 0 where
  pub is_cell : IsCell TableLeaf 4096 (cell_of page cell) cell.view
  pub inside : cell.place + cell.view.size ≤ 4096

-- The bytes are a page with these cells, and with no others.
pub record HoldsCells (page : List ℕ) (number : ℕ) (cells : List PlacedCell) : Type 0 where
  pub is_page : IsPage page number 4096 TableLeaf (map (cell_of page) cells) 0
  pub only : (others : List (List ℕ)) (right : ℕ) → IsPage page number 4096 TableLeaf others right → others ≡ map (cell_of page) cells
  pub placed : All (IsPlaced page) cells
