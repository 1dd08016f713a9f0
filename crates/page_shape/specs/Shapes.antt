-- The cells of a page that is not decoded.
use Rattle.std.specs.Prelude.{◌≡◌, ℕ, ◌<◌, ◌≤◌, ◌^◌, List, length}
use Rattle.std.specs.List.{AllByRecursion}
use Rattle.format_spec.specs.declared.PageKind.{PageKind}
use Rattle.format_spec.specs.Cell.{IsCell}
use Rattle.format_spec.specs.Page.{IsPage, cell_count}
use Rattle.format_spec.specs.Sizes.{IsUsable}
use Rattle.page_layout.specs.Views.{HasKind}
use Rattle.page_spec.specs.Rooms.{array_end}
use Rattle.put_spec.specs.Steps.{Spelled, bytes_in}
use Rattle.page_shape.specs.declared.shape.Shape.{Shape}

-- the page has this kind, and counts so many cells, whose array lies within the usable bytes
pub record HasShape (page : List ℕ) (shape : Shape) : Type 0 where
  pub usable_is : IsUsable shape.usable
  pub whole : shape.usable ≤ length page
  pub kind_is : HasKind page shape.number shape.kind
  pub count_is : shape.count ≡ cell_count page shape.number
  pub few : shape.count < 2 ^ 16
  pub array : array_end shape.number shape.kind shape.count ≤ shape.usable

-- the page is accepted, and these are its cells, spelled so, and its right child
pub record AreCells (page : List ℕ) (number usable : ℕ) (kind : PageKind) (cells : List Spelled) (right : ℕ) : Type 0 where
  pub is_page : IsPage page number usable kind (bytes_in cells) right
  pub are_cells : AllByRecursion (λ cell. IsCell kind usable cell.bytes cell.view) cells
