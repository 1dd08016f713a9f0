-- What writing the cells of one page leaves.
use Rattle.std.specs.Prelude.{◌≡◌, ℕ, ◌-◌, List, [], ◌++◌, take, drop, slice_index_or}
use Rattle.std.specs.List.{AllByRecursion}
use Rattle.byteorder.specs.Endian.{big_bytes}
use Rattle.byte_fields.specs.Numbers.{number_at}
use Rattle.format_spec.specs.declared.PageKind.{PageKind}
use Rattle.format_spec.specs.declared.PageKind.TheVariants.{IndexInterior, TableInterior, IndexLeaf, TableLeaf}
use Rattle.format_spec.specs.declared.CellView.{CellView}
use Rattle.format_spec.specs.Cell.{IsCell, cell_bytes}
use Rattle.format_spec.specs.Page.{IsPage, header_place}
use Rattle.cell_codec.specs.Cells.{interior_cell}
use Rattle.page_spec.specs.Rooms.{right_kept}
use Rattle.tree_spec.specs.declared.TreeKind.{TreeKind}
use Rattle.tree_spec.specs.Trees.{interior_kind, kind_at}
use Rattle.tree_spec.specs.Standing.{Sizes, Paged, SamePage}
use Rattle.tree_spec.specs.Changes.{Writes}
use Rattle.put_spec.specs.Steps.{Spelled, bytes_in, IsSpread, IsSettled, IsMovedOut}
use Rattle.tree_level.specs.declared.writing.Node.{Node}

-- the page with what stands in front of another page's header, as the database header does on page 1
abbrev pub with_header : ℕ → List ℕ → List ℕ → List ℕ
with_header number now page = take (header_place number) now ++ drop (header_place number) page

-- One page is written with these bytes, but for the database header in front of page 1, which stays.
pub record WritesPage (number : ℕ) (page : List ℕ) (old new : Paged) : Type 0 where
  pub writes : Writes number old new
  pub same : SamePage number page (new.pages number)

-- One page is written with these cells.
pub record WritesNode (sizes : Sizes) (node : Node) (cells : List (List ℕ)) (old new : Paged) : Type 0 where
  pub writes : Writes node.number old new
  pub is_page : IsPage (new.pages node.number) node.number sizes.usable node.kind cells (right_kept node.kind node.right)

-- These bytes are cells of a kind, spelled so.
pub record AreSpelled (kind : PageKind) (usable : ℕ) (cells : List Spelled) (bytes : List (List ℕ)) : Type 0 where
  pub bytes_are : bytes_in cells ≡ bytes
  pub are_cells : AllByRecursion (λ cell. IsCell kind usable cell.bytes cell.view) cells

-- the cell that goes up behind a leaf of a table, by the leaf's last cell: it has that rowid, and names the leaf
abbrev pub IsEndDivider : ℕ → List ℕ → ℕ → List ℕ → Type 0
IsEndDivider usable end child divider = (view : CellView) × IsCell TableLeaf usable end view × (divider ≡ cell_bytes TableInterior (interior_cell child view.rowid) [])

-- the cell that goes up where cells are cut behind a front, which stands on a page of its own
abbrev pub IsDivider : PageKind → ℕ → List (List ℕ) → ℕ → ℕ → List ℕ → Type 0
IsDivider TableLeaf usable cells front child divider = IsEndDivider usable (slice_index_or cells (front - 1) []) child divider
IsDivider TableInterior usable cells front child divider = divider ≡ big_bytes 4 child ++ drop 4 (slice_index_or cells front [])
IsDivider IndexLeaf usable cells front child divider = divider ≡ big_bytes 4 child ++ slice_index_or cells front []
IsDivider IndexInterior usable cells front child divider = divider ≡ big_bytes 4 child ++ drop 4 (slice_index_or cells front [])

-- the kind of the pages above those of a kind
abbrev pub above_kind : PageKind → PageKind
above_kind TableLeaf = TableInterior
above_kind TableInterior = TableInterior
above_kind IndexLeaf = IndexInterior
above_kind IndexInterior = IndexInterior

-- the page that a cell names as its left child; a leaf's cell names none
abbrev pub left_child : PageKind → List ℕ → ℕ
left_child TableLeaf cell = 0
left_child TableInterior cell = number_at 0 4 cell
left_child IndexLeaf cell = 0
left_child IndexInterior cell = number_at 0 4 cell

module _ (sizes : Sizes) (levels : ℕ) (kind : TreeKind) where
  -- The fronts of cells were put on pages that were taken, and the last cells are left: these are spelled so.
  pub record SpreadsTo (cells : List Spelled) (dividers left : List (List ℕ)) (old new : Paged) : Type 0 where
    pub up : List Spelled
    pub back : List Spelled
    pub up_are : AreSpelled (interior_kind kind) sizes.usable up dividers
    pub back_are : AreSpelled (kind_at kind levels) sizes.usable back left
    pub spread : IsSpread sizes levels kind cells old new up back

  -- Cells stand in their page, and before it in a new page for each divider.
  pub record SettlesTo (page right : ℕ) (cells : List Spelled) (dividers : List (List ℕ)) (old new : Paged) : Type 0 where
    pub up : List Spelled
    pub up_are : AreSpelled (interior_kind kind) sizes.usable up dividers
    pub settled : IsSettled sizes levels kind page right cells old new up

-- the same of whatever tree has a page of this kind, and however its cells are read
abbrev pub Spreads : Sizes → PageKind → List (List ℕ) → List (List ℕ) → List (List ℕ) → Paged → Paged → Type 0
Spreads sizes page_kind bytes dividers left old new =
    (levels : ℕ) (kind : TreeKind) (cells : List Spelled) → kind_at kind levels ≡ page_kind → AreSpelled page_kind sizes.usable cells bytes
    → SpreadsTo sizes levels kind cells dividers left old new

-- the cells that a root's page is to have were moved out
abbrev pub MovesOut : Sizes → Node → List (List ℕ) → Paged → Paged → Type 0
MovesOut sizes root bytes old new =
    (levels : ℕ) (kind : TreeKind) (cells : List Spelled) → kind_at kind levels ≡ root.kind → AreSpelled root.kind sizes.usable cells bytes
    → IsMovedOut sizes levels kind root.number (right_kept root.kind root.right) cells old new

abbrev pub Settles : Sizes → Node → List (List ℕ) → List (List ℕ) → Paged → Paged → Type 0
Settles sizes node bytes dividers old new =
    (levels : ℕ) (kind : TreeKind) (cells : List Spelled) → kind_at kind levels ≡ node.kind → AreSpelled node.kind sizes.usable cells bytes
    → SettlesTo sizes levels kind node.number (right_kept node.kind node.right) cells dividers old new
