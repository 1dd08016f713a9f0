-- The leaf of a table in which a rowid belongs, and a row that is put into it.
use Rattle.std.specs.Prelude.{◌≡◌, ℕ, ℤ, zero, suc, List, []}
use Rattle.std.specs.List.{insert}
use Rattle.format_spec.specs.declared.CellView.{CellView}
use Rattle.format_spec.specs.declared.PageKind.{PageKind}
use Rattle.format_spec.specs.declared.PageKind.TheVariants.{TableLeaf}
use Rattle.format_spec.specs.Cell.{IsCell}
use Rattle.format_spec.specs.Page.{IsPage}
use Rattle.tree_spec.specs.declared.TreeKind.TheVariants.{Table}
use Rattle.tree_spec.specs.Bounds.{InOrder}
use Rattle.tree_spec.specs.Trees.{TreeOf, cells_behind, page_of}
use Rattle.tree_spec.specs.Standing.{Sizes, Paged, Stands}
use Rattle.put_spec.specs.Children.{Belongs, Meets, child_at, views_of}
use Rattle.put_spec.specs.Steps.{PutBelow, Spelled, bytes_in, child_page, views_in}
use Rattle.page_shape.specs.Shapes.{AreCells}
use Rattle.table_leaf.specs.Searches.{Climbs, rowids_in}

-- the leaf of a tree in which a rowid belongs, by its page: at each level it lies below the child at the place where the rowid belongs
abbrev pub IsLeafOf : ℤ → (levels : ℕ) → TreeOf levels → ℕ → Type 0
IsLeafOf rowid zero tree leaf = leaf ≡ tree.page
IsLeafOf rowid (suc levels) tree leaf = (at : ℕ) × Belongs rowid at (views_of (cells_behind tree.children)) × IsLeafOf rowid levels (child_at at tree.children tree.last) leaf

-- whatever table stands at a page with its rowids in order, this is its leaf in which a rowid belongs
abbrev pub LeadsTo : Sizes → Paged → ℤ → ℕ → ℕ → Type 0
LeadsTo sizes base rowid page leaf =
    (levels : ℕ) (tree : TreeOf levels) (low high : ℤ) → page_of levels tree ≡ page → Stands sizes base Table levels tree → InOrder levels low high tree → IsLeafOf rowid levels tree leaf

-- where the rowids of a page do not fall, it names this child at the place where a rowid belongs
abbrev pub Names : List ℕ → ℕ → ℕ → PageKind → ℤ → ℕ → Type 0
Names page number usable kind rowid child =
    (cells : List Spelled) (right : ℕ) (bound : ℤ) → AreCells page number usable kind cells right → Climbs bound (rowids_in cells) → (at : ℕ) × Belongs rowid at (views_in cells) × (child ≡ child_page at cells right)

-- where the rowids of a leaf do not fall, and it has no cell of a rowid, a cell was put among its cells where that belongs
abbrev pub PlacesRow : ℕ → ℕ → ℤ → List ℕ → List ℕ → List ℕ → Type 0
PlacesRow number usable rowid cell old new =
    (cells : List Spelled) (right : ℕ) (bound : ℤ) → AreCells old number usable TableLeaf cells right → Climbs bound (rowids_in cells)
    → (at : ℕ) × Belongs rowid at (views_in cells) × ¬ Meets rowid at (views_in cells) × IsPage new number usable TableLeaf (insert (bytes_in cells) at cell) right

-- A row was put into whatever table stands at a page with its rowids in order, and no page but one of its leaves was changed.
abbrev pub PutsAlone : Sizes → ℕ → ℤ → List ℕ → Paged → Paged → Type 0
PutsAlone sizes page rowid bytes old new =
    (levels : ℕ) (tree : TreeOf levels) (low high : ℤ) (view : CellView) → page_of levels tree ≡ page → Stands sizes old Table levels tree → InOrder levels low high tree → IsCell TableLeaf sizes.usable bytes view
    → view.rowid ≡ rowid → PutBelow sizes Table levels page (record { bytes = bytes; view = view }) old new [] 0 0
