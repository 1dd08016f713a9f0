-- What a put leaves of a table's tree.
use Rattle.std.specs.Prelude.{◌≡◌, ◌⊎◌, ◌≤◌, ℕ, ℤ, false, List, [], Option, Some, None, length}
use Rattle.format_spec.specs.declared.CellView.{CellView}
use Rattle.format_spec.specs.declared.PageKind.TheVariants.{TableInterior, TableLeaf}
use Rattle.format_spec.specs.Cell.{IsCell}
use Rattle.page_spec.specs.Freelists.{Trunk}
use Rattle.tree_spec.specs.declared.TreeKind.TheVariants.{Table}
use Rattle.tree_spec.specs.Bounds.{InOrder}
use Rattle.tree_spec.specs.Trees.{Rooted, Member, TreeOf, list_in, page_of, root_of}
use Rattle.tree_spec.specs.Standing.{Sizes, Paged, IsHeld, Stands}
use Rattle.tree_spec.specs.Worlds.{IsFree, IsWorld, greatest_count, with_tree}
use Rattle.tree_spec.specs.Changes.{SameHeader, Turns}
use Rattle.put_spec.specs.Children.{PutIn}
use Rattle.put_spec.specs.Steps.{Spelled, PutAt, PutUnder, PutInto}
use Rattle.tree_walk.specs.declared.page.TreePage.{TreePage}
use Rattle.tree_level.specs.Changes.{Changes, ChangesRoot}
use Rattle.tree_level.specs.declared.cells.Change.{Change}
use Rattle.tree_level.specs.Levels.{AreSpelled}
use Rattle.tree_table.specs.Needs.{overflow_pages}

-- the bytes are a cell of a row with this rowid
abbrev pub IsRow : ℕ → ℤ → List ℕ → Type 0
IsRow usable rowid bytes = (view : CellView) × IsCell TableLeaf usable bytes view × (view.rowid ≡ rowid)

-- a cell was found, and has a rowid
abbrev pub HasRowidAt : ℤ → Option CellView → Type 0
HasRowidAt rowid (Some view) = view.rowid ≡ rowid
HasRowidAt rowid None = ⊥

-- A cell was made for a row: its overflow chain stands on pages that were taken, and it holds the payload.
pub record HasRow (sizes : Sizes) (rowid : ℤ) (payload bytes : List ℕ) (old : Paged) (trunks : List Trunk) (new : Paged) : Type 0 where
  pub view : CellView
  pub chain : List ℕ
  pub rest : List Trunk
  pub turns : Turns sizes old [] trunks new chain rest
  pub held : IsHeld sizes new TableLeaf (record { bytes = bytes; view = view; payload = payload; chain = chain })
  pub rowid_is : view.rowid ≡ rowid
  pub many : length chain ≡ overflow_pages sizes.usable (length payload)

-- so whatever freelist stood there
abbrev pub MakesRow : Sizes → ℤ → List ℕ → List ℕ → Paged → Paged → Type 0
MakesRow sizes rowid payload bytes old new = (trunks : List Trunk) → IsFree sizes old trunks → HasRow sizes rowid payload bytes old trunks new

-- A row was put below a page, whatever tree stands there and however its cells are read: these dividers came, and a row was replaced whose overflow chain has this first page and so many bytes.
abbrev pub PutsUnder : Sizes → ℕ → ℤ → List ℕ → List (List ℕ) → ℕ → ℕ → Paged → Paged → Type 0
PutsUnder sizes page rowid bytes dividers first count old new =
    (view : CellView) (up : List Spelled) → IsCell TableLeaf sizes.usable bytes view → view.rowid ≡ rowid → AreSpelled TableInterior sizes.usable up dividers
    → PutUnder sizes Table page (record { bytes = bytes; view = view }) old new up first count

-- the same of the page of a root
abbrev pub PutsInto : Sizes → ℕ → ℤ → List ℕ → ℕ → ℕ → Paged → Paged → Type 0
PutsInto sizes root rowid bytes first count old new =
    (view : CellView) → IsCell TableLeaf sizes.usable bytes view → view.rowid ≡ rowid → PutInto sizes Table root (record { bytes = bytes; view = view }) old new first count

-- the same of whatever table stands at a root with its rowids in order
abbrev pub PutsTable : Sizes → ℕ → ℤ → List ℕ → ℕ → ℕ → Paged → Paged → Type 0
PutsTable sizes root rowid bytes first count old new =
    (levels : ℕ) (tree : TreeOf levels) (low high : ℤ) (view : CellView) → page_of levels tree ≡ root → Stands sizes old Table levels tree → InOrder levels low high tree → IsCell TableLeaf sizes.usable bytes view
    → view.rowid ≡ rowid → PutAt sizes Table levels root (record { bytes = bytes; view = view }) old new first count

-- dividers come among the cells of an interior page, which keeps its right child
abbrev pub divided : TreePage → ℕ → Change
divided page at = record { at = at; goes = false; right = page.right }

-- dividers came from below a page and were put among its cells; where none came the page was not written
abbrev pub Raises : Sizes → TreePage → ℕ → List (List ℕ) → List (List ℕ) → Paged → Paged → Type 0
Raises sizes page at came dividers old new = ((came ≡ []) × (dividers ≡ []) × (new ≡ old)) ⊎ Changes sizes page (divided page at) came dividers old new

-- the same of the page of a root
abbrev pub RaisesRoot : Sizes → TreePage → ℕ → List (List ℕ) → Paged → Paged → Type 0
RaisesRoot sizes page at came old new = ((came ≡ []) × (new ≡ old)) ⊎ ChangesRoot sizes page (divided page at) came old new

-- A table has the row too, in place of the one of its rowid if there was one; all other trees are as they were, and of page 1's first 100 bytes only the size in pages and the freelist's fields may have changed.
pub record HasPut (sizes : Sizes) (front : List Rooted) (table : Rooted) (back : List Rooted) (row : Member) (old new : Paged) : Type 0 where
  pub now : Rooted
  pub trunks : List Trunk
  pub world : IsWorld sizes new (with_tree front now back trunks)
  pub root : root_of now ≡ root_of table
  pub kind_is : now.kind ≡ Table
  pub list : PutIn Table row (list_in table) (list_in now)
  pub header : SameHeader (old.pages 1) (new.pages 1)

-- so in every world with a table at this root
abbrev pub PutsRow : Sizes → ℕ → Member → ℕ → Paged → Paged → Type 0
PutsRow sizes root row limit old new =
    (front : List Rooted) (table : Rooted) (back : List Rooted) (trunks : List Trunk) → IsWorld sizes old (with_tree front table back trunks) → table.kind ≡ Table → root_of table ≡ root
    → limit ≤ greatest_count → HasPut sizes front table back row old new
