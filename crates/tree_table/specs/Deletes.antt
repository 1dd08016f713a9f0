-- What a delete leaves of a table's tree.
use Rattle.std.specs.Prelude.{◌≡◌, ◌≢◌, ◌⊎◌, ◌<◌, ◌≤◌, ℕ, ℤ, suc, true, List, [], ◌∷◌, Option, Some, None, length, slice_index_or, Contains}
use Rattle.std.specs.List.{All}
use Rattle.format_spec.specs.declared.PageKind.{PageKind}
use Rattle.format_spec.specs.declared.PageKind.TheVariants.{TableInterior, TableLeaf}
use Rattle.format_spec.specs.declared.CellView.{CellView}
use Rattle.format_spec.specs.Cell.{IsCell}
use Rattle.page_spec.specs.Freelists.{Trunk}
use Rattle.page_spec.specs.Rooms.{IsOneCell, right_kept}
use Rattle.tree_spec.specs.declared.TreeKind.TheVariants.{Table}
use Rattle.tree_spec.specs.Bounds.{InOrder}
use Rattle.tree_spec.specs.Trees.{IsFullRoot, Rooted, Member, TreeOf, list_in, page_of, root_of}
use Rattle.tree_spec.specs.Standing.{Sizes, Paged, Stands}
use Rattle.tree_spec.specs.Worlds.{IsWorld, greatest_count, with_tree}
use Rattle.tree_spec.specs.Changes.{SameHeader}
use Rattle.put_spec.specs.Steps.{Spelled, child_page}
use Rattle.delete_spec.specs.Deletes.{TakenOut}
use Rattle.delete_spec.specs.Steps.{DeleteAt, DeleteInto, EmptiesPage, GrowsUnder, MissingUnder, OpensUnder}
use Rattle.tree_walk.specs.declared.page.TreePage.{TreePage}
use Rattle.tree_level.specs.declared.cells.Change.{Change}
use Rattle.tree_level.specs.Changes.{HasSpelled, behind, changed}
use Rattle.tree_level.specs.Levels.{AreSpelled}
use Rattle.tree_table.specs.declared.opening.Opened.{Opened}
use Rattle.tree_table.specs.declared.taking.Found.{Found}
use Rattle.tree_table.specs.declared.taking.Left.{Left}
use Rattle.tree_table.specs.declared.taking.Left.TheVariants.{Cells, NoCell, OnlyChild}
use Rattle.tree_table.specs.declared.taking.Removed.{Removed}
use Rattle.tree_table.specs.declared.taking.Taken.{Taken}

-- how many pages a delete takes at most: two for each level of a tree, and some more (the lock-byte page counted)
abbrev pub delete_pages : ℕ
delete_pages = 54

-- the member that goes
abbrev pub gone_of : ℤ → Taken → Member
gone_of rowid row = record { rowid = rowid; payload = row.payload }

-- a page that was read names this page at an index, however its cells are read
abbrev pub IsChildAt : TreePage → ℕ → ℕ → Type 0
IsChildAt page at child = (usable : ℕ) (cells : List Spelled) → HasSpelled usable page cells → child ≡ child_page at cells page.right

-- one cell of an interior page, with this child and the rowid of the cell at an index of a page that was read
abbrev pub IsKey : TreePage → ℕ → ℕ → List (List ℕ) → Type 0
IsKey page at child bytes =
    (cell : Spelled) × (bytes ≡ cell.bytes ∷ []) × ((usable : ℕ) → IsCell TableInterior usable cell.bytes cell.view) × (cell.view.child ≡ child)
    × ((d : CellView) → cell.view.rowid ≡ (slice_index_or page.views at d).rowid)

-- a page loses the child at an index: the cell that names it, or with the last child the cell before it, whose child is the last one then
abbrev pub LosesLeaf : TreePage → ℕ → Change → Type 0
LosesLeaf page at change =
    ((at < length page.views) × (change ≡ record { at = at; goes = true; right = page.right }))
    ⊎ ((at ≡ length page.views) × (suc change.at ≡ at) × (change.goes ≡ true) × ((d : CellView) → change.right ≡ (slice_index_or page.views change.at d).child))

-- the pages of tables
abbrev pub IsOfTable : PageKind → Type 0
IsOfTable kind = (kind ≡ TableLeaf) ⊎ (kind ≡ TableInterior)

-- no cell is left of a page
abbrev pub IsEmptied : TreePage → Opened → Type 0
IsEmptied page opened = (opened.comes.items ≡ []) × (length page.views ≡ behind 0 opened.change.goes)

-- a page has a cell, and none goes up
abbrev pub IsStill : Left → Type 0
IsStill (Cells dividers) = dividers.items ≡ []
IsStill NoCell = ⊥
IsStill (OnlyChild only) = ⊥

-- the cells that go up are cells, and one at most
abbrev pub IsFit : ℕ → Left → Type 0
IsFit usable (Cells dividers) = All (IsOneCell TableInterior usable) dividers.items × (length dividers.items ≤ 1)
IsFit usable NoCell = Unit {0}
IsFit usable (OnlyChild only) = Unit {0}

module _ (sizes : Sizes) where
  module _ (rowid : ℤ) (row : Taken) where
    -- a page that was read is to have the cells that a change makes of its own, whatever tree stands there and however the cells are read
    abbrev pub Opens : TreePage → Change → List (List ℕ) → Paged → Paged → Type 0
    Opens page change bytes old new =
        (cells comes : List Spelled) → HasSpelled sizes.usable page cells → AreSpelled page.kind sizes.usable comes bytes
        → OpensUnder sizes (gone_of rowid row) page.number (changed cells change.at change.goes comes) (right_kept page.kind change.right) old new row.old.first row.old.bytes

    -- what a delete left of a page and those below it
    abbrev pub Leaves : ℕ → Left → Paged → Paged → Type 0
    Leaves page (Cells dividers) old new =
        (up : List Spelled) → AreSpelled TableInterior sizes.usable up dividers.items → GrowsUnder sizes (gone_of rowid row) page old new up row.old.first row.old.bytes
    Leaves page NoCell old new = EmptiesPage sizes (gone_of rowid row) TableLeaf page 0 old new row.old.first row.old.bytes
    Leaves page (OnlyChild only) old new = EmptiesPage sizes (gone_of rowid row) TableInterior page only old new row.old.first row.old.bytes

    -- what it left of the page of a root
    abbrev pub LeavesRoot : ℕ → Paged → Paged → Type 0
    LeavesRoot root old new = DeleteInto sizes (gone_of rowid row) root old new row.old.first row.old.bytes

  -- the row of a rowid was looked for in a leaf
  abbrev pub IsFound : ℤ → TreePage → Paged → Option Found → Type 0
  IsFound rowid page base None = base.pages page.number ≡ page.bytes → MissingUnder sizes page.number rowid base
  IsFound rowid page base (Some found) = base.pages page.number ≡ page.bytes → Opens rowid found.row page found.change [] base base

  -- A step is told of whatever row goes and whatever pages stood before: what is known of them before it, and then is known behind it.

  -- a leaf that is to lose a cell is left so
  abbrev pub Shrinks : TreePage → Change → Left → Paged → Paged → Type 0
  Shrinks page change left old new = (rowid : ℤ) (row : Taken) → old.pages page.number ≡ page.bytes → Opens rowid row page change [] old old → Leaves rowid row page.number left old new

  -- a page whose child is left so is opened
  abbrev pub OpensOver : TreePage → ℕ → Left → Opened → Paged → Paged → Type 0
  OpensOver page child below opened mid new =
      (rowid : ℤ) (row : Taken) (old : Paged) → old.pages page.number ≡ page.bytes → Leaves rowid row child below old mid → Opens rowid row page opened.change opened.comes.items old new

  -- a page that is opened is left so
  abbrev pub Closes : TreePage → Opened → Left → Paged → Paged → Type 0
  Closes page opened left mid new =
      (rowid : ℤ) (row : Taken) (old : Paged) → old.pages page.number ≡ page.bytes → Opens rowid row page opened.change opened.comes.items old mid → Leaves rowid row page.number left old new

  abbrev pub ClosesRoot : TreePage → Opened → Paged → Paged → Type 0
  ClosesRoot page opened mid new =
      (rowid : ℤ) (row : Taken) (old : Paged) → old.pages page.number ≡ page.bytes → Opens rowid row page opened.change opened.comes.items old mid → LeavesRoot rowid row page.number old new

  -- a page whose child is left so is left so itself
  abbrev pub Passes : TreePage → ℕ → Left → Left → Paged → Paged → Type 0
  Passes page child below left mid new = (rowid : ℤ) (row : Taken) (old : Paged) → old.pages page.number ≡ page.bytes → Leaves rowid row child below old mid → Leaves rowid row page.number left old new

  abbrev pub PassesRoot : TreePage → ℕ → Left → Paged → Paged → Type 0
  PassesRoot page child below mid new = (rowid : ℤ) (row : Taken) (old : Paged) → old.pages page.number ≡ page.bytes → Leaves rowid row child below old mid → LeavesRoot rowid row page.number old new

  -- The row of a rowid is out of whatever tree stands at a page, or there is none, and nothing changed.
  abbrev pub DeletesUnder : ℕ → ℤ → Option Removed → Paged → Paged → Type 0
  DeletesUnder page rowid None old new = (new ≡ old) × MissingUnder sizes page rowid old
  DeletesUnder page rowid (Some removed) old new = Leaves rowid removed.row page removed.left old new

  -- the same of the page of a root
  abbrev pub DeletesInto : ℕ → ℤ → Option Taken → Paged → Paged → Type 0
  DeletesInto root rowid None old new = (new ≡ old) × MissingUnder sizes root rowid old
  DeletesInto root rowid (Some row) old new = LeavesRoot rowid row root old new

-- The row is out of whatever table stands at a root with its rowids in order and a cell in each page that needs one.
abbrev pub DeletesTable : Sizes → ℕ → ℤ → Taken → Paged → Paged → Type 0
DeletesTable sizes root rowid row old new =
    (levels : ℕ) (tree : TreeOf levels) (low high : ℤ) → page_of levels tree ≡ root → Stands sizes old Table levels tree → InOrder levels low high tree → IsFullRoot levels tree
    → DeleteAt sizes (gone_of rowid row) levels root old new row.old.first row.old.bytes

-- It is, or there is none, and nothing changed.
abbrev pub DeletesFrom : Sizes → ℕ → ℤ → Option Taken → Paged → Paged → Type 0
DeletesFrom sizes root rowid None old new = (new ≡ old) × MissingUnder sizes root rowid old
DeletesFrom sizes root rowid (Some row) old new = DeletesTable sizes root rowid row old new

-- A table has lost a row; all other trees are as they were, no page is lost, and of page 1's first 100 bytes only the size in pages and the freelist's fields may have changed.
pub record HasDeleted (sizes : Sizes) (front : List Rooted) (table : Rooted) (back : List Rooted) (gone : Member) (old new : Paged) : Type 0 where
  pub now : Rooted
  pub trunks : List Trunk
  pub world : IsWorld sizes new (with_tree front now back trunks)
  pub root : root_of now ≡ root_of table
  pub kind_is : now.kind ≡ Table
  pub list : TakenOut gone (list_in table) (list_in now)
  pub none : (m : Member) → Contains (list_in now) m → m.rowid ≢ gone.rowid
  pub header : SameHeader (old.pages 1) (new.pages 1)

-- So in every world with a table at this root. Where no payload is answered the table has no row of the rowid, and nothing changed.
abbrev pub DeletesRow : Sizes → ℕ → ℤ → ℕ → Option (List ℕ) → Paged → Paged → Type 0
DeletesRow sizes root rowid limit None old new =
    (new ≡ old)
    × ((front : List Rooted) (table : Rooted) (back : List Rooted) (trunks : List Trunk) → IsWorld sizes old (with_tree front table back trunks) → table.kind ≡ Table → root_of table ≡ root
    → (m : Member) → Contains (list_in table) m → m.rowid ≢ rowid)
DeletesRow sizes root rowid limit (Some payload) old new =
    (front : List Rooted) (table : Rooted) (back : List Rooted) (trunks : List Trunk) → IsWorld sizes old (with_tree front table back trunks) → table.kind ≡ Table → root_of table ≡ root
    → limit ≤ greatest_count → HasDeleted sizes front table back (record { rowid = rowid; payload = payload }) old new
