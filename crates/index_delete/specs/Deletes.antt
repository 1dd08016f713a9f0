-- What a delete leaves of the pages of an index.
use Rattle.std.specs.Prelude.{◌≡◌, ◌≤◌, ◌+◌, ◌*◌, ℕ, suc, Bool, true, false, List, [], length}
use Rattle.std.specs.List.{All}
use Rattle.format_spec.specs.declared.PageKind.TheVariants.{IndexInterior, IndexLeaf}
use Rattle.page_spec.specs.Rooms.{IsOneCell, right_kept}
use Rattle.tree_spec.specs.Standing.{Sizes, Paged}
use Rattle.put_spec.specs.Steps.{Spelled, child_page}
use Rattle.index_delete_spec.specs.Steps.{DeleteInto, EmptiesPage, GrowsUnder, IsOfIndex, OpensUnder}
use Rattle.tree_walk.specs.declared.page.TreePage.{TreePage}
use Rattle.tree_level.specs.declared.cells.Change.{Change}
use Rattle.tree_level.specs.Changes.{HasSpelled, behind, changed}
use Rattle.tree_level.specs.Levels.{AreSpelled}
use Rattle.index_cells.specs.declared.cells.Taken.{Taken}
use Rattle.index_cells.specs.Respelling.{IsCellAt, cell_of}
use Rattle.index_delete.specs.declared.levels.Left.{Left}
use Rattle.index_delete.specs.declared.levels.Left.TheVariants.{Cells, NoCell}
use Rattle.index_delete.specs.declared.levels.Opened.{Opened}

-- a page that was read names this page at an index, however its cells are read
abbrev pub IsChildAt : TreePage → ℕ → ℕ → Type 0
IsChildAt page at child = (usable : ℕ) (cells : List Spelled) → HasSpelled usable page cells → child ≡ child_page at cells page.right

-- no cell is left of a page
abbrev pub IsEmptied : TreePage → Opened → Type 0
IsEmptied page opened = (opened.comes.items ≡ []) × (length page.views ≡ behind 0 opened.change.goes)

-- a page has a cell, and none goes up
abbrev pub IsStill : Left → Type 0
IsStill (Cells dividers) = dividers.items ≡ []
IsStill (NoCell emptied) = ⊥

-- the cells that go up are cells, and two at most; an emptied leaf has no child
abbrev pub IsFit : ℕ → Left → Type 0
IsFit usable (Cells dividers) = All (IsOneCell IndexInterior usable) dividers.items × (length dividers.items ≤ 2)
IsFit usable (NoCell emptied) = IsOfIndex emptied.kind × (emptied.kind ≡ IndexLeaf → emptied.only ≡ 0)

-- a page has a cell
abbrev pub HasCell : Left → Type 0
HasCell (Cells dividers) = Unit {0}
HasCell (NoCell emptied) = ⊥

-- what comes to a page from a child that has a cell is what goes up from it
abbrev pub Brings : Left → Opened → Type 0
Brings (Cells dividers) opened = opened.comes.items ≡ dividers.items
Brings (NoCell emptied) opened = Unit {0}

-- How many pages are taken at most: where a page is opened, by what was left of its child; where it is closed, by how it is left; for both; and below a page that has so many levels below it.

abbrev pub opened_most : Left → Opened → ℕ
opened_most (Cells dividers) opened = 0
opened_most (NoCell emptied) opened = length opened.comes.items

abbrev pub closed_most : Left → ℕ
closed_most (Cells dividers) = 2
closed_most (NoCell emptied) = 0

abbrev pub passed_most : Left → Left → ℕ
passed_most (Cells dividers) left = 2
passed_most (NoCell emptied) (Cells dividers) = 4
passed_most (NoCell emptied) (NoCell also) = 0

abbrev pub below_most : ℕ → Left → ℕ
below_most levels (Cells dividers) = 2 * levels + 2
below_most levels (NoCell emptied) = 0

-- and at a root
abbrev pub root_most : Left → ℕ
root_most (Cells dividers) = 3
root_most (NoCell emptied) = 5

module _ (sizes : Sizes) where
  -- `row` is the cell that is taken out; where `ends`, it is the last one below the page.
  module _ (ends : Bool) (row : Taken) where
    -- a page that was read is to have the cells that a change makes of its own, whatever tree stands there and however the cells are read
    abbrev pub Opens : TreePage → Change → List (List ℕ) → Paged → Paged → Type 0
    Opens page change bytes old new =
        (cells comes : List Spelled) → HasSpelled sizes.usable page cells → AreSpelled page.kind sizes.usable comes bytes
        → OpensUnder sizes ends (cell_of row) page.number (changed cells change.at change.goes comes) (right_kept page.kind change.right) old new

    -- what a delete left of a page and those below it
    abbrev pub Leaves : ℕ → Left → Paged → Paged → Type 0
    Leaves page (Cells dividers) old new = (up : List Spelled) → AreSpelled IndexInterior sizes.usable up dividers.items → GrowsUnder sizes ends (cell_of row) page old new up
    Leaves page (NoCell emptied) old new = EmptiesPage sizes ends (cell_of row) emptied.kind page emptied.only old new

  -- A step is told of whatever cell goes and whatever pages stood before: what is known of them before it, and then is known behind it. Where only the last cell may go, the child at the index is the last one.

  -- a page whose child at an index is left so is opened
  abbrev pub OpensOver : TreePage → ℕ → ℕ → Left → Opened → Paged → Paged → Type 0
  OpensOver page at child below opened mid new =
      (ends : Bool) (row : Taken) (old : Paged) → old.pages page.number ≡ page.bytes → (ends ≡ true → at ≡ length page.views) → Leaves ends row child below old mid
      → Opens ends row page opened.change opened.comes.items old new

  -- so is one of which the cell at an index goes, where the last cell below its child takes its place
  abbrev pub ReplacesOver : TreePage → ℕ → Taken → ℕ → Left → Opened → Paged → Paged → Type 0
  ReplacesOver page at up child below opened mid new =
      (gone : Taken) (old : Paged) → old.pages page.number ≡ page.bytes → IsCellAt page at gone → Leaves true up child below old mid → Opens false gone page opened.change opened.comes.items old new

  -- a page that is opened is left so
  abbrev pub Closes : TreePage → Opened → Left → Paged → Paged → Type 0
  Closes page opened left mid new =
      (ends : Bool) (row : Taken) (old : Paged) → old.pages page.number ≡ page.bytes → Opens ends row page opened.change opened.comes.items old mid → Leaves ends row page.number left old new

  -- a page whose child is left so is left so itself
  abbrev pub Passes : TreePage → ℕ → ℕ → Left → Left → Paged → Paged → Type 0
  Passes page at child below left mid new =
      (ends : Bool) (row : Taken) (old : Paged) → old.pages page.number ≡ page.bytes → (ends ≡ true → at ≡ length page.views) → Leaves ends row child below old mid → Leaves ends row page.number left old new

  -- a page of which the cell at an index goes, where the last cell below its child takes its place, is left so
  abbrev pub Replaces : TreePage → ℕ → Taken → ℕ → Left → Left → Paged → Paged → Type 0
  Replaces page at up child below left mid new =
      (gone : Taken) (old : Paged) → old.pages page.number ≡ page.bytes → IsCellAt page at gone → Leaves true up child below old mid → Leaves false gone page.number left old new

  -- a leaf that loses the cell at an index is left so
  abbrev pub Shrinks : TreePage → ℕ → Left → Paged → Paged → Type 0
  Shrinks page at left old new =
      (ends : Bool) (row : Taken) → old.pages page.number ≡ page.bytes → IsCellAt page at row → (ends ≡ true → suc at ≡ length page.views) → Leaves ends row page.number left old new

  -- The same of the page of a root, where any cell may go.

  abbrev pub ClosesRoot : TreePage → Opened → Paged → Paged → Type 0
  ClosesRoot page opened mid new =
      (row : Taken) (old : Paged) → old.pages page.number ≡ page.bytes → Opens false row page opened.change opened.comes.items old mid → DeleteInto sizes (cell_of row) page.number old new

  abbrev pub PassesRoot : TreePage → ℕ → Left → Paged → Paged → Type 0
  PassesRoot page child below mid new = (row : Taken) (old : Paged) → old.pages page.number ≡ page.bytes → Leaves false row child below old mid → DeleteInto sizes (cell_of row) page.number old new

  abbrev pub ReplacesRoot : TreePage → ℕ → Taken → ℕ → Left → Paged → Paged → Type 0
  ReplacesRoot page at up child below mid new =
      (gone : Taken) (old : Paged) → old.pages page.number ≡ page.bytes → IsCellAt page at gone → Leaves true up child below old mid → DeleteInto sizes (cell_of gone) page.number old new

  abbrev pub ShrinksRoot : TreePage → ℕ → Paged → Paged → Type 0
  ShrinksRoot page at old new = (row : Taken) → old.pages page.number ≡ page.bytes → IsCellAt page at row → DeleteInto sizes (cell_of row) page.number old new
