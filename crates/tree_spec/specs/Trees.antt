-- B-trees as values (Database File Format, section 1.6): the shape is data, and nothing here speaks of the bytes of a page.
use Rattle.std.specs.Prelude.{◌≢◌, ℕ, ℤ, zero, suc, ◌+◌, ◌<◌, List, [], ◌∷◌, ◌++◌, length, map}
use Rattle.std.specs.List.{flat_map, AllByRecursion}
use Rattle.format_spec.specs.declared.PageKind.{PageKind}
use Rattle.format_spec.specs.declared.PageKind.TheVariants.{IndexInterior, TableInterior, IndexLeaf, TableLeaf}
use Rattle.format_spec.specs.declared.CellView.{CellView}
use Rattle.tree_spec.specs.declared.TreeKind.{TreeKind}
use Rattle.tree_spec.specs.declared.TreeKind.TheVariants.{Table, Index}

abbrev pub leaf_kind : TreeKind → PageKind
leaf_kind Table = TableLeaf
leaf_kind Index = IndexLeaf

abbrev pub interior_kind : TreeKind → PageKind
interior_kind Table = TableInterior
interior_kind Index = IndexInterior

-- the kind of a page that stands so many levels above the leaves of its tree
abbrev pub kind_at : TreeKind → ℕ → PageKind
kind_at kind zero = leaf_kind kind
kind_at kind (suc levels) = interior_kind kind

-- a cell of a page: its bytes and what they say, its payload whole, and the pages of its overflow chain
pub record TreeCell : Type 0 where
  pub bytes : List ℕ
  pub view : CellView
  pub payload : List ℕ
  pub chain : List ℕ

-- a leaf, by its page's number and its cells
pub record Leaf : Type 0 where
  pub page : ℕ
  pub cells : List TreeCell

-- an interior page, by its number: each left child with the cell that names it, and the right child
pub record Interior (Child : Type 0) : Type 0 where
  pub page : ℕ
  pub children : List (Child × TreeCell)
  pub last : Child

-- a tree with so many levels above its leaves: all leaves have one depth, by the type
abbrev pub TreeOf : ℕ → Type 0
TreeOf zero = Leaf
TreeOf (suc levels) = Interior (TreeOf levels)

-- the number of a tree's own page, the topmost
abbrev pub page_of : (levels : ℕ) → TreeOf levels → ℕ
page_of zero tree = tree.page
page_of (suc levels) tree = tree.page

-- the cells behind the children of an interior page
abbrev pub cells_behind : {Child : Type 0} → List (Child × TreeCell) → List TreeCell
cells_behind children = map (λ child. child.1) children

-- the cells of a tree's own page
abbrev pub own_cells : (levels : ℕ) → TreeOf levels → List TreeCell
own_cells zero tree = tree.cells
own_cells (suc levels) tree = cells_behind tree.children

-- the right child of a tree's own page; a leaf has none
abbrev pub own_right : (levels : ℕ) → TreeOf levels → ℕ
own_right zero tree = 0
own_right (suc levels) tree = page_of levels tree.last

-- the pages of the overflow chains of these cells
abbrev pub chain_pages : List TreeCell → List ℕ
chain_pages cells = flat_map (λ cell. cell.chain) cells

-- all pages of a tree: its own, then those of each child and of the chain of the cell behind it
abbrev pub pages_of : (levels : ℕ) → TreeOf levels → List ℕ
pages_of zero tree = tree.page ∷ chain_pages tree.cells
pages_of (suc levels) tree = tree.page ∷ (flat_map (λ child. pages_of levels child.0 ++ child.1.chain) tree.children ++ pages_of levels tree.last)

-- the pages of trees beside one another: each but the last has a cell behind it
abbrev pub pages_beside : (levels : ℕ) → List (TreeOf levels × TreeCell) → TreeOf levels → List ℕ
pages_beside levels children last = flat_map (λ child. pages_of levels child.0 ++ child.1.chain) children ++ pages_of levels last

-- all pages of a tree but its own
abbrev pub pages_below : (levels : ℕ) → TreeOf levels → List ℕ
pages_below zero tree = chain_pages tree.cells
pages_below (suc levels) tree = pages_beside levels tree.children tree.last

-- a member of a tree's list: a row of a table by its rowid and its record, or an entry of an index, whose rowid is 0
pub record Member : Type 0 where
  pub rowid : ℤ
  pub payload : List ℕ

abbrev pub member : TreeCell → Member
member cell = record { rowid = cell.view.rowid; payload = cell.payload }

-- what the cell of an interior page gives to the list: in an index its own entry, in a table nothing
abbrev pub between : TreeKind → TreeCell → List Member
between Table cell = []
between Index cell = member cell ∷ []

-- the members of a tree from the left to the right
abbrev pub list_of : TreeKind → (levels : ℕ) → TreeOf levels → List Member
list_of kind zero tree = map member tree.cells
list_of kind (suc levels) tree = flat_map (λ child. list_of kind levels child.0 ++ between kind child.1) tree.children ++ list_of kind levels tree.last

-- the members of trees beside one another
abbrev pub list_beside : TreeKind → (levels : ℕ) → List (TreeOf levels × TreeCell) → TreeOf levels → List Member
list_beside kind levels children last = flat_map (λ child. list_of kind levels child.0 ++ between kind child.1) children ++ list_of kind levels last

-- each page of a tree but its own has a cell
abbrev pub IsFullBelow : (levels : ℕ) → TreeOf levels → Type 0
IsFullBelow zero tree = Unit {0}
IsFullBelow (suc levels) tree =
    AllByRecursion (λ child. (0 < length (own_cells levels child.0)) × IsFullBelow levels child.0) tree.children
    × ((0 < length (own_cells levels tree.last)) × IsFullBelow levels tree.last)

-- each page of a tree has a cell
abbrev pub IsFull : (levels : ℕ) → TreeOf levels → Type 0
IsFull levels tree = (0 < length (own_cells levels tree)) × IsFullBelow levels tree

-- each page of a root's tree has a cell, but for a root that is a leaf or page 1
pub record IsFullRoot (levels : ℕ) (tree : TreeOf levels) : Type 0 where
  pub below : IsFullBelow levels tree
  pub root : 0 < levels → page_of levels tree ≢ 1 → 0 < length (own_cells levels tree)

-- a tree of either kind and of any number of levels
pub record Rooted : Type 0 where
  pub kind : TreeKind
  pub levels : ℕ
  pub tree : TreeOf levels

abbrev pub root_of : Rooted → ℕ
root_of rooted = page_of rooted.levels rooted.tree

abbrev pub pages_in : Rooted → List ℕ
pages_in rooted = pages_of rooted.levels rooted.tree

abbrev pub list_in : Rooted → List Member
list_in rooted = list_of rooted.kind rooted.levels rooted.tree

-- the most pages from a root to a leaf
abbrev pub greatest_depth : ℕ
greatest_depth = 25

-- how many pages stand from the root to a leaf, both counted
abbrev pub depth_of : Rooted → ℕ
depth_of rooted = rooted.levels + 1
