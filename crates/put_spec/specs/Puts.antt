-- What a put makes of a tree, level by level.
use Rattle.std.specs.Prelude.{◌≡◌, ℕ, ℤ, zero, suc, ◌+◌, ◌<◌, ◌<ℤ◌, ◌≤ℤ◌, List, [], ◌∷◌, ◌++◌, length}
use Rattle.std.specs.List.{AllByRecursion}
use Rattle.page_spec.specs.Freelists.{Trunk}
use Rattle.page_spec.specs.Chains.{IsChain}
use Rattle.tree_spec.specs.declared.TreeKind.{TreeKind}
use Rattle.tree_spec.specs.declared.TreeKind.TheVariants.{Table, Index}
use Rattle.tree_spec.specs.Trees.{TreeCell, TreeOf, Leaf, Interior, Rooted, leaf_kind, page_of, own_cells, pages_of, pages_beside, pages_in, member, list_of, list_in, list_beside, IsFull, IsFullBelow, IsFullRoot, root_of}
use Rattle.tree_spec.specs.Bounds.{BesideIn, InOrder, below_rowids, greatest_rowid}
use Rattle.tree_spec.specs.Standing.{Sizes, Paged, IsHeld, HasOwnPage, HasBelow, Stands, StandsBefore}
use Rattle.tree_spec.specs.Changes.{Within, Turns}
use Rattle.put_spec.specs.Children.{PutIn, child_at, interior_with}

-- the rowids of a table's tree lie within bounds; an index's tree has none
abbrev pub InBounds : TreeKind → (levels : ℕ) → ℤ → ℤ → TreeOf levels → Type 0
InBounds Table levels low high tree = InOrder levels low high tree
InBounds Index levels low high tree = Unit {0}

-- What stands before a put: the pages, a tree in them, the freelist, and the cell in hand, whose overflow chain is written.
pub record Before (levels : ℕ) : Type 0 where
  pub base : Paged
  pub tree : TreeOf levels
  pub trunks : List Trunk
  pub cell : TreeCell

-- What stands after it: new siblings on the left, what the tree's own page has become, the freelist, and the overflow chain of a cell that was replaced, by its first page, its bytes and its pages.
pub record After (levels : ℕ) : Type 0 where
  pub base : Paged
  pub siblings : List (TreeOf levels × TreeCell)
  pub home : TreeOf levels
  pub trunks : List Trunk
  pub first : ℕ
  pub bytes : ℕ
  pub chain : List ℕ

-- the pages in hand before a put and after it
abbrev pub hand_before : {levels : ℕ} → Before levels → List ℕ
hand_before {levels} before = pages_of levels before.tree ++ before.cell.chain

abbrev pub hand_after : {levels : ℕ} → After levels → List ℕ
hand_after {levels} after = pages_beside levels after.siblings after.home ++ after.chain

-- a put of a cell into the tree of a root
abbrev pub before_of : (old : Rooted) → Paged → List Trunk → TreeCell → Before old.levels
before_of old base trunks cell = record { base = base; tree = old.tree; trunks = trunks; cell = cell }

-- the rowid of a table's cell has 64 bits; an index's cell has none
abbrev pub HasRowid : TreeKind → TreeCell → Type 0
HasRowid Table cell = (below_rowids <ℤ cell.view.rowid) × (cell.view.rowid ≤ℤ greatest_rowid)
HasRowid Index cell = Unit {0}

-- the part of a put below the child at a place
abbrev pub child_before : (levels : ℕ) → Before (suc levels) → ℕ → Before levels
child_before levels before i = record { base = before.base; tree = child_at i before.tree.children before.tree.last; trunks = before.trunks; cell = before.cell }

-- an interior page whose child at a place has had the put
abbrev pub interior_after : (levels : ℕ) → Before (suc levels) → ℕ → After levels → After (suc levels)
interior_after levels before i after = record {
  base = after.base;
  siblings = [];
  home = interior_with levels before.tree i after.siblings after.home;
  trunks = after.trunks;
  first = after.first;
  bytes = after.bytes;
  chain = after.chain;
}

-- a leaf whose cells have become these
abbrev pub leaf_after : Before zero → List TreeCell → ℕ → ℕ → List ℕ → After zero
leaf_after before cells first bytes chain = record {
  base = before.base;
  siblings = [];
  home = record { page = before.tree.page; cells = cells };
  trunks = before.trunks;
  first = first;
  bytes = bytes;
  chain = chain;
}

-- A leaf of a table is cut: its front goes to another page, behind which stands a divider with the rowid of the front's last cell.
pub record IsTableLeafCut (whole left : Leaf) (divider : TreeCell) (right : Leaf) : Type 0 where
  pub front : List TreeCell
  pub end : TreeCell
  pub cells : whole.cells ≡ left.cells ++ right.cells
  pub ends : left.cells ≡ front ++ end ∷ []
  pub page : right.page ≡ whole.page
  pub rowid : divider.view.rowid ≡ end.view.rowid
  pub payload : divider.payload ≡ []
  pub chain : divider.chain ≡ []

-- A leaf of an index is cut at a cell, whose entry goes up.
pub record IsIndexLeafCut (whole left : Leaf) (divider : TreeCell) (right : Leaf) : Type 0 where
  pub middle : TreeCell
  pub cells : whole.cells ≡ left.cells ++ middle ∷ right.cells
  pub page : right.page ≡ whole.page
  pub rowid : divider.view.rowid ≡ middle.view.rowid
  pub payload : divider.payload ≡ middle.payload
  pub chain : divider.chain ≡ middle.chain

-- An interior page is cut at a cell, which goes up: the child before it is the last one of the front.
pub record IsInteriorCut {Child : Type 0} (whole left : Interior Child) (divider : TreeCell) (right : Interior Child) : Type 0 where
  pub middle : TreeCell
  pub children : whole.children ≡ left.children ++ (left.last, middle) ∷ right.children
  pub last : whole.last ≡ right.last
  pub page : right.page ≡ whole.page
  pub rowid : divider.view.rowid ≡ middle.view.rowid
  pub payload : divider.payload ≡ middle.payload
  pub chain : divider.chain ≡ middle.chain

-- a tree is cut into a new one on the left, the cell behind that, and what keeps its page
abbrev pub IsCut : (levels : ℕ) → TreeKind → TreeOf levels → TreeOf levels → TreeCell → TreeOf levels → Type 0
IsCut zero Table whole left divider right = IsTableLeafCut whole left divider right
IsCut zero Index whole left divider right = IsIndexLeafCut whole left divider right
IsCut (suc levels) kind whole left divider right = IsInteriorCut whole left divider right

-- one sibling more, cut off the tree's own page
abbrev pub cut_after : (levels : ℕ) → After levels → TreeOf levels → TreeCell → TreeOf levels → Paged → List Trunk → After levels
cut_after levels after left divider right base trunks = record {
  base = base;
  siblings = after.siblings ++ (left, divider) ∷ [];
  home = right;
  trunks = trunks;
  first = after.first;
  bytes = after.bytes;
  chain = after.chain;
}

-- a tree whose own page is another one
abbrev pub moved : (levels : ℕ) → ℕ → TreeOf levels → TreeOf levels
moved zero page tree = record { page = page; cells = tree.cells }
moved (suc levels) page tree = record { page = page; children = tree.children; last = tree.last }

-- a root's page has only the cells between siblings, and what it had stands in a new page
abbrev pub deeper : (levels : ℕ) → After levels → ℕ → TreeOf (suc levels)
deeper levels after fresh = record { page = page_of levels after.home; children = after.siblings; last = moved levels fresh after.home }

module _ (sizes : Sizes) (kind : TreeKind) where
  -- what a put needs: the tree stands, and the cell in hand is one of a leaf
  pub record IsReady (levels : ℕ) (before : Before levels) : Type 0 where
    pub within : Within sizes before.base (hand_before before) before.trunks
    pub stands : Stands sizes before.base kind levels before.tree
    pub held : IsHeld sizes before.base (leaf_kind kind) before.cell

  -- the put is done but for the tree's own page, which is still to be written
  pub record IsOpened (levels : ℕ) (before : Before levels) (after : After levels) : Type 0 where
    pub within : Within sizes before.base (hand_before before) before.trunks
    pub turns : Turns sizes before.base (hand_before before) before.trunks after.base (hand_after after) after.trunks
    pub page : page_of levels after.home ≡ page_of levels before.tree
    pub siblings : AllByRecursion (StandsBefore sizes after.base kind levels) after.siblings
    pub below : HasBelow sizes after.base kind levels after.home
    pub freed : IsChain after.base.pages sizes.size sizes.usable after.base.count after.first after.bytes after.chain
    pub bounds : (low high : ℤ) → low <ℤ before.cell.view.rowid → before.cell.view.rowid ≤ℤ high → InBounds kind levels low high before.tree
        → BesideIn (InBounds kind levels) low high after.siblings after.home
    pub list : PutIn kind (member before.cell) (list_of kind levels before.tree) (list_beside kind levels after.siblings after.home)
    pub full : IsFullBelow levels before.tree → AllByRecursion (λ sibling. IsFull levels sibling.0) after.siblings × IsFullBelow levels after.home
    pub some : 0 < length (own_cells levels before.tree) + length after.siblings → 0 < length (own_cells levels after.home)

  -- the put is done
  pub record IsPut (levels : ℕ) (before : Before levels) (after : After levels) : Type 0 where
    pub opened : IsOpened levels before after
    pub own : HasOwnPage sizes after.base kind levels after.home

  -- What a put has made of the tree of a root, and the overflow chain of a cell that was replaced.
  pub record IsRootPut (levels : ℕ) (before : Before levels) (base : Paged) (new : Rooted) (first bytes : ℕ) (chain : List ℕ) (trunks : List Trunk) : Type 0 where
    pub turns : Turns sizes before.base (hand_before before) before.trunks base (pages_in new ++ chain) trunks
    pub kind_is : new.kind ≡ kind
    pub stands : Stands sizes base new.kind new.levels new.tree
    pub freed : IsChain base.pages sizes.size sizes.usable base.count first bytes chain
    pub root : root_of new ≡ page_of levels before.tree
    pub bounds : (low high : ℤ) → low <ℤ before.cell.view.rowid → before.cell.view.rowid ≤ℤ high → InBounds kind levels low high before.tree → InBounds kind new.levels low high new.tree
    pub list : PutIn kind (member before.cell) (list_of kind levels before.tree) (list_in new)
    pub full : IsFullRoot levels before.tree → IsFullRoot new.levels new.tree
