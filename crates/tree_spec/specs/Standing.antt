-- Where trees stand: which bytes of which pages are a tree (Database File Format, section 1.6).
use Rattle.std.specs.Prelude.{◌≡◌, ◌≢◌, ℕ, zero, suc, ◌-◌, ◌<◌, ◌≤◌, List, ◌++◌, map, drop}
use Rattle.std.specs.List.{AllByRecursion}
use Rattle.byte_fields.specs.Bytes.{part_of}
use Rattle.format_spec.specs.declared.PageKind.{PageKind}
use Rattle.format_spec.specs.Cell.{IsCell}
use Rattle.format_spec.specs.Page.{IsPage, header_place}
use Rattle.page_spec.specs.Pages.{Pages, IsInRange, lock_byte_page}
use Rattle.page_spec.specs.Chains.{IsChain, chain_bytes}
use Rattle.tree_spec.specs.declared.TreeKind.{TreeKind}
use Rattle.page_spec.specs.Counts.{times}
use Rattle.tree_spec.specs.Trees.{TreeCell, TreeOf, Rooted, Member, leaf_kind, interior_kind, kind_at, page_of, own_cells, own_right, IsFullRoot, root_of, pages_in, list_in, depth_of, greatest_depth}
use Rattle.tree_spec.specs.Bounds.{IsOrdered}

-- how many bytes a page has, and how many of them may be used
pub record Sizes : Type 0 where
  pub size : ℕ
  pub usable : ℕ

-- how many pages there are, and their bytes by their numbers
pub record Paged : Type 0 where
  pub count : ℕ
  pub pages : Pages

-- the same page as far as trees see it: on page 1 all that stands behind the database header
abbrev pub SamePage : ℕ → List ℕ → List ℕ → Type 0
SamePage number old new = drop (header_place number) new ≡ drop (header_place number) old

-- the pages of a list are as they were, and there are no fewer pages
pub record Keeps (numbers : List ℕ) (old new : Paged) : Type 0 where
  pub same : (n : ℕ) → 0 < times n numbers → SamePage n (old.pages n) (new.pages n)
  pub grows : old.count ≤ new.count

module _ (sizes : Sizes) (base : Paged) where
  -- a number that a link may name
  abbrev pub IsNumber : ℕ → Type 0
  IsNumber number = IsInRange sizes.size base.count number

  -- a number that a root may have: page 1 too
  pub record IsRootNumber (number : ℕ) : Type 0 where
    pub first : 1 ≤ number
    pub within : number ≤ base.count
    pub not_lock_byte : number ≢ lock_byte_page sizes.size

  -- the cell is as its bytes say: the payload is its local part and what the overflow chain holds
  pub record IsHeld (page_kind : PageKind) (cell : TreeCell) : Type 0 where
    pub is_cell : IsCell page_kind sizes.usable cell.bytes cell.view
    pub is_chain : IsChain base.pages sizes.size sizes.usable base.count cell.view.overflow (cell.view.payload - cell.view.local) cell.chain
    pub whole : cell.payload
        ≡ part_of cell.bytes cell.view.local_at cell.view.local ++ chain_bytes base.pages sizes.usable cell.chain (cell.view.payload - cell.view.local)

  -- the cell behind a child, which names the child's page
  pub record IsBehind (page_kind : PageKind) (cell : TreeCell) (child_page : ℕ) : Type 0 where
    pub held : IsHeld page_kind cell
    pub names : cell.view.child ≡ child_page
    pub in_range : IsNumber child_page

  module _ (kind : TreeKind) where
    -- the tree's own page has its cells and its right child
    abbrev pub HasOwnPage : (levels : ℕ) → TreeOf levels → Type 0
    HasOwnPage levels tree =
        IsPage (base.pages (page_of levels tree)) (page_of levels tree) sizes.usable (kind_at kind levels) (map (λ cell. cell.bytes) (own_cells levels tree)) (own_right levels tree)

    -- all but the tree's own page is as the tree says: its cells, and the trees below it
    abbrev pub HasBelow : (levels : ℕ) → TreeOf levels → Type 0
    HasBelow zero tree = AllByRecursion (IsHeld (leaf_kind kind)) tree.cells
    HasBelow (suc levels) tree =
        AllByRecursion (λ child. IsBehind (interior_kind kind) child.1 (page_of levels child.0) × (HasOwnPage levels child.0 × HasBelow levels child.0)) tree.children
        × (IsNumber (page_of levels tree.last) × (HasOwnPage levels tree.last × HasBelow levels tree.last))

    -- the pages hold the tree
    abbrev pub Stands : (levels : ℕ) → TreeOf levels → Type 0
    Stands levels tree = HasOwnPage levels tree × HasBelow levels tree

    -- a child stands, and the cell behind it names it
    abbrev pub StandsBefore : (levels : ℕ) → TreeOf levels × TreeCell → Type 0
    StandsBefore levels child = IsBehind (interior_kind kind) child.1 (page_of levels child.0) × Stands levels child.0

    -- a right child stands
    abbrev pub StandsLast : (levels : ℕ) → TreeOf levels → Type 0
    StandsLast levels last = IsNumber (page_of levels last) × Stands levels last

  -- the tree of a root: it stands, a table is in order, and each page has the cells that it needs
  pub record IsRoot (rooted : Rooted) : Type 0 where
    pub stands : Stands rooted.kind rooted.levels rooted.tree
    pub ordered : IsOrdered rooted.kind rooted.levels rooted.tree
    pub full : IsFullRoot rooted.levels rooted.tree

  -- At this root stands a tree of this kind and depth, with this list of members and these pages. The depth counts the pages from the root to a leaf.
  pub record IsTree (root : ℕ) (kind : TreeKind) (depth : ℕ) (members : List Member) (numbers : List ℕ) : Type 0 where
    pub rooted : Rooted
    pub is_root : IsRoot rooted
    pub root_is : root_of rooted ≡ root
    pub root_number : IsRootNumber root
    pub kind_is : rooted.kind ≡ kind
    pub depth_is : depth_of rooted ≡ depth
    pub deep : depth ≤ greatest_depth
    pub members_are : list_in rooted ≡ members
    pub numbers_are : pages_in rooted ≡ numbers
