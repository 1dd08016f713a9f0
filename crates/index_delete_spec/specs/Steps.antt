-- What a writer of indexes does page by page where it deletes an entry, and what that means for whatever tree stands there.
use Rattle.std.specs.Prelude.{◌≡◌, ◌⊎◌, ℕ, ◌<◌, Bool, List, [], length, map}
use Rattle.format_spec.specs.declared.PageKind.{PageKind}
use Rattle.format_spec.specs.declared.PageKind.TheVariants.{IndexInterior, IndexLeaf}
use Rattle.page_spec.specs.Freelists.{Trunk}
use Rattle.tree_spec.specs.declared.TreeKind.TheVariants.{Index}
use Rattle.tree_spec.specs.Trees.{TreeCell, TreeOf, Rooted, cells_behind, page_of, pages_of, own_cells, own_right}
use Rattle.tree_spec.specs.Standing.{Sizes, Paged, Stands}
use Rattle.tree_spec.specs.Worlds.{IsFree}
use Rattle.tree_spec.specs.Changes.{Within}
use Rattle.put_spec.specs.Steps.{Spelled, spelled, HasCells}
use Rattle.delete_spec.specs.Deletes.{alone}
use Rattle.index_delete_spec.specs.Deletes.{IsOpened, IsDeleted, IsRootDeleted}

-- a spelled cell whose payload and the pages of whose chain are known
abbrev pub cell_of : Spelled → List ℕ → List ℕ → TreeCell
cell_of cell payload chain = record { bytes = cell.bytes; view = cell.view; payload = payload; chain = chain }

-- the pages of indexes
abbrev pub IsOfIndex : PageKind → Type 0
IsOfIndex kind = (kind ≡ IndexLeaf) ⊎ (kind ≡ IndexInterior)

module _ (sizes : Sizes) where
  -- what a delete needs: the tree stands, and its pages are in hand
  pub record IsReady (levels : ℕ) (base : Paged) (tree : TreeOf levels) (trunks : List Trunk) : Type 0 where
    pub within : Within sizes base (pages_of levels tree) trunks
    pub stands : Stands sizes base Index levels tree

  -- `out` is the cell that is taken out, as it is spelled; where `ends`, it is the last one of the tree.
  module _ (ends : Bool) (out : Spelled) where
    -- What a delete left of a tree, but for its own page, which is still to be written: it is to have these cells, and this right child, 0 in a leaf.
    pub record OpenedDone (levels : ℕ) (old : Paged) (tree : TreeOf levels) (trunks : List Trunk) (new : Paged) (cells : List Spelled) (right : ℕ) : Type 0 where
      pub home : TreeOf levels
      pub rest : List Trunk
      pub payload : List ℕ
      pub chain : List ℕ
      pub opened : IsOpened sizes levels ends (alone levels old tree trunks) (record { base = new; siblings = []; home = home; trunks = rest; out = cell_of out payload chain })
      pub page : page_of levels home ≡ page_of levels tree
      pub cells_are : cells ≡ map spelled (own_cells levels home)
      pub right_is : right ≡ own_right levels home

    -- whatever tree stands at the page, the delete is done but for this page, which is to have these cells
    abbrev pub OpensBelow : (levels : ℕ) → ℕ → List Spelled → ℕ → Paged → Paged → Type 0
    OpensBelow levels page cells right old new =
        (tree : TreeOf levels) (trunks : List Trunk) → page_of levels tree ≡ page → IsFree sizes old trunks → IsReady levels old tree trunks → OpenedDone levels old tree trunks new cells right

    -- the page would have no cell any more, and is not written; in an interior page one child is left, the right one
    abbrev pub EmptiesBelow : (levels : ℕ) → ℕ → ℕ → Paged → Paged → Type 0
    EmptiesBelow levels page only old new = OpensBelow levels page [] only old new

    -- What a delete left of a tree that may have been cut: its page has a cell, and in front of it stand the pages that the dividers name.
    pub record GrownDone (levels : ℕ) (old : Paged) (tree : TreeOf levels) (trunks : List Trunk) (new : Paged) (dividers : List Spelled) : Type 0 where
      pub siblings : List (TreeOf levels × TreeCell)
      pub home : TreeOf levels
      pub rest : List Trunk
      pub payload : List ℕ
      pub chain : List ℕ
      pub deleted : IsDeleted sizes levels ends (alone levels old tree trunks) (record { base = new; siblings = siblings; home = home; trunks = rest; out = cell_of out payload chain })
      pub page : page_of levels home ≡ page_of levels tree
      pub dividers_are : map spelled (cells_behind siblings) ≡ dividers
      pub some : 0 < length (own_cells levels home)

    -- whatever tree stands at the page, the delete is done, and the page was cut at these dividers
    abbrev pub GrowsBelow : (levels : ℕ) → ℕ → Paged → Paged → List Spelled → Type 0
    GrowsBelow levels page old new dividers =
        (tree : TreeOf levels) (trunks : List Trunk) → page_of levels tree ≡ page → IsFree sizes old trunks → IsReady levels old tree trunks → GrownDone levels old tree trunks new dividers

    -- The same whatever levels the tree has: a writer that meets a page knows its kind alone.
    abbrev pub OpensUnder : ℕ → List Spelled → ℕ → Paged → Paged → Type 0
    OpensUnder page cells right old new = (levels : ℕ) → OpensBelow levels page cells right old new

    abbrev pub GrowsUnder : ℕ → Paged → Paged → List Spelled → Type 0
    GrowsUnder page old new dividers = (levels : ℕ) → GrowsBelow levels page old new dividers

    -- a page of this kind would have no cell any more
    pub record EmptiesPage (page_kind : PageKind) (page only : ℕ) (old new : Paged) : Type 0 where
      pub cells : List Spelled
      pub right : ℕ
      pub has : HasCells sizes old page_kind page cells right
      pub empties : OpensUnder page [] only old new

  module _ (out : Spelled) where
    -- What a delete has made of the tree of a root.
    pub record RootDone (levels : ℕ) (old : Paged) (tree : TreeOf levels) (trunks : List Trunk) (new : Paged) : Type 0 where
      pub rooted : Rooted
      pub rest : List Trunk
      pub payload : List ℕ
      pub chain : List ℕ
      pub deleted : IsRootDeleted sizes levels old tree trunks new rooted (cell_of out payload chain) rest

    -- whatever tree stands at the root, the entry is out of it
    abbrev pub DeleteAt : (levels : ℕ) → ℕ → Paged → Paged → Type 0
    DeleteAt levels root old new =
        (tree : TreeOf levels) (trunks : List Trunk) → page_of levels tree ≡ root → IsFree sizes old trunks → IsReady levels old tree trunks → RootDone levels old tree trunks new

    abbrev pub DeleteInto : ℕ → Paged → Paged → Type 0
    DeleteInto root old new = (levels : ℕ) → DeleteAt levels root old new
