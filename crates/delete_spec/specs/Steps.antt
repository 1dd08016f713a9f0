-- What a writer of tables does page by page where it deletes a row, and what that means for whatever tree stands there.
use Rattle.std.specs.Prelude.{◌≡◌, ◌≢◌, ℕ, ℤ, ◌-◌, ◌<◌, List, [], ◌∷◌, ◌++◌, length, map}
use Rattle.std.specs.List.{AllByRecursion}
use Rattle.byte_fields.specs.Bytes.{part_of}
use Rattle.format_spec.specs.declared.PageKind.{PageKind}
use Rattle.page_spec.specs.Chains.{IsChain, chain_bytes}
use Rattle.page_spec.specs.Counts.{times}
use Rattle.page_spec.specs.Freelists.{Trunk, free_pages}
use Rattle.tree_spec.specs.declared.TreeKind.TheVariants.{Table}
use Rattle.tree_spec.specs.Trees.{TreeCell, TreeOf, Rooted, cells_behind, Member, page_of, pages_of, own_cells, own_right, list_of}
use Rattle.tree_spec.specs.Bounds.{InOrder}
use Rattle.tree_spec.specs.Standing.{Sizes, Paged, Stands}
use Rattle.tree_spec.specs.Worlds.{IsFree}
use Rattle.tree_spec.specs.Changes.{Within, Turns}
use Rattle.put_spec.specs.Steps.{Spelled, spelled, HasCells}
use Rattle.delete_spec.specs.Deletes.{alone, IsOpened, IsDeleted, IsRootDeleted}

-- no member has the rowid
abbrev pub HasNone : ℤ → List Member → Type 0
HasNone rowid members = AllByRecursion (λ m. m.rowid ≢ rowid) members

module _ (sizes : Sizes) where
  -- what a delete needs: the tree stands, and its pages are in hand
  pub record IsReady (levels : ℕ) (base : Paged) (tree : TreeOf levels) (trunks : List Trunk) : Type 0 where
    pub within : Within sizes base (pages_of levels tree) trunks
    pub stands : Stands sizes base Table levels tree

  -- a page was given back: it is free now
  abbrev pub Gives : ℕ → Paged → Paged → Type 0
  Gives page old new = (trunks : List Trunk) → IsFree sizes old trunks → times page (free_pages trunks) ≡ 0 → (rest : List Trunk) × Turns sizes old (page ∷ []) trunks new [] rest

  -- these bytes are the payload of a cell: those that stand in its page, and those of its overflow chain, whichever pages that has
  abbrev pub IsPayload : Paged → Spelled → List ℕ → Type 0
  IsPayload base cell payload =
      (chain : List ℕ) → IsChain base.pages sizes.size sizes.usable base.count cell.view.overflow (cell.view.payload - cell.view.local) chain
      → payload ≡ part_of cell.bytes cell.view.local_at cell.view.local ++ chain_bytes base.pages sizes.usable chain (cell.view.payload - cell.view.local)

  -- whatever tree stands at the page, none of its rows has the rowid
  abbrev pub MissingBelow : (levels : ℕ) → ℕ → ℤ → Paged → Type 0
  MissingBelow levels page rowid base = (tree : TreeOf levels) (low high : ℤ) → page_of levels tree ≡ page → Stands sizes base Table levels tree → InOrder levels low high tree → HasNone rowid (list_of Table levels tree)

  module _ (gone : Member) where
    -- What a delete left of a tree, but for its own page, which is still to be written: it is to have these cells, and this right child, 0 in a leaf. The overflow chain of the cell that was taken out is in hand.
    pub record OpenedDone (levels : ℕ) (old : Paged) (tree : TreeOf levels) (trunks : List Trunk) (new : Paged) (cells : List Spelled) (right first bytes : ℕ) : Type 0 where
      pub home : TreeOf levels
      pub rest : List Trunk
      pub chain : List ℕ
      pub opened : IsOpened sizes levels gone (alone levels old tree trunks) (record { base = new; siblings = []; home = home; trunks = rest; first = first; bytes = bytes; chain = chain })
      pub page : page_of levels home ≡ page_of levels tree
      pub cells_are : cells ≡ map spelled (own_cells levels home)
      pub right_is : right ≡ own_right levels home

    -- whatever tree stands at the page, the delete is done but for this page, which is to have these cells
    abbrev pub OpensBelow : (levels : ℕ) → ℕ → List Spelled → ℕ → Paged → Paged → ℕ → ℕ → Type 0
    OpensBelow levels page cells right old new first bytes =
        (tree : TreeOf levels) (trunks : List Trunk) → page_of levels tree ≡ page → IsFree sizes old trunks → IsReady levels old tree trunks → OpenedDone levels old tree trunks new cells right first bytes

    -- the page would have no cell any more, and is not written; in an interior page one child is left, the right one
    abbrev pub EmptiesBelow : (levels : ℕ) → ℕ → ℕ → Paged → Paged → ℕ → ℕ → Type 0
    EmptiesBelow levels page only old new first bytes = OpensBelow levels page [] only old new first bytes

    -- What a delete left of a tree that may have been cut: its page has a cell, and in front of it stand the pages that the dividers name.
    pub record GrownDone (levels : ℕ) (old : Paged) (tree : TreeOf levels) (trunks : List Trunk) (new : Paged) (dividers : List Spelled) (first bytes : ℕ) : Type 0 where
      pub siblings : List (TreeOf levels × TreeCell)
      pub home : TreeOf levels
      pub rest : List Trunk
      pub chain : List ℕ
      pub deleted : IsDeleted sizes levels gone (alone levels old tree trunks) (record { base = new; siblings = siblings; home = home; trunks = rest; first = first; bytes = bytes; chain = chain })
      pub page : page_of levels home ≡ page_of levels tree
      pub dividers_are : map spelled (cells_behind siblings) ≡ dividers
      pub some : 0 < length (own_cells levels home)

    -- whatever tree stands at the page, the delete is done, and the page was cut at these dividers
    abbrev pub GrowsBelow : (levels : ℕ) → ℕ → Paged → Paged → List Spelled → ℕ → ℕ → Type 0
    GrowsBelow levels page old new dividers first bytes =
        (tree : TreeOf levels) (trunks : List Trunk) → page_of levels tree ≡ page → IsFree sizes old trunks → IsReady levels old tree trunks → GrownDone levels old tree trunks new dividers first bytes

    -- What a delete has made of the tree of a root.
    pub record RootDone (levels : ℕ) (old : Paged) (tree : TreeOf levels) (trunks : List Trunk) (new : Paged) (first bytes : ℕ) : Type 0 where
      pub rooted : Rooted
      pub rest : List Trunk
      pub chain : List ℕ
      pub deleted : IsRootDeleted sizes levels gone old tree trunks new rooted first bytes chain rest

    -- whatever tree stands at the root, the row is out of it
    abbrev pub DeleteAt : (levels : ℕ) → ℕ → Paged → Paged → ℕ → ℕ → Type 0
    DeleteAt levels root old new first bytes =
        (tree : TreeOf levels) (trunks : List Trunk) → page_of levels tree ≡ root → IsFree sizes old trunks → IsReady levels old tree trunks → RootDone levels old tree trunks new first bytes

    -- The same whatever levels the tree has: a writer that meets a page knows its kind alone.
    abbrev pub OpensUnder : ℕ → List Spelled → ℕ → Paged → Paged → ℕ → ℕ → Type 0
    OpensUnder page cells right old new first bytes = (levels : ℕ) → OpensBelow levels page cells right old new first bytes

    abbrev pub GrowsUnder : ℕ → Paged → Paged → List Spelled → ℕ → ℕ → Type 0
    GrowsUnder page old new dividers first bytes = (levels : ℕ) → GrowsBelow levels page old new dividers first bytes

    abbrev pub DeleteInto : ℕ → Paged → Paged → ℕ → ℕ → Type 0
    DeleteInto root old new first bytes = (levels : ℕ) → DeleteAt levels root old new first bytes

    -- a page of this kind would have no cell any more
    pub record EmptiesPage (page_kind : PageKind) (page only : ℕ) (old new : Paged) (first bytes : ℕ) : Type 0 where
      pub cells : List Spelled
      pub right : ℕ
      pub has : HasCells sizes old page_kind page cells right
      pub empties : OpensUnder page [] only old new first bytes

  -- whatever tree stands at the page, of whatever levels, none of its rows has the rowid
  abbrev pub MissingUnder : ℕ → ℤ → Paged → Type 0
  MissingUnder page rowid base = (levels : ℕ) → MissingBelow levels page rowid base
