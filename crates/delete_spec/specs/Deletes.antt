-- What a delete makes of a table's tree, level by level. What became of a page is told by trees beside one another, as after a put.
use Rattle.std.specs.Prelude.{◌≡◌, ◌≢◌, ℕ, ℤ, suc, ◌<◌, List, [], ◌∷◌, ◌++◌, length}
use Rattle.std.specs.List.{AllByRecursion}
use Rattle.page_spec.specs.Chains.{IsChain}
use Rattle.page_spec.specs.Freelists.{Trunk}
use Rattle.tree_spec.specs.declared.TreeKind.TheVariants.{Table}
use Rattle.tree_spec.specs.Trees.{TreeCell, TreeOf, Rooted, Member, page_of, own_cells, pages_of, pages_in, pages_beside, list_of, list_in, list_beside, root_of, IsFull, IsFullBelow, IsFullRoot}
use Rattle.tree_spec.specs.Bounds.{BesideIn, InOrder}
use Rattle.tree_spec.specs.Standing.{Sizes, Paged, HasOwnPage, HasBelow, Stands, StandsBefore}
use Rattle.tree_spec.specs.Worlds.{IsWorld, with_tree}
use Rattle.tree_spec.specs.Changes.{Within, Turns}
use Rattle.put_spec.specs.Children.{children_with, last_with}
use Rattle.put_spec.specs.Puts.{After, hand_after}

-- a list with one member taken out
pub record TakenOut (gone : Member) (old new : List Member) : Type 0 where
  pub front : List Member
  pub back : List Member
  pub old_is : old ≡ front ++ gone ∷ back
  pub new_is : new ≡ front ++ back

-- What stands before a delete: the pages, trees beside one another, of which each but the last has a cell behind it, and the freelist.
pub record Before (levels : ℕ) : Type 0 where
  pub base : Paged
  pub siblings : List (TreeOf levels × TreeCell)
  pub home : TreeOf levels
  pub trunks : List Trunk

-- all pages of these trees are in hand
abbrev pub hand_of : {levels : ℕ} → Before levels → List ℕ
hand_of {levels} before = pages_beside levels before.siblings before.home

-- one tree alone
abbrev pub alone : (levels : ℕ) → Paged → TreeOf levels → List Trunk → Before levels
alone levels base tree trunks = record { base = base; siblings = []; home = tree; trunks = trunks }

-- two neighbours, and the cell between them
abbrev pub pair : (levels : ℕ) → Paged → TreeOf levels → TreeCell → TreeOf levels → List Trunk → Before levels
pair levels base left divider right trunks = record { base = base; siblings = (left, divider) ∷ []; home = right; trunks = trunks }

-- the trees, the pages and the freelist are others now, and the overflow chain of the cell that was taken out is the same
abbrev pub became : (levels other : ℕ) → After levels → List (TreeOf other × TreeCell) → TreeOf other → Paged → List Trunk → After other
became levels other after siblings home base trunks = record {
  base = base;
  siblings = siblings;
  home = home;
  trunks = trunks;
  first = after.first;
  bytes = after.bytes;
  chain = after.chain;
}

-- an interior page with some trees beside one another at a place among its children, where one stood
abbrev pub parent_with : (levels page i : ℕ) → List (TreeOf levels × TreeCell) → TreeOf levels → List (TreeOf levels × TreeCell) → TreeOf levels → TreeOf (suc levels)
parent_with levels page i children last siblings home = record { page = page; children = children_with i children siblings home; last = last_with i children last home }

-- What a delete has made of trees beside one another: one row is out of their list, they are in order as before, and the pages balance. `IsBeside` and `HasSome` say what is asked of each tree but the last.
pub record IsMade (sizes : Sizes) (levels : ℕ) (IsBeside : Paged → TreeOf levels × TreeCell → Type 0) (HasSome : TreeOf levels × TreeCell → Type 0) (gone : Member) (before : Before levels) (after : After levels) : Type 0 where
  pub within : Within sizes before.base (hand_of before) before.trunks
  pub turns : Turns sizes before.base (hand_of before) before.trunks after.base (hand_after after) after.trunks
  pub siblings : AllByRecursion (IsBeside after.base) after.siblings
  pub below : HasBelow sizes after.base Table levels after.home
  pub freed : IsChain after.base.pages sizes.size sizes.usable after.base.count after.first after.bytes after.chain
  pub bounds : (low high : ℤ) → BesideIn (InOrder levels) low high before.siblings before.home → BesideIn (InOrder levels) low high after.siblings after.home
  pub list : TakenOut gone (list_beside Table levels before.siblings before.home) (list_beside Table levels after.siblings after.home)
  pub full : AllByRecursion (λ sibling. IsFull levels sibling.0) before.siblings → IsFullBelow levels before.home → AllByRecursion HasSome after.siblings × IsFullBelow levels after.home

module _ (sizes : Sizes) (levels : ℕ) where
  -- the delete is done but for the own page of the last tree, which may have no cell any more
  abbrev pub IsOpened : Member → Before levels → After levels → Type 0
  IsOpened gone before after = IsMade sizes levels (λ base. StandsBefore sizes base Table levels) (λ sibling. IsFull levels sibling.0) gone before after

  -- the delete is done below these trees, and the own page of none of them need be as it says
  abbrev pub IsLoose : Member → Before levels → After levels → Type 0
  IsLoose gone before after = IsMade sizes levels (λ base sibling. HasBelow sizes base Table levels sibling.0) (λ sibling. IsFullBelow levels sibling.0) gone before after

  -- the delete is done
  pub record IsDeleted (gone : Member) (before : Before levels) (after : After levels) : Type 0 where
    pub opened : IsOpened gone before after
    pub own : HasOwnPage sizes after.base Table levels after.home

  -- What a delete left of the tree of a root that has no cell and one child, beside which nothing stands.
  pub record IsSunk (gone : Member) (page : ℕ) (before : Before levels) (after : After levels) : Type 0 where
    pub none : after.siblings ≡ []
    pub turns : Turns sizes before.base (page ∷ hand_of before) before.trunks after.base (page ∷ hand_after after) after.trunks
    pub below : HasBelow sizes after.base Table levels after.home
    pub freed : IsChain after.base.pages sizes.size sizes.usable after.base.count after.first after.bytes after.chain
    pub bounds : (low high : ℤ) → BesideIn (InOrder levels) low high before.siblings before.home → InOrder levels low high after.home
    pub list : TakenOut gone (list_beside Table levels before.siblings before.home) (list_of Table levels after.home)
    pub full : AllByRecursion (λ sibling. IsFull levels sibling.0) before.siblings → IsFull levels before.home
        → IsFullBelow levels after.home × (0 < levels → page ≢ 1 → 0 < length (own_cells levels after.home))

  -- What a delete has made of the tree of a root, and the overflow chain of the cell that was taken out.
  pub record IsRootDeleted (gone : Member) (old : Paged) (tree : TreeOf levels) (trunks : List Trunk) (base : Paged) (new : Rooted) (first bytes : ℕ) (chain : List ℕ) (rest : List Trunk) : Type 0 where
    pub turns : Turns sizes old (pages_of levels tree) trunks base (pages_in new ++ chain) rest
    pub kind_is : new.kind ≡ Table
    pub stands : Stands sizes base new.kind new.levels new.tree
    pub freed : IsChain base.pages sizes.size sizes.usable base.count first bytes chain
    pub root : root_of new ≡ page_of levels tree
    pub bounds : (low high : ℤ) → InOrder levels low high tree → InOrder new.levels low high new.tree
    pub list : TakenOut gone (list_of Table levels tree) (list_in new)
    pub full : IsFullRoot levels tree → IsFullRoot new.levels new.tree

-- One row is out of the tree of a root, and all other trees are as they were. No page is lost: what the tree has no longer is free.
pub record IsWorldDeleted (sizes : Sizes) (gone : Member) (front : List Rooted) (old : Rooted) (back : List Rooted) (old_base : Paged) (old_trunks : List Trunk) (base : Paged) : Type 0 where
  pub new : Rooted
  pub trunks : List Trunk
  pub world : IsWorld sizes base (with_tree front new back trunks)
  pub root : root_of new ≡ root_of old
  pub kind_is : new.kind ≡ Table
  pub list : TakenOut gone (list_in old) (list_in new)
  pub turns : Turns sizes old_base (pages_in old) old_trunks base (pages_in new) trunks
