-- What a delete makes of an index's tree, level by level. An entry goes from a leaf; where one goes from an interior page, the last entry of the child before it takes its place.
use Rattle.std.specs.Prelude.{◌≡◌, ◌≢◌, ℕ, ◌<◌, Bool, true, false, List, [], ◌∷◌, ◌++◌, length}
use Rattle.std.specs.List.{AllByRecursion}
use Rattle.format_spec.specs.declared.PageKind.{PageKind}
use Rattle.page_spec.specs.Freelists.{Trunk}
use Rattle.tree_spec.specs.declared.TreeKind.TheVariants.{Index}
use Rattle.tree_spec.specs.Trees.{TreeCell, TreeOf, Rooted, Member, member, page_of, own_cells, pages_of, pages_in, pages_beside, list_of, list_in, list_beside, root_of, IsFull, IsFullBelow, IsFullRoot}
use Rattle.tree_spec.specs.Standing.{Sizes, Paged, IsHeld, HasOwnPage, HasBelow, Stands, StandsBefore}
use Rattle.tree_spec.specs.Worlds.{IsWorld, with_tree}
use Rattle.tree_spec.specs.Changes.{Within, Turns}
use Rattle.delete_spec.specs.Deletes.{TakenOut, Before, hand_of}

-- a list with one member taken out: its last one, where only that may go, or any
abbrev pub Taken : Bool → Member → List Member → List Member → Type 0
Taken true gone old new = old ≡ new ++ gone ∷ []
Taken false gone old new = TakenOut gone old new

-- What stands after a delete: the pages, trees beside one another, the freelist, and the cell that was taken out, whose overflow chain is in hand.
pub record After (levels : ℕ) : Type 0 where
  pub base : Paged
  pub siblings : List (TreeOf levels × TreeCell)
  pub home : TreeOf levels
  pub trunks : List Trunk
  pub out : TreeCell

abbrev pub hand_after : {levels : ℕ} → After levels → List ℕ
hand_after {levels} after = pages_beside levels after.siblings after.home ++ after.out.chain

-- the trees, the pages and the freelist are others now, and the same cell is out
abbrev pub became : (levels other : ℕ) → After levels → List (TreeOf other × TreeCell) → TreeOf other → Paged → List Trunk → After other
became levels other after siblings home base trunks = record { base = base; siblings = siblings; home = home; trunks = trunks; out = after.out }

-- the cell is held, as one of a leaf or of an interior page
abbrev pub IsOut : Sizes → Paged → TreeCell → Type 0
IsOut sizes base cell = (page_kind : PageKind) × IsHeld sizes base page_kind cell

-- What a delete has made of trees beside one another: one entry is out of their list, its last one where `ends`, and the pages balance. `IsBeside` and `HasSome` say what is asked of each tree but the last.
pub record IsMade (sizes : Sizes) (levels : ℕ) (IsBeside : Paged → TreeOf levels × TreeCell → Type 0) (HasSome : TreeOf levels × TreeCell → Type 0) (ends : Bool) (before : Before levels) (after : After levels) : Type 0 where
  pub within : Within sizes before.base (hand_of before) before.trunks
  pub turns : Turns sizes before.base (hand_of before) before.trunks after.base (hand_after after) after.trunks
  pub siblings : AllByRecursion (IsBeside after.base) after.siblings
  pub below : HasBelow sizes after.base Index levels after.home
  pub was : IsOut sizes before.base after.out
  pub held : IsOut sizes after.base after.out
  pub list : Taken ends (member after.out) (list_beside Index levels before.siblings before.home) (list_beside Index levels after.siblings after.home)
  pub full : AllByRecursion (λ sibling. IsFull levels sibling.0) before.siblings → IsFullBelow levels before.home → AllByRecursion HasSome after.siblings × IsFullBelow levels after.home

module _ (sizes : Sizes) (levels : ℕ) where
  -- the delete is done but for the own page of the last tree, which may have no cell any more
  abbrev pub IsOpened : Bool → Before levels → After levels → Type 0
  IsOpened ends before after = IsMade sizes levels (λ base. StandsBefore sizes base Index levels) (λ sibling. IsFull levels sibling.0) ends before after

  -- the delete is done below these trees, and the own page of none of them need be as it says
  abbrev pub IsLoose : Bool → Before levels → After levels → Type 0
  IsLoose ends before after = IsMade sizes levels (λ base sibling. HasBelow sizes base Index levels sibling.0) (λ sibling. IsFullBelow levels sibling.0) ends before after

  -- the delete is done
  pub record IsDeleted (ends : Bool) (before : Before levels) (after : After levels) : Type 0 where
    pub opened : IsOpened ends before after
    pub own : HasOwnPage sizes after.base Index levels after.home

  -- What a delete left of the tree of a root that has no cell and one child, beside which nothing stands.
  pub record IsSunk (page : ℕ) (before : Before levels) (after : After levels) : Type 0 where
    pub none : after.siblings ≡ []
    pub turns : Turns sizes before.base (page ∷ hand_of before) before.trunks after.base (page ∷ hand_after after) after.trunks
    pub below : HasBelow sizes after.base Index levels after.home
    pub was : IsOut sizes before.base after.out
    pub held : IsOut sizes after.base after.out
    pub list : TakenOut (member after.out) (list_beside Index levels before.siblings before.home) (list_of Index levels after.home)
    pub full : AllByRecursion (λ sibling. IsFull levels sibling.0) before.siblings → IsFull levels before.home
        → IsFullBelow levels after.home × (0 < levels → page ≢ 1 → 0 < length (own_cells levels after.home))

  -- What a delete has made of the tree of a root, and the cell that was taken out.
  pub record IsRootDeleted (old : Paged) (tree : TreeOf levels) (trunks : List Trunk) (base : Paged) (new : Rooted) (out : TreeCell) (rest : List Trunk) : Type 0 where
    pub turns : Turns sizes old (pages_of levels tree) trunks base (pages_in new ++ out.chain) rest
    pub kind_is : new.kind ≡ Index
    pub stands : Stands sizes base new.kind new.levels new.tree
    pub was : IsOut sizes old out
    pub held : IsOut sizes base out
    pub root : root_of new ≡ page_of levels tree
    pub list : TakenOut (member out) (list_of Index levels tree) (list_in new)
    pub full : IsFullRoot levels tree → IsFullRoot new.levels new.tree

-- One entry is out of the tree of a root, and all other trees are as they were. No page is lost: what the tree has no longer is free.
pub record IsWorldDeleted (sizes : Sizes) (gone : Member) (front : List Rooted) (old : Rooted) (back : List Rooted) (old_base : Paged) (old_trunks : List Trunk) (base : Paged) : Type 0 where
  pub new : Rooted
  pub trunks : List Trunk
  pub world : IsWorld sizes base (with_tree front new back trunks)
  pub root : root_of new ≡ root_of old
  pub kind_is : new.kind ≡ Index
  pub list : TakenOut gone (list_in old) (list_in new)
  pub turns : Turns sizes old_base (pages_in old) old_trunks base (pages_in new) trunks
