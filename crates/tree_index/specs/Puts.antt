-- What a put leaves of an index's tree.
use Rattle.std.specs.Prelude.{◌≡◌, ◌⊎◌, ◌≤◌, ℕ, pos, false, List, [], ◌∷◌, ◌++◌, length}
use Rattle.std.specs.List.{AllByRecursion}
use Rattle.format_spec.specs.declared.CellView.{CellView}
use Rattle.format_spec.specs.declared.PageKind.TheVariants.{IndexInterior, IndexLeaf}
use Rattle.index_leaf.specs.declared.placing.Attempt.{Attempt}
use Rattle.index_leaf.specs.declared.placing.Attempt.TheVariants as attempt
use Rattle.key_order.specs.declared.order.KeyOrder.{KeyOrder}
use Rattle.key_order.specs.Orders.{HasEqual, IsHigh, IsLow, IsRising}
use Rattle.page_spec.specs.Freelists.{Trunk}
use Rattle.tree_spec.specs.declared.TreeKind.TheVariants.{Index}
use Rattle.tree_spec.specs.Trees.{Member, Rooted, TreeCell, TreeOf, list_in, list_of, page_of, pages_of, root_of}
use Rattle.tree_spec.specs.Standing.{Sizes, Paged, IsHeld, Stands}
use Rattle.tree_spec.specs.Worlds.{IsFree, IsWorld, greatest_count, with_tree}
use Rattle.tree_spec.specs.Changes.{SameHeader, Turns, Within}
use Rattle.put_spec.specs.Puts.{Before}
use Rattle.tree_index.specs.Entries.{EntryDone, EntryRooted}
use Rattle.put_spec.specs.Steps.{Spelled}
use Rattle.tree_walk.specs.declared.page.TreePage.{TreePage}
use Rattle.tree_level.specs.Changes.{Changes, ChangesRoot}
use Rattle.tree_level.specs.declared.cells.Change.{Change}
use Rattle.tree_level.specs.Levels.{AreSpelled}
use Rattle.tree_index.specs.declared.descending.Below.{Below}
use Rattle.tree_index.specs.declared.descending.Below.TheVariants as below
use Rattle.tree_index.specs.declared.putting.Inserted.{Inserted}
use Rattle.tree_index.specs.declared.putting.Inserted.TheVariants as inserted
use Rattle.tree_index.specs.Needs.{overflow_pages}

-- A cell was made for an entry: its overflow chain stands on pages that were taken, and it holds the payload.
pub record HasCell (sizes : Sizes) (payload bytes : List ℕ) (old : Paged) (trunks : List Trunk) (new : Paged) : Type 0 where
  pub view : CellView
  pub chain : List ℕ
  pub rest : List Trunk
  pub turns : Turns sizes old [] trunks new chain rest
  pub held : IsHeld sizes new IndexLeaf (record { bytes = bytes; view = view; payload = payload; chain = chain })
  pub many : length chain ≡ overflow_pages sizes.usable (length payload)

-- the view of an entry's cell, as far as its bytes are spelled by it
abbrev pub entry_view : ℕ → ℕ → ℕ → CellView
entry_view payload local overflow = record { size = 0; rowid = pos 0; child = 0; payload = payload; local_at = 0; local = local; overflow = overflow }

-- so whatever freelist stood there
abbrev pub MakesCell : Sizes → List ℕ → List ℕ → Paged → Paged → Type 0
MakesCell sizes payload bytes old new = (trunks : List Trunk) → IsFree sizes old trunks → HasCell sizes payload bytes old trunks new

-- cells come among those of a page, which keeps its right child
abbrev pub inserting : TreePage → ℕ → Change
inserting page at = record { at = at; goes = false; right = page.right }

-- a cell was made for an entry, and put among the cells of a leaf
abbrev pub EntersLeaf : Sizes → TreePage → ℕ → List ℕ → List (List ℕ) → Paged → Paged → Type 0
EntersLeaf sizes page at payload dividers old new = (bytes : List ℕ) × (mid : Paged) × MakesCell sizes payload bytes old mid × Changes sizes page (inserting page at) (bytes ∷ []) dividers mid new

abbrev pub EntersLeafRoot : Sizes → TreePage → ℕ → List ℕ → Paged → Paged → Type 0
EntersLeafRoot sizes page at payload old new = (bytes : List ℕ) × (mid : Paged) × MakesCell sizes payload bytes old mid × ChangesRoot sizes page (inserting page at) (bytes ∷ []) mid new

-- dividers came from below a page and were put among its cells; where none came the page was not written
abbrev pub Raises : Sizes → TreePage → ℕ → List (List ℕ) → List (List ℕ) → Paged → Paged → Type 0
Raises sizes page at came dividers old new = ((came ≡ []) × (dividers ≡ []) × (new ≡ old)) ⊎ Changes sizes page (inserting page at) came dividers old new

-- the same of the page of a root
abbrev pub RaisesRoot : Sizes → TreePage → ℕ → List (List ℕ) → Paged → Paged → Type 0
RaisesRoot sizes page at came old new = ((came ≡ []) × (new ≡ old)) ⊎ ChangesRoot sizes page (inserting page at) came old new

-- the cells that go up
abbrev pub risen_cells : Below → List (List ℕ)
risen_cells below.Present = []
risen_cells (below.Grown dividers) = dividers.items

-- what was made of a page, once a put below its child at an index made this of that
abbrev pub PassesOn : Sizes → TreePage → ℕ → Below → Below → Paged → Paged → Type 0
PassesOn sizes page at below.Present below.Present old new = new ≡ old
PassesOn sizes page at below.Present (below.Grown dividers) old new = ⊥
PassesOn sizes page at (below.Grown came) below.Present old new = ⊥
PassesOn sizes page at (below.Grown came) (below.Grown dividers) old new = Raises sizes page at came.items dividers.items old new

-- the same of the page of a root
abbrev pub PassesToRoot : Sizes → TreePage → ℕ → Below → Inserted → Paged → Paged → Type 0
PassesToRoot sizes page at below.Present inserted.Present old new = new ≡ old
PassesToRoot sizes page at below.Present inserted.New old new = ⊥
PassesToRoot sizes page at (below.Grown came) inserted.Present old new = ⊥
PassesToRoot sizes page at (below.Grown came) inserted.New old new = RaisesRoot sizes page at came.items old new

-- what stands before the put of a cell, once its overflow chain is written
abbrev pub entry_before : {levels : ℕ} → Paged → TreeOf levels → List Trunk → TreeCell → Before levels
entry_before base tree trunks cell = record { base = base; tree = tree; trunks = trunks; cell = cell }

module _ (sizes : Sizes) (order : KeyOrder) (payload : List ℕ) where
  -- An entry was put into the tree at a page: its overflow chain was written, and its cell was put between the members that are less and those that are greater.
  pub record IsEntered (levels : ℕ) (tree : TreeOf levels) (trunks : List Trunk) (old : Paged) (Puts : Before levels → List Member → List Member → Type 0) : Type 0 where
    pub mid : Paged
    pub cell : TreeCell
    pub rest : List Trunk
    pub written : Turns sizes old [] trunks mid cell.chain rest
    pub held : IsHeld sizes mid IndexLeaf cell
    pub payload_is : cell.payload ≡ payload
    pub front : List Member
    pub back : List Member
    pub list : list_of Index levels tree ≡ front ++ back
    pub low : AllByRecursion (IsLow order payload) front
    pub high : AllByRecursion (IsHigh order payload) back
    pub put : Puts (entry_before mid tree rest cell) front back

  -- the put is done, with a sibling for each divider
  abbrev pub PutsBelow : (levels : ℕ) → List (List ℕ) → Paged → Before levels → List Member → List Member → Type 0
  PutsBelow levels dividers new before front back = (up : List Spelled) × AreSpelled IndexInterior sizes.usable up dividers × EntryDone sizes levels before new up front back

  -- the put into the tree of a root is done
  abbrev pub PutsRoot : (levels : ℕ) → Paged → Before levels → List Member → List Member → Type 0
  PutsRoot levels new before front back = EntryRooted sizes levels before new front back

  -- what is so of whatever index that rises stands at a page
  abbrev pub OfTrees : ℕ → Paged → ((levels : ℕ) → TreeOf levels → List Trunk → Type 0) → Type 0
  OfTrees page old Is =
      (levels : ℕ) (tree : TreeOf levels) (trunks : List Trunk) → page_of levels tree ≡ page → Stands sizes old Index levels tree → IsFree sizes old trunks → Within sizes old (pages_of levels tree) trunks
      → IsRising order (list_of Index levels tree) → Is levels tree trunks

  -- an equal entry stands in whatever index stands at a page, and nothing changed
  abbrev pub Finds : ℕ → Paged → Paged → Type 0
  Finds page old new = (new ≡ old) × OfTrees page old (λ levels tree trunks. HasEqual order payload (list_of Index levels tree))

  -- an entry was put below a page, or an equal one stands there
  abbrev pub EntersUnder : ℕ → Below → Paged → Paged → Type 0
  EntersUnder page below.Present old new = Finds page old new
  EntersUnder page (below.Grown dividers) old new = OfTrees page old (λ levels tree trunks. IsEntered levels tree trunks old (PutsBelow levels dividers.items new))

  -- the same of the page of a root
  abbrev pub EntersInto : ℕ → Inserted → Paged → Paged → Type 0
  EntersInto root inserted.Present old new = Finds root old new
  EntersInto root inserted.New old new = OfTrees root old (λ levels tree trunks. IsEntered levels tree trunks old (PutsRoot levels new))

  -- what came of trying to put it into a leaf alone
  abbrev pub TriesInto : ℕ → Attempt → Paged → Paged → Type 0
  TriesInto root attempt.Put old new = EntersInto root inserted.New old new
  TriesInto root attempt.Present old new = EntersInto root inserted.Present old new
  TriesInto root attempt.GivenUp old new = new ≡ old

-- An index has an entry too, behind those that are less and before those that are greater, and no equal one stood there; its list rises still. All other trees are as they were, and of page 1's first 100 bytes only the size in pages and the freelist's fields may have changed.
pub record HasPut (sizes : Sizes) (order : KeyOrder) (payload : List ℕ) (front : List Rooted) (index : Rooted) (back : List Rooted) (old new : Paged) : Type 0 where
  pub now : Rooted
  pub trunks : List Trunk
  pub world : IsWorld sizes new (with_tree front now back trunks)
  pub root : root_of now ≡ root_of index
  pub kind_is : now.kind ≡ Index
  pub less : List Member
  pub greater : List Member
  pub list_was : list_in index ≡ less ++ greater
  pub list_is : list_in now ≡ less ++ (record { rowid = pos 0; payload = payload }) ∷ greater
  pub rises : IsRising order (list_in now)
  pub absent : ¬ HasEqual order payload (list_in index)
  pub header : SameHeader (old.pages 1) (new.pages 1)

-- what is so of every world with an index at this root whose list rises
abbrev pub OfWorlds : Sizes → ℕ → KeyOrder → ℕ → Paged → (List Rooted → Rooted → List Rooted → Type 0) → Type 0
OfWorlds sizes root order limit old Is =
    (front : List Rooted) (index : Rooted) (back : List Rooted) (trunks : List Trunk) → IsWorld sizes old (with_tree front index back trunks) → index.kind ≡ Index → root_of index ≡ root
    → IsRising order (list_in index) → limit ≤ greatest_count → Is front index back

-- what a put answers and leaves: the index has the entry too; or an equal one stands in it, and nothing changed
abbrev pub PutsEntry : Sizes → ℕ → KeyOrder → List ℕ → ℕ → Inserted → Paged → Paged → Type 0
PutsEntry sizes root order payload limit inserted.New old new = OfWorlds sizes root order limit old (λ front index back. HasPut sizes order payload front index back old new)
PutsEntry sizes root order payload limit inserted.Present old new = (new ≡ old) × OfWorlds sizes root order limit old (λ front index back. HasEqual order payload (list_in index))
