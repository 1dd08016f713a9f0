-- What a writer of trees does page by page, and what that means for whatever tree stands there.
use Rattle.std.specs.Prelude.{◌≡◌, ◌≢◌, ◌⊎◌, ℕ, zero, suc, ◌-◌, ◌<◌, List, [], ◌∷◌, ◌++◌, length, map, take, drop, slice_index_or, slice_set}
use Rattle.std.specs.List.{AllByRecursion, insert}
use Rattle.byte_fields.specs.Bytes.{part_of}
use Rattle.format_spec.specs.declared.PageKind.{PageKind}
use Rattle.format_spec.specs.declared.CellView.{CellView}
use Rattle.format_spec.specs.Cell.{IsCell}
use Rattle.format_spec.specs.Page.{IsPage}
use Rattle.page_spec.specs.Chains.{IsChain}
use Rattle.page_spec.specs.Counts.{times}
use Rattle.page_spec.specs.Freelists.{Trunk, free_pages}
use Rattle.tree_spec.specs.declared.TreeKind.{TreeKind}
use Rattle.tree_spec.specs.declared.TreeKind.TheVariants.{Table, Index}
use Rattle.tree_spec.specs.Trees.{member, list_in, root_of, TreeCell, TreeOf, Rooted, interior_kind, kind_at, page_of, cells_behind}
use Rattle.tree_spec.specs.Standing.{Sizes, Paged, IsNumber}
use Rattle.tree_spec.specs.Worlds.{IsFree, IsWorld, with_tree}
use Rattle.tree_spec.specs.Changes.{Within, Turns, Writes}
use Rattle.put_spec.specs.Children.{Belongs, Meets, PutIn}
use Rattle.put_spec.specs.Puts.{Before, IsReady, IsPut, IsRootPut}

-- a cell as it is spelled in a page: its bytes and what they say
pub record Spelled : Type 0 where
  pub bytes : List ℕ
  pub view : CellView

abbrev pub spelled : TreeCell → Spelled
spelled cell = record { bytes = cell.bytes; view = cell.view }

-- the bytes of cells, and what they say
abbrev pub bytes_in : List Spelled → List (List ℕ)
bytes_in cells = map (λ cell. cell.bytes) cells

abbrev pub views_in : List Spelled → List CellView
views_in cells = map (λ cell. cell.view) cells

-- a page has these cells, spelled so, and this right child
pub record HasCells (sizes : Sizes) (base : Paged) (page_kind : PageKind) (page : ℕ) (cells : List Spelled) (right : ℕ) : Type 0 where
  pub is_page : IsPage (base.pages page) page sizes.usable page_kind (bytes_in cells) right
  pub are_cells : AllByRecursion (λ cell. IsCell page_kind sizes.usable cell.bytes cell.view) cells

-- the page of the child at a place: past the cells it is the right child
abbrev pub child_page : ℕ → List Spelled → ℕ → ℕ
child_page i [] right = right
child_page zero (cell ∷ cells) right = cell.view.child
child_page (suc i) (cell ∷ cells) right = child_page i cells right

-- cells with dividers put in at a place
abbrev pub with_dividers : List Spelled → ℕ → List Spelled → List Spelled
with_dividers cells i dividers = take i cells ++ (dividers ++ drop i cells)

-- A divider has the rowid and the payload of a cell that went up.
pub record IsRaised (divider middle : Spelled) : Type 0 where
  pub rowid : divider.view.rowid ≡ middle.view.rowid
  pub payload : divider.view.payload ≡ middle.view.payload
  pub local : divider.view.local ≡ middle.view.local
  pub overflow : divider.view.overflow ≡ middle.view.overflow
  pub same_bytes : part_of divider.bytes divider.view.local_at divider.view.local ≡ part_of middle.bytes middle.view.local_at middle.view.local

-- the cells of a table's leaf in two parts: the divider has the rowid of the last cell of the front
pub record AreTableLeafParts (cells : List Spelled) (divider : Spelled) (front : List Spelled) (right : ℕ) (back : List Spelled) : Type 0 where
  pub start : List Spelled
  pub end : Spelled
  pub whole : cells ≡ front ++ back
  pub ends : front ≡ start ++ end ∷ []
  pub rowid : divider.view.rowid ≡ end.view.rowid
  pub no_right : right ≡ 0

-- the cells of an index's leaf in two parts, and the cell between them, which goes up
pub record AreIndexLeafParts (cells : List Spelled) (divider : Spelled) (front : List Spelled) (right : ℕ) (back : List Spelled) : Type 0 where
  pub middle : Spelled
  pub whole : cells ≡ front ++ middle ∷ back
  pub raised : IsRaised divider middle
  pub no_right : right ≡ 0

-- the cells of an interior page in two parts, and the cell between them, which goes up: its child is the right child of the front
pub record AreInteriorParts (cells : List Spelled) (divider : Spelled) (front : List Spelled) (right : ℕ) (back : List Spelled) : Type 0 where
  pub middle : Spelled
  pub whole : cells ≡ front ++ middle ∷ back
  pub raised : IsRaised divider middle
  pub right_is : right ≡ middle.view.child

abbrev pub AreParts : ℕ → TreeKind → List Spelled → Spelled → List Spelled → ℕ → List Spelled → Type 0
AreParts zero Table cells divider front right back = AreTableLeafParts cells divider front right back
AreParts zero Index cells divider front right back = AreIndexLeafParts cells divider front right back
AreParts (suc levels) kind cells divider front right back = AreInteriorParts cells divider front right back

-- a put of a spelled cell, of which also the payload and the pages of the chain are known
abbrev pub before_at : {levels : ℕ} → Paged → TreeOf levels → List Trunk → Spelled → List ℕ → List ℕ → Before levels
before_at base tree trunks cell payload chain =
    record { base = base; tree = tree; trunks = trunks; cell = record { bytes = cell.bytes; view = cell.view; payload = payload; chain = chain } }

module _ (sizes : Sizes) where
  -- a page was taken from the free pages, or added at the end, and may have been written
  abbrev pub Took : ℕ → Paged → Paged → Type 0
  Took fresh old new = (trunks : List Trunk) → IsFree sizes old trunks → (rest : List Trunk) × Turns sizes old [] trunks new (fresh ∷ []) rest

  -- a page was given back: it is free now
  abbrev pub Releases : ℕ → Paged → Paged → Type 0
  Releases page old new = (trunks : List Trunk) → IsFree sizes old trunks → times page (free_pages trunks) ≡ 0 → (rest : List Trunk) × Turns sizes old (page ∷ []) trunks new [] rest

  -- The front of some cells was put on a page that was taken, which the divider names.
  pub record IsFronted (levels : ℕ) (kind : TreeKind) (cells : List Spelled) (divider : Spelled) (back : List Spelled) (old new : Paged) : Type 0 where
    pub front : List Spelled
    pub right : ℕ
    pub parts : AreParts levels kind cells divider front right back
    pub took : Took divider.view.child old new
    pub in_range : IsNumber sizes new divider.view.child
    pub is_page : IsPage (new.pages divider.view.child) divider.view.child sizes.usable (kind_at kind levels) (bytes_in front) right
    pub is_cell : IsCell (interior_kind kind) sizes.usable divider.bytes divider.view
    pub front_some : 0 < length front
    pub back_some : 0 < length back

  -- some cells stand in their page, and before it in a new page for each divider
  abbrev pub IsSettled : (levels : ℕ) → TreeKind → ℕ → ℕ → List Spelled → Paged → Paged → List Spelled → Type 0
  IsSettled levels kind page right cells old new [] = Writes page old new × IsPage (new.pages page) page sizes.usable (kind_at kind levels) (bytes_in cells) right
  IsSettled levels kind page right cells old new (divider ∷ dividers) =
      (back : List Spelled) × (between : Paged) × IsFronted levels kind cells divider back old between × IsSettled levels kind page right back between new dividers

  -- the fronts of some cells were put on pages that were taken, with a divider for each, and the last cells are left
  abbrev pub IsSpread : (levels : ℕ) → TreeKind → List Spelled → Paged → Paged → List Spelled → List Spelled → Type 0
  IsSpread levels kind cells old new [] left = (left ≡ cells) × (new ≡ old)
  IsSpread levels kind cells old new (divider ∷ dividers) left =
      (back : List Spelled) × (between : Paged) × IsFronted levels kind cells divider back old between × IsSpread levels kind back between new dividers left

  module _ (kind : TreeKind) where
    -- the put is done, with a sibling for each divider
    pub record PutDone (levels : ℕ) (before : Before levels) (new : Paged) (dividers : List Spelled) (first bytes : ℕ) : Type 0 where
      pub siblings : List (TreeOf levels × TreeCell)
      pub home : TreeOf levels
      pub trunks : List Trunk
      pub chain : List ℕ
      pub put : IsPut sizes kind levels before (record { base = new; siblings = siblings; home = home; trunks = trunks; first = first; bytes = bytes; chain = chain })
      pub dividers_are : map spelled (cells_behind siblings) ≡ dividers

    -- whatever tree stands at the page, the put is done
    abbrev pub PutBelow : (levels : ℕ) → ℕ → Spelled → Paged → Paged → List Spelled → ℕ → ℕ → Type 0
    PutBelow levels page cell old new dividers first bytes =
        (tree : TreeOf levels) (trunks : List Trunk) (payload chain : List ℕ) → page_of levels tree ≡ page → IsFree sizes old trunks
        → IsReady sizes kind levels (before_at old tree trunks cell payload chain) → PutDone levels (before_at old tree trunks cell payload chain) new dividers first bytes

    -- the put into the tree of a root is done
    pub record RootDone (levels : ℕ) (before : Before levels) (new : Paged) (first bytes : ℕ) : Type 0 where
      pub rooted : Rooted
      pub trunks : List Trunk
      pub chain : List ℕ
      pub put : IsRootPut sizes kind levels before new rooted first bytes chain trunks

    -- whatever tree stands at the root, it has the cell too
    abbrev pub PutAt : (levels : ℕ) → ℕ → Spelled → Paged → Paged → ℕ → ℕ → Type 0
    PutAt levels root cell old new first bytes =
        (tree : TreeOf levels) (trunks : List Trunk) (payload chain : List ℕ) → page_of levels tree ≡ root → IsFree sizes old trunks
        → IsReady sizes kind levels (before_at old tree trunks cell payload chain) → RootDone levels (before_at old tree trunks cell payload chain) new first bytes

    -- the same whatever levels the tree has: a writer that meets a page knows none
    abbrev pub PutUnder : ℕ → Spelled → Paged → Paged → List Spelled → ℕ → ℕ → Type 0
    PutUnder page cell old new dividers first bytes = (levels : ℕ) → PutBelow levels page cell old new dividers first bytes

    abbrev pub PutInto : ℕ → Spelled → Paged → Paged → ℕ → ℕ → Type 0
    PutInto root cell old new first bytes = (levels : ℕ) → PutAt levels root cell old new first bytes

  -- What a root's page had was put on a page that was taken, and the root was made its parent.
  pub record IsDeepened (page_kind : PageKind) (kind : TreeKind) (root : ℕ) (dividers : List Spelled) (old new : Paged) : Type 0 where
    pub fresh : ℕ
    pub between : Paged
    pub cells : List Spelled
    pub right : ℕ
    pub has : HasCells sizes old page_kind root cells right
    pub took : Took fresh old between
    pub in_range : IsNumber sizes between fresh
    pub is_page : IsPage (between.pages fresh) fresh sizes.usable page_kind (bytes_in cells) right
    pub writes : Writes root between new
    pub root_page : IsPage (new.pages root) root sizes.usable (interior_kind kind) (bytes_in dividers) fresh
    pub some : 0 < length dividers

  -- The cells that a root's page is to have were spread, the last of them on a page that was taken too, and the root was made the parent of these pages.
  pub record IsMovedOut (levels : ℕ) (kind : TreeKind) (root right : ℕ) (cells : List Spelled) (old new : Paged) : Type 0 where
    pub dividers : List Spelled
    pub left : List Spelled
    pub spread_out : Paged
    pub fresh : ℕ
    pub between : Paged
    pub spread : IsSpread levels kind cells old spread_out dividers left
    pub took : Took fresh spread_out between
    pub in_range : IsNumber sizes between fresh
    pub is_page : IsPage (between.pages fresh) fresh sizes.usable (kind_at kind levels) (bytes_in left) right
    pub writes : Writes root between new
    pub root_page : IsPage (new.pages root) root sizes.usable (interior_kind kind) (bytes_in dividers) fresh
    pub left_some : 0 < length left
    pub some : root ≢ 1 → 0 < length dividers

  -- What the cells that a root's page is to have become: they stand in it, or are moved out.
  abbrev pub IsRooted : (levels : ℕ) → TreeKind → ℕ → ℕ → List Spelled → Paged → Paged → Type 0
  IsRooted levels kind root right cells old new = IsSettled levels kind root right cells old new [] ⊎ IsMovedOut levels kind root right cells old new

-- an overflow chain was given back, whatever its pages are: they are free now
abbrev pub GivesBack : Sizes → ℕ → ℕ → Paged → Paged → Type 0
GivesBack sizes first bytes old new =
    (chain : List ℕ) (trunks : List Trunk) → IsChain old.pages sizes.size sizes.usable old.count first bytes chain → IsFree sizes old trunks → Within sizes old chain trunks
    → (rest : List Trunk) × Turns sizes old chain trunks new [] rest

-- A root's tree has a cell too, and all other trees are as they were.
pub record IsWorldPut (sizes : Sizes) (front : List Rooted) (old : Rooted) (back : List Rooted) (cell : TreeCell) (new_base : Paged) : Type 0 where
  pub new : Rooted
  pub trunks : List Trunk
  pub world : IsWorld sizes new_base (with_tree front new back trunks)
  pub root : root_of new ≡ root_of old
  pub kind_is : new.kind ≡ old.kind
  pub list : PutIn old.kind (member cell) (list_in old) (list_in new)

-- A table leaf's cells with one put in, or in place of the one of its rowid, whose overflow chain is told by its first page and its bytes.
pub record IsLeafEdit (old : List Spelled) (cell : Spelled) (new : List Spelled) (first bytes : ℕ) : Type 0 where
  pub place : ℕ
  pub here : Belongs cell.view.rowid place (views_in old)
  pub is : (¬ Meets cell.view.rowid place (views_in old) × (new ≡ insert old place cell) × (first ≡ 0) × (bytes ≡ 0))
      ⊎ (Meets cell.view.rowid place (views_in old) × (new ≡ slice_set old place cell)
      × (first ≡ (slice_index_or old place cell).view.overflow)
      × (bytes ≡ (slice_index_or old place cell).view.payload - (slice_index_or old place cell).view.local))
