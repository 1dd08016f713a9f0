-- How many pages a put and a delete take, and what they refuse.
use Rattle.std.specs.Prelude.{◌≡◌, ℕ, ℤ, suc, [], ◌∷◌, slice_get, ◌+◌, ◌-◌, ◌*◌, ◌<◌, ◌≤◌, ◌⊎◌, Some, List, length, Result, IfErr}
use Rattle.format_spec.specs.declared.PageKind.TheVariants.{TableInterior, TableLeaf}
use Rattle.format_spec.specs.Cell.{local_size}
use Rattle.page_spec.specs.Chains.{pages_for}
use Rattle.page_spec.specs.Counts.{times}
use Rattle.page_spec.specs.Freelists.{Trunk, free_pages}
use Rattle.page_spec.specs.Pages.{Pages}
use Rattle.page_store.specs.declared.store.PageRead.{Ghosts}
use Rattle.tree_spec.specs.declared.TreeKind.TheVariants.{Table}
use Rattle.tree_spec.specs.declared.fault.TreeFault.{TreeFault}
use Rattle.tree_spec.specs.Faults.{IsFull, IsOther}
use Rattle.tree_spec.specs.Trees.{IsFull as IsFullTree, IsFullRoot, Rooted, TreeOf, kind_at, page_of, pages_of, root_of}
use Rattle.tree_spec.specs.Bounds.{InOrder}
use Rattle.tree_spec.specs.Standing.{IsNumber, Sizes, Paged, Stands}
use Rattle.tree_spec.specs.Worlds.{IsFree, IsWorld, with_tree}
use Rattle.tree_spec.specs.Changes.{Within}
use Rattle.delete_spec.specs.Steps.{IsReady}
use Rattle.tree_pages.specs.Takes.{IsShort, TakesAtMost, UsesBy}
use Rattle.tree_pages.specs.Writers.{paged, sizes_of}
use Rattle.tree_walk.specs.declared.page.TreePage.{TreePage}
use Rattle.tree_walk.specs.Places.{child_or}
use Rattle.tree_table.specs.declared.taking.Left.{Left}
use Rattle.tree_table.specs.declared.taking.Left.TheVariants.{OnlyChild}
use Rattle.tree_table.specs.declared.taking.Taken.{Taken}
use Rattle.tree_table.specs.Deletes.{Leaves}

-- how many overflow pages a row's payload of so many bytes fills
abbrev pub overflow_pages : ℕ → ℕ → ℕ
overflow_pages usable payload = pages_for usable (payload - local_size TableLeaf usable payload)

-- how many pages a put needs at most: two for each level of a tree, some more, and those of its payload (the lock-byte page counted)
abbrev pub put_pages : ℕ → ℕ → ℕ
put_pages usable payload = 54 + overflow_pages usable payload

-- whatever pages are in hand with this one, so many at most were taken
abbrev pub TakesAt : Sizes → ℕ → ℕ → Paged → Paged → Type 0
TakesAt sizes page most old new = (hand : List ℕ) (trunks : List Trunk) → IsFree sizes old trunks → Within sizes old hand trunks → 0 < times page hand → TakesAtMost sizes most hand old trunks new

-- whatever table stands at a page, and whatever pages are in hand with its own, two at most were taken for each of its levels
abbrev pub TakesUnder : Sizes → ℕ → Paged → Paged → Type 0
TakesUnder sizes page old new =
    (levels : ℕ) (tree : TreeOf levels) (hand : List ℕ) (trunks : List Trunk) → page_of levels tree ≡ page → Stands sizes old Table levels tree → IsFree sizes old trunks → Within sizes old hand trunks
    → ((n : ℕ) → times n (pages_of levels tree) ≤ times n hand) → TakesAtMost sizes (2 * levels + 2) hand old trunks new

-- Whatever table stands at a page, of so many levels at most: the fault is that fewer pages could be taken than two for each level below its own page, and some more.
abbrev pub IsShortUnder : {F : Type 0} → Sizes → ℕ → ℕ → ℕ → ℕ → Paged → ℕ → TreeFault F → Type 0
IsShortUnder sizes most more limit page old count fault =
    (levels : ℕ) (tree : TreeOf levels) (trunks : List Trunk) → levels ≤ most → page_of levels tree ≡ page → Stands sizes old Table levels tree → IsFree sizes old trunks
    → Within sizes old (pages_of levels tree) trunks → IsShort sizes (2 * levels + more) limit old trunks count fault

-- whatever table stands at a page, two pages more at most are in use for each level below its own page
abbrev pub UsesUnder : Sizes → ℕ → Paged → Paged → Type 0
UsesUnder sizes page old new = (levels : ℕ) (tree : TreeOf levels) (trunks : List Trunk) → page_of levels tree ≡ page → IsFree sizes old trunks → IsReady sizes levels old tree trunks → UsesBy sizes (2 * levels) old new

-- Whatever table without an empty page stands at a page, of so many levels at most: the fault is that fewer pages could be taken than two for each level below its own page, and some more.
abbrev pub IsShortBelow : {F : Type 0} → Sizes → ℕ → ℕ → ℕ → ℕ → Paged → ℕ → TreeFault F → Type 0
IsShortBelow sizes most more limit page old count fault =
    (levels : ℕ) (tree : TreeOf levels) (trunks : List Trunk) → levels ≤ most → page_of levels tree ≡ page → IsFullTree levels tree → IsFree sizes old trunks → IsReady sizes levels old tree trunks
    → IsShort sizes (2 * levels + more) limit old trunks count fault

-- So of the page of a root, over a table that has cells as a root's tree has them.
abbrev pub IsShortRoot : {F : Type 0} → Sizes → ℕ → ℕ → ℕ → ℕ → Paged → ℕ → TreeFault F → Type 0
IsShortRoot sizes most more limit page old count fault =
    (levels : ℕ) (tree : TreeOf levels) (trunks : List Trunk) → levels ≤ most → page_of levels tree ≡ page → IsFullRoot levels tree → IsFree sizes old trunks → IsReady sizes levels old tree trunks
    → IsShort sizes (2 * levels + more) limit old trunks count fault

-- So where its rowids are in order.
abbrev pub IsShortTable : {F : Type 0} → Sizes → ℕ → ℕ → ℕ → ℕ → Paged → ℕ → TreeFault F → Type 0
IsShortTable sizes most more limit page old count fault =
    (levels : ℕ) (tree : TreeOf levels) (trunks : List Trunk) (low high : ℤ) → InOrder levels low high tree → levels ≤ most → page_of levels tree ≡ page → IsFullRoot levels tree → IsFree sizes old trunks
    → IsReady sizes levels old tree trunks → IsShort sizes (2 * levels + more) limit old trunks count fault

-- whatever table stands at a root with its rowids in order, the store failed or memory is wanting
abbrev pub IsOtherTable : {F : Type 0} → Sizes → ℕ → Paged → TreeFault F → Type 0
IsOtherTable sizes root base fault =
    (levels : ℕ) (tree : TreeOf levels) (low high : ℤ) → page_of levels tree ≡ root → Stands sizes base Table levels tree → InOrder levels low high tree → IsOther fault

-- whatever table stands at a page, the store failed or memory is wanting
abbrev pub IsOtherAt : {F : Type 0} → Sizes → ℕ → Paged → TreeFault F → Type 0
IsOtherAt sizes page base fault = (levels : ℕ) (tree : TreeOf levels) → page_of levels tree ≡ page → Stands sizes base Table levels tree → IsOther fault

-- so of an interior page that is in range
abbrev pub IsOtherInside : {F : Type 0} → Sizes → ℕ → Paged → TreeFault F → Type 0
IsOtherInside sizes page base fault =
    (levels : ℕ) (tree : TreeOf levels) → page_of levels tree ≡ page → kind_at Table levels ≡ TableInterior → Stands sizes base Table levels tree → IsNumber sizes base page → IsOther fault

-- so of a page of either kind that is in range
abbrev pub IsOtherInRange : {F : Type 0} → Sizes → ℕ → Paged → TreeFault F → Type 0
IsOtherInRange sizes page base fault = (levels : ℕ) (tree : TreeOf levels) → page_of levels tree ≡ page → Stands sizes base Table levels tree → IsNumber sizes base page → IsOther fault

-- The only child that is left to a root stands, and the root's page is in hand.
pub record HasOnly (sizes : Sizes) (root only : ℕ) (base : Paged) (trunks : List Trunk) : Type 0 where
  pub levels : ℕ
  pub tree : TreeOf levels
  pub page_is : page_of levels tree ≡ only
  pub stands : Stands sizes base Table levels tree
  pub in_range : IsNumber sizes base only
  pub within : Within sizes base (root ∷ []) trunks

-- An interior page beside a child, as a join needs it.
pub record IsBeside (sizes : Sizes) (named child : ℕ) (base : Paged) (trunks : List Trunk) : Type 0 where
  pub levels : ℕ
  pub tree : TreeOf levels
  pub page_is : page_of levels tree ≡ named
  pub kind_is : kind_at Table levels ≡ TableInterior
  pub stands : Stands sizes base Table levels tree
  pub in_range : IsNumber sizes base named
  pub within : Within sizes base (named ∷ child ∷ []) trunks

-- A child is in hand, and where it is an interior page without a cell, its neighbours stand.
pub record HasBeside (sizes : Sizes) (page : TreePage) (at child : ℕ) (below : Left) (base : Paged) (trunks : List Trunk) : Type 0 where
  pub free : IsFree sizes base trunks
  pub within : Within sizes base (child ∷ []) trunks
  pub beside : (only : ℕ) → below ≡ OnlyChild only → (other : ℕ) → (other ≡ suc at) ⊎ (suc other ≡ at) → other ≤ length page.views
      → IsBeside sizes (child_or page.right (slice_get page.views other)) child base trunks

module _ {P F : Type 0} (g : Ghosts P F) where
  -- whatever pages are told before and after
  abbrev pub Whenever : P → P → (Paged → Paged → Type 0) → Type 0
  Whenever before after R = (old : Pages) → g.pages before ≡ Some old → (new : Pages) → g.pages after ≡ Some new → R (paged g before old) (paged g after new)

  -- no table's page is refused
  abbrev pub RefusesAt : {T : Type 0} → TreePage → P → Result T (TreeFault F) → Type 0
  RefusesAt page before result = (m : Pages) → g.pages before ≡ Some m → m page.number ≡ page.bytes → IfErr result (IsOtherAt (sizes_of g before) page.number (paged g before m))

  -- behind a delete below a child nothing is refused but that there are fewer pages than so many
  abbrev pub RefusesBeside : {T : Type 0} → ℕ → ℕ → TreePage → ℕ → ℕ → Left → P → P → Result T (TreeFault F) → Type 0
  RefusesBeside most limit page at child below before after result =
      (m : Pages) (trunks : List Trunk) → g.pages before ≡ Some m → HasBeside (sizes_of g before) page at child below (paged g before m) trunks
      → IfErr result (IsShort (sizes_of g before) most limit (paged g before m) trunks (g.count after))

  -- so over a sound freelist, and pages of which more is known
  abbrev pub RefusesOver : {T : Type 0} → ℕ → ℕ → (Paged → List Trunk → Type 0) → P → P → Result T (TreeFault F) → Type 0
  RefusesOver most limit Has before after result =
      (m : Pages) (trunks : List Trunk) → g.pages before ≡ Some m → IsFree (sizes_of g before) (paged g before m) trunks → Has (paged g before m) trunks
      → IfErr result (IsShort (sizes_of g before) most limit (paged g before m) trunks (g.count after))

  -- so behind a delete below a child, whatever row goes and whatever table stood before
  abbrev pub RefusesPassed : {T : Type 0} → ℕ → ℕ → TreePage → ℕ → ℕ → Left → P → P → Result T (TreeFault F) → Type 0
  RefusesPassed most limit page at child below before after result =
      (rowid : ℤ) (row : Taken) (base : Paged) (levels : ℕ) (tree : TreeOf levels) (trunks : List Trunk) → base.pages page.number ≡ page.bytes → page_of levels tree ≡ page.number → IsFree (sizes_of g before) base trunks
      → IsReady (sizes_of g before) levels base tree trunks → (m : Pages) (rest : List Trunk) → g.pages before ≡ Some m → Leaves (sizes_of g before) rowid row child below base (paged g before m)
      → HasBeside (sizes_of g before) page at child below (paged g before m) rest → IfErr result (IsShort (sizes_of g before) most limit (paged g before m) rest (g.count after))

  -- so what is refused in the tree of a root
  abbrev pub RefusesRoot : {T : Type 0} → ℕ → ℕ → ℕ → ℕ → P → P → Result T (TreeFault F) → Type 0
  RefusesRoot most more limit page before after result = (m : Pages) → g.pages before ≡ Some m → IfErr result (IsShortRoot (sizes_of g before) most more limit page (paged g before m) (g.count after))

  -- so where its rowids are in order
  abbrev pub RefusesTable : {T : Type 0} → ℕ → ℕ → ℕ → ℕ → P → P → Result T (TreeFault F) → Type 0
  RefusesTable most more limit page before after result = (m : Pages) → g.pages before ≡ Some m → IfErr result (IsShortTable (sizes_of g before) most more limit page (paged g before m) (g.count after))

  -- so what is refused below a page of a table without an empty page
  abbrev pub RefusesBelow : {T : Type 0} → ℕ → ℕ → ℕ → ℕ → P → P → Result T (TreeFault F) → Type 0
  RefusesBelow most more limit page before after result = (m : Pages) → g.pages before ≡ Some m → IfErr result (IsShortBelow (sizes_of g before) most more limit page (paged g before m) (g.count after))

  -- and one page more at most is in use
  abbrev pub OpensOne : TreePage → ℕ → ℕ → Left → P → P → Type 0
  OpensOne page at child below before after =
      Whenever before after (λ a b. (trunks : List Trunk) → HasBeside (sizes_of g before) page at child below a trunks → (rest : List Trunk) × IsFree (sizes_of g before) b rest × UsesBy (sizes_of g before) 1 a b)

  -- so what is refused below a page
  abbrev pub RefusesUnder : {T : Type 0} → ℕ → ℕ → ℕ → ℕ → P → P → Result T (TreeFault F) → Type 0
  RefusesUnder most more limit page before after result =
      (m : Pages) → g.pages before ≡ Some m → IfErr result (IsShortUnder (sizes_of g before) most more limit page (paged g before m) (g.count after))

  -- In every world with a table at this root a call refuses nothing but that no page is left, [51], with the pages that there are then and the limit, and that only where free pages and pages up to the limit were together fewer than so many.
  abbrev pub RefusesFull : {T : Type 0} → ℕ → ℕ → ℕ → P → P → Result T (TreeFault F) → Type 0
  RefusesFull root most limit before after result =
      (m : Pages) (front : List Rooted) (table : Rooted) (back : List Rooted) (trunks : List Trunk) → g.pages before ≡ Some m → IsWorld (sizes_of g before) (paged g before m) (with_tree front table back trunks)
      → table.kind ≡ Table → root_of table ≡ root
      → IfErr result (λ fault. IsOther fault ⊎ (IsFull (g.count after) limit fault × (length (free_pages trunks) + (limit - g.count before) < most)))
