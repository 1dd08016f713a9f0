-- How many pages more are in use once a delete from an index is done, and what it refuses.
use Rattle.std.specs.Prelude.{◌≡◌, ℕ, suc, ◌+◌, ◌*◌, ◌≤◌, ◌⊎◌, Some, List, [], ◌∷◌, length, slice_get, Result, IfErr}
use Rattle.format_spec.specs.declared.PageKind.{PageKind}
use Rattle.page_spec.specs.Freelists.{Trunk}
use Rattle.page_spec.specs.Pages.{Pages}
use Rattle.page_store.specs.declared.store.PageRead.{Ghosts}
use Rattle.tree_spec.specs.declared.TreeKind.TheVariants.{Index}
use Rattle.tree_spec.specs.declared.fault.TreeFault.{TreeFault}
use Rattle.tree_spec.specs.Faults.{IsOther}
use Rattle.tree_spec.specs.Trees.{TreeOf, kind_at, page_of}
use Rattle.tree_spec.specs.Standing.{IsNumber, Sizes, Paged, Stands}
use Rattle.tree_spec.specs.Worlds.{IsFree}
use Rattle.tree_spec.specs.Changes.{Within}
use Rattle.index_delete_spec.specs.Steps.{IsReady}
use Rattle.tree_pages.specs.Takes.{IsShort, UsesBy}
use Rattle.tree_pages.specs.Writers.{paged, sizes_of}
use Rattle.tree_walk.specs.declared.page.TreePage.{TreePage}
use Rattle.tree_walk.specs.Places.{child_or}
use Rattle.index_delete.specs.declared.levels.Emptied.{Emptied}
use Rattle.index_delete.specs.declared.levels.Left.{Left}
use Rattle.index_delete.specs.declared.levels.Left.TheVariants.{Cells, NoCell}
use Rattle.index_delete.specs.Deletes.{below_most}

-- how many pages have to be left where a page is passed, by what was left of its child
abbrev pub short_most : Left → ℕ
short_most (Cells dividers) = 2
short_most (NoCell emptied) = 4

-- whatever index stands at a page of this kind that is in range, the store failed or memory is wanting
abbrev pub IsOtherBeside : {F : Type 0} → Sizes → PageKind → ℕ → Paged → TreeFault F → Type 0
IsOtherBeside sizes page_kind page base fault =
    (levels : ℕ) (tree : TreeOf levels) → page_of levels tree ≡ page → kind_at Index levels ≡ page_kind → Stands sizes base Index levels tree → IsNumber sizes base page → IsOther fault

-- The only child that is left to a root stands, and the root's page is in hand.
pub record HasOnly (sizes : Sizes) (root only : ℕ) (base : Paged) (trunks : List Trunk) : Type 0 where
  pub levels : ℕ
  pub tree : TreeOf levels
  pub page_is : page_of levels tree ≡ only
  pub stands : Stands sizes base Index levels tree
  pub in_range : IsNumber sizes base only
  pub within : Within sizes base (root ∷ []) trunks

-- A page of a kind beside a child, as a join needs it.
pub record IsBeside (sizes : Sizes) (page_kind : PageKind) (named child : ℕ) (base : Paged) (trunks : List Trunk) : Type 0 where
  pub levels : ℕ
  pub tree : TreeOf levels
  pub page_is : page_of levels tree ≡ named
  pub kind_is : kind_at Index levels ≡ page_kind
  pub stands : Stands sizes base Index levels tree
  pub in_range : IsNumber sizes base named
  pub within : Within sizes base (named ∷ child ∷ []) trunks

-- A child is in hand, and where it has no cell any more, its neighbours stand.
pub record HasBeside (sizes : Sizes) (page : TreePage) (at child : ℕ) (below : Left) (base : Paged) (trunks : List Trunk) : Type 0 where
  pub free : IsFree sizes base trunks
  pub within : Within sizes base (child ∷ []) trunks
  pub beside : (emptied : Emptied) → below ≡ NoCell emptied → (other : ℕ) → (other ≡ suc at) ⊎ (suc other ≡ at) → other ≤ length page.views
      → IsBeside sizes emptied.kind (child_or page.right (slice_get page.views other)) child base trunks

-- whatever index stood at a page that is left so, at most so many pages more are in use
abbrev pub UsesBelow : Sizes → ℕ → Left → Paged → Paged → Type 0
UsesBelow sizes page left old new =
    (levels : ℕ) (tree : TreeOf levels) (trunks : List Trunk) → page_of levels tree ≡ page → IsFree sizes old trunks → IsReady sizes levels old tree trunks → UsesBy sizes (below_most levels left) old new

-- Whatever index of which more is known stands at a page, with so many levels at most: the fault is that fewer pages could be taken than two for each level below its own page, and some more.
abbrev pub IsShortWhere : {F : Type 0} → Sizes → ((levels : ℕ) → TreeOf levels → Type 0) → ℕ → ℕ → ℕ → ℕ → Paged → ℕ → TreeFault F → Type 0
IsShortWhere sizes Has most more limit page old count fault =
    (levels : ℕ) (tree : TreeOf levels) (trunks : List Trunk) → levels ≤ most → page_of levels tree ≡ page → Has levels tree → IsFree sizes old trunks → IsReady sizes levels old tree trunks
    → IsShort sizes (2 * levels + more) limit old trunks count fault

module _ {P F : Type 0} (g : Ghosts P F) where
  -- whatever pages are told before and after
  abbrev pub Whenever : P → P → (Paged → Paged → Type 0) → Type 0
  Whenever before after R = (old : Pages) → g.pages before ≡ Some old → (new : Pages) → g.pages after ≡ Some new → R (paged g before old) (paged g after new)

  -- a page of this kind is refused only where no index stands there
  abbrev pub RefusesOther : {T : Type 0} → PageKind → ℕ → P → Result T (TreeFault F) → Type 0
  RefusesOther page_kind page before result = (m : Pages) → g.pages before ≡ Some m → IfErr result (IsOtherBeside (sizes_of g before) page_kind page (paged g before m))

  -- behind a delete below a child nothing is refused but that there are fewer pages than so many
  abbrev pub RefusesBeside : {T : Type 0} → ℕ → ℕ → TreePage → ℕ → ℕ → Left → P → P → Result T (TreeFault F) → Type 0
  RefusesBeside most limit page at child below before after result =
      (m : Pages) (trunks : List Trunk) → g.pages before ≡ Some m → HasBeside (sizes_of g before) page at child below (paged g before m) trunks
      → IfErr result (IsShort (sizes_of g before) most limit (paged g before m) trunks (g.count after))

  -- and at most so many pages more are in use then, with a sound freelist
  abbrev pub OpensBy : ℕ → TreePage → ℕ → ℕ → Left → P → P → Type 0
  OpensBy most page at child below before after =
      Whenever before after (λ a b. (trunks : List Trunk) → HasBeside (sizes_of g before) page at child below a trunks → (rest : List Trunk) × IsFree (sizes_of g before) b rest × UsesBy (sizes_of g before) most a b)

  -- or whatever the freelist is then
  abbrev pub PassesBy : ℕ → TreePage → ℕ → ℕ → Left → P → P → Type 0
  PassesBy most page at child below before after =
      Whenever before after (λ a b. (trunks : List Trunk) → HasBeside (sizes_of g before) page at child below a trunks → UsesBy (sizes_of g before) most a b)

  -- so many pages more at most are in use over a sound freelist
  abbrev pub ClosesBy : ℕ → P → P → Type 0
  ClosesBy most before after = Whenever before after (λ a b. (trunks : List Trunk) → IsFree (sizes_of g before) a trunks → UsesBy (sizes_of g before) most a b)

  -- what is refused over a root whose only child stands
  abbrev pub RefusesOver : {T : Type 0} → ℕ → ℕ → (Paged → List Trunk → Type 0) → P → P → Result T (TreeFault F) → Type 0
  RefusesOver most limit Has before after result =
      (m : Pages) (trunks : List Trunk) → g.pages before ≡ Some m → IsFree (sizes_of g before) (paged g before m) trunks → Has (paged g before m) trunks
      → IfErr result (IsShort (sizes_of g before) most limit (paged g before m) trunks (g.count after))

  -- what is refused at a root behind a delete below its child, whatever index stood before
  abbrev pub RefusesPassed : {T : Type 0} → ℕ → ℕ → TreePage → ℕ → ℕ → Left → (Paged → Paged → Type 0) → P → P → Result T (TreeFault F) → Type 0
  RefusesPassed most limit page at child below IsLeft before after result =
      (base : Paged) (levels : ℕ) (tree : TreeOf levels) (trunks : List Trunk) → base.pages page.number ≡ page.bytes → page_of levels tree ≡ page.number → IsFree (sizes_of g before) base trunks
      → IsReady (sizes_of g before) levels base tree trunks → (m : Pages) (rest : List Trunk) → g.pages before ≡ Some m → IsLeft base (paged g before m)
      → HasBeside (sizes_of g before) page at child below (paged g before m) rest → IfErr result (IsShort (sizes_of g before) most limit (paged g before m) rest (g.count after))

  -- what is refused below a page
  abbrev pub RefusesWhere : {T : Type 0} → ((levels : ℕ) → TreeOf levels → Type 0) → ℕ → ℕ → ℕ → ℕ → P → P → Result T (TreeFault F) → Type 0
  RefusesWhere Has most more limit page before after result =
      (m : Pages) → g.pages before ≡ Some m → IfErr result (IsShortWhere (sizes_of g before) Has most more limit page (paged g before m) (g.count after))
