-- Places on the way of a cursor: the bounds and the child that a page gives, and which pages may be entered.
use Rattle.std.specs.Prelude.{◌≡◌, ◌≢◌, ℕ, ℤ, zero, suc, ◌<◌, ◌≤◌, ◌⊎◌, List, [], map, Option, Some, None, Result, slice_get}
use Rattle.common_spec.specs.Reading.{OrFault}
use Rattle.format_spec.specs.declared.CellView.{CellView}
use Rattle.page_spec.specs.Pages.{Pages, IsInRange}
use Rattle.page_layout.specs.Views.{IsRefused}
use Rattle.refusal.specs.declared.Rule.{Rule}
use Rattle.refusal.specs.declared.Rule.TheVariants as broken
use Rattle.tree_spec.specs.declared.TreeKind.{TreeKind}
use Rattle.tree_spec.specs.declared.TreeKind.TheVariants.{Table, Index}
use Rattle.tree_spec.specs.Bounds.{RisesIn, below_rowids, greatest_rowid}
use Rattle.tree_spec.specs.declared.fault.TreeFault.{TreeFault}
use Rattle.tree_spec.specs.Faults.{IsDamage, IsDamageOrOther}
use Rattle.tree_walk.specs.declared.page.TreePage.{TreePage}
use Rattle.tree_walk.specs.declared.place.Place.{Place}
use Rattle.tree_walk.specs.Pages.{IsDecoded, tree_kind}

abbrev pub rowids : List CellView → List ℤ
rowids views = map (λ view. view.rowid) views

-- a bound below rowids; where there is none, each rowid is above it
abbrev pub low_bound : Option ℤ → ℤ
low_bound (Some low) = low
low_bound None = below_rowids

-- the rowids of a table's page strictly rise within bounds; those of an index have none
abbrev pub Rises : TreeKind → Option ℤ → ℤ → List CellView → Type 0
Rises Table low high views = RisesIn (low_bound low) high (rowids views)
Rises Index low high views = Unit {0}

abbrev pub child_or : ℕ → Option CellView → ℕ
child_or right (Some view) = view.child
child_or right None = right

-- the child at which a place is: that of a cell, or behind all cells the right child
abbrev pub child_at : Place → ℕ
child_at place = child_or place.page.right (slice_get place.page.views place.at)

abbrev pub rowid_or : ℤ → Option CellView → ℤ
rowid_or high (Some view) = view.rowid
rowid_or high None = high

-- the greatest rowid that this child may have
abbrev pub high_at : Place → ℤ
high_at place = rowid_or place.high (slice_get place.page.views place.at)

abbrev pub bound_or : Option ℤ → Option CellView → Option ℤ
bound_or low (Some view) = Some view.rowid
bound_or low None = low

abbrev pub low_in : Option ℤ → List CellView → ℕ → Option ℤ
low_in low views zero = low
low_in low views (suc before) = bound_or low (slice_get views before)

-- the bound below its rowids: that of the cell before
abbrev pub low_at : Place → Option ℤ
low_at place = low_in place.low place.page.views place.at

-- the place is the first one of a page whose rowids keep the bounds
pub record IsBounded (page : TreePage) (low : Option ℤ) (high : ℤ) (place : Place) : Type 0 where
  pub page_is : place.page ≡ page
  pub low_is : place.low ≡ low
  pub high_is : place.high ≡ high
  pub first : place.at ≡ 0
  pub rises : Rises (tree_kind page.kind) low high page.views

-- the rowids of a page do not keep the bounds
abbrev pub OutOfOrder : TreePage → Option ℤ → ℤ → ℕ → Rule → Type 0
OutOfOrder page low high number rule = (number ≡ page.number) × (rule ≡ broken.Cells) × ¬ Rises (tree_kind page.kind) low high page.views

-- the number of a child, or that it is out of range, which stands in the parent
abbrev pub IsBadNumber : ℕ → ℕ → Place → ℕ → Rule → Type 0
IsBadNumber size count parent page rule = (page ≡ parent.page.number) × (rule ≡ broken.Child) × ¬ IsInRange size count (child_at parent)

abbrev pub IsChildNumber : {F : Type 0} → ℕ → ℕ → Place → Result ℕ (TreeFault F) → Type 0
IsChildNumber size count parent result = OrFault (λ number. (number ≡ child_at parent) × IsInRange size count number) (IsDamage (IsBadNumber size count parent)) result

-- the most pages above the one in which a cursor stands
abbrev pub most_above : ℕ
most_above = 24

-- what is wrong with a page that was read, in its place: of several the first
abbrev pub IsOutOfPlace : TreeKind → Option ℤ → ℤ → TreePage → Rule → Type 0
IsOutOfPlace kind low high page broken.Kind = tree_kind page.kind ≢ kind
IsOutOfPlace kind low high page broken.Empty = (tree_kind page.kind ≡ kind) × (page.views ≡ [])
IsOutOfPlace kind low high page broken.Cells = (tree_kind page.kind ≡ kind) × (page.views ≢ []) × ¬ Rises (tree_kind page.kind) low high page.views
IsOutOfPlace kind low high page _ = ⊥

-- a page of these bytes is refused: as a page, or in its place
abbrev pub IsBadPage : List ℕ → ℕ → ℕ → TreeKind → Option ℤ → ℤ → ℕ → Rule → Type 0
IsBadPage bytes number usable kind low high page rule =
    (page ≡ number) × (IsRefused bytes number usable rule ⊎ ((read : TreePage) × IsDecoded bytes number usable read × IsOutOfPlace kind low high read rule))

-- why a page that was read is no root of a tree of this kind, of several the first: it may have no cell
abbrev pub IsNoRoot : TreeKind → TreePage → Rule → Type 0
IsNoRoot kind page broken.Kind = tree_kind page.kind ≢ kind
IsNoRoot kind page broken.Cells = (tree_kind page.kind ≡ kind) × ¬ Rises (tree_kind page.kind) None greatest_rowid page.views
IsNoRoot kind page _ = ⊥

-- a page of these bytes is refused as the root of a tree of this kind: as a page, or in its place
abbrev pub IsBadRoot : List ℕ → ℕ → ℕ → TreeKind → ℕ → Rule → Type 0
IsBadRoot bytes number usable kind page rule =
    (page ≡ number) × (IsRefused bytes number usable rule ⊎ ((read : TreePage) × IsDecoded bytes number usable read × IsNoRoot kind read rule))

-- the first place of a page of these bytes, with these bounds
pub record IsEntered (bytes : List ℕ) (number usable : ℕ) (low : Option ℤ) (high : ℤ) (place : Place) : Type 0 where
  pub decoded : IsDecoded bytes number usable place.page
  pub low_is : place.low ≡ low
  pub high_is : place.high ≡ high
  pub first : place.at ≡ 0
  pub rises : Rises (tree_kind place.page.kind) low high place.page.views

-- the first place of the root of a tree of this kind
pub record IsRootPlace (bytes : List ℕ) (number usable : ℕ) (kind : TreeKind) (place : Place) : Type 0 where
  pub entered : IsEntered bytes number usable None greatest_rowid place
  pub kind_is : tree_kind place.page.kind ≡ kind

-- the first place of a page below another, which has its kind, a cell, and the bounds that it gives
pub record IsBelow (bytes : List ℕ) (number usable : ℕ) (parent child : Place) : Type 0 where
  pub entered : IsEntered bytes number usable (low_at parent) (high_at parent) child
  pub kind_is : tree_kind child.page.kind ≡ tree_kind parent.page.kind
  pub some : child.page.views ≢ []

-- a page of these bytes is entered below another
abbrev pub EntersPage : {F : Type 0} → List ℕ → ℕ → ℕ → Place → Result Place (TreeFault F) → Type 0
EntersPage bytes number usable parent result = OrFault (IsBelow bytes number usable parent) (IsDamageOrOther (IsBadPage bytes number usable (tree_kind parent.page.kind) (low_at parent) (high_at parent))) result

-- the page of the root of a tree of this kind is entered
abbrev pub EntersRoot : {F : Type 0} → List ℕ → ℕ → ℕ → TreeKind → Result Place (TreeFault F) → Type 0
EntersRoot bytes number usable kind result = OrFault (IsRootPlace bytes number usable kind) (IsDamageOrOther (IsBadRoot bytes number usable kind)) result

module _ (pages : Pages) where
  -- the place of the child of another
  abbrev pub IsChild : ℕ → Place → Place → Type 0
  IsChild usable parent child = IsBelow (pages (child_at parent)) (child_at parent) usable parent child

  -- why the child of a place is not entered: its number is out of range; else too many pages are above it; else its page is refused
  abbrev pub IsBadStep : ℕ → ℕ → ℕ → Place → ℕ → ℕ → Rule → Type 0
  IsBadStep size usable count parent above page rule =
      IsBadNumber size count parent page rule
      ⊎ (IsInRange size count (child_at parent) × (page ≡ child_at parent) × (rule ≡ broken.Depth) × (most_above ≤ above))
      ⊎ (IsInRange size count (child_at parent) × (above < most_above) × IsBadPage (pages (child_at parent)) (child_at parent) usable (tree_kind parent.page.kind) (low_at parent) (high_at parent) page rule)

  -- the child of a place is entered, or not
  abbrev pub EntersChild : {F : Type 0} → ℕ → ℕ → ℕ → Place → ℕ → Result Place (TreeFault F) → Type 0
  EntersChild size usable count parent above result = OrFault (IsChild usable parent) (IsDamageOrOther (IsBadStep size usable count parent above)) result
