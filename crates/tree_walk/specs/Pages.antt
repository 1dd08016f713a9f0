-- Pages of a tree as they were read, and what a read answers.
use Rattle.std.specs.Prelude.{◌≡◌, ℕ, Bool, true, false, List, Result}
use Rattle.common_spec.specs.Reading.{OrFault}
use Rattle.format_spec.specs.declared.PageKind.{PageKind}
use Rattle.format_spec.specs.declared.PageKind.TheVariants.{IndexInterior, TableInterior, IndexLeaf, TableLeaf}
use Rattle.format_spec.specs.declared.CellView.{CellView}
use Rattle.format_spec.specs.Page.{RightChild, header_place}
use Rattle.page_spec.specs.Pages.{Pages}
use Rattle.page_layout.specs.Views.{HasKind, HasViews, IsRefused}
use Rattle.refusal.specs.declared.Rule.{Rule}
use Rattle.tree_spec.specs.declared.TreeKind.{TreeKind}
use Rattle.tree_spec.specs.declared.TreeKind.TheVariants.{Table, Index}
use Rattle.tree_spec.specs.declared.fault.TreeFault.{TreeFault}
use Rattle.tree_spec.specs.Faults.{IsDamageOrOther}
use Rattle.tree_walk.specs.declared.page.TreePage.{TreePage}

-- the kind of the trees that have pages of a kind
abbrev pub tree_kind : PageKind → TreeKind
tree_kind TableLeaf = Table
tree_kind TableInterior = Table
tree_kind IndexLeaf = Index
tree_kind IndexInterior = Index

-- whether pages of a kind have no children
abbrev pub is_leaf : PageKind → Bool
is_leaf TableLeaf = true
is_leaf TableInterior = false
is_leaf IndexLeaf = true
is_leaf IndexInterior = false

-- whether the cells of pages of a kind are no members
abbrev pub has_dividers : PageKind → Bool
has_dividers TableLeaf = false
has_dividers TableInterior = true
has_dividers IndexLeaf = false
has_dividers IndexInterior = false

-- a page as a walk sees it: its number, its kind, its bytes, and what its cells say
pub record PageView : Type 0 where
  pub number : ℕ
  pub kind : PageKind
  pub bytes : List ℕ
  pub views : List CellView

abbrev pub view_of : TreePage → PageView
view_of page = record { number = page.number; kind = page.kind; bytes = page.bytes; views = page.views }

-- the page was read from these bytes
pub record IsDecoded (bytes : List ℕ) (number usable : ℕ) (page : TreePage) : Type 0 where
  pub number_is : page.number ≡ number
  pub bytes_are : page.bytes ≡ bytes
  pub kind_is : HasKind bytes number page.kind
  pub has_views : HasViews bytes number usable page.views
  pub right_is : RightChild page.kind bytes (header_place number) page.right

-- a page of these bytes is refused, and is told with its number
abbrev pub IsBadRead : List ℕ → ℕ → ℕ → ℕ → Rule → Type 0
IsBadRead bytes number usable page rule = (page ≡ number) × IsRefused bytes number usable rule

abbrev pub IsReadFault : {F : Type 0} → List ℕ → ℕ → ℕ → TreeFault F → Type 0
IsReadFault bytes number usable fault = IsDamageOrOther (IsBadRead bytes number usable) fault

-- the page of this number was read, or is refused
abbrev pub ReadsPage : {F : Type 0} → Pages → ℕ → ℕ → Result TreePage (TreeFault F) → Type 0
ReadsPage pages usable number result = OrFault (IsDecoded (pages number) number usable) (IsReadFault (pages number) number usable) result
