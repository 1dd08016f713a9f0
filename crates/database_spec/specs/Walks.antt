-- What a walk over a tree finds, whatever the pages hold (Database File Format, section 1.6): depth first from the left, as far as pages are accepted.
use Rattle.std.specs.Prelude.{◌≡◌, ◌≢◌, ℕ, ℤ, zero, suc, ◌-◌, ◌==◌, Bool, true, false, ◌⊎◌, IsTrue, IsFalse, if◌then◌else◌, List, [], ◌∷◌, ◌++◌, map, filter_map, Option, Some, None}
use Rattle.std.specs.List.{AllByRecursion}
use Rattle.format_spec.specs.declared.PageKind.{PageKind}
use Rattle.format_spec.specs.declared.CellView.{CellView}
use Rattle.format_spec.specs.Cell.{IsCell}
use Rattle.format_spec.specs.Page.{IsPage}
use Rattle.page_spec.specs.Chains.{IsBroken, last_linked}
use Rattle.page_layout.specs.Views.{IsRefused}
use Rattle.refusal.specs.declared.Rule.{Rule}
use Rattle.refusal.specs.declared.Rule.TheVariants as broken
use Rattle.tree_spec.specs.declared.TreeKind.{TreeKind}
use Rattle.tree_spec.specs.declared.TreeKind.TheVariants.{Table, Index}
use Rattle.tree_spec.specs.Trees.{TreeCell, Member, member, between, leaf_kind, interior_kind, greatest_depth}
use Rattle.tree_spec.specs.Bounds.{RisesIn, below_rowids, greatest_rowid}
use Rattle.tree_spec.specs.Standing.{Sizes, Paged, IsNumber, IsHeld}

-- What is found. A page of the tree or of an overflow chain; that a page is a leaf, so many pages from the root, both counted; a member, in the page of its cell; what is wrong with a page or its cell;
-- that the rowids of a page do not rise within their bounds; and that the root is an interior page without a cell, which only page 1 may be.
pub data Finding : Type 0 where
  Finds : ℕ → Finding
  Ends : ℕ → ℕ → Finding
  Holds : ℕ → Member → Finding
  Breaks : ℕ → Rule → Finding
  Disorders : ℕ → Finding
  Bares : ℕ → Finding

-- a cell by its bytes and what they say
abbrev pub Seen : Type 0
Seen = List ℕ × CellView

abbrev pub bytes_seen : List Seen → List (List ℕ)
bytes_seen cells = map (λ cell. cell.0) cells

-- a page other than the root has no cell
abbrev pub is_empty : Bool → List Seen → Bool
is_empty false [] = true
is_empty false (cell ∷ cells) = false
is_empty true cells = false

-- the root is an interior page without a cell, and not page 1
abbrev pub bare : Bool → ℕ → List Seen → List Finding
bare true number [] = if number == 1 then [] else (Bares number ∷ [])
bare true number (cell ∷ cells) = []
bare false number cells = []

-- the rowids of a table's page strictly rise within bounds; those of an index have none
abbrev pub IsRising : TreeKind → ℤ → ℤ → List Seen → Type 0
IsRising Table low high cells = RisesIn low high (map (λ cell. cell.1.rowid) cells)
IsRising Index low high cells = Unit {0}

module _ (sizes : Sizes) (base : Paged) where
  -- the page is accepted, with these cells
  pub record IsAccepted (number : ℕ) (page_kind : PageKind) (cells : List Seen) (right : ℕ) : Type 0 where
    pub is_page : IsPage (base.pages number) number sizes.usable page_kind (bytes_seen cells) right
    pub views : AllByRecursion (λ cell. IsCell page_kind sizes.usable cell.0 cell.1) cells

  -- the overflow pages of a cell, and then what it holds; or those as far as they are linked, and that the next number is wrong, which stands in the last of them or in the page of the cell
  pub record IsWhole (page_kind : PageKind) (holds : TreeCell → List Member) (page : ℕ) (bytes : List ℕ) (findings : List Finding) : Type 0 where
    pub cell : TreeCell
    pub bytes_are : cell.bytes ≡ bytes
    pub held : IsHeld sizes base page_kind cell
    pub findings_are : findings ≡ map Finds cell.chain ++ map (Holds page) (holds cell)

  pub record IsTorn (page_kind : PageKind) (page : ℕ) (bytes : List ℕ) (findings : List Finding) : Type 0 where
    pub view : CellView
    pub is_cell : IsCell page_kind sizes.usable bytes view
    pub at : ℕ
    pub is_broken : IsBroken base.pages sizes.size sizes.usable base.count view.overflow (view.payload - view.local) at
    pub findings_are : findings ≡ map Finds is_broken.numbers ++ (Breaks (last_linked page is_broken.numbers) broken.Chain ∷ [])

  abbrev pub IsCellVisit : PageKind → (TreeCell → List Member) → ℕ → List ℕ → List Finding → Type 0
  IsCellVisit page_kind holds page bytes findings = IsWhole page_kind holds page bytes findings ⊎ IsTorn page_kind page bytes findings

  module _ (kind : TreeKind) where
    -- the cells of a leaf, one after the other
    abbrev pub AreCellVisits : ℕ → List Seen → List Finding → Type 0
    AreCellVisits page [] findings = findings ≡ []
    AreCellVisits page (cell ∷ cells) findings =
        (own : List Finding) × (later : List Finding)
        × IsCellVisit (leaf_kind kind) (λ cell. member cell ∷ []) page cell.0 own × AreCellVisits page cells later × (findings ≡ own ++ later)

    module _ (visit : ℤ → ℤ → ℕ → List Finding → Type 0) where
      -- a child's number is out of range, or its page is visited
      abbrev pub IsChildVisit : ℕ → ℤ → ℤ → ℕ → List Finding → Type 0
      IsChildVisit parent low high number findings =
          ((¬ IsNumber sizes base number) × (findings ≡ Breaks parent broken.Child ∷ [])) ⊎ (IsNumber sizes base number × visit low high number findings)

      -- the children of an interior page, each with the cell behind it, and the right child
      abbrev pub AreChildVisits : ℕ → ℤ → ℤ → List Seen → ℕ → List Finding → Type 0
      AreChildVisits page low high [] right findings = IsChildVisit page low high right findings
      AreChildVisits page low high (cell ∷ cells) right findings =
          (child : List Finding) × (own : List Finding) × (later : List Finding)
          × IsChildVisit page low cell.1.rowid cell.1.child child × IsCellVisit (interior_kind kind) (between kind) page cell.0 own
          × AreChildVisits page cell.1.rowid high cells right later × (findings ≡ child ++ (own ++ later))

      -- a page that lacks a cell, or whose rowids do not rise, ends the walk there
      abbrev pub GoesOn : Bool → ℤ → ℤ → ℕ → List Seen → (List Finding → Type 0) → List Finding → Type 0
      GoesOn root low high number cells Inside findings =
          (IsTrue (is_empty root cells) × (findings ≡ Breaks number broken.Empty ∷ []))
          ⊎ (IsFalse (is_empty root cells) × (¬ IsRising kind low high cells) × (findings ≡ Disorders number ∷ []))
          ⊎ (IsFalse (is_empty root cells) × IsRising kind low high cells × Inside findings)

      -- what is found in an accepted page: it is of the other kind, a leaf, or an interior page
      abbrev pub IsInside : Bool → ℕ → ℤ → ℤ → ℕ → PageKind → List Seen → ℕ → List Finding → Type 0
      IsInside root depth low high number page_kind cells right findings =
          ((page_kind ≢ leaf_kind kind) × (page_kind ≢ interior_kind kind) × (findings ≡ Breaks number broken.Kind ∷ []))
          ⊎ ((page_kind ≡ leaf_kind kind) × ((rest : List Finding) × (findings ≡ Ends number depth ∷ rest) × GoesOn root low high number cells (AreCellVisits number cells) rest))
          ⊎ ((page_kind ≡ interior_kind kind)
          × ((rest : List Finding) × (findings ≡ bare root number cells ++ rest) × GoesOn root low high number cells (AreChildVisits number low high cells right) rest))

      -- what is found of a page: it is refused, or accepted
      abbrev pub IsRead : Bool → ℕ → ℤ → ℤ → ℕ → List Finding → Type 0
      IsRead root depth low high number findings =
          ((rule : Rule) × IsRefused (base.pages number) number sizes.usable rule × (findings ≡ Breaks number rule ∷ []))
          ⊎ ((page_kind : PageKind) × (cells : List Seen) × (right : ℕ) × IsAccepted number page_kind cells right × IsInside root depth low high number page_kind cells right findings)

    -- the walk over the pages from this one down, of which so many may stand below one another
    abbrev pub IsVisit : ℕ → Bool → ℕ → ℤ → ℤ → ℕ → List Finding → Type 0
    IsVisit zero root depth low high number findings = findings ≡ Finds number ∷ (Breaks number broken.Depth ∷ [])
    IsVisit (suc left) root depth low high number findings =
        (rest : List Finding) × (findings ≡ Finds number ∷ rest) × IsRead (IsVisit left false (suc depth)) root depth low high number rest

    -- the walk over the tree at a root
    abbrev pub IsWalk : ℕ → List Finding → Type 0
    IsWalk root findings = IsVisit greatest_depth true 1 below_rowids greatest_rowid root findings

-- what ends the way of a cursor: all that is wrong but leaves at two depths, and a root without a cell
abbrev pub stop_of : Finding → Option (ℕ × Rule)
stop_of (Finds page) = None
stop_of (Ends page depth) = None
stop_of (Holds page member) = None
stop_of (Breaks page rule) = Some (page, rule)
stop_of (Disorders page) = Some (page, broken.Cells)
stop_of (Bares page) = None

abbrev pub stops : List Finding → List (ℕ × Rule)
stops findings = filter_map stop_of findings

abbrev pub member_of : Finding → Option Member
member_of (Finds page) = None
member_of (Ends page depth) = None
member_of (Holds page member) = Some member
member_of (Breaks page rule) = None
member_of (Disorders page) = None
member_of (Bares page) = None

abbrev pub members_found : List Finding → List Member
members_found findings = filter_map member_of findings

abbrev pub page_in : Finding → Option ℕ
page_in (Finds page) = Some page
page_in (Ends page depth) = None
page_in (Holds page member) = None
page_in (Breaks page rule) = None
page_in (Disorders page) = None
page_in (Bares page) = None

abbrev pub pages_found : List Finding → List ℕ
pages_found findings = filter_map page_in findings

-- nothing is wrong with it, and a leaf stands so many pages from the root
abbrev pub IsFlawless : ℕ → Finding → Type 0
IsFlawless deepest (Finds page) = Unit {0}
IsFlawless deepest (Ends page depth) = depth ≡ deepest
IsFlawless deepest (Holds page member) = Unit {0}
IsFlawless deepest (Breaks page rule) = ⊥
IsFlawless deepest (Disorders page) = ⊥
IsFlawless deepest (Bares page) = ⊥

module _ (sizes : Sizes) (base : Paged) (kind : TreeKind) (root : ℕ) where
  -- these are all members that a cursor gives, which comes to the end
  abbrev pub IsList : List Member → Type 0
  IsList members = (findings : List Finding) × IsWalk sizes base kind root findings × (stops findings ≡ []) × (members ≡ members_found findings)

  -- this is what a cursor meets that does not come to the end
  abbrev pub StopsAt : ℕ × Rule → Type 0
  StopsAt stop = (findings : List Finding) × (later : List (ℕ × Rule)) × IsWalk sizes base kind root findings × (stops findings ≡ stop ∷ later)
