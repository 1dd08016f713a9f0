-- Parts of what a walk over a tree finds, by the pages that were read of it.
use Rattle.std.specs.Prelude.{◌≡◌, ◌≢◌, ℕ, ℤ, suc, ◌-◌, ◌==◌, ◌⊎◌, Bool, true, false, List, [], ◌∷◌, ◌++◌, length, map, slice_get, slice_index_or, pos, Option, Result, Ok, Err}
use Rattle.std.specs.List.{list_any}
use Rattle.rbu_value.specs.declared.order.Collation.{Collation}
use Rattle.rbu_value.specs.declared.value.Value.{Value}
use Rattle.rbu_value.specs.declared.value.Value.TheVariants.{Int}
use Rattle.format_spec.specs.declared.CellView.{CellView}
use Rattle.format_spec.specs.Record.{IsRecord}
use Rattle.refusal.specs.declared.Rule.TheVariants as broken
use Rattle.tree_spec.specs.declared.TreeKind.{TreeKind}
use Rattle.tree_spec.specs.Trees.{TreeCell, Member, member, between, interior_kind}
use Rattle.tree_spec.specs.Standing.{Sizes, Paged, IsHeld}
use Rattle.tree_walk.specs.declared.page.TreePage.{TreePage}
use Rattle.tree_walk.specs.Pages.{is_leaf, tree_kind, view_of}
use Rattle.tree_walk.specs.Places.{Rises, child_or, low_bound, rowid_or}
use Rattle.tree_rows.specs.CoursesLaws.{IsSeenAt, AreSeenFrom}
use Rattle.database_spec.specs.declared.fault.FileFault.{FileFault}
use Rattle.database_spec.specs.declared.fault.FileFault.TheVariants as file
use Rattle.database_spec.specs.Walks.{Finding, Ends, Holds, Seen, IsCellVisit, AreCellVisits, IsChildVisit, AreChildVisits, IsInside, IsVisit, IsWalk, members_found}
use Rattle.database_spec.specs.Keys.{last_value}
use Rattle.database_spec.specs.Databases.{IsReadable}
use Rattle.database_spec.specs.FileFindings.{Subject, Found}
use Rattle.database_spec.specs.FileFaults.{ends_elsewhere, FirstWrong}
use Rattle.database_laws.specs.RightFindings.{AreRight}
use Rattle.database_laws.specs.RightFilesLaws.{in_tree}
use Rattle.db_check.specs.declared.fault.CheckFault.{CheckFault}
use Rattle.db_check.specs.declared.trees.Spot.{Spot}
use Rattle.db_check.specs.declared.walk.CheckedTree.{CheckedTree}
use Rattle.db_check.specs.declared.walk.Comparison.{Comparison}
use Rattle.db_check.specs.Answers.{IsRefusal}
use Rattle.db_check.specs.Passes.{IsMarked}
use Rattle.db_check.specs.Steps.{AreCompared, IsOf, members_at}

-- a member of these bytes is found in a page
abbrev pub HoldsMember : ℕ → List ℕ → List Finding → Type 0
HoldsMember page payload findings = (held : Member) × (held.payload ≡ payload) × (findings ≡ Holds page held ∷ [])

-- values that are an entry of an index: one for each column, and the rowid
pub record IsEntryOf (columns : List (Collation × Bool)) (payload : List ℕ) (entry : List Value) : Type 0 where
  pub is_record : IsRecord payload entry
  pub many : length entry ≡ suc (length columns)
  pub rowid : ℤ
  pub last : last_value columns entry ≡ Int rowid

-- the values of an entry, or that there are none
abbrev pub ReadsEntry : {F : Type 0} → List (Collation × Bool) → ℕ → List ℕ → Result (List Value) (CheckFault F) → Type 0
ReadsEntry columns page payload (Ok entry) = IsEntryOf columns payload entry
ReadsEntry columns page payload (Err fault) = IsRefusal (λ (other : FileFault). ((entry : List Value) → ¬ IsEntryOf columns payload entry) × (other ≡ file.Damaged page broken.Record)) fault

-- whether the bytes are a record that can be read
abbrev pub TellsReadable : List ℕ → Bool → Type 0
TellsReadable payload true = IsReadable (record { rowid = pos 0; payload = payload })
TellsReadable payload false = ¬ IsReadable (record { rowid = pos 0; payload = payload })

-- a leaf is found at a depth
abbrev pub EndsAt : ℕ → ℕ → List Finding → Type 0
EndsAt page depth findings = findings ≡ Ends page depth ∷ []

-- the cells of a page are in order; or a page that is no root has none, or else its rowids do not rise
abbrev pub IsInOrder : {F : Type 0} → Spot → TreePage → Result Unit (CheckFault F) → Type 0
IsInOrder spot page (Ok done) = (spot.left ≢ 25 → page.views ≢ []) × Rises (tree_kind page.kind) spot.low spot.high page.views
IsInOrder spot page (Err fault) =
    IsRefusal (λ (other : FileFault).
    ((spot.left ≢ 25) × (page.views ≡ []) × (other ≡ file.Damaged page.number broken.Empty))
    ⊎ ((spot.left ≢ 25 → page.views ≢ []) × (¬ Rises (tree_kind page.kind) spot.low spot.high page.views) × (other ≡ file.KeyOrder page.number))) fault

-- the child of a page at an index, whose rowids are above a bound
pub record IsChildSpot (spot : Spot) (page : TreePage) (at : ℕ) (low : Option ℤ) (child : Spot) : Type 0 where
  pub number : child.number ≡ child_or page.right (slice_get page.views at)
  pub left : child.left ≡ spot.left - 1
  pub low_is : child.low ≡ low
  pub high : child.high ≡ rowid_or spot.high (slice_get page.views at)

module _ (sizes : Sizes) (base : Paged) (kind : TreeKind) where
  -- the walk below the page of a spot
  abbrev pub Below : ℕ → ℤ → ℤ → ℕ → List Finding → Type 0
  Below left = IsVisit sizes base kind (left - 1) false (suc (26 - left))

  -- the walk from a spot down
  abbrev pub VisitsSpot : Spot → List Finding → Type 0
  VisitsSpot spot = IsVisit sizes base kind spot.left (spot.left == 25) (26 - spot.left) (low_bound spot.low) spot.high spot.number

  -- what is found in the page of a spot, which was read
  abbrev pub InPage : Spot → TreePage → List Finding → Type 0
  InPage spot page findings =
      (cells : List Seen) × AreSeenFrom sizes base kind (view_of page) 0 cells × (page.views ≡ map (λ (cell : Seen). cell.1) cells)
      × IsInside sizes base kind (Below spot.left) (spot.left == 25) (26 - spot.left) (low_bound spot.low) spot.high page.number page.kind cells page.right findings

  -- the cells of a leaf from one on
  abbrev pub CellsFrom : TreePage → ℕ → List Finding → Type 0
  CellsFrom page at findings = (cells : List Seen) × AreSeenFrom sizes base kind (view_of page) at cells × AreCellVisits sizes base kind page.number cells findings

  -- a cell of which a walk makes a member
  abbrev pub CellAt : TreePage → ℕ → List Finding → Type 0
  CellAt page at findings = (cell : Seen) × IsSeenAt sizes base kind (view_of page) at cell × IsCellVisit sizes base page.kind (λ c. member c ∷ []) page.number cell.0 findings

  -- the cell behind a child
  abbrev pub DividerAt : TreePage → ℕ → List Finding → Type 0
  DividerAt page at findings = (cell : Seen) × IsSeenAt sizes base kind (view_of page) at cell × IsCellVisit sizes base (interior_kind kind) (between kind) page.number cell.0 findings

  -- the children of an interior page from one on, whose rowids are above a bound
  abbrev pub ChildrenFrom : ℕ → TreePage → ℤ → ℤ → ℕ → List Finding → Type 0
  ChildrenFrom left page low high at findings =
      (cells : List Seen) × AreSeenFrom sizes base kind (view_of page) at cells × AreChildVisits sizes base kind (Below left) page.number low high cells page.right findings

  -- and behind one of them
  abbrev pub ChildrenBehind : ℕ → TreePage → ℤ → ℕ → List Finding → Type 0
  ChildrenBehind left page high at findings = (d : CellView) → ChildrenFrom left page (slice_index_or page.views at d).rowid high (suc at) findings

  -- what follows where a page begins: the cells of a leaf, or the children of another page
  abbrev pub GoesInto : Spot → TreePage → Bool → List Finding → Type 0
  GoesInto spot page true findings = (is_leaf page.kind ≡ true) × (tree_kind page.kind ≡ kind) × CellsFrom page 0 findings
  GoesInto spot page false findings = (is_leaf page.kind ≡ false) × (tree_kind page.kind ≡ kind) × ChildrenFrom spot.left page (low_bound spot.low) spot.high 0 findings

  -- a child, whose number stands in a page
  abbrev pub VisitsChild : ℕ → Spot → List Finding → Type 0
  VisitsChild parent child = IsChildVisit sizes base kind (IsVisit sizes base kind child.left (child.left == 25) (26 - child.left)) parent (low_bound child.low) child.high child.number

  -- a cell whose chain is whole, behind that chain
  abbrev pub MemberAt : TreePage → ℕ → List Finding → Type 0
  MemberAt page at findings =
      (cell : Seen) × IsSeenAt sizes base kind (view_of page) at cell
      × ((whole : TreeCell) × (whole.bytes ≡ cell.0) × IsHeld sizes base page.kind whole × (findings ≡ Holds page.number (member whole) ∷ []))

-- nothing of the tree at a root was found
pub record IsFresh (root : ℕ) (found : List Found) : Type 0 where
  pub leaves : (depth : ℕ) → list_any (ends_elsewhere root depth) found ≡ false
  pub members : members_at root found ≡ []

module _ (sizes : Sizes) (base : Paged) where
  -- all of a tree is right, or its first fault is answered
  abbrev pub EndsTree : {F : Type 0} → CheckedTree → Subject → List Found → List Finding → List Bool → Result Comparison (CheckFault F) → Type 0
  EndsTree tree subject before findings flags (Ok compared) =
      AreRight before (in_tree subject findings) × IsMarked flags (before ++ in_tree subject findings) × AreCompared tree subject.content (members_found findings) compared
  EndsTree tree subject before findings flags (Err fault) = IsRefusal (FirstWrong before (in_tree subject findings)) fault

  -- The tree at a root, of which nothing was found before.
  abbrev pub PassesTree : {F : Type 0} → CheckedTree → ℕ → List Bool → List Bool → Result Comparison (CheckFault F) → Type 0
  PassesTree tree root old flags result =
      (subject : Subject) (before : List Found) → IsOf tree subject.content → subject.root ≡ root → IsFresh root before → IsMarked old before
      → (findings : List Finding) → IsWalk sizes base tree.kind root findings → EndsTree tree subject before findings flags result
