-- Which members of a standing tree are left where a cursor stands.
use Rattle.std.specs.Prelude.{◌≡◌, ℕ, List, [], ◌∷◌, ◌++◌, length, drop, Option, Some, None, Result, Ok, Err, slice_index_or}
use Rattle.std.specs.List.{AllZip}
use Rattle.common_spec.specs.Reading.{OrFault}
use Rattle.format_spec.specs.declared.CellView.{CellView}
use Rattle.tree_spec.specs.declared.TreeKind.{TreeKind}
use Rattle.tree_spec.specs.Trees.{Member}
use Rattle.tree_spec.specs.Standing.{Sizes, Paged, IsTree}
use Rattle.tree_spec.specs.declared.fault.TreeFault.{TreeFault}
use Rattle.tree_spec.specs.Faults.{IsOther, IsDamageOrOther}
use Rattle.tree_walk.specs.declared.path.Cursor.{Cursor}
use Rattle.tree_walk.specs.declared.cursor.Row.{Row}
use Rattle.tree_walk.specs.Pages.{tree_kind}
use Rattle.tree_walk.specs.Payloads.{IsPayload}
use Rattle.tree_walk.specs.Places.{IsBadStep, IsChild}
use Rattle.tree_walk.specs.Courses.{Spot, Course, StandsOn}

module _ (sizes : Sizes) (base : Paged) (kind : TreeKind) where
  -- the cell of a page is this member of a tree of the kind
  pub record IsMember (spot : Spot) (member : Member) : Type 0 where
    pub kind_is : tree_kind spot.page.kind ≡ kind
    pub rowid_is : (d : CellView) → (slice_index_or spot.page.views spot.at d).rowid ≡ member.rowid
    pub payload_is : (d : CellView) → IsPayload base.pages sizes.size sizes.usable base.count spot.page spot.at (slice_index_or spot.page.views spot.at d) member.payload

  -- a walk comes to the cells of these members and to no others, and then to its end
  pub record HasMembers (members : List Member) (course : Course) : Type 0 where
    pub cells : AllZip IsMember course.spots members
    pub undamaged : course.damage ≡ None

  -- the cursor stands at the first of these members, which are those that are left of the tree, or past the last where there is none
  pub record StandsAt (rest : List Member) (cursor : Cursor) : Type 0 where
    pub course : Course
    pub stands : StandsOn sizes base course cursor
    pub members : HasMembers rest course

-- a call leaves a cursor as is said, or the store failed or memory is wanting
abbrev pub Leaves : {T F : Type 0} → (Cursor → Type 0) → Cursor → Result T (TreeFault F) → Type 0
Leaves P cursor (Ok done) = P cursor
Leaves P cursor (Err fault) = IsOther fault

-- the cursor stands at the first of all members of the tree of this kind at a root
abbrev pub StandsFirst : {F : Type 0} → Sizes → Paged → TreeKind → ℕ → Result Cursor (TreeFault F) → Type 0
StandsFirst sizes base kind root result = (depth : ℕ) (members : List Member) (numbers : List ℕ) → IsTree sizes base root kind depth members numbers
    → OrFault (StandsAt sizes base kind members) IsOther result

-- a cursor that stands in a tree moves to the next member
abbrev pub MovesOn : {T F : Type 0} → Sizes → Paged → Cursor → Cursor → Result T (TreeFault F) → Type 0
MovesOn sizes base old new result = (kind : TreeKind) (rest : List Member) → StandsAt sizes base kind rest old → Leaves (StandsAt sizes base kind (drop 1 rest)) new result

-- the row is the first of these members, and there is none where no member is left
abbrev pub IsFirstRow : List Member → Option Row → Type 0
IsFirstRow [] (Some row) = ⊥
IsFirstRow [] None = Unit {0}
IsFirstRow (member ∷ rest) (Some row) = (row.rowid ≡ member.rowid) × (row.payload ≡ member.payload)
IsFirstRow (member ∷ rest) None = ⊥

-- the row of the member at which a cursor stands
abbrev pub ReadsRow : {F : Type 0} → Sizes → Paged → Cursor → Result (Option Row) (TreeFault F) → Type 0
ReadsRow sizes base cursor result = (kind : TreeKind) (rest : List Member) → StandsAt sizes base kind rest cursor → OrFault (IsFirstRow rest) IsOther result

-- a cursor entered the child at which it was, or not
abbrev pub StepsDown : {F : Type 0} → Sizes → Paged → Cursor → Cursor → Result Unit (TreeFault F) → Type 0
StepsDown sizes base old new (Ok done) = (new.above.items ≡ old.above.items ++ old.here ∷ []) × IsChild base.pages sizes.usable old.here new.here
StepsDown sizes base old new (Err fault) = IsDamageOrOther (IsBadStep base.pages sizes.size sizes.usable base.count old.here (length old.above.items)) fault
