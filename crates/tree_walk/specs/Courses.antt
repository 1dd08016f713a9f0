-- What a walk over a tree comes to, whatever the store holds: the cells in their order, and the damage that it meets behind them.
use Rattle.std.specs.Prelude.{◌≡◌, ℕ, zero, suc, ◌+◌, ◌-◌, ◌<◌, ◌≤◌, Bool, true, false, cond, List, [], ◌∷◌, ◌++◌, length, drop, reverse, Option, Some, None, Result, Ok, Err, slice_index_or}
use Rattle.common_spec.specs.Reading.{OrFault}
use Rattle.format_spec.specs.declared.CellView.{CellView}
use Rattle.page_spec.specs.Pages.{IsInRange}
use Rattle.refusal.specs.declared.Rule.{Rule}
use Rattle.tree_spec.specs.declared.TreeKind.{TreeKind}
use Rattle.tree_spec.specs.declared.fault.TreeFault.{TreeFault}
use Rattle.tree_spec.specs.Faults.{IsDamageOrOther}
use Rattle.tree_spec.specs.Standing.{Sizes, Paged}
use Rattle.tree_walk.specs.declared.place.Place.{Place}
use Rattle.tree_walk.specs.declared.path.Cursor.{Cursor}
use Rattle.tree_walk.specs.declared.cursor.Row.{Row}
use Rattle.tree_walk.specs.Pages.{PageView, view_of, has_dividers, is_leaf}
use Rattle.tree_walk.specs.Payloads.{IsBadPayload, IsPayload}
use Rattle.tree_walk.specs.Places.{child_at, most_above, IsBadRoot, IsBadStep, IsChild, IsRootPlace}

-- the cursor stands past all cells of its page, and so past the last member
abbrev pub IsPast : Cursor → Type 0
IsPast cursor = length cursor.here.page.views ≤ cursor.here.at

-- a cell of a page, by its index
pub record Spot : Type 0 where
  pub page : PageView
  pub at : ℕ

-- the page that holds what is wrong, and the rule that it breaks
pub record Damage : Type 0 where
  pub page : ℕ
  pub rule : Rule

-- the cells that a walk comes to, and the damage at which it stops, if any
pub record Course : Type 0 where
  pub spots : List Spot
  pub damage : Option Damage

abbrev pub ends : Course
ends = record { spots = []; damage = None }

abbrev pub stops : ℕ → Rule → Course
stops page rule = record { spots = []; damage = Some (record { page = page; rule = rule }) }

-- all but the first cell
abbrev pub behind_first : Course → Course
behind_first course = record { spots = drop 1 course.spots; damage = course.damage }

-- so many cells of a page, from an index on
abbrev pub spots_from : PageView → ℕ → ℕ → List Spot
spots_from page at zero = []
spots_from page at (suc more) = record { page = page; at = at } ∷ spots_from page (suc at) more

-- how many cells a page has from a place on
abbrev pub cells_left : Place → ℕ
cells_left place = length place.page.views - place.at

-- the cells of a leaf from a place on, and then what is behind the leaf
abbrev pub cells_then : Place → Course → Course
cells_then place later = record { spots = spots_from (view_of place.page) place.at (cells_left place) ++ later.spots; damage = later.damage }

-- the cell of an interior page, which is an entry of an index and a divider of a table, and then what is behind it
abbrev pub cell_then : Place → Course → Course
cell_then place later = cond (has_dividers place.page.kind) later (record { spots = record { page = view_of place.page; at = place.at } ∷ later.spots; damage = later.damage })

-- the next cell or child of a page
abbrev pub next_of : Place → Place
next_of place = record { page = place.page; low = place.low; high = place.high; at = place.at + 1 }

abbrev pub OnLeaf : Bool → Type 0 → Type 0 → Type 0
OnLeaf true Leaf Inner = Leaf
OnLeaf false Leaf Inner = Inner

module _ (sizes : Sizes) (base : Paged) where
  -- The walk enters the child of a place, and goes on below it; or the child is refused, and the walk stops.
  pub record Enters (Below : Place → Course → Course → Type 0) (above : ℕ) (place : Place) (later course : Course) : Type 0 where
    pub refused : (page : ℕ) (rule : Rule) → IsBadStep base.pages sizes.size sizes.usable base.count place above page rule → course ≡ stops page rule
    pub entered : (child : Place) → IsInRange sizes.size base.count (child_at place) → above < most_above → IsChild base.pages sizes.usable place child → Below child later course

  module _ (Below : Place → Course → Course → Type 0) (above : ℕ) where
    -- what is behind the child of a place in its page, and then what is behind the page: the cell, and the next child
    abbrev pub Behind : ℕ → Place → Course → Course → Type 0
    Behind zero place later course = course ≡ later
    Behind (suc left) place later course =
        (rest : Course) × ((behind : Course) × (Behind left (next_of place) later behind × Enters Below above (next_of place) behind rest)) × (course ≡ cell_then place rest)

    -- the walk from a place on: from a cell of a leaf, or from a child
    abbrev pub FromPlace : Place → Course → Course → Type 0
    FromPlace place later course =
        OnLeaf (is_leaf place.page.kind) (course ≡ cells_then place later) ((behind : Course) × (Behind (cells_left place) place later behind × Enters Below above place behind course))

  abbrev pub Nowhere : Place → Course → Course → Type 0
  Nowhere place later course = Unit {0}

  -- the walk from a place on, which has room for so many pages below it
  abbrev pub From : ℕ → Place → Course → Course → Type 0
  From zero place later course = FromPlace Nowhere most_above place later course
  From (suc room) place later course = FromPlace (From room) (most_above - suc room) place later course

  abbrev pub Below : ℕ → Place → Course → Course → Type 0
  Below zero place later course = Unit {0}
  Below (suc room) place later course = From room place later course

  -- the walk from the cell of a place on, which is a member, or behind the child in which the walk was
  abbrev pub FromCell : ℕ → Place → Course → Course → Type 0
  FromCell room place later course = OnLeaf (is_leaf place.page.kind) (course ≡ cells_then place later) (Behind (Below room) (most_above - room) (cells_left place) place later course)

  -- what the pages above leave of a walk
  abbrev pub IsLater : ℕ → List Place → Course → Type 0
  IsLater room [] later = later ≡ ends
  IsLater room (parent ∷ parents) later =
      (higher : Course) × (IsLater (suc room) parents higher × Behind (Below (suc room)) (most_above - suc room) (cells_left parent) parent higher later)

  -- a cursor is on a walk of which this course is left
  pub record IsOn (FromHere : ℕ → Place → Course → Course → Type 0) (course : Course) (cursor : Cursor) : Type 0 where
    pub room : ℕ
    pub deep : room + length cursor.above.items ≡ most_above
    pub later : Course
    pub is_later : IsLater room (reverse cursor.above.items) later
    pub from_here : FromHere room cursor.here later course

  -- the cursor is about to go down to the first cell from its place on
  pub record GoesFrom (course : Course) (cursor : Cursor) : Type 0 where
    pub is_on : IsOn From course cursor
    pub past : is_leaf cursor.here.page.kind ≡ true → IsPast cursor → is_on.later ≡ ends

  -- The cursor stands at the first cell of this course, which is what is left of the walk, or past the last where none is left.
  pub record StandsOn (course : Course) (cursor : Cursor) : Type 0 where
    pub is_on : IsOn FromCell course cursor
    pub cell : has_dividers cursor.here.page.kind ≡ true → IsPast cursor
    pub past : IsPast cursor → course ≡ ends

  -- the course of a walk over the tree of this kind at a root
  pub record FromRoot (kind : TreeKind) (root : ℕ) (course : Course) : Type 0 where
    pub refused : (page : ℕ) (rule : Rule) → IsBadRoot (base.pages root) root sizes.usable kind page rule → course ≡ stops page rule
    pub entered : (place : Place) → IsRootPlace (base.pages root) root sizes.usable kind place → From most_above place ends course

-- A call that goes on to the first cell of a course: the cursor comes to stand there, or the course stops before it, and the call refuses just that.
abbrev pub Reaches : {T F : Type 0} → (Course → Cursor → Type 0) → Course → Cursor → Result T (TreeFault F) → Type 0
Reaches P course cursor (Ok done) = P course cursor
Reaches P course cursor (Err fault) = IsDamageOrOther (λ page rule. course ≡ stops page rule) fault

-- a cursor goes down to the first cell from its place on
abbrev pub GoesOn : {T F : Type 0} → Sizes → Paged → Cursor → Cursor → Result T (TreeFault F) → Type 0
GoesOn sizes base old new result = (course : Course) → GoesFrom sizes base course old → Reaches (GoesFrom sizes base) course new result

-- and stands there
abbrev pub LandsOn : {T F : Type 0} → Sizes → Paged → Cursor → Cursor → Result T (TreeFault F) → Type 0
LandsOn sizes base old new result = (course : Course) → GoesFrom sizes base course old → Reaches (StandsOn sizes base) course new result

-- a cursor that is at a cell, or past those of its page, comes to the first member from there on
abbrev pub SettlesOn : {T F : Type 0} → Sizes → Paged → Cursor → Cursor → Result T (TreeFault F) → Type 0
SettlesOn sizes base old new result = (course : Course) → IsOn sizes base (FromCell sizes base) course old → Reaches (StandsOn sizes base) course new result

-- a cursor moves to the next cell of its walk
abbrev pub MovesOver : {T F : Type 0} → Sizes → Paged → Cursor → Cursor → Result T (TreeFault F) → Type 0
MovesOver sizes base old new result = (course : Course) → StandsOn sizes base course old → Reaches (StandsOn sizes base) (behind_first course) new result

-- a cursor stands at the first cell of the walk that goes on from a place
abbrev pub StartsAt : {F : Type 0} → Sizes → Paged → Place → Result Cursor (TreeFault F) → Type 0
StartsAt sizes base place result = (course : Course) → From sizes base most_above place ends course
    → OrFault (StandsOn sizes base course) (IsDamageOrOther (λ page rule. course ≡ stops page rule)) result

-- a cursor stands at the first cell of the walk over the tree of this kind at a root
abbrev pub StartsWalk : {F : Type 0} → Sizes → Paged → TreeKind → ℕ → Result Cursor (TreeFault F) → Type 0
StartsWalk sizes base kind root result = (course : Course) → FromRoot sizes base kind root course
    → OrFault (StandsOn sizes base course) (IsDamageOrOther (λ page rule. course ≡ stops page rule)) result

-- The row of the first of these cells, and none where there is none.
module _ (sizes : Sizes) (base : Paged) where
  abbrev pub IsFirstOf : List Spot → Option Row → Type 0
  IsFirstOf [] None = Unit {0}
  IsFirstOf [] (Some row) = ⊥
  IsFirstOf (spot ∷ rest) None = ⊥
  IsFirstOf (spot ∷ rest) (Some row) = (d : CellView) → let view = slice_index_or spot.page.views spot.at d in
      (row.rowid ≡ view.rowid) × IsPayload base.pages sizes.size sizes.usable base.count spot.page spot.at view row.payload

  -- the chain of its payload is broken
  abbrev pub IsBadFirst : List Spot → ℕ → Rule → Type 0
  IsBadFirst [] page rule = ⊥
  IsBadFirst (spot ∷ rest) page rule = IsBadPayload base.pages sizes.size sizes.usable base.count spot.page spot.at page rule

  -- the row of the cell at which a cursor stands on its walk
  abbrev pub ReadsFirst : {F : Type 0} → Cursor → Result (Option Row) (TreeFault F) → Type 0
  ReadsFirst cursor result = (course : Course) → StandsOn sizes base course cursor → OrFault (IsFirstOf course.spots) (IsDamageOrOther (IsBadFirst course.spots)) result
