-- What a walk comes to that begins where a rowid belongs, whatever the store holds.
use Rattle.std.specs.Prelude.{◌≡◌, ℕ, ℤ, zero, suc, ◌-◌, Result}
use Rattle.common_spec.specs.Reading.{OrFault}
use Rattle.refusal.specs.declared.Rule.{Rule}
use Rattle.tree_spec.specs.declared.TreeKind.TheVariants.{Table}
use Rattle.tree_spec.specs.declared.fault.TreeFault.{TreeFault}
use Rattle.tree_spec.specs.Faults.{IsDamageOrOther}
use Rattle.tree_spec.specs.Standing.{Sizes, Paged}
use Rattle.tree_walk.specs.declared.place.Place.{Place}
use Rattle.tree_walk.specs.declared.path.Cursor.{Cursor}
use Rattle.tree_walk.specs.Pages.{is_leaf}
use Rattle.tree_walk.specs.Places.{rowids, most_above, IsBadRoot, IsRootPlace}
use Rattle.tree_walk.specs.Seeks.{IsIndexOf}
use Rattle.tree_walk.specs.Courses.{Course, ends, stops, cells_left, cells_then, OnLeaf, Enters, Behind, Below, FromCell, IsOn, StandsOn, Reaches}

-- a page at another cell or child
abbrev pub place_at : Place → ℕ → Place
place_at place at = record { page = place.page; low = place.low; high = place.high; at = at }

module _ (sizes : Sizes) (base : Paged) (rowid : ℤ) where
  -- the walk that begins in a leaf at the first cell that is not less, or below the child in which the rowid belongs
  abbrev pub FromAimed : (Place → Course → Course → Type 0) → ℕ → Place → Course → Course → Type 0
  FromAimed Inside room place later course =
      OnLeaf (is_leaf place.page.kind) (course ≡ cells_then place later)
      ((behind : Course) × (Behind sizes base (Below sizes base room) (most_above - room) (cells_left place) place later behind × Enters sizes base Inside (most_above - room) place behind course))

  -- the walk that begins in a page where the rowid belongs there
  abbrev pub FromSought : ℕ → Place → Course → Course → Type 0
  FromSought zero place later course = (at : ℕ) → IsIndexOf rowid (rowids place.page.views) at → FromAimed (Below sizes base zero) zero (place_at place at) later course
  FromSought (suc room) place later course = (at : ℕ) → IsIndexOf rowid (rowids place.page.views) at → FromAimed (FromSought room) (suc room) (place_at place at) later course

  abbrev pub Deeper : ℕ → Place → Course → Course → Type 0
  Deeper zero place later course = Unit {0}
  Deeper (suc room) place later course = FromSought room place later course

  -- the course of a walk from where the rowid belongs in the table at a root
  pub record FromRowid (root : ℕ) (course : Course) : Type 0 where
    pub refused : (page : ℕ) (rule : Rule) → IsBadRoot (base.pages root) root sizes.usable Table page rule → course ≡ stops page rule
    pub entered : (place : Place) → IsRootPlace (base.pages root) root sizes.usable Table place → FromSought most_above place ends course

-- a cursor goes down to the leaf in which a rowid belongs
abbrev pub SeeksOn : {T F : Type 0} → Sizes → Paged → ℤ → Cursor → Cursor → Result T (TreeFault F) → Type 0
SeeksOn sizes base rowid old new result = (course : Course) → IsOn sizes base (FromSought sizes base rowid) course old → Reaches (IsOn sizes base (FromCell sizes base)) course new result

-- and to the first cell from there on
abbrev pub ComesOn : {T F : Type 0} → Sizes → Paged → ℤ → Cursor → Cursor → Result T (TreeFault F) → Type 0
ComesOn sizes base rowid old new result = (course : Course) → IsOn sizes base (FromSought sizes base rowid) course old → Reaches (StandsOn sizes base) course new result

-- a cursor stands at the first cell of the walk that begins where the rowid belongs in the tree of a place, or at a root
abbrev pub SoughtAt : {F : Type 0} → Sizes → Paged → ℤ → Place → Result Cursor (TreeFault F) → Type 0
SoughtAt sizes base rowid place result = (course : Course) → FromSought sizes base rowid most_above place ends course
    → OrFault (StandsOn sizes base course) (IsDamageOrOther (λ page rule. course ≡ stops page rule)) result

abbrev pub SeeksWalk : {F : Type 0} → Sizes → Paged → ℕ → ℤ → Result Cursor (TreeFault F) → Type 0
SeeksWalk sizes base root rowid result = (course : Course) → FromRowid sizes base rowid root course
    → OrFault (StandsOn sizes base course) (IsDamageOrOther (λ page rule. course ≡ stops page rule)) result
