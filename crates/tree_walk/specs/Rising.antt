-- The rowids that a cursor over a table's tree gives, whatever the store holds.
use Rattle.std.specs.Prelude.{◌≡◌, ℤ, ◌<ℤ◌, ◌≤ℤ◌, Bool, IsTrue}
use Rattle.tree_spec.specs.declared.TreeKind.{TreeKind}
use Rattle.tree_spec.specs.declared.TreeKind.TheVariants.{Table}
use Rattle.tree_walk.specs.declared.path.Cursor.{Cursor}
use Rattle.tree_walk.specs.Pages.{tree_kind}
use Rattle.tree_walk.specs.Places.{low_at, high_at}
use Rattle.tree_walk.specs.Courses.{IsPast}

-- the kind of the tree in which a cursor is
abbrev pub kind_of : Cursor → TreeKind
kind_of cursor = tree_kind cursor.here.page.kind

-- the rowid of the cell at which a cursor stands
abbrev pub rowid_at : Cursor → ℤ
rowid_at cursor = high_at cursor.here

-- a cursor comes to a member above the one at which it stood
abbrev pub MovesUp : Cursor → Cursor → Bool → Type 0
MovesUp old new moved = IsTrue moved → kind_of old ≡ Table → rowid_at old <ℤ rowid_at new

-- a cursor went down to a first child, and comes above the same rowids
pub record KeepsLow (old new : Cursor) : Type 0 where
  pub kind_is : kind_of new ≡ kind_of old
  pub low_is : low_at new.here ≡ low_at old.here

-- a cursor left pages of which nothing was left, and all rowids behind are above the same one
pub record KeepsHigh (old new : Cursor) : Type 0 where
  pub kind_is : kind_of new ≡ kind_of old
  pub high_is : high_at new.here ≡ high_at old.here

-- a cursor comes to the first member from a cell on, or behind the cells of its page
abbrev pub ComesUp : Cursor → Cursor → Bool → Type 0
ComesUp old new moved = IsTrue moved → kind_of old ≡ Table → (high_at old.here ≤ℤ rowid_at new) × (IsPast old → high_at old.here <ℤ rowid_at new)
