-- Where a rowid belongs in a table's tree.
use Rattle.std.specs.Prelude.{◌≡◌, ℕ, ℤ, zero, suc, ◌<ℤ◌, ◌≤ℤ◌, int_le, List, [], ◌∷◌, Result}
use Rattle.std.specs.List.{filter}
use Rattle.common_spec.specs.Reading.{OrFault}
use Rattle.tree_spec.specs.declared.TreeKind.TheVariants.{Table}
use Rattle.tree_spec.specs.declared.fault.TreeFault.{TreeFault}
use Rattle.tree_spec.specs.Faults.{IsOther}
use Rattle.tree_spec.specs.Trees.{Member}
use Rattle.tree_spec.specs.Standing.{Sizes, Paged, IsTree}
use Rattle.tree_walk.specs.declared.path.Cursor.{Cursor}
use Rattle.tree_walk.specs.Places.{rowids}
use Rattle.tree_walk.specs.Walks.{StandsAt}

-- the members whose rowid is not less than another
abbrev pub not_less : ℤ → List Member → List Member
not_less rowid members = filter (λ member. int_le rowid member.rowid) members

-- the first of these rowids that is not less than another has this index; where each is less, it is their number
abbrev pub IsIndexOf : ℤ → List ℤ → ℕ → Type 0
IsIndexOf rowid [] at = at ≡ 0
IsIndexOf rowid (x ∷ xs) zero = rowid ≤ℤ x
IsIndexOf rowid (x ∷ xs) (suc at) = (x <ℤ rowid) × IsIndexOf rowid xs at

-- the cursor is at the cell, or the child, of its page in which a rowid belongs
pub record IsAimed (rowid : ℤ) (old new : Cursor) : Type 0 where
  pub above_are : new.above.items ≡ old.above.items
  pub page_is : new.here.page ≡ old.here.page
  pub low_is : new.here.low ≡ old.here.low
  pub high_is : new.here.high ≡ old.here.high
  pub index : IsIndexOf rowid (rowids new.here.page.views) new.here.at

-- the cursor stands at the first member of the table at a root whose rowid is not less, and so those are left that are not less
abbrev pub StandsFrom : {F : Type 0} → Sizes → Paged → ℕ → ℤ → Result Cursor (TreeFault F) → Type 0
StandsFrom sizes base root rowid result = (depth : ℕ) (members : List Member) (numbers : List ℕ) → IsTree sizes base root Table depth members numbers
    → OrFault (StandsAt sizes base Table (not_less rowid members)) IsOther result
