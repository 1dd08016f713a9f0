-- What is answered of the row of a rowid.
use Rattle.std.specs.Prelude.{◌≡◌, ◌≢◌, ◌⊎◌, ℕ, ℤ, List, Contains, Option, Some, None, Result}
use Rattle.common_spec.specs.Reading.{OrFault}
use Rattle.tree_spec.specs.declared.TreeKind.TheVariants.{Table}
use Rattle.tree_spec.specs.declared.fault.TreeFault.{TreeFault}
use Rattle.tree_spec.specs.Faults.{IsOther}
use Rattle.tree_spec.specs.Trees.{Member}
use Rattle.tree_spec.specs.Standing.{Sizes, Paged, IsTree}
use Rattle.tree_walk.specs.declared.cursor.Row.{Row}

-- the row is the member of a rowid among these, or there is none
abbrev pub IsRowOf : ℤ → List Member → Option Row → Type 0
IsRowOf rowid members (Some row) = (row.rowid ≡ rowid) × Contains members (record { rowid = row.rowid; payload = row.payload })
IsRowOf rowid members None = (member : Member) → Contains members member → member.rowid ≢ rowid

-- a row where it has a rowid
abbrev pub IsSameOf : ℤ → Option Row → Option Row → Type 0
IsSameOf rowid None same = same ≡ None
IsSameOf rowid (Some row) same = ((row.rowid ≡ rowid) × (same ≡ Some row)) ⊎ ((row.rowid ≢ rowid) × (same ≡ None))

-- in the table that stands at a root; over a table nothing else is refused than that the store failed or memory is wanting
abbrev pub FindsRow : {F : Type 0} → Sizes → Paged → ℕ → ℤ → Result (Option Row) (TreeFault F) → Type 0
FindsRow sizes base root rowid result = (depth : ℕ) (members : List Member) (numbers : List ℕ) → IsTree sizes base root Table depth members numbers → OrFault (IsRowOf rowid members) IsOther result
