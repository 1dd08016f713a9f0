-- What is said of the rows of the schema, one after the other.
use Rattle.std.specs.Prelude.{◌≡◌, ℕ, suc, ◌<◌, Bool, true, false, IsTrue, IsFalse, IfOk, List, [], length, map, filter, Option, Some, None, Result, Ok, Err, Vec, slice_get}
use Rattle.std.specs.Global.{Global}
use Rattle.std.specs.List.{AllZip, position}
use Rattle.page_spec.specs.Pages.{IsInRange}
use Rattle.schema_spec.specs.declared.schema.SqlFault.{SqlFault}
use Rattle.schema_spec.specs.declared.schema.Table.{Table}
use Rattle.schema_spec.specs.declared.schema.Index.{Index}
use Rattle.schema_spec.specs.Words.{same_name}
use Rattle.tree_spec.specs.Trees.{Member}
use Rattle.tree_spec.specs.Standing.{Paged, Sizes}
use Rattle.database_spec.specs.declared.catalog.SchemaRow.{SchemaRow}
use Rattle.database_spec.specs.declared.fault.FileFault.{FileFault}
use Rattle.database_spec.specs.declared.fault.FileFault.TheVariants as fault
use Rattle.database_spec.specs.declared.catalog.SchemaKind.TheVariants as kind
use Rattle.database_spec.specs.Catalogs.{is_index, is_real, IsIndexMeaning, IsTableMeaning, format_of}
use Rattle.database_spec.specs.RightRows.{is_automatic, is_virtual, table_named, IsNamedAlike, IsRight, IsRightIndex, IsFaultless, AreFaultless, RowHasFault, FirstRowFault}
use Rattle.schema_read.specs.declared.check.Basis.{Basis}
use Rattle.schema_read.specs.declared.check.Placed.{Placed}
use Rattle.schema_read.specs.declared.check.RowFault.{RowFault}
use Rattle.schema_read.specs.declared.check.RowFault.TheVariants.{SchemaRow as SchemaRowFault, DuplicateName, Memory}
use Rattle.schema_read.specs.declared.found.Found.{Found}
use Rattle.schema_read.specs.Found.{HasRealMeaning, any_found, found_rows, has_root, has_table, rows_in}

abbrev pub is_virtual_fault : SqlFault → Bool
is_virtual_fault fault = is_virtual (Err fault)

-- these are the sizes and the schema format of a database
pub record IsBasis (basis : Basis) (sizes : Sizes) (base : Paged) : Type 0 where
  pub size : sizes.size ≡ basis.size
  pub count : base.count ≡ basis.count
  pub format : format_of base ≡ basis.format

-- the root that a table of this meaning has to have
pub record HasRightRoot (basis : Basis) (before : List Found) (root : ℕ) (meaning : Result Table SqlFault) : Type 0 where
  pub of_virtual : is_virtual meaning ≡ true → root ≡ 0
  pub of_real : is_virtual meaning ≡ false → IsInRange basis.size basis.count root × IsFalse (any_found (has_root root) before)

-- a text names its table as the row does, and the automatic indexes are there
pub record KeysStand (found : List Found) (row : SchemaRow) (table : Table) : Type 0 where
  pub named : IsTrue (same_name table.name row.name)
  pub automatic : (at : ℕ) → at < length table.unique → IsTrue (any_found (is_automatic row.name (suc at)) found)

-- an index of a table of this meaning, which its text names as the row does
abbrev pub Places : ℕ → SchemaRow → Result Table SqlFault → ℕ → ℕ → Option Placed → Type 0
Places format row table at root None = (index : Result Index SqlFault) → IsIndexMeaning format row table index → ¬ IfOk index (IsNamedAlike row)
Places format row table at root (Some placed) =
    (placed.at ≡ at) × (placed.root ≡ root) × IsIndexMeaning format row table placed.meaning × IfOk placed.meaning (IsNamedAlike row)

-- the index that a row describes, by the place of its table
pub record IsPlaced (format : ℕ) (found : List Found) (row : SchemaRow) (placed : Placed) : Type 0 where
  pub at : position (has_table row.table) found ≡ Some placed.at
  pub root : placed.root ≡ row.root
  pub table : Found
  pub stands : slice_get found placed.at ≡ Some table
  pub meaning : Result Table SqlFault
  pub meant : HasRealMeaning table meaning
  pub means : IsIndexMeaning format row meaning placed.meaning

-- all of the row of an index but its root is right, and it means this index
pub record IsStanding (format : ℕ) (found : List Found) (row : SchemaRow) (index : Result Index SqlFault) : Type 0 where
  pub table : SchemaRow
  pub stands : table_named row.table (rows_in found) ≡ Some table
  pub is_real : IsTrue (is_real table)
  pub meaning : Result Table SqlFault
  pub means : IsTableMeaning kind.Table table.sql meaning
  pub index_means : IsIndexMeaning format row meaning index
  pub named : IfOk index (IsNamedAlike row)

abbrev pub PlacesRow : ℕ → List Found → SchemaRow → Option Placed → Type 0
PlacesRow format found row None = (index : Result Index SqlFault) → ¬ IsStanding format found row index
PlacesRow format found row (Some placed) = IsStanding format found row placed.meaning × IsPlaced format found row placed

abbrev pub IsJudged : ℕ → List Found → SchemaRow → Option Placed → Type 0
IsJudged format found row None = is_index row ≡ false
IsJudged format found row (Some placed) = (is_index row ≡ true) × IsPlaced format found row placed

-- a refusal of which P holds, or memory is wanting
abbrev pub IsRefusal : (FileFault → Type 0) → RowFault → Type 0
IsRefusal P (SchemaRowFault rowid) = P (fault.SchemaRow rowid)
IsRefusal P (DuplicateName name) = P (fault.DuplicateName name)
IsRefusal P (Memory error) = Unit {0}

-- that this name is repeated
abbrev pub IsDuplicate : List ℕ → RowFault → Type 0
IsDuplicate name (SchemaRowFault rowid) = ⊥
IsDuplicate name (DuplicateName other) = other ≡ name
IsDuplicate name (Memory error) = Unit {0}

-- the members as far as faults name them
abbrev pub member_at : Found → Member
member_at found = record { rowid = found.rowid; payload = [] }

module _ (sizes : Sizes) (base : Paged) (format : ℕ) (found : List Found) where
  -- the row of an index behind other members is right, with its place, or it is not
  abbrev pub JudgesIndex : List Found → SchemaRow → Option Placed → Type 0
  JudgesIndex before row None = ¬ IsRightIndex sizes base (rows_in found) (rows_in before) row
  JudgesIndex before row (Some placed) = IsRightIndex sizes base (rows_in found) (rows_in before) row × IsPlaced format found row placed

  -- the same of any row
  abbrev pub JudgesRow : List Found → SchemaRow → Option (Option Placed) → Type 0
  JudgesRow before row None = ¬ IsRight sizes base (rows_in found) (rows_in before) row
  JudgesRow before row (Some placed) = IsRight sizes base (rows_in found) (rows_in before) row × IsJudged format found row placed

  abbrev pub PlacesFound : Option SchemaRow → Option Placed → Type 0
  PlacesFound None placed = ⊥
  PlacesFound (Some row) placed = IsJudged format found row placed

  abbrev pub ChecksRow : List Found → Found → Result (Option Placed) RowFault → Type 0
  ChecksRow before this (Ok placed) = IsFaultless sizes base (rows_in found) (rows_in before) this.row × PlacesFound this.row placed
  ChecksRow before this (Err fault) = IsRefusal (RowHasFault sizes base (rows_in found) (rows_in before) (member_at this) this.row) fault

  abbrev pub ChecksAll : Result (Vec Placed Global) RowFault → Type 0
  ChecksAll (Ok placed) = AreFaultless sizes base (rows_in found) [] (found_rows found) × AllZip (IsPlaced format found) (filter is_index (rows_in found)) placed.items
  ChecksAll (Err fault) = IsRefusal (FirstRowFault sizes base (rows_in found) [] (map member_at found) (found_rows found)) fault
