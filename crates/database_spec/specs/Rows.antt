-- Rows of a table (Database File Format, sections 2.1 and 2.3): a member's record under the columns of its table.
use Rattle.std.specs.Prelude.{◌≡◌, ℕ, ℤ, List, Option, Some, None, Ok, length, slice_set}
use Rattle.std.specs.List.{AllZip}
use Rattle.rbu_value.specs.declared.value.Value.{Value}
use Rattle.rbu_value.specs.declared.value.Value.TheVariants.{Int}
use Rattle.format_spec.specs.Record.{IsRecord}
use Rattle.schema_spec.specs.declared.schema.Table.{Table}
use Rattle.tree_spec.specs.declared.TreeKind.TheVariants.{Table as TableTree}
use Rattle.tree_spec.specs.Trees.{Member}
use Rattle.tree_spec.specs.Standing.{Sizes, Paged}
use Rattle.database_spec.specs.declared.catalog.Entry.{Entry}
use Rattle.database_spec.specs.Walks.{IsList}

-- a row: its rowid, its values in the order of the columns, and the record that holds them
pub record TableRow : Type 0 where
  pub rowid : ℤ
  pub values : List Value
  pub payload : List ℕ

-- stored values with the rowid in the place of the INTEGER PRIMARY KEY (Rowid Tables; CREATE TABLE, section 5)
abbrev pub with_rowid : Option ℕ → ℤ → List Value → List Value
with_rowid None rowid values = values
with_rowid (Some column) rowid values = slice_set values column (Int rowid)

-- a member of a table's tree is this row: its record has exactly one value for each column, and no floating point value
pub record IsRow (table : Table) (member : Member) (row : TableRow) : Type 0 where
  pub stored : List Value
  pub is_record : IsRecord member.payload stored
  pub many : length stored ≡ length table.columns
  pub rowid : row.rowid ≡ member.rowid
  pub values : row.values ≡ with_rowid table.rowid_column member.rowid stored
  pub payload : row.payload ≡ member.payload

-- The table is plain, which is this project's word: its text is in the profile, a cursor comes to the end of its tree, and each member is a row.
pub record IsPlain (sizes : Sizes) (base : Paged) (entry : Entry) (table : Table) (rows : List TableRow) : Type 0 where
  pub meaning : entry.meaning ≡ Ok table
  pub members : List Member
  pub is_list : IsList sizes base TableTree entry.root members
  pub rows_are : AllZip (IsRow table) members rows
