-- Members of the schema's tree as rows.
use Rattle.std.specs.Prelude.{◌≡◌, ℤ, List}
use Rattle.rbu_value.specs.declared.value.Value.{Value}
use Rattle.rbu_value.specs.declared.value.Value.TheVariants.{Text}
use Rattle.tree_spec.specs.Trees.{Member}
use Rattle.tree_walk.specs.declared.cursor.Row.{Row}
use Rattle.database_spec.specs.declared.catalog.SchemaRow.{SchemaRow}
use Rattle.database_spec.specs.SchemaRows.{kind_word, IsRootValue, IsSqlValue, row_values}
use Rattle.schema_read.specs.declared.rows.RowValues.{RowValues}

-- the member of which a row was read
abbrev pub member_of : Row → Member
member_of row = record { rowid = row.rowid; payload = row.payload }

-- the row that five values say
pub record IsRowOf (rowid : ℤ) (values : RowValues) (row : SchemaRow) : Type 0 where
  pub kind : values.kind ≡ Text (kind_word row.kind)
  pub name : values.name ≡ Text row.name
  pub table : values.table ≡ Text row.table
  pub root : IsRootValue values.root row.root
  pub sql : IsSqlValue values.sql row.sql
  pub rowid_is : row.rowid ≡ rowid

-- the row that the values of a record say
pub record IsRowIn (rowid : ℤ) (values : List Value) (row : SchemaRow) : Type 0 where
  pub root_value : Value
  pub sql_value : Value
  pub values_are : values ≡ row_values row root_value sql_value
  pub root : IsRootValue root_value row.root
  pub sql : IsSqlValue sql_value row.sql
  pub rowid_is : row.rowid ≡ rowid
