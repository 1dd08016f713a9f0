-- The members of the schema's tree as they are read, and what is looked for among them.
use Rattle.std.specs.Prelude.{◌≡◌, ℕ, ◌==◌, ◌&&◌, ◌||◌, Bool, true, false, IsTrue, List, [], map, Option, Some, None, is_none, Result}
use Rattle.std.specs.List.{list_any, AllZip}
use Rattle.common_spec.specs.Reading.{OrNone}
use Rattle.schema_spec.specs.declared.schema.SqlFault.{SqlFault}
use Rattle.schema_spec.specs.declared.schema.Table.{Table}
use Rattle.schema_spec.specs.Words.{same_name}
use Rattle.tree_spec.specs.Trees.{Member}
use Rattle.database_spec.specs.declared.catalog.SchemaKind.{SchemaKind}
use Rattle.database_spec.specs.declared.catalog.SchemaKind.TheVariants as kind
use Rattle.database_spec.specs.declared.catalog.SchemaRow.{SchemaRow}
use Rattle.database_spec.specs.SchemaRows.{IsSchemaRow}
use Rattle.database_spec.specs.Catalogs.{is_index, is_real, is_table, IsTableMeaning}
use Rattle.database_spec.specs.RightRows.{has_name, rows_of}
use Rattle.schema_read.specs.declared.found.Found.{Found}

abbrev pub is_table_kind : SchemaKind → Bool
is_table_kind k = elim k as (λ _. Bool) [ kind.Table ↦ true | kind.View ↦ true | kind.Index ↦ false | kind.Trigger ↦ false ]

abbrev pub is_index_kind : SchemaKind → Bool
is_index_kind k = elim k as (λ _. Bool) [ kind.Index ↦ true | kind.Table ↦ false | kind.View ↦ false | kind.Trigger ↦ false ]

-- what is said of a row that was found
abbrev pub IsFoundMeaning : Option SchemaRow → Option (Result Table SqlFault) → Type 0
IsFoundMeaning None meaning = meaning ≡ None
IsFoundMeaning (Some row) meaning = OrNone (IsTableMeaning row.kind row.sql) meaning

-- what is said of a member is what its row says
abbrev pub IsMeant : Found → Type 0
IsMeant found = IsFoundMeaning found.row found.meaning

-- a member that was read, which has no indexes yet
pub record IsFound (member : Member) (found : Found) : Type 0 where
  pub rowid : found.rowid ≡ member.rowid
  pub row : OrNone (IsSchemaRow member) found.row
  pub meaning : IsMeant found
  pub none : found.indexes.items ≡ []

abbrev pub AreFound : List Member → List Found → Type 0
AreFound members found = AllZip IsFound members found

abbrev pub found_rows : List Found → List (Option SchemaRow)
found_rows found = map (λ f. f.row) found

-- the rows among the members
abbrev pub rows_in : List Found → List SchemaRow
rows_in found = rows_of (found_rows found)

abbrev pub option_any : (SchemaRow → Bool) → Option SchemaRow → Bool
option_any test None = false
option_any test (Some row) = test row

-- a member is a row that passes a test
abbrev pub row_any : (SchemaRow → Bool) → Found → Bool
row_any test found = option_any test found.row

-- some member is
abbrev pub any_found : (SchemaRow → Bool) → List Found → Bool
any_found test found = list_any (row_any test) found

-- a table or a view of this name
abbrev pub has_table : List ℕ → Found → Bool
has_table name found = row_any (λ row. is_table row && same_name row.name name) found

abbrev pub has_root : ℕ → SchemaRow → Bool
has_root root row = row.root == root

-- an index of the table without a text that has this name
abbrev pub is_named_automatic : List ℕ → List ℕ → SchemaRow → Bool
is_named_automatic table name row = is_index row && (is_none row.sql && (same_name row.table table && same_name row.name name))

-- a table, a view or an index has the name of a member before
abbrev pub repeats_in : List Found → SchemaRow → Bool
repeats_in before row = (is_table row || is_index row) && any_found (has_name row.name) before

-- what is said of the table that a row of the type `table` describes
abbrev pub IsRealMeaning : Option SchemaRow → Result Table SqlFault → Type 0
IsRealMeaning None meaning = ⊥
IsRealMeaning (Some row) meaning = IsTrue (is_real row) × IsTableMeaning kind.Table row.sql meaning

abbrev pub HasRealMeaning : Found → Result Table SqlFault → Type 0
HasRealMeaning found meaning = IsRealMeaning found.row meaning
