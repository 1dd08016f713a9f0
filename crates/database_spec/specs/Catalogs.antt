-- The catalog of a database: what the rows of its schema say of its tables and indexes (The Schema Table, section 2), and which rows are right.
use Rattle.std.specs.Prelude.{◌≡◌, ℕ, suc, ◌<◌, ◌==◌, ◌&&◌, Bool, true, false, if◌then◌else◌, List, [], ◌∷◌, ◌++◌, map, filter, AllPairs, IsPermutation, not, Option, Some, None, Result, Ok, Err, decimal, codes}
use Rattle.std.specs.List.{AllZip}
use Rattle.rbu_value.specs.declared.order.Collation.{Collation}
use Rattle.common_spec.specs.Reading.{OrNone, OrFault}
use Rattle.format_spec.specs.Header.{schema_format}
use Rattle.schema_spec.specs.declared.schema.Clause.TheVariants.{View as ViewClause}
use Rattle.schema_spec.specs.declared.schema.SqlFault.{SqlFault}
use Rattle.schema_spec.specs.declared.schema.SqlFault.TheVariants.{OutsideProfile}
use Rattle.schema_spec.specs.declared.schema.Table.{Table}
use Rattle.schema_spec.specs.declared.schema.Index.{Index}
use Rattle.schema_spec.specs.Words.{same_name}
use Rattle.schema_spec.specs.Texts.{MeansTable, HasTableFault, MeansIndex, HasIndexFault}
use Rattle.tree_spec.specs.Trees.{Member}
use Rattle.tree_spec.specs.Standing.{Paged}
use Rattle.database_spec.specs.declared.catalog.SchemaKind.{SchemaKind}
use Rattle.database_spec.specs.declared.catalog.SchemaKind.TheVariants as kind
use Rattle.database_spec.specs.declared.catalog.NamedEntry.{NamedEntry}
use Rattle.database_spec.specs.declared.catalog.Catalog.{Catalog}
use Rattle.database_spec.specs.declared.catalog.SchemaRow.{SchemaRow}
use Rattle.database_spec.specs.SchemaRows.{IsSchemaRow}

-- a table, a virtual table or a view: what has a name among tables
abbrev pub is_table : SchemaRow → Bool
is_table row = elim row.kind as (λ _. Bool) [ kind.Table ↦ true | kind.View ↦ true | kind.Index ↦ false | kind.Trigger ↦ false ]

abbrev pub is_index : SchemaRow → Bool
is_index row = elim row.kind as (λ _. Bool) [ kind.Index ↦ true | kind.Table ↦ false | kind.View ↦ false | kind.Trigger ↦ false ]

-- a row of the type `table`, which a virtual table has too
abbrev pub is_real : SchemaRow → Bool
is_real row = elim row.kind as (λ _. Bool) [ kind.Table ↦ true | kind.View ↦ false | kind.Index ↦ false | kind.Trigger ↦ false ]

-- what a text means as a table's, or why it is not read
abbrev pub IsMeaning : List ℕ → Result Table SqlFault → Type 0
IsMeaning text = OrFault (MeansTable text) (HasTableFault text)

-- what is said of a table or a view: a view has no meaning but that it is one
abbrev pub IsTableMeaning : SchemaKind → Option (List ℕ) → Result Table SqlFault → Type 0
IsTableMeaning kind.Table (Some text) meaning = IsMeaning text meaning
IsTableMeaning kind.Table None meaning = ⊥
IsTableMeaning kind.View sql meaning = meaning ≡ Err (OutsideProfile ViewClause)
IsTableMeaning kind.Index sql meaning = ⊥
IsTableMeaning kind.Trigger sql meaning = ⊥

-- a column descends only under schema format 4 (Database File Format, section 1.3.10)
abbrev pub column_under : ℕ → ℕ × Collation × Bool → ℕ × Collation × Bool
column_under format column = (column.0, column.1, (format == 4) && column.2)

abbrev pub index_under : ℕ → Index → Index
index_under format index = record { name = index.name; table = index.table; unique = index.unique; columns = map (column_under format) index.columns }

-- the name of the automatic index of a table with this number, from 1 (The Schema Table, section 2)
abbrev pub automatic_name : List ℕ → ℕ → List ℕ
automatic_name table number = codes "sqlite_autoindex_" ++ (table ++ (codes "_" ++ decimal number))

-- the automatic index of these columns
abbrev pub automatic_index : SchemaRow → List (ℕ × Collation) → Index
automatic_index row columns = record { name = row.name; table = row.table; unique = true; columns = map (λ column. (column.0, column.1, false)) columns }

-- the columns of the automatic index that has the name of the row, among the keys from this number on
abbrev pub automatic_columns : SchemaRow → ℕ → List (List (ℕ × Collation)) → Option (List (ℕ × Collation))
automatic_columns row number [] = None
automatic_columns row number (columns ∷ keys) = if same_name row.name (automatic_name row.table number) then Some columns else automatic_columns row (suc number) keys

-- an index without a text means the automatic index that has its name
abbrev pub IsAutomatic : SchemaRow → Option (List (ℕ × Collation)) → Result Index SqlFault → Type 0
IsAutomatic row None meaning = ⊥
IsAutomatic row (Some columns) meaning = meaning ≡ Ok (automatic_index row columns)

-- a text means this index of a table, under a schema format
abbrev pub MeansUnder : ℕ → List ℕ → Table → Index → Type 0
MeansUnder format text table index = (read : Index) × MeansIndex text table read × (index ≡ index_under format read)

-- what is said of an index of a table, by its text, or where it has none as an automatic index; of a table outside the profile it has the table's fault
abbrev pub IsReadMeaning : ℕ → SchemaRow → Table → Option (List ℕ) → Result Index SqlFault → Type 0
IsReadMeaning format row table (Some text) meaning = OrFault (MeansUnder format text table) (HasIndexFault text table) meaning
IsReadMeaning format row table None meaning = IsAutomatic row (automatic_columns row 1 table.unique) meaning

abbrev pub IsIndexMeaning : ℕ → SchemaRow → Result Table SqlFault → Result Index SqlFault → Type 0
IsIndexMeaning format row (Err fault) meaning = meaning ≡ Err fault
IsIndexMeaning format row (Ok table) meaning = IsReadMeaning format row table row.sql meaning

-- rows of indexes of the table with this name
abbrev pub index_rows : List ℕ → List SchemaRow → List SchemaRow
index_rows name rows = filter (λ row. is_index row && same_name row.table name) rows

-- an index of a table of this meaning, as its row says
abbrev pub IsIndexEntry : ℕ → Result Table SqlFault → SchemaRow → ℕ × Result Index SqlFault → Type 0
IsIndexEntry format meaning row index = (index.0 ≡ row.root) × IsIndexMeaning format row meaning index.1

module _ (format : ℕ) (rows : List SchemaRow) where
  -- a table as its row and those of its indexes say
  pub record IsEntry (row : SchemaRow) (named : NamedEntry) : Type 0 where
    pub name : named.name ≡ row.name
    pub root : named.entry.root ≡ row.root
    pub meaning : IsTableMeaning row.kind row.sql named.entry.meaning
    pub indexes : AllZip (IsIndexEntry format named.entry.meaning) (index_rows row.name rows) named.entry.indexes

  -- the roots of the rows that have one
  abbrev pub roots_named : List ℕ
  roots_named = filter (λ root. not (root == 0)) (map (λ row. row.root) rows)

  -- the catalog that these rows say
  pub record IsCatalog (catalog : Catalog) : Type 0 where
    pub tables : AllZip IsEntry (filter is_table rows) catalog.tables
    pub roots_rise : AllPairs (λ (a b : ℕ). a < b) catalog.roots
    pub roots_are : IsPermutation (1 ∷ roots_named) catalog.roots

-- the members of the schema's tree with their rows, where they are rows
abbrev pub AreRows : List Member → List (Option SchemaRow) → Type 0
AreRows members found = AllZip (λ member row. OrNone (IsSchemaRow member) row) members found

-- the schema format that counts: 0 is read as 1 (Database File Format, section 1.3.10)
abbrev pub format_of : Paged → ℕ
format_of base = if schema_format (base.pages 1) == 0 then 1 else schema_format (base.pages 1)
