-- Which rows of a schema are right, and the first fault of one that is not (The Schema Table, section 2; that a fault is answered by its row is this project's rule).
use Rattle.std.specs.Prelude.{◌≡◌, ℕ, suc, ◌<◌, ◌==◌, ◌&&◌, ◌||◌, Bool, true, false, IsTrue, IsFalse, IfOk, if◌then◌else◌, ◌⊎◌, List, [], ◌∷◌, ◌++◌, length, filter_map, Option, Some, None, is_none, Result, Err}
use Rattle.std.specs.List.{list_any}
use Rattle.refusal.specs.declared.Rule.{Rule}
use Rattle.schema_spec.specs.declared.schema.Clause.TheVariants.{Virtual}
use Rattle.schema_spec.specs.declared.schema.SqlFault.{SqlFault}
use Rattle.schema_spec.specs.declared.schema.SqlFault.TheVariants.{OutsideProfile}
use Rattle.schema_spec.specs.declared.schema.Table.{Table}
use Rattle.schema_spec.specs.declared.schema.Index.{Index}
use Rattle.schema_spec.specs.Words.{same_name}
use Rattle.tree_spec.specs.declared.TreeKind.TheVariants.{Table as TableTree}
use Rattle.tree_spec.specs.Trees.{Member}
use Rattle.tree_spec.specs.Standing.{Sizes, Paged, IsNumber}
use Rattle.database_spec.specs.declared.catalog.SchemaKind.TheVariants as kind
use Rattle.database_spec.specs.declared.catalog.Catalog.{Catalog}
use Rattle.database_spec.specs.declared.fault.FileFault.{FileFault}
use Rattle.database_spec.specs.declared.fault.FileFault.TheVariants.{TreeDamaged, SchemaRow as SchemaRowFault, DuplicateName}
use Rattle.database_spec.specs.declared.catalog.SchemaRow.{SchemaRow}
use Rattle.database_spec.specs.Walks.{IsList, StopsAt}
use Rattle.database_spec.specs.Catalogs.{is_table, is_index, is_real, IsTableMeaning, IsIndexMeaning, automatic_name, IsCatalog, AreRows, format_of}

-- a virtual table, by its text
abbrev pub is_virtual : Result Table SqlFault → Bool
is_virtual (Err (OutsideProfile Virtual)) = true
is_virtual _ = false

-- a row of the automatic index of a table with this number
abbrev pub is_automatic : List ℕ → ℕ → SchemaRow → Bool
is_automatic table number row = is_index row && (is_none row.sql && (same_name row.table table && same_name row.name (automatic_name table number)))

-- the text of an index names it and its table as its row does
abbrev pub IsNamedAlike : SchemaRow → Index → Type 0
IsNamedAlike row index = IsTrue (same_name index.name row.name) × IsTrue (same_name index.table row.table)

-- the first row of a table or view with this name
abbrev pub table_named : List ℕ → List SchemaRow → Option SchemaRow
table_named name [] = None
table_named name (row ∷ rows) = if is_table row && same_name row.name name then Some row else table_named name rows

-- a table, a view or an index has the name of an earlier one
abbrev pub has_name : List ℕ → SchemaRow → Bool
has_name name row = (is_table row || is_index row) && same_name row.name name

abbrev pub repeats_name : List SchemaRow → Option SchemaRow → Bool
repeats_name before None = false
repeats_name before (Some row) = (is_table row || is_index row) && list_any (has_name row.name) before

abbrev pub found_name : Option SchemaRow → List ℕ
found_name None = []
found_name (Some row) = row.name

-- the rows that were found
abbrev pub rows_of : List (Option SchemaRow) → List SchemaRow
rows_of found = filter_map (λ row. row) found

module _ (sizes : Sizes) (base : Paged) (rows : List SchemaRow) where
  -- a root that a link may name, and that no earlier row has
  abbrev pub IsOwnRoot : List SchemaRow → ℕ → Type 0
  IsOwnRoot before root = IsNumber sizes base root × IsFalse (list_any (λ other. other.root == root) before)

  -- the row of a table: it has a text that names it as the row does, a root of its own where it is not virtual, and where it is in the profile a row for each automatic index
  pub record IsRightTable (before : List SchemaRow) (row : SchemaRow) : Type 0 where
    pub meaning : Result Table SqlFault
    pub means : IsTableMeaning kind.Table row.sql meaning
    pub own_name : IsTrue (same_name row.table row.name)
    pub named : IfOk meaning (λ table. IsTrue (same_name table.name row.name))
    pub virtual_root : is_virtual meaning ≡ true → row.root ≡ 0
    pub root : is_virtual meaning ≡ false → IsOwnRoot before row.root
    pub automatic : IfOk meaning (λ table. (at : ℕ) → at < length table.unique → IsTrue (list_any (is_automatic row.name (suc at)) rows))

  -- the row of an index: the first row of a table or view with the name that it gives is that of a table, it has a root of its own, and it means some index, which its text names as the row does
  pub record IsRightIndex (before : List SchemaRow) (row : SchemaRow) : Type 0 where
    pub table : SchemaRow
    pub stands : table_named row.table rows ≡ Some table
    pub is_real : IsTrue (is_real table)
    pub root : IsOwnRoot before row.root
    pub meaning : Result Table SqlFault
    pub means : IsTableMeaning kind.Table table.sql meaning
    pub index : Result Index SqlFault
    pub index_means : IsIndexMeaning (format_of base) row meaning index
    pub named : IfOk index (IsNamedAlike row)

  -- the row is right: those of views and triggers have no root
  abbrev pub IsRight : List SchemaRow → SchemaRow → Type 0
  IsRight before row = elim row.kind as (λ _. Type 0) [
    | kind.Table ↦ IsRightTable before row
    | kind.Index ↦ IsRightIndex before row
    | kind.View ↦ row.root ≡ 0
    | kind.Trigger ↦ row.root ≡ 0
  ]

  abbrev pub IsRightRow : List SchemaRow → Option SchemaRow → Type 0
  IsRightRow before None = ⊥
  IsRightRow before (Some row) = IsRight before row

  -- the fault of a row behind others: that it is not right, or else that it repeats a name
  abbrev pub RowHasFault : List SchemaRow → Member → Option SchemaRow → FileFault → Type 0
  RowHasFault before member row fault =
      ((¬ IsRightRow before row) × (fault ≡ SchemaRowFault member.rowid)) ⊎ (IsRightRow before row × IsTrue (repeats_name before row) × (fault ≡ DuplicateName (found_name row)))

  abbrev pub IsFaultless : List SchemaRow → Option SchemaRow → Type 0
  IsFaultless before row = IsRightRow before row × IsFalse (repeats_name before row)

  -- no row has a fault
  abbrev pub AreFaultless : List SchemaRow → List (Option SchemaRow) → Type 0
  AreFaultless before [] = Unit {0}
  AreFaultless before (row ∷ found) = IsFaultless before row × AreFaultless (before ++ rows_of (row ∷ [])) found

  -- the first row that has a fault has this one
  abbrev pub FirstRowFault : List SchemaRow → List Member → List (Option SchemaRow) → FileFault → Type 0
  FirstRowFault before (member ∷ members) (row ∷ found) fault =
      RowHasFault before member row fault ⊎ (IsFaultless before row × FirstRowFault (before ++ rows_of (row ∷ [])) members found fault)
  FirstRowFault before _ _ fault = ⊥

-- The catalog of a database: all members of its schema's tree are rows without a fault, and this is what they say.
pub record HasCatalog (sizes : Sizes) (base : Paged) (catalog : Catalog) : Type 0 where
  pub members : List Member
  pub is_list : IsList sizes base TableTree 1 members
  pub found : List (Option SchemaRow)
  pub are_rows : AreRows members found
  pub faultless : AreFaultless sizes base (rows_of found) [] found
  pub is_catalog : IsCatalog (format_of base) (rows_of found) catalog

-- Why a database has none: a cursor over the schema's tree meets damage, or else the first fault of a row.
abbrev pub CatalogHasFault : Sizes → Paged → FileFault → Type 0
CatalogHasFault sizes base fault =
    ((page : ℕ) × (rule : Rule) × StopsAt sizes base TableTree 1 (page, rule) × (fault ≡ TreeDamaged page rule))
    ⊎ ((members : List Member) × (found : List (Option SchemaRow)) × IsList sizes base TableTree 1 members × AreRows members found × FirstRowFault sizes base (rows_of found) [] members found fault)
