-- What is answered of the catalog of a store.
use Rattle.std.specs.Prelude.{◌≡◌, ℕ, ◌==◌, if◌then◌else◌, List, [], Option, Some, None, Result, Ok, Err, Vec, map}
use Rattle.std.specs.Global.{Global}
use Rattle.common_spec.specs.Reading.{Reads, OrFault}
use Rattle.format_spec.specs.Header.{schema_format}
use Rattle.refusal.specs.declared.Rule.{Rule}
use Rattle.refusal.specs.declared.Rule.TheVariants as broken
use Rattle.tree_spec.specs.declared.TreeKind.TheVariants.{Table as TableTree}
use Rattle.tree_spec.specs.Trees.{Member}
use Rattle.tree_spec.specs.Standing.{Paged, Sizes}
use Rattle.tree_spec.specs.declared.fault.TreeFault.{TreeFault}
use Rattle.tree_spec.specs.declared.fault.TreeFault.TheVariants as tree
use Rattle.tree_walk.specs.declared.cursor.Row.{Row}
use Rattle.database_spec.specs.declared.catalog.Catalog.{Catalog}
use Rattle.database_spec.specs.declared.catalog.SchemaRow.{SchemaRow}
use Rattle.database_spec.specs.declared.fault.FileFault.{FileFault}
use Rattle.database_spec.specs.declared.fault.FileFault.TheVariants as file
use Rattle.database_spec.specs.Walks.{IsList, StopsAt}
use Rattle.database_spec.specs.Catalogs.{AreRows, IsCatalog, format_of}
use Rattle.database_spec.specs.RightRows.{rows_of, AreFaultless, FirstRowFault, HasCatalog, CatalogHasFault}
use Rattle.schema_read.specs.declared.check.RowFault.{RowFault}
use Rattle.schema_read.specs.declared.check.RowFault.TheVariants as row
use Rattle.schema_read.specs.declared.read.CatalogFault.{CatalogFault}
use Rattle.schema_read.specs.declared.read.CatalogFault.TheVariants.{TreeDamaged, SchemaRow as SchemaRowFault, DuplicateName, Store, Memory}
use Rattle.schema_read.specs.Checks.{IsRefusal}
use Rattle.schema_read.specs.Rows.{member_of}

-- the fault of the store that a fault has, if any
abbrev pub fault_in : {F : Type 0} → CatalogFault F → Option F
fault_in (TreeDamaged page rule) = None
fault_in (SchemaRowFault rowid) = None
fault_in (DuplicateName name) = None
fault_in (Store fault) = Some fault
fault_in (Memory error) = None

-- the store failed, or memory is wanting
abbrev pub IsOther : {F : Type 0} → CatalogFault F → Type 0
IsOther (TreeDamaged page rule) = ⊥
IsOther (SchemaRowFault rowid) = ⊥
IsOther (DuplicateName name) = ⊥
IsOther (Store fault) = Unit {0}
IsOther (Memory error) = Unit {0}

-- a refusal of which P holds, or the store failed, or memory is wanting
abbrev pub IsRefusalOrOther : {F : Type 0} → (FileFault → Type 0) → CatalogFault F → Type 0
IsRefusalOrOther P (TreeDamaged page rule) = P (file.TreeDamaged page rule)
IsRefusalOrOther P (SchemaRowFault rowid) = P (file.SchemaRow rowid)
IsRefusalOrOther P (DuplicateName name) = P (file.DuplicateName name)
IsRefusalOrOther P (Store fault) = Unit {0}
IsRefusalOrOther P (Memory error) = Unit {0}

-- a row's fault
abbrev pub catalog_fault : {F : Type 0} → RowFault → CatalogFault F
catalog_fault (row.SchemaRow rowid) = SchemaRowFault rowid
catalog_fault (row.DuplicateName name) = DuplicateName name
catalog_fault (row.Memory error) = Memory error

-- what stops the walk over a tree, told of the catalog; a walk takes no page, and so it meets neither a trunk nor a limit
abbrev pub told_of_tree : {F : Type 0} → TreeFault F → CatalogFault F
told_of_tree (tree.TreeDamaged page rule) = TreeDamaged page rule
told_of_tree (tree.TrunkDamaged page) = TreeDamaged page broken.Trunk
told_of_tree (tree.TargetFull pages limit) = TreeDamaged pages broken.Count
told_of_tree (tree.Store fault) = Store fault
told_of_tree (tree.Memory error) = Memory error

-- the schema format that counts, by the bytes of page 1
abbrev pub format_in : List ℕ → ℕ
format_in page = if schema_format page == 0 then 1 else schema_format page

-- what these members say: a catalog, or the first fault of a row
module _ (sizes : Sizes) (base : Paged) where
  pub record SayCatalog (members : List Member) (catalog : Catalog) : Type 0 where
    pub found : List (Option SchemaRow)
    pub are_rows : AreRows members found
    pub faultless : AreFaultless sizes base (rows_of found) [] found
    pub is_catalog : IsCatalog (format_of base) (rows_of found) catalog

  pub record SayFault (members : List Member) (fault : FileFault) : Type 0 where
    pub found : List (Option SchemaRow)
    pub are_rows : AreRows members found
    pub first : FirstRowFault sizes base (rows_of found) [] members found fault

  abbrev pub Say : List Member → Result Catalog RowFault → Type 0
  Say members (Ok catalog) = SayCatalog members catalog
  Say members (Err fault) = IsRefusal (SayFault members) fault

  -- the same of a call over a store, which may fail
  abbrev pub SaysOrOther : {F : Type 0} → List Member → Result Catalog (CatalogFault F) → Type 0
  SaysOrOther members (Ok catalog) = SayCatalog members catalog
  SaysOrOther members (Err fault) = IsRefusalOrOther (SayFault members) fault

  -- a cursor over the schema's tree meets this damage
  abbrev pub IsDamagedTree : FileFault → Type 0
  IsDamagedTree refused = (page : ℕ) × (rule : Rule) × StopsAt sizes base TableTree 1 (page, rule) × (refused ≡ file.TreeDamaged page rule)

  -- the members of the schema's tree
  abbrev pub ReadsMembers : {F : Type 0} → Result (Vec Row Global) (CatalogFault F) → Type 0
  ReadsMembers result = OrFault (λ rows. IsList sizes base TableTree 1 (map member_of rows.items)) (IsRefusalOrOther IsDamagedTree) result

  -- the one answer of a database
  abbrev pub IsAnswer : Result Catalog FileFault → Type 0
  IsAnswer answer = Reads (OrFault (HasCatalog sizes base) (CatalogHasFault sizes base)) answer

  -- The catalog is answered, or the refusal, that the database has; or the store failed, or memory is wanting.
  abbrev pub ReadsCatalog : {F : Type 0} → Result Catalog (CatalogFault F) → Type 0
  ReadsCatalog (Ok catalog) = IsAnswer (Ok catalog)
  ReadsCatalog (Err fault) = IsRefusalOrOther (λ refused. IsAnswer (Err refused)) fault
