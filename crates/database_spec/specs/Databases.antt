-- A database by its header and its lists, and when it is whole and sound: this project's words for what SQLite's integrity check asks (Database File Format; PRAGMA integrity_check).
use Rattle.std.specs.Prelude.{◌≡◌, ℕ, ◌==◌, Bool, IsTrue, ◌⊎◌, if◌then◌else◌, IfOk, List, [], ◌∷◌, ◌++◌, map, flat_map, filter, take, slice_range, Result, Ok, is_ok}
use Rattle.std.specs.List.{list_any, AllZip, AllByRecursion}
use Rattle.rbu_value.specs.declared.value.Value.{Value}
use Rattle.format_spec.specs.Record.{IsRecord}
use Rattle.record_codec.specs.Faults.{HasFault}
use Rattle.record_codec.specs.declared.read.RecordFault.TheVariants.{RealValue}
use Rattle.schema_spec.specs.declared.schema.SqlFault.{SqlFault}
use Rattle.schema_spec.specs.declared.schema.Table.{Table}
use Rattle.schema_spec.specs.declared.schema.Index.{Index}
use Rattle.tree_spec.specs.declared.TreeKind.TheVariants as tree
use Rattle.tree_spec.specs.Trees.{Rooted, Member, root_of, list_in}
use Rattle.tree_spec.specs.Standing.{Sizes, Paged}
use Rattle.tree_spec.specs.Worlds.{World, IsWorld}
use Rattle.database_spec.specs.declared.catalog.NamedEntry.{NamedEntry}
use Rattle.database_spec.specs.declared.catalog.Catalog.{Catalog}
use Rattle.database_spec.specs.RightRows.{HasCatalog}
use Rattle.database_spec.specs.Rows.{TableRow, IsRow}
use Rattle.database_spec.specs.Keys.{IsIndexOf}

-- A database: its header without the size in pages and the freelist (offsets 28 to 39), and the list of each tree, by rising roots.
pub record Database : Type 0 where
  pub header : List ℕ
  pub lists : List (ℕ × List Member)

abbrev pub header_of : List ℕ → List ℕ
header_of page = take 28 page ++ slice_range page 40 100

-- the list of the tree with a root
abbrev pub list_at : List (ℕ × List Member) → ℕ → List Member
list_at [] root = []
list_at (list ∷ lists) root = if list.0 == root then list.1 else list_at lists root

-- the roots of tables in the profile, and that of the schema
abbrev pub table_roots : Catalog → List ℕ
table_roots catalog = 1 ∷ map (λ named. named.entry.root) (filter (λ named. is_ok named.entry.meaning) catalog.tables)

-- the roots of indexes
abbrev pub index_roots : Catalog → List ℕ
index_roots catalog = flat_map (λ named. map (λ index. index.0) named.entry.indexes) catalog.tables

abbrev pub is_among : ℕ → List ℕ → Bool
is_among root roots = list_any (λ other. other == root) roots

-- the tree of an index is an index tree, and that of a table in the profile and of the schema a table tree; any other has the kind of its root page
pub record HasItsKind (catalog : Catalog) (rooted : Rooted) : Type 0 where
  pub table : IsTrue (is_among (root_of rooted) (table_roots catalog)) → rooted.kind ≡ tree.Table
  pub index : IsTrue (is_among (root_of rooted) (index_roots catalog)) → rooted.kind ≡ tree.Index

-- a record that decodes, or has a floating point value, which this project does not read
abbrev pub IsReadable : Member → Type 0
IsReadable member = ((values : List Value) × IsRecord member.payload values) ⊎ HasFault member.payload RealValue

-- Whole: the pages are trees and free pages, each once; the trees are those of the catalog, each of its kind, with these lists; and records of tables in the profile can be read.
pub record IsWhole (sizes : Sizes) (base : Paged) (catalog : Catalog) (db : Database) : Type 0 where
  pub world : World
  pub is_world : IsWorld sizes base world
  pub has_catalog : HasCatalog sizes base catalog
  pub roots : map root_of world.trees ≡ catalog.roots
  pub kinds : AllByRecursion (HasItsKind catalog) world.trees
  pub header : db.header ≡ header_of (base.pages 1)
  pub lists : db.lists ≡ map (λ rooted. (root_of rooted, list_in rooted)) world.trees
  pub readable : AllByRecursion (λ named. IfOk named.entry.meaning (λ _. AllByRecursion IsReadable (list_at db.lists named.entry.root))) catalog.tables

-- an index in the profile holds the projection of these rows
abbrev pub HoldsProjection : List (ℕ × List Member) → List TableRow → ℕ × Result Index SqlFault → Type 0
HoldsProjection lists rows index = IfOk index.1 (λ read. IsIndexOf read rows (list_at lists index.0))

-- each plain index of a table holds its projection: none is plain where the table is not
abbrev pub HoldsProjections : List (ℕ × List Member) → NamedEntry → Type 0
HoldsProjections lists named =
    (table : Table) (rows : List TableRow) → named.entry.meaning ≡ Ok table → AllZip (IsRow table) (list_at lists named.entry.root) rows
    → AllByRecursion (HoldsProjection lists rows) named.entry.indexes

-- Sound: whole, and each plain index is the projection of its table.
pub record IsSound (sizes : Sizes) (base : Paged) (catalog : Catalog) (db : Database) : Type 0 where
  pub whole : IsWhole sizes base catalog db
  pub indexes : AllByRecursion (HoldsProjections db.lists) catalog.tables
