-- The trees of a catalog, with what a walk over each finds.
use Rattle.std.specs.Prelude.{◌≡◌, ℕ, ◌<◌, ◌≤◌, ◌==◌, if◌then◌else◌, IfOk, List, [], ◌∷◌, ◌++◌, map, flat_map, Result, Ok, is_ok}
use Rattle.std.specs.List.{AllZip}
use Rattle.schema_spec.specs.declared.schema.SqlFault.{SqlFault}
use Rattle.schema_spec.specs.declared.schema.Table.{Table}
use Rattle.schema_spec.specs.declared.schema.Index.{Index}
use Rattle.tree_spec.specs.Standing.{Sizes, Paged}
use Rattle.database_spec.specs.declared.catalog.Entry.{Entry}
use Rattle.database_spec.specs.declared.catalog.Catalog.{Catalog}
use Rattle.database_spec.specs.ListsLaws.{PairsByRecursion}
use Rattle.database_spec.specs.Walks.{IsWalk}
use Rattle.database_spec.specs.FileFindings.{Subject, Walked, IsIndexSubject, schema_subject, table_kind, table_content}
use Rattle.file_check.specs.declared.roots.CatalogTree.{CatalogTree}
use Rattle.file_check.specs.declared.roots.CatalogTree.TheVariants.{Schema, Table as TableTree, Index as IndexTree}

-- a tree of a catalog: that of the schema, of a table, or of an index of a table
pub data KnownTree : Type 0 where
  OfSchema : KnownTree
  OfTable : Entry → KnownTree
  OfIndex : Entry → ℕ × Result Index SqlFault → KnownTree

-- the tree that is lent
abbrev pub seen : CatalogTree → KnownTree
seen Schema = OfSchema
seen (TableTree entry) = OfTable entry.now
seen (IndexTree entry index) = OfIndex entry.now index.now

abbrev pub root_of : KnownTree → ℕ
root_of OfSchema = 1
root_of (OfTable entry) = entry.root
root_of (OfIndex entry index) = index.0

-- the tree of a table, where it has one
abbrev pub own_trees : Entry → List KnownTree
own_trees entry = if entry.root == 0 then [] else (OfTable entry ∷ [])

abbrev pub entry_trees : Entry → List KnownTree
entry_trees entry = own_trees entry ++ map (OfIndex entry) entry.indexes

-- all trees of a catalog, table by table
abbrev pub catalog_trees : Catalog → List KnownTree
catalog_trees catalog = OfSchema ∷ flat_map (λ named. entry_trees named.entry) catalog.tables

-- a table whose text is read has a root among the pages
abbrev pub HasRoot : Paged → Entry → Type 0
HasRoot base entry = IfOk entry.meaning (λ table. (1 ≤ entry.root) × (entry.root ≤ base.count))

module _ (sizes : Sizes) (base : Paged) where
  -- what a check goes through it as
  abbrev pub IsSubjectOf : KnownTree → Subject → Type 0
  IsSubjectOf OfSchema subject = subject ≡ schema_subject sizes base
  IsSubjectOf (OfTable entry) subject =
      (subject.root ≡ entry.root) × (subject.kind ≡ table_kind (is_ok entry.meaning) (base.pages entry.root) entry.root) × (subject.content ≡ table_content (is_ok entry.meaning))
  IsSubjectOf (OfIndex entry index) subject = IsIndexSubject sizes base entry index subject × HasRoot base entry

  -- an index of a table with this root, whose text means this
  abbrev pub IsBeside : ℕ → Table → ℕ × Result Index SqlFault → Subject → Type 0
  IsBeside table_root table index subject = (entry : Entry) × (entry.root ≡ table_root) × (entry.meaning ≡ Ok table) × HasRoot base entry × IsIndexSubject sizes base entry index subject

  -- what a walk over it finds; its root is a page
  pub record IsTreeWalk (tree : KnownTree) (walked : Walked) : Type 0 where
    pub subject : IsSubjectOf tree walked.subject
    pub first : 1 ≤ walked.subject.root
    pub within : walked.subject.root ≤ base.count
    pub is_walk : IsWalk sizes base walked.subject.kind walked.subject.root walked.findings

  -- trees by rising roots with what walks over them find
  pub record AreTreeWalks (trees : List KnownTree) (walks : List Walked) : Type 0 where
    pub walks_are : AllZip IsTreeWalk trees walks
    pub rise : PairsByRecursion (λ (a b : Walked). a.subject.root < b.subject.root) walks
