-- A database has one catalog, or one fault for which it has none: crates above cite these facts in their proofs.
use Rattle.std.proofs.Common.{◌≡◌, ◌<◌, ℕ, pos, ◌==◌, List, [], ◌∷◌, ◌++◌, length, Option, Some, None, Result, Ok, Err, refl, sym, ap, ◌∙◌, inl, inr, arith}
use Rattle.std.specs.Prelude.{filter, slice_index, if◌then◌else◌}
use Rattle.std.proofs.Math.Path.{subst⁻¹}
use Rattle.std.specs.List.{AllZip}
use Rattle.rbu_value.specs.declared.value.Value.{Value}
use Rattle.rbu_value.specs.declared.value.Value.TheVariants.{Null, Int, Text, Blob}
use Rattle.rbu_value.specs.declared.order.Collation.{Collation}
use Rattle.common_spec.specs.Reading.{OrNone, OrFault}
use Rattle.common_spec.specs.ReadingLaws.{IsOne, OrNone-one, OrFault-one}
use Rattle.record_codec.specs.RecordLaws.{record-same}
use Rattle.refusal.specs.declared.Rule.{Rule}
use Rattle.schema_spec.specs.declared.schema.SqlFault.{SqlFault}
use Rattle.schema_spec.specs.declared.schema.Table.{Table}
use Rattle.schema_spec.specs.Texts.{HasIndexFault}
use Rattle.schema_spec.specs.TextsLaws.{one_table_answer, one_index, one_index_fault, index_no_fault}
use Rattle.tree_spec.specs.declared.TreeKind.{TreeKind}
use Rattle.tree_spec.specs.declared.TreeKind.TheVariants.{Table as TableTree}
use Rattle.tree_spec.specs.Trees.{Member}
use Rattle.tree_spec.specs.Standing.{Sizes, Paged}
use Rattle.database_spec.specs.declared.catalog.SchemaKind.{SchemaKind}
use Rattle.database_spec.specs.declared.catalog.SchemaKind.TheVariants as kind
use Rattle.database_spec.specs.declared.catalog.Catalog.{Catalog}
use Rattle.database_spec.specs.declared.fault.FileFault.{FileFault}
use Rattle.database_spec.specs.declared.fault.FileFault.TheVariants.{TreeDamaged}
use Rattle.database_spec.specs.Walks.{IsList, StopsAt, stops, members_found}
use Rattle.database_spec.specs.WalksLaws.{truth-apart, walk-one}
use Rattle.database_spec.specs.ListsLaws.{beside-one, order-one}
use Rattle.database_spec.specs.declared.catalog.SchemaRow.{SchemaRow}
use Rattle.database_spec.specs.SchemaRows.{IsSchemaRow, kind_word, IsRootValue, IsSqlValue, row_values}
use Rattle.database_spec.specs.Catalogs.{is_table, IsTableMeaning, index_under, automatic_columns, IsAutomatic, MeansUnder, IsReadMeaning, IsIndexMeaning, IsIndexEntry, index_rows, roots_named, IsEntry, IsCatalog, AreRows, format_of}
use Rattle.database_spec.specs.RightRows.{repeats_name, rows_of, RowHasFault, IsFaultless, AreFaultless, FirstRowFault, HasCatalog, CatalogHasFault}

-- a cursor gives one list, or meets one fault
pub list-one : (sizes : Sizes) (base : Paged) (kind : TreeKind) (root : ℕ) → IsOne (IsList sizes base kind root)
list-one sizes base kind root a b (findings, walk, none, e) (others, also, too, f) =
    e ∙ ap members_found (walk-one sizes base kind root findings others walk also) ∙ sym f

pub stop-one : (sizes : Sizes) (base : Paged) (kind : TreeKind) (root : ℕ) → IsOne (StopsAt sizes base kind root)
stop-one sizes base kind root a b (findings, later, walk, e) (others, further, also, f) =
    let same : a ∷ later ≡ b ∷ further = sym e ∙ ap stops (walk-one sizes base kind root findings others walk also) ∙ f in cc

pub list-not_stop : (sizes : Sizes) (base : Paged) (kind : TreeKind) (root : ℕ) (members : List Member) (stop : ℕ × Rule) → IsList sizes base kind root members → ¬ StopsAt sizes base kind root stop
list-not_stop sizes base kind root members stop (findings, walk, none, e) (others, later, also, f) =
    let same : [] ≡ stop ∷ later = sym none ∙ ap stops (walk-one sizes base kind root findings others walk also) ∙ f in absurd (let h : ⊥ = cc in h)

-- the kind that a word says
kind_of : List ℕ → SchemaKind
kind_of word = if length word == 4 then kind.View else (if length word == 7 then kind.Trigger else (if slice_index word 0 == 105 then kind.Index else kind.Table))

kind_of-word : (k : SchemaKind) → kind_of (kind_word k) ≡ k
unfolding kind_of
kind_of-word kind.Table = refl
kind_of-word kind.Index = refl
kind_of-word kind.View = refl
kind_of-word kind.Trigger = refl

root-one : (value other : Value) (r s : ℕ) → value ≡ other → IsRootValue value r → IsRootValue other s → r ≡ s
root-one Null Null r s e p q = p ∙ sym q
root-one Null (Int w) r s e p q = absurd (let h : ⊥ = cc in h)
root-one Null (Text w) r s e p q = absurd q
root-one Null (Blob w) r s e p q = absurd q
root-one (Int z) Null r s e p q = absurd (let h : ⊥ = cc in h)
root-one (Int z) (Int w) r s e p q = let same : pos r ≡ pos s = cc in cc
root-one (Int z) (Text w) r s e p q = absurd q
root-one (Int z) (Blob w) r s e p q = absurd q
root-one (Text z) other r s e p q = absurd p
root-one (Blob z) other r s e p q = absurd p

sql-one : (value other : Value) (r s : Option (List ℕ)) → value ≡ other → IsSqlValue value r → IsSqlValue other s → r ≡ s
sql-one Null Null r s e p q = p ∙ sym q
sql-one Null (Int w) r s e p q = absurd q
sql-one Null (Text w) r s e p q = absurd (let h : ⊥ = cc in h)
sql-one Null (Blob w) r s e p q = absurd q
sql-one (Int z) other r s e p q = absurd p
sql-one (Text z) Null r s e p q = absurd (let h : ⊥ = cc in h)
sql-one (Text z) (Int w) r s e p q = absurd q
sql-one (Text z) (Text w) r s e p q = let same : z ≡ w = cc in p ∙ ap Some same ∙ sym q
sql-one (Text z) (Blob w) r s e p q = absurd q
sql-one (Blob z) other r s e p q = absurd p

-- a member is one row
pub schema_row-one : (member : Member) → IsOne (IsSchemaRow member)
schema_row-one member a b p q =
    let same : row_values a p.root_value p.sql_value ≡ row_values b q.root_value q.sql_value =
    (record-same (row_values a p.root_value p.sql_value) (row_values b q.root_value q.sql_value) member.payload member.payload [] [] p.is_record q.is_record refl).0 in
    let word : kind_word a.kind ≡ kind_word b.kind = cc in
    let kind : a.kind ≡ b.kind = sym (kind_of-word a.kind) ∙ ap kind_of word ∙ kind_of-word b.kind in
    let name : a.name ≡ b.name = cc in
    let table : a.table ≡ b.table = cc in
    let root_value : p.root_value ≡ q.root_value = cc in
    let sql_value : p.sql_value ≡ q.sql_value = cc in
    let root = root-one p.root_value q.root_value a.root b.root root_value p.root q.root in
    let sql = sql-one p.sql_value q.sql_value a.sql b.sql sql_value p.sql q.sql in
    let rowid : a.rowid ≡ b.rowid = p.rowid ∙ sym q.rowid in
    λ i. record { rowid = rowid i; kind = kind i; name = name i; table = table i; root = root i; sql = sql i }

pub rows-one : (members : List Member) → IsOne (AreRows members)
rows-one members = beside-one (λ member row. OrNone (IsSchemaRow member) row) (λ member. OrNone-one (IsSchemaRow member) (schema_row-one member)) members

-- what is said of a table is one thing
pub table_meaning-one : (k : SchemaKind) (sql : Option (List ℕ)) → IsOne (IsTableMeaning k sql)
table_meaning-one kind.Table (Some text) a b p q = one_table_answer text a b p q
table_meaning-one kind.Table None a b p q = absurd p
table_meaning-one kind.View sql a b p q = p ∙ sym q
table_meaning-one kind.Index sql a b p q = absurd p
table_meaning-one kind.Trigger sql a b p q = absurd p

automatic-one : (row : SchemaRow) (columns : Option (List (ℕ × Collation))) → IsOne (IsAutomatic row columns)
automatic-one row None a b p q = absurd p
automatic-one row (Some columns) a b p q = p ∙ sym q

means_under-one : (format : ℕ) (text : List ℕ) (table : Table) → IsOne (MeansUnder format text table)
means_under-one format text table a b (read, means, e) (other, also, f) = e ∙ ap (index_under format) (one_index text table read other means also) ∙ sym f

read_meaning-one : (format : ℕ) (row : SchemaRow) (table : Table) (sql : Option (List ℕ)) → IsOne (IsReadMeaning format row table sql)
read_meaning-one format row table (Some text) =
    OrFault-one (MeansUnder format text table) (HasIndexFault text table) (means_under-one format text table) (one_index_fault text table) (λ found fault p q. index_no_fault text table p.0 fault p.1 q)
read_meaning-one format row table None = automatic-one row (automatic_columns row 1 table.unique)

-- what is said of an index is one thing
pub index_meaning-one : (format : ℕ) (row : SchemaRow) (meaning : Result Table SqlFault) → IsOne (IsIndexMeaning format row meaning)
index_meaning-one format row (Err fault) a b p q = p ∙ sym q
index_meaning-one format row (Ok table) a b p q = read_meaning-one format row table row.sql a b p q

module _ (format : ℕ) (rows : List SchemaRow) where
  index_entry-one : (meaning : Result Table SqlFault) (row : SchemaRow) → IsOne (IsIndexEntry format meaning row)
  index_entry-one meaning row a b p q =
      let root : a.0 ≡ b.0 = p.0 ∙ sym q.0 in
      let same = index_meaning-one format row meaning a.1 b.1 p.1 q.1 in
      λ i. (root i, same i)

  entry-one : (row : SchemaRow) → IsOne (IsEntry format rows row)
  entry-one row a b p q =
      let name : a.name ≡ b.name = p.name ∙ sym q.name in
      let root : a.entry.root ≡ b.entry.root = p.root ∙ sym q.root in
      let meaning = table_meaning-one row.kind row.sql a.entry.meaning b.entry.meaning p.meaning q.meaning in
      let also = subst⁻¹ (λ (m : Result Table SqlFault). AllZip (IsIndexEntry format m) (index_rows row.name rows) b.entry.indexes) meaning q.indexes in
      let indexes = beside-one (IsIndexEntry format a.entry.meaning) (index_entry-one a.entry.meaning) (index_rows row.name rows) a.entry.indexes b.entry.indexes p.indexes also in
      λ i. record { name = name i; entry = record { root = root i; meaning = meaning i; indexes = indexes i } }

  -- rows say one catalog
  pub catalog-one : IsOne (IsCatalog format rows)
  catalog-one a b p q =
      let tables = beside-one (IsEntry format rows) entry-one (filter is_table rows) a.tables b.tables p.tables q.tables in
      let roots = order-one (λ (x y : ℕ). x < y) (λ x y less more. omega (arith, less, more)) (1 ∷ roots_named format rows) a.roots b.roots (p.roots_are, p.roots_rise) (q.roots_are, q.roots_rise) in
      λ i. record { tables = tables i; roots = roots i }

-- a database has one catalog
pub has_catalog-one : (sizes : Sizes) (base : Paged) → IsOne (HasCatalog sizes base)
has_catalog-one sizes base a b p q =
    let members = list-one sizes base TableTree 1 p.members q.members p.is_list q.is_list in
    let are = subst⁻¹ (λ (m : List Member). AreRows m q.found) members q.are_rows in
    let found = rows-one p.members p.found q.found p.are_rows are in
    catalog-one (format_of base) (rows_of p.found) a b p.is_catalog (subst⁻¹ (λ (f : List (Option SchemaRow)). IsCatalog (format_of base) (rows_of f) b) found q.is_catalog)

module _ (sizes : Sizes) (base : Paged) (rows : List SchemaRow) where
  row_fault-one : (before : List SchemaRow) (member : Member) (row : Option SchemaRow) → IsOne (RowHasFault sizes base rows before member row)
  row_fault-one before member row a b (inl p) (inl q) = p.1 ∙ sym q.1
  row_fault-one before member row a b (inl p) (inr q) = absurd (p.0 q.0)
  row_fault-one before member row a b (inr p) (inl q) = absurd (q.0 p.0)
  row_fault-one before member row a b (inr p) (inr q) = p.2 ∙ sym q.2

  faultless-no_fault : (before : List SchemaRow) (member : Member) (row : Option SchemaRow) (fault : FileFault) → IsFaultless sizes base rows before row → ¬ RowHasFault sizes base rows before member row fault
  faultless-no_fault before member row fault p (inl q) = q.0 p.0
  faultless-no_fault before member row fault p (inr q) = truth-apart (repeats_name before row) q.1 p.1

  first_row_fault-one : (before : List SchemaRow) (members : List Member) (found : List (Option SchemaRow)) → IsOne (FirstRowFault sizes base rows before members found)
  first_row_fault-one before [] found a b p q = absurd p
  first_row_fault-one before (member ∷ members) [] a b p q = absurd p
  first_row_fault-one before (member ∷ members) (row ∷ found) a b (inl p) (inl q) = row_fault-one before member row a b p q
  first_row_fault-one before (member ∷ members) (row ∷ found) a b (inl p) (inr q) = absurd (faultless-no_fault before member row a q.0 p)
  first_row_fault-one before (member ∷ members) (row ∷ found) a b (inr p) (inl q) = absurd (faultless-no_fault before member row b p.0 q)
  first_row_fault-one before (member ∷ members) (row ∷ found) a b (inr p) (inr q) = first_row_fault-one (before ++ rows_of (row ∷ [])) members found a b p.1 q.1

  faultless-no_first : (before : List SchemaRow) (members : List Member) (found : List (Option SchemaRow)) (fault : FileFault) → AreFaultless sizes base rows before found → ¬ FirstRowFault sizes base rows before members found fault
  faultless-no_first before [] found fault p q = absurd q
  faultless-no_first before (member ∷ members) [] fault p q = absurd q
  faultless-no_first before (member ∷ members) (row ∷ found) fault p (inl q) = faultless-no_fault before member row fault p.0 q
  faultless-no_first before (member ∷ members) (row ∷ found) fault p (inr q) = faultless-no_first (before ++ rows_of (row ∷ [])) members found fault p.1 q.1

-- a database has one fault for which it has no catalog
pub catalog_fault-one : (sizes : Sizes) (base : Paged) → IsOne (CatalogHasFault sizes base)
catalog_fault-one sizes base a b (inl (page, rule, stop, e)) (inl (other, also, too, f)) =
    let same = stop-one sizes base TableTree 1 (page, rule) (other, also) stop too in e ∙ ap (λ (s : ℕ × Rule). TreeDamaged s.0 s.1) same ∙ sym f
catalog_fault-one sizes base a b (inl (page, rule, stop, e)) (inr (members, found, list, are, q)) = absurd (list-not_stop sizes base TableTree 1 members (page, rule) list stop)
catalog_fault-one sizes base a b (inr (members, found, list, are, q)) (inl (page, rule, stop, e)) = absurd (list-not_stop sizes base TableTree 1 members (page, rule) list stop)
catalog_fault-one sizes base a b (inr (members, found, list, are, p)) (inr (others, also, further, too, q)) =
    let same = list-one sizes base TableTree 1 members others list further in
    let there = subst⁻¹ (λ (m : List Member). AreRows m also × FirstRowFault sizes base (rows_of also) [] m also b) same (too, q) in
    let rows = rows-one members found also are there.0 in
    let fault = subst⁻¹ (λ (f : List (Option SchemaRow)). FirstRowFault sizes base (rows_of f) [] members f b) rows there.1 in
    first_row_fault-one sizes base (rows_of found) [] members found a b p fault

pub catalog-no_fault : (sizes : Sizes) (base : Paged) (catalog : Catalog) (fault : FileFault) → HasCatalog sizes base catalog → ¬ CatalogHasFault sizes base fault
catalog-no_fault sizes base catalog fault has (inl (page, rule, stop, e)) = list-not_stop sizes base TableTree 1 has.members (page, rule) has.is_list stop
catalog-no_fault sizes base catalog fault has (inr (members, found, list, are, p)) =
    let same = list-one sizes base TableTree 1 has.members members has.is_list list in
    let there = subst⁻¹ (λ (m : List Member). AreRows m found × FirstRowFault sizes base (rows_of found) [] m found fault) same (are, p) in
    let rows = rows-one has.members has.found found has.are_rows there.0 in
    let first = subst⁻¹ (λ (f : List (Option SchemaRow)). FirstRowFault sizes base (rows_of f) [] has.members f fault) rows there.1 in
    faultless-no_first sizes base (rows_of has.found) [] has.members has.found fault has.faultless first

-- a database has one catalog, or one fault for which it has none
pub catalog_answer-one : (sizes : Sizes) (base : Paged) → IsOne (OrFault (HasCatalog sizes base) (CatalogHasFault sizes base))
catalog_answer-one sizes base = OrFault-one (HasCatalog sizes base) (CatalogHasFault sizes base) (has_catalog-one sizes base) (catalog_fault-one sizes base) (catalog-no_fault sizes base)
