-- The tables of a catalog, and what is answered of their names.
use Rattle.std.proofs.Common.{◌≡◌, ◌≤◌, ℕ, Bool, List, [], ◌∷◌, if◌then◌else◌, filter, Some, Result, Ok, Err, IfOk, refl, sym, ap, ◌∙◌, subst, inl, inr, arith}
use Rattle.std.proofs.Math.Path.{subst⁻¹}
use Rattle.schema_spec.specs.declared.schema.SqlFault.{SqlFault}
use Rattle.schema_spec.specs.declared.schema.Table.{Table}
use Rattle.schema_spec.specs.Words.{same_name}
use Rattle.tree_spec.specs.declared.TreeKind.TheVariants.{Table as TableTree}
use Rattle.tree_spec.specs.Standing.{Sizes, Paged, IsNumber}
use Rattle.database_spec.specs.declared.catalog.Catalog.{Catalog}
use Rattle.database_spec.specs.declared.catalog.NamedEntry.{NamedEntry}
use Rattle.database_spec.specs.declared.catalog.SchemaKind.{SchemaKind}
use Rattle.database_spec.specs.declared.catalog.SchemaKind.TheVariants as kind
use Rattle.database_spec.specs.declared.catalog.SchemaRow.{SchemaRow}
use Rattle.database_spec.specs.Catalogs.{is_table, IsEntry, IsTableMeaning, format_of}
use Rattle.database_spec.specs.CatalogsLaws.{table_meaning-one}
use Rattle.database_spec.specs.ItemsLaws.{Has, decide, filter-has}
use Rattle.database_spec.specs.RightRows.{is_virtual, rows_of, HasCatalog, IsRightIndex, IsRightTable, IsRight}
use Rattle.database_laws.specs.SubjectsLaws.{right-row, zip-has}
use Rattle.walk_laws.specs.WalksMadeLaws.{walk-found}
use Rattle.prepared_spec.specs.Plans.{table_named}
use Rattle.dump_spec.specs.Refusals.{IsTextRefusal}
use Rattle.dump_spec.specs.TableDumps.{IsMeantAnswer, IsRowsAnswer}
use Rattle.table_dump.specs.declared.fault.PrintFault.{PrintFault}
use Rattle.table_dump.specs.declared.fault.RowFault.{RowFault}
use Rattle.table_dump.specs.Answers.{Answers, HasRoot, IsRefusedOrOther, RefusesRow, of_row_fault}
use Rattle.table_dump.specs.Rows.{PrintsTree}
use Rattle.table_dump.proofs.Faults.{answers-then, row-refused}

-- the table that a name means stands in the catalog
named-has : (name : List ℕ) (tables : List NamedEntry) (named : NamedEntry) → table_named name tables ≡ Some named → Has named tables
named-has name [] named e = absurd (let no : ⊥ = cc in no)
named-has name (other ∷ tables) named e =
    let as_test = λ (t : Bool). if t then Some other else table_named name tables in
    elim (decide (same_name other.name name)) [
      | inl here ↦ let same : Some other ≡ Some named = sym (ap as_test here) ∙ e in let one : other ≡ named = cc in inl one
      | inr later ↦ inr (named-has name tables named (sym (ap as_test later) ∙ e))
    ]

module _ (sizes : Sizes) (base : Paged) where
  -- a table whose text is read has a root of its own
  module _ (rows before : List SchemaRow) (row : SchemaRow) (table : Table) where
    table-number : IsRightTable sizes base rows before row → IsTableMeaning kind.Table row.sql (Ok table) → IsNumber sizes base row.root
    table-number is means =
        let same = table_meaning-one kind.Table row.sql is.meaning (Ok table) is.means means in
        (is.root (ap is_virtual same)).0

    read-number : IsRight sizes base rows before row → IsTableMeaning row.kind row.sql (Ok table) → IsNumber sizes base row.root
    read-number = by row.kind
      where
        by : (k : SchemaKind) → (elim k as (λ _. Type 0) [ kind.Table ↦ IsRightTable sizes base rows before row | kind.Index ↦ IsRightIndex sizes base rows before row | kind.View ↦ row.root ≡ 0 | kind.Trigger ↦ row.root ≡ 0 ])
            → IsTableMeaning k row.sql (Ok table) → IsNumber sizes base row.root
        by kind.Table is means = table-number is means
        by kind.View is means = absurd (let no : ⊥ = cc in no)
        by kind.Index is means = absurd means
        by kind.Trigger is means = absurd means

  module _ (catalog : Catalog) (has : HasCatalog sizes base catalog) where
    meant-root : (named : NamedEntry) (row : SchemaRow) (meaning : Result Table SqlFault) → IsEntry (format_of base) (rows_of has.found) row named → Has row (rows_of has.found) → named.entry.meaning ≡ meaning
        → IfOk meaning (λ table. (1 ≤ named.entry.root) × (named.entry.root ≤ base.count))
    meant-root named row (Err fault) is stands e = tt
    meant-root named row (Ok table) is stands e =
        let right = right-row sizes base (rows_of has.found) [] has.found row has.faultless stands in
        let means = subst (λ (m : Result Table SqlFault). IsTableMeaning row.kind row.sql m) e is.meaning in
        let number = read-number (rows_of has.found) right.0 row table right.1 means in
        (omega (arith, is.root, number.behind_first), omega (arith, is.root, number.within))

    pub named-root : (name : List ℕ) (named : NamedEntry) → table_named name catalog.tables ≡ Some named → HasRoot base named
    named-root name named e =
        let entry = zip-has (IsEntry (format_of base) (rows_of has.found)) (filter is_table (rows_of has.found)) catalog.tables named has.is_catalog.tables (named-has name catalog.tables named e) in
        let row = filter-has is_table (rows_of has.found) entry.0 entry.1 in
        meant-root named entry.0 named.entry.meaning entry.2 row.0 refl

  -- what is printed of a table is the answer of what it means
  module _ {F : Type 0} (named : NamedEntry) where
    pub tree-meant : (table : Table) (result : Result (List ℕ) (PrintFault F)) → named.entry.meaning ≡ Ok table → PrintsTree named.name table sizes base named.entry.root result → Answers (IsMeantAnswer sizes base named named.entry.meaning) result
    tree-meant table result e prints =
        let walk = walk-found sizes base TableTree named.entry.root in
        subst⁻¹ (λ (m : Result Table SqlFault). Answers (IsMeantAnswer sizes base named m) result) e
        (answers-then (IsRowsAnswer named.name table walk.0) (IsMeantAnswer sizes base named (Ok table)) result (λ answer is. (walk.0, walk.1, is)) (prints walk.0 walk.1))

    pub text-meant : (fault : SqlFault) (refused : RowFault) (told : PrintFault F) → named.entry.meaning ≡ Err fault → told ≡ of_row_fault refused → RefusesRow (IsTextRefusal named.name fault) refused
        → IsRefusedOrOther (λ refusal. IsMeantAnswer sizes base named named.entry.meaning (Err refusal)) told
    text-meant fault refused told e same is =
        subst⁻¹ (λ (m : Result Table SqlFault). IsRefusedOrOther (λ refusal. IsMeantAnswer sizes base named m (Err refusal)) told) e
        (row-refused (IsTextRefusal named.name fault) (λ refusal. IsMeantAnswer sizes base named (Err fault) (Err refusal)) refused told same (λ refusal of_text. (refusal, of_text, refl)) is)

  -- no catalog has a table with another root
  pub root-within : (named : NamedEntry) (table : Table) → named.entry.meaning ≡ Ok table → HasRoot base named → (1 ≤ named.entry.root) × (named.entry.root ≤ base.count)
  root-within named table e has = subst (λ (m : Result Table SqlFault). IfOk m (λ table. (1 ≤ named.entry.root) × (named.entry.root ≤ base.count))) e has
