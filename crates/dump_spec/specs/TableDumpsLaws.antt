-- A name has one answer of pages, and that of a plain table are the lines of its rows: crates above cite these facts in their proofs.
use Rattle.std.proofs.Common.{◌≡◌, ℕ, List, [], ◌∷◌, ◌++◌, length, Option, Some, None, Result, Ok, Err, refl, sym, ap, ap₂, ◌∙◌, subst, inl, inr}
use Rattle.std.proofs.Math.Path.{subst⁻¹}
use Rattle.std.specs.List.{AllZip}
use Rattle.common_spec.specs.ReadingLaws.{IsOne}
use Rattle.refusal.specs.declared.Refusal.{Refusal}
use Rattle.refusal.specs.declared.Refusal.TheVariants.{TargetRecord}
use Rattle.schema_spec.specs.declared.schema.SqlFault.{SqlFault}
use Rattle.schema_spec.specs.declared.schema.SqlFault.TheVariants as text
use Rattle.schema_spec.specs.declared.schema.Table.{Table}
use Rattle.tree_spec.specs.declared.TreeKind.TheVariants.{Table as TableTree}
use Rattle.tree_spec.specs.Standing.{Sizes, Paged}
use Rattle.database_spec.specs.declared.catalog.Catalog.{Catalog}
use Rattle.database_spec.specs.declared.catalog.NamedEntry.{NamedEntry}
use Rattle.database_spec.specs.CatalogsLaws.{has_catalog-one, catalog_fault-one, catalog-no_fault}
use Rattle.database_spec.specs.RightRows.{HasCatalog}
use Rattle.database_spec.specs.Rows.{TableRow, IsRow, IsPlain}
use Rattle.database_spec.specs.RowsLaws.{row-one}
use Rattle.database_spec.specs.Walks.{Finding, Finds, Ends, Holds, Breaks, Disorders, Bares, members_found, stops}
use Rattle.database_spec.specs.WalksLaws.{walk-one}
use Rattle.prepared_spec.specs.InputFaultsLaws.{cause-one, row-no_cause}
use Rattle.prepared_spec.specs.Plans.{table_named}
use Rattle.dump_spec.specs.Refusals.{IsTextRefusal, cause_number, file_refusal}
use Rattle.dump_spec.specs.TableDumps.{line_of, lines_of, behind, IsRowsAnswer, IsMeantAnswer, IsNamedAnswer, IsTableAnswer}

-- Answers are one.

module _ (name : List ℕ) (table : Table) where
  pub rows_answer-one : (findings : List Finding) → IsOne (IsRowsAnswer name table findings)
  rows_answer-one [] a b p q = p ∙ sym q
  rows_answer-one (Finds page ∷ findings) a b p q = rows_answer-one findings a b p q
  rows_answer-one (Ends page depth ∷ findings) a b p q = rows_answer-one findings a b p q
  rows_answer-one (Bares page ∷ findings) a b p q = rows_answer-one findings a b p q
  rows_answer-one (Breaks page rule ∷ findings) a b p q = p ∙ sym q
  rows_answer-one (Disorders page ∷ findings) a b p q = p ∙ sym q
  rows_answer-one (Holds page member ∷ findings) a b (inl p) (inl q) =
      p.4 ∙ ap₂ (λ (row : TableRow) (later : Result (List ℕ) Refusal). behind (line_of row) later) (row-one table member p.0 q.0 p.2 q.2) (rows_answer-one findings p.1 q.1 p.3 q.3) ∙ sym q.4
  rows_answer-one (Holds page member ∷ findings) a b (inl p) (inr q) = absurd (row-no_cause member.payload (length table.columns) q.0 p.2.stored q.1 p.2.is_record p.2.many)
  rows_answer-one (Holds page member ∷ findings) a b (inr p) (inl q) = absurd (row-no_cause member.payload (length table.columns) p.0 q.2.stored p.1 q.2.is_record q.2.many)
  rows_answer-one (Holds page member ∷ findings) a b (inr p) (inr q) =
      p.2 ∙ ap (λ cause. Err (TargetRecord name member.rowid (cause_number cause))) (cause-one member.payload (length table.columns) p.0 q.0 p.1 q.1) ∙ sym q.2

text_refusal-one : (name : List ℕ) (fault : SqlFault) → IsOne (IsTextRefusal name fault)
text_refusal-one name (text.SqlSyntax offset) a b p q = p ∙ sym q
text_refusal-one name (text.OutsideProfile clause) a b p q = p ∙ sym q
text_refusal-one name (text.Memory error) a b p q = absurd p

module _ (sizes : Sizes) (base : Paged) where
  meant_answer-one : (named : NamedEntry) (meaning : Result Table SqlFault) → IsOne (IsMeantAnswer sizes base named meaning)
  meant_answer-one named (Err fault) a b p q = p.2 ∙ ap Err (text_refusal-one named.name fault p.0 q.0 p.1 q.1) ∙ sym q.2
  meant_answer-one named (Ok table) a b p q =
      let same = walk-one sizes base TableTree named.entry.root p.0 q.0 p.1 q.1 in
      rows_answer-one named.name table p.0 a b p.2 (subst⁻¹ (λ (findings : List Finding). IsRowsAnswer named.name table findings b) same q.2)

  named_answer-one : (name : List ℕ) (named : Option NamedEntry) → IsOne (IsNamedAnswer sizes base name named)
  named_answer-one name None a b p q = p ∙ sym q
  named_answer-one name (Some named) a b p q = meant_answer-one named named.entry.meaning a b p q

  pub table_answer-one : (name : List ℕ) → IsOne (IsTableAnswer sizes base name)
  table_answer-one name a b (inl p) (inl q) = p.2 ∙ ap (λ fault. Err (file_refusal fault)) (catalog_fault-one sizes base p.0 q.0 p.1 q.1) ∙ sym q.2
  table_answer-one name a b (inl p) (inr q) = absurd (catalog-no_fault sizes base q.0 p.0 q.1 p.1)
  table_answer-one name a b (inr p) (inl q) = absurd (catalog-no_fault sizes base p.0 q.0 p.1 q.1)
  table_answer-one name a b (inr p) (inr q) =
      named_answer-one name (table_named name p.0.tables) a b p.2
      (subst⁻¹ (λ (catalog : Catalog). IsNamedAnswer sizes base name (table_named name catalog.tables) b) (has_catalog-one sizes base p.0 q.0 p.1 q.1) q.2)

-- The lines of a plain table.

module _ (name : List ℕ) (table : Table) where
  -- the rows of members that are rows are printed
  rows-printed : (findings : List Finding) (rows : List TableRow) → stops findings ≡ [] → AllZip (IsRow table) (members_found findings) rows → IsRowsAnswer name table findings (Ok (lines_of rows))
  rows-printed [] [] none are = refl
  rows-printed [] (row ∷ rows) none are = absurd are
  rows-printed (Finds page ∷ findings) rows none are = rows-printed findings rows none are
  rows-printed (Ends page depth ∷ findings) rows none are = rows-printed findings rows none are
  rows-printed (Bares page ∷ findings) rows none are = rows-printed findings rows none are
  rows-printed (Holds page member ∷ findings) [] none are = absurd are
  rows-printed (Holds page member ∷ findings) (row ∷ rows) none are = inl (row, Ok (lines_of rows), are.0, rows-printed findings rows none are.1, refl)
  rows-printed (Breaks page rule ∷ findings) rows none are = absurd (let no : ⊥ = cc in no)
  rows-printed (Disorders page ∷ findings) rows none are = absurd (let no : ⊥ = cc in no)

  -- and what is printed are the lines of rows
  abbrev ArePrinted : List Finding → List ℕ → Type 0
  ArePrinted findings printed = (rows : List TableRow) × (stops findings ≡ []) × AllZip (IsRow table) (members_found findings) rows × (printed ≡ lines_of rows)

  printed-rows : (findings : List Finding) (printed : List ℕ) → IsRowsAnswer name table findings (Ok printed) → ArePrinted findings printed
  printed-rows [] printed is = ([], refl, tt, let same : printed ≡ [] = cc in same)
  printed-rows (Finds page ∷ findings) printed is = printed-rows findings printed is
  printed-rows (Ends page depth ∷ findings) printed is = printed-rows findings printed is
  printed-rows (Bares page ∷ findings) printed is = printed-rows findings printed is
  printed-rows (Breaks page rule ∷ findings) printed is = absurd (let no : ⊥ = cc in no)
  printed-rows (Disorders page ∷ findings) printed is = absurd (let no : ⊥ = cc in no)
  printed-rows (Holds page member ∷ findings) printed (inr refused) = absurd (let e = refused.2 in let no : ⊥ = cc in no)
  printed-rows (Holds page member ∷ findings) printed (inl row) = by row.0 row.1 row.2 row.3 row.4 (λ rest others. printed-rows findings rest others)
    where
      by : (one : TableRow) (later : Result (List ℕ) Refusal) → IsRow table member one → IsRowsAnswer name table findings later → Ok printed ≡ behind (line_of one) later
          → ((rest : List ℕ) → IsRowsAnswer name table findings (Ok rest) → ArePrinted findings rest) → ArePrinted (Holds page member ∷ findings) printed
      by one (Err refusal) is others e more_of = absurd (let no : ⊥ = cc in no)
      by one (Ok rest) is others e more_of =
          let more = more_of rest others in
          let same : printed ≡ line_of one ++ rest = cc in
          (one ∷ more.0, more.1, (is, more.2), same ∙ ap (λ (t : List ℕ). line_of one ++ t) more.3)

module _ (sizes : Sizes) (base : Paged) (name : List ℕ) (catalog : Catalog) (has : HasCatalog sizes base catalog) (named : NamedEntry) (found : table_named name catalog.tables ≡ Some named) where
  -- a plain table is printed
  pub plain-printed : (table : Table) (rows : List TableRow) → IsPlain sizes base named.entry table rows → IsTableAnswer sizes base name (Ok (lines_of rows))
  plain-printed table rows plain =
      let answer : Result (List ℕ) Refusal = Ok (lines_of rows) in
      let is = plain.is_list in
      let are = subst (λ members. AllZip (IsRow table) members rows) is.3 plain.rows_are in
      inr (
        catalog,
        has,
        subst⁻¹ (λ (o : Option NamedEntry). IsNamedAnswer sizes base name o answer) found
            (subst⁻¹ (λ (m : Result Table SqlFault). IsMeantAnswer sizes base named m answer) plain.meaning (is.0, is.1, rows-printed named.name table is.0 rows is.2 are)),
      )

  -- and where lines are printed the table is plain
  abbrev pub IsPlainText : List ℕ → Type 0
  IsPlainText printed = (table : Table) × (rows : List TableRow) × IsPlain sizes base named.entry table rows × (printed ≡ lines_of rows)

  meant-plain : (meaning : Result Table SqlFault) (printed : List ℕ) → named.entry.meaning ≡ meaning → IsMeantAnswer sizes base named meaning (Ok printed) → IsPlainText printed
  meant-plain (Err fault) printed means is = absurd (let e = is.2 in let no : ⊥ = cc in no)
  meant-plain (Ok table) printed means is =
      let rows = printed-rows named.name table is.0 printed is.2 in
      (table, rows.0, record { meaning = means; members = members_found is.0; is_list = (is.0, is.1, rows.1, refl); rows_are = rows.2 }, rows.3)

  pub printed-plain : (printed : List ℕ) → IsTableAnswer sizes base name (Ok printed) → IsPlainText printed
  printed-plain printed (inl refused) = absurd (let e = refused.2 in let no : ⊥ = cc in no)
  printed-plain printed (inr is) =
      let answer : Result (List ℕ) Refusal = Ok printed in
      let same = has_catalog-one sizes base catalog is.0 has is.1 in
      let here = subst⁻¹ (λ (c : Catalog). IsNamedAnswer sizes base name (table_named name c.tables) answer) same is.2 in
      meant-plain named.entry.meaning printed refl (subst (λ (o : Option NamedEntry). IsNamedAnswer sizes base name o answer) found here)
