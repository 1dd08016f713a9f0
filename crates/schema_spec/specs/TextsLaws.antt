-- A text means one table, or one index of a table, or has one fault.
use Rattle.std.specs.Prelude.{◌≡◌, ℕ, List, [], ◌∷◌, Option, Some, None, slice_index_or, map, refl}
use Rattle.std.specs.List.{AllZip}
use Rattle.std.proofs.Common.{sym, ap, ◌∙◌, subst, inl, inr}
use Rattle.rbu_value.specs.AffinityLaws.{affinity-same}
use Rattle.common_spec.specs.Reading.{OrFault, IsFirst}
use Rattle.common_spec.specs.ReadingLaws.{IsOne, OrFault-one, IsFirst-one}
use Rattle.schema_spec.specs.declared.token.Token.{Token}
use Rattle.schema_spec.specs.declared.schema.Clause.{Clause}
use Rattle.schema_spec.specs.declared.schema.Clause.TheVariants.{Without, Strict, Generated, As, On, Desc, Collate, Real, Unique, Primary, Where, Expression, Virtual, View}
use Rattle.schema_spec.specs.declared.schema.SqlFault.{SqlFault}
use Rattle.schema_spec.specs.declared.schema.SqlFault.TheVariants.{SqlSyntax, OutsideProfile, Memory}
use Rattle.schema_spec.specs.declared.schema.Column.{Column}
use Rattle.schema_spec.specs.declared.schema.Table.{Table}
use Rattle.schema_spec.specs.declared.schema.Index.{Index}
use Rattle.schema_spec.specs.declared.syntax.ColumnText.{ColumnText}
use Rattle.schema_spec.specs.declared.syntax.TableText.{TableText}
use Rattle.schema_spec.specs.declared.syntax.TableStatement.{TableStatement}
use Rattle.schema_spec.specs.declared.syntax.TableStatement.TheVariants.{Table as TableStatementOf, Virtual as VirtualStatement, View as ViewStatement}
use Rattle.schema_spec.specs.declared.syntax.IndexText.{IndexText}
use Rattle.schema_spec.specs.TokensLaws.{tokens-one}
use Rattle.schema_spec.specs.Fronts.{Front, Behind, Stops}
use Rattle.schema_spec.specs.TableGrammar.{table_statement, index_statement}
use Rattle.schema_spec.specs.Names.{wrong_tokens, first_start}
use Rattle.schema_spec.specs.Words.{name_of}
use Rattle.schema_spec.specs.Causes.{clause_order, HasCause, HasIndexCause, plain_columns}
use Rattle.schema_spec.specs.Texts.{offset_of, IsColumn, IsTable, IsProfiled, MeansTable, IsOutside, TokensHaveFault, HasTableFault, IsProfiledIndex, indexed, unknown_columns, MeansIndex, IndexTokensHaveFault, HasIndexFault}

clause_at : ℕ → Clause
clause_at n = slice_index_or (Without ∷ Strict ∷ Generated ∷ As ∷ On ∷ Desc ∷ Collate ∷ Real ∷ Unique ∷ Primary ∷ Where ∷ Expression ∷ Virtual ∷ View ∷ []) n Without

clause_at-order : (clause : Clause) → clause_at (clause_order clause) ≡ clause
unfolding clause_at
clause_at-order Without = refl
clause_at-order Strict = refl
clause_at-order Generated = refl
clause_at-order As = refl
clause_at-order On = refl
clause_at-order Desc = refl
clause_at-order Collate = refl
clause_at-order Real = refl
clause_at-order Unique = refl
clause_at-order Primary = refl
clause_at-order Where = refl
clause_at-order Expression = refl
clause_at-order Virtual = refl
clause_at-order View = refl

-- no two clauses have one place in the order
pub order-same : (a b : Clause) → clause_order a ≡ clause_order b → a ≡ b
order-same a b e = sym (clause_at-order a) ∙ ap clause_at e ∙ clause_at-order b

-- one clause is the first
first-one : (F : Clause → Type 0) → IsOne (IsFirst clause_order F)
first-one F = IsFirst-one clause_order F (λ f g p q e. order-same f g e)

module _ (text : List ℕ) where
  column-same : (definition : ColumnText) → IsOne (IsColumn text definition)
  column-same definition a b p q =
      let affinity : a.affinity ≡ b.affinity = affinity-same _ a.affinity b.affinity p.affinity q.affinity in
      ap (λ x. record { name = x; affinity = a.affinity; collation = a.collation; not_null = a.not_null }) (p.name ∙ sym q.name)
      ∙ ap (λ x. record { name = b.name; affinity = x; collation = a.collation; not_null = a.not_null }) affinity
      ∙ ap (λ x. record { name = b.name; affinity = b.affinity; collation = x; not_null = a.not_null }) (p.collation ∙ sym q.collation)
      ∙ ap (λ x. record { name = b.name; affinity = b.affinity; collation = b.collation; not_null = x }) (p.not_null ∙ sym q.not_null)

  columns-same : (definitions : List ColumnText) (a b : List Column) → AllZip (IsColumn text) definitions a → AllZip (IsColumn text) definitions b → a ≡ b
  columns-same [] [] [] p q = refl
  columns-same [] [] (y ∷ b) p q = absurd q
  columns-same [] (x ∷ a) b p q = absurd p
  columns-same (d ∷ definitions) [] b p q = absurd p
  columns-same (d ∷ definitions) (x ∷ a) [] p q = absurd q
  columns-same (d ∷ definitions) (x ∷ a) (y ∷ b) p q =
      ap (λ z. z ∷ a) (column-same d x y p.0 q.0) ∙ ap (λ z. y ∷ z) (columns-same definitions a b p.1 q.1)

  table-same : (definition : TableText) → IsOne (IsTable text definition)
  table-same definition a b p q =
      ap (λ x. record { name = x; columns = a.columns; rowid_column = a.rowid_column; key = a.key; unique = a.unique }) (p.name ∙ sym q.name)
      ∙ ap (λ x. record { name = b.name; columns = x; rowid_column = a.rowid_column; key = a.key; unique = a.unique }) (columns-same definition.columns a.columns b.columns p.columns q.columns)
      ∙ ap (λ x. record { name = b.name; columns = b.columns; rowid_column = x; key = a.key; unique = a.unique }) (p.rowid_column ∙ sym q.rowid_column)
      ∙ ap (λ x. record { name = b.name; columns = b.columns; rowid_column = b.rowid_column; key = x; unique = a.unique }) (p.key ∙ sym q.key)
      ∙ ap (λ x. record { name = b.name; columns = b.columns; rowid_column = b.rowid_column; key = b.key; unique = x }) (p.unique ∙ sym q.unique)

  -- tokens have one statement or one stop
  statement-same : (tokens : List Token) (a b : TableStatement) → table_statement text tokens ≡ Behind a [] → table_statement text tokens ≡ Behind b [] → a ≡ b
  statement-same tokens a b p q = let e : ◌≡◌ {A = Front TableStatement} (Behind a []) (Behind b []) = sym p ∙ q in cc

  definition-same : (tokens : List Token) (a b : TableText) → table_statement text tokens ≡ Behind (TableStatementOf a) [] → table_statement text tokens ≡ Behind (TableStatementOf b) [] → a ≡ b
  definition-same tokens a b p q = let e : TableStatementOf a ≡ TableStatementOf b = statement-same tokens (TableStatementOf a) (TableStatementOf b) p q in cc

  stop-same : (tokens r s : List Token) → table_statement text tokens ≡ Stops r → table_statement text tokens ≡ Stops s → r ≡ s
  stop-same tokens r s p q = let e : ◌≡◌ {A = Front TableStatement} (Stops r) (Stops s) = sym p ∙ q in cc

  not_both : (tokens r : List Token) (a : TableStatement) → table_statement text tokens ≡ Stops r → table_statement text tokens ≡ Behind a [] → ⊥
  not_both tokens r a p q = let e : ◌≡◌ {A = Front TableStatement} (Stops r) (Behind a []) = sym p ∙ q in absurd (cc)

  -- a text means one table
  pub one_table : IsOne (MeansTable text)
  one_table a b p q =
      let same = tokens-one text p.tokens q.tokens p.are_tokens q.are_tokens in
      let definition = definition-same q.tokens p.definition q.definition (subst (λ t. table_statement text t ≡ Behind (TableStatementOf p.definition) []) same p.profiled.0) q.profiled.0 in
      table-same q.definition a b (subst (λ d. IsTable text d a) definition p.is_table) q.is_table

  outside-same : (statement : TableStatement) → IsOne (IsOutside text statement)
  outside-same (TableStatementOf definition) a b p q = first-one (HasCause text definition) a b p q
  outside-same VirtualStatement a b p q = p ∙ sym q
  outside-same ViewStatement a b p q = p ∙ sym q

  -- a table of the profile is not outside
  profiled-inside : (tokens : List Token) (definition : TableText) (statement : TableStatement) (clause : Clause) → IsProfiled text tokens definition
      → table_statement text tokens ≡ Behind statement [] → IsOutside text statement clause → ⊥
  profiled-inside tokens definition statement clause p q h =
      let e = statement-same tokens statement (TableStatementOf definition) q p.0 in
      let first = subst (λ s. IsOutside text s clause) e h in p.1 clause first.holds

  tokens_fault-same : (tokens : List Token) → IsOne (TokensHaveFault text tokens)
  tokens_fault-same tokens (SqlSyntax a) (SqlSyntax b) (inl p) (inl q) = ap SqlSyntax (p.2 ∙ ap (offset_of text) (stop-same tokens p.0 q.0 p.1 q.1) ∙ sym q.2)
  tokens_fault-same tokens (SqlSyntax a) (SqlSyntax b) (inl p) (inr q) = absurd (not_both tokens p.0 (TableStatementOf q.0) p.1 q.1.0)
  tokens_fault-same tokens (SqlSyntax a) (SqlSyntax b) (inr p) (inl q) = absurd (not_both tokens q.0 (TableStatementOf p.0) q.1 p.1.0)
  tokens_fault-same tokens (SqlSyntax a) (SqlSyntax b) (inr p) (inr q) =
      let d = definition-same tokens p.0 q.0 p.1.0 q.1.0 in
      let e : ◌≡◌ {A = Option ℕ} (Some a) (Some b) = sym p.2 ∙ ap (λ d. first_start (wrong_tokens text d)) d ∙ q.2 in ap SqlSyntax (cc)
  tokens_fault-same tokens (SqlSyntax a) (OutsideProfile b) (inl p) q = absurd (not_both tokens p.0 q.0 p.1 q.1)
  tokens_fault-same tokens (SqlSyntax a) (OutsideProfile b) (inr p) q = absurd (profiled-inside tokens p.0 q.0 b p.1 q.1 q.2)
  tokens_fault-same tokens (OutsideProfile a) (SqlSyntax b) p (inl q) = absurd (not_both tokens q.0 p.0 q.1 p.1)
  tokens_fault-same tokens (OutsideProfile a) (SqlSyntax b) p (inr q) = absurd (profiled-inside tokens q.0 p.0 a q.1 p.1 p.2)
  tokens_fault-same tokens (OutsideProfile a) (OutsideProfile b) p q =
      let e = statement-same tokens p.0 q.0 p.1 q.1 in ap OutsideProfile (outside-same q.0 a b (subst (λ s. IsOutside text s a) e p.2) q.2)
  tokens_fault-same tokens (Memory x) b p q = absurd p
  tokens_fault-same tokens (SqlSyntax a) (Memory y) p q = absurd q
  tokens_fault-same tokens (OutsideProfile a) (Memory y) p q = absurd q

  -- a text has one fault
  pub one_table_fault : IsOne (HasTableFault text)
  one_table_fault a b p q =
      tokens_fault-same q.0 a b (subst (λ t. TokensHaveFault text t a) (tokens-one text p.0 q.0 p.1 q.1) p.2) q.2

  tokens_fault-apart : (tokens : List Token) (definition : TableText) → IsProfiled text tokens definition → first_start (wrong_tokens text definition) ≡ None
      → (fault : SqlFault) → TokensHaveFault text tokens fault → ⊥
  tokens_fault-apart tokens definition p n (SqlSyntax a) (inl h) = not_both tokens h.0 (TableStatementOf definition) h.1 p.0
  tokens_fault-apart tokens definition p n (SqlSyntax a) (inr h) =
      let d = definition-same tokens h.0 definition h.1.0 p.0 in
      let e : ◌≡◌ {A = Option ℕ} (Some a) None = sym h.2 ∙ ap (λ d. first_start (wrong_tokens text d)) d ∙ n in absurd (cc)
  tokens_fault-apart tokens definition p n (OutsideProfile a) h = profiled-inside tokens definition h.0 a p h.1 h.2
  tokens_fault-apart tokens definition p n (Memory x) h = h

  -- a text that means a table has no fault
  pub table_no_fault : (table : Table) (fault : SqlFault) → MeansTable text table → ¬ HasTableFault text fault
  table_no_fault table fault p h =
      tokens_fault-apart p.tokens p.definition p.profiled p.names fault (subst (λ t. TokensHaveFault text t fault) (tokens-one text h.0 p.tokens h.1 p.are_tokens) h.2)

  -- a text means one table or has one fault
  pub one_table_answer : IsOne (OrFault (MeansTable text) (HasTableFault text))
  one_table_answer = OrFault-one (MeansTable text) (HasTableFault text) one_table one_table_fault table_no_fault

  module _ (table : Table) where
    index_definition-same : (tokens : List Token) (a b : IndexText) → index_statement text tokens ≡ Behind a [] → index_statement text tokens ≡ Behind b [] → a ≡ b
    index_definition-same tokens a b p q = let e : ◌≡◌ {A = Front IndexText} (Behind a []) (Behind b []) = sym p ∙ q in cc

    index_stop-same : (tokens r s : List Token) → index_statement text tokens ≡ Stops r → index_statement text tokens ≡ Stops s → r ≡ s
    index_stop-same tokens r s p q = let e : ◌≡◌ {A = Front IndexText} (Stops r) (Stops s) = sym p ∙ q in cc

    index_not_both : (tokens r : List Token) (a : IndexText) → index_statement text tokens ≡ Stops r → index_statement text tokens ≡ Behind a [] → ⊥
    index_not_both tokens r a p q = let e : ◌≡◌ {A = Front IndexText} (Stops r) (Behind a []) = sym p ∙ q in absurd (cc)

    index-same : (a b : Index) → a.name ≡ b.name → a.table ≡ b.table → a.unique ≡ b.unique → a.columns ≡ b.columns → a ≡ b
    index-same a b n t u c =
        ap (λ x. record { name = x; table = a.table; unique = a.unique; columns = a.columns }) n
        ∙ ap (λ x. record { name = b.name; table = x; unique = a.unique; columns = a.columns }) t
        ∙ ap (λ x. record { name = b.name; table = b.table; unique = x; columns = a.columns }) u
        ∙ ap (λ x. record { name = b.name; table = b.table; unique = b.unique; columns = x }) c

    -- a text means one index of a table
    pub one_index : IsOne (MeansIndex text table)
    one_index a b p q =
        let same = tokens-one text p.tokens q.tokens p.are_tokens q.are_tokens in
        let d = index_definition-same q.tokens p.definition q.definition (subst (λ t. index_statement text t ≡ Behind p.definition []) same p.profiled.0) q.profiled.0 in
        index-same a b
        (p.name ∙ ap (λ d. name_of text d.name) d ∙ sym q.name) (p.table_name ∙ ap (λ d. name_of text d.table) d ∙ sym q.table_name)
        (p.unique ∙ ap (λ d. d.unique) d ∙ sym q.unique) (p.columns ∙ ap (λ d. map (indexed text table) (plain_columns d.parts)) d ∙ sym q.columns)

    index_tokens_fault-same : (tokens : List Token) → IsOne (IndexTokensHaveFault text table tokens)
    index_tokens_fault-same tokens (SqlSyntax a) (SqlSyntax b) (inl p) (inl q) = ap SqlSyntax (p.2 ∙ ap (offset_of text) (index_stop-same tokens p.0 q.0 p.1 q.1) ∙ sym q.2)
    index_tokens_fault-same tokens (SqlSyntax a) (SqlSyntax b) (inl p) (inr q) = absurd (index_not_both tokens p.0 q.0 p.1 q.1.0)
    index_tokens_fault-same tokens (SqlSyntax a) (SqlSyntax b) (inr p) (inl q) = absurd (index_not_both tokens q.0 p.0 q.1 p.1.0)
    index_tokens_fault-same tokens (SqlSyntax a) (SqlSyntax b) (inr p) (inr q) =
        let d = index_definition-same tokens p.0 q.0 p.1.0 q.1.0 in
        let e : ◌≡◌ {A = Option ℕ} (Some a) (Some b) = sym p.2 ∙ ap (λ d. first_start (unknown_columns text table d)) d ∙ q.2 in ap SqlSyntax (cc)
    index_tokens_fault-same tokens (SqlSyntax a) (OutsideProfile b) (inl p) q = absurd (index_not_both tokens p.0 q.0 p.1 q.1)
    index_tokens_fault-same tokens (SqlSyntax a) (OutsideProfile b) (inr p) q =
        absurd (p.1.1 b (subst (λ d. HasIndexCause text d b) (index_definition-same tokens q.0 p.0 q.1 p.1.0) q.2.holds))
    index_tokens_fault-same tokens (OutsideProfile a) (SqlSyntax b) p (inl q) = absurd (index_not_both tokens q.0 p.0 q.1 p.1)
    index_tokens_fault-same tokens (OutsideProfile a) (SqlSyntax b) p (inr q) =
        absurd (q.1.1 a (subst (λ d. HasIndexCause text d a) (index_definition-same tokens p.0 q.0 p.1 q.1.0) p.2.holds))
    index_tokens_fault-same tokens (OutsideProfile a) (OutsideProfile b) p q =
        let d = index_definition-same tokens p.0 q.0 p.1 q.1 in
        ap OutsideProfile (first-one (HasIndexCause text q.0) a b (subst (λ d. IsFirst clause_order (HasIndexCause text d) a) d p.2) q.2)
    index_tokens_fault-same tokens (Memory x) b p q = absurd p
    index_tokens_fault-same tokens (SqlSyntax a) (Memory y) p q = absurd q
    index_tokens_fault-same tokens (OutsideProfile a) (Memory y) p q = absurd q

    -- a text has one fault as an index of a table
    pub one_index_fault : IsOne (HasIndexFault text table)
    one_index_fault a b p q =
        index_tokens_fault-same q.0 a b (subst (λ t. IndexTokensHaveFault text table t a) (tokens-one text p.0 q.0 p.1 q.1) p.2) q.2

    index_tokens_fault-apart : (tokens : List Token) (definition : IndexText) → IsProfiledIndex text tokens definition → unknown_columns text table definition ≡ []
        → (fault : SqlFault) → IndexTokensHaveFault text table tokens fault → ⊥
    index_tokens_fault-apart tokens definition p n (SqlSyntax a) (inl h) = index_not_both tokens h.0 definition h.1 p.0
    index_tokens_fault-apart tokens definition p n (SqlSyntax a) (inr h) =
        let d = index_definition-same tokens h.0 definition h.1.0 p.0 in
        let e : ◌≡◌ {A = Option ℕ} (Some a) None = sym h.2 ∙ ap (λ d. first_start (unknown_columns text table d)) d ∙ ap first_start n in absurd (cc)
    index_tokens_fault-apart tokens definition p n (OutsideProfile a) h =
        p.1 a (subst (λ d. HasIndexCause text d a) (index_definition-same tokens h.0 definition h.1 p.0) h.2.holds)
    index_tokens_fault-apart tokens definition p n (Memory x) h = h

    -- a text that means an index of a table has no fault
    pub index_no_fault : (index : Index) (fault : SqlFault) → MeansIndex text table index → ¬ HasIndexFault text table fault
    index_no_fault index fault p h =
        index_tokens_fault-apart p.tokens p.definition p.profiled p.names fault (subst (λ t. IndexTokensHaveFault text table t fault) (tokens-one text h.0 p.tokens h.1 p.are_tokens) h.2)

    -- a text means one index of a table or has one fault
    pub one_index_answer : IsOne (OrFault (MeansIndex text table) (HasIndexFault text table))
    one_index_answer = OrFault-one (MeansIndex text table) (HasIndexFault text table) one_index one_index_fault index_no_fault
