-- What a text of the schema means, and why one is refused.
use Rattle.std.specs.Prelude.{◌≡◌, ℕ, not, Bool, true, false, ◌⊎◌, List, [], ◌∷◌, map, filter, length, slice_index_or, Some, None, option_map, unwrap_or, ⊤}
use Rattle.std.specs.List.{list_any, AllZip}
use Rattle.rbu_value.specs.declared.order.Collation.{Collation}
use Rattle.rbu_value.specs.declared.order.Collation.TheVariants.{Binary}
use Rattle.rbu_value.specs.Affinity.{HasAffinity}
use Rattle.common_spec.specs.Reading.{IsFirst}
use Rattle.schema_spec.specs.declared.token.Token.{Token}
use Rattle.schema_spec.specs.declared.schema.Clause.{Clause}
use Rattle.schema_spec.specs.declared.schema.Clause.TheVariants.{Virtual as VirtualClause, View as ViewClause}
use Rattle.schema_spec.specs.declared.schema.SqlFault.{SqlFault}
use Rattle.schema_spec.specs.declared.schema.SqlFault.TheVariants.{SqlSyntax, OutsideProfile, Memory}
use Rattle.schema_spec.specs.declared.schema.Column.{Column}
use Rattle.schema_spec.specs.declared.schema.Table.{Table}
use Rattle.schema_spec.specs.declared.schema.Index.{Index}
use Rattle.schema_spec.specs.declared.syntax.ColumnRule.{ColumnRule}
use Rattle.schema_spec.specs.declared.syntax.ColumnRule.TheVariants.{NotNull}
use Rattle.schema_spec.specs.declared.syntax.ColumnText.{ColumnText}
use Rattle.schema_spec.specs.declared.syntax.Key.{Key}
use Rattle.schema_spec.specs.declared.syntax.ListedColumn.{ListedColumn}
use Rattle.schema_spec.specs.declared.syntax.TableText.{TableText}
use Rattle.schema_spec.specs.declared.syntax.TableStatement.{TableStatement}
use Rattle.schema_spec.specs.declared.syntax.TableStatement.TheVariants.{Table as TableStatementOf, Virtual, View}
use Rattle.schema_spec.specs.declared.syntax.IndexText.{IndexText}
use Rattle.schema_spec.specs.Tokens.{AreTokens}
use Rattle.schema_spec.specs.Words.{name_of}
use Rattle.schema_spec.specs.Fronts.{Behind, Stops}
use Rattle.schema_spec.specs.TableGrammar.{table_statement, index_statement}
use Rattle.schema_spec.specs.Names.{keys, unknown, own_name, listed_name, declared_type, rowid_name, is_rowid, primary_columns, collation_of, named_collations, last_collation, place_of, wrong_tokens, first_start}
use Rattle.schema_spec.specs.Causes.{clause_order, HasCause, HasIndexCause, plain_columns}

-- where the first of some tokens begins, which is at the text's end where there is none
abbrev pub offset_of : List ℕ → List Token → ℕ
offset_of text [] = length text
offset_of text (token ∷ tokens) = token.start

-- there is no memory
abbrev pub IsMemory : SqlFault → Type 0
IsMemory (SqlSyntax offset) = ⊥
IsMemory (OutsideProfile clause) = ⊥
IsMemory (Memory error) = ⊤

-- a rule of NOT NULL
abbrev pub is_not_null : ColumnRule → Bool
is_not_null NotNull = true
is_not_null _ = false

module _ (text : List ℕ) where
  abbrev pub own_collation : ColumnText → Collation
  own_collation column = last_collation text Binary (named_collations column.constraints)

  -- a column is as its definition says
  pub record IsColumn (definition : ColumnText) (column : Column) : Type 0 where
    pub name : column.name ≡ own_name text definition
    pub affinity : HasAffinity (declared_type text definition) column.affinity
    pub collation : column.collation ≡ own_collation definition
    pub not_null : column.not_null ≡ list_any (λ constraint. is_not_null constraint.rule) definition.constraints

  -- the place of a column of a list among names, and its collation: its own, or that of the column at the place
  abbrev pub listed : List (List ℕ) → List Collation → ListedColumn → ℕ × Collation
  listed names collations column =
      let place = place_of (listed_name text column) names in
      (place, elim column.collation as (λ _. Collation) [ Some name ↦ unwrap_or (collation_of text name) Binary | None ↦ slice_index_or collations place Binary ])

  -- the keys that have automatic indexes: all but a PRIMARY KEY that is the rowid column
  abbrev pub indexed_keys : TableText → List Key
  indexed_keys table = filter (λ key. not (is_rowid text (rowid_name text table) key.columns)) (keys table)

  -- a table is as its text says
  pub record IsTable (definition : TableText) (table : Table) : Type 0 where
    pub name : table.name ≡ name_of text definition.name
    pub columns : AllZip IsColumn definition.columns table.columns
    pub rowid_column : table.rowid_column ≡ option_map (λ name. place_of name (map (own_name text) definition.columns)) (rowid_name text definition)
    pub key : table.key ≡ map (λ column. place_of (listed_name text column) (map (own_name text) definition.columns)) (primary_columns (keys definition))
    pub unique : table.unique ≡ map (λ key. map (listed (map (own_name text) definition.columns) (map own_collation definition.columns)) key.columns) (indexed_keys definition)

  -- the tokens of the text are those of a table, and no cause sets it outside the profile
  abbrev pub IsProfiled : List Token → TableText → Type 0
  IsProfiled tokens definition = (table_statement text tokens ≡ Behind (TableStatementOf definition) []) × ((clause : Clause) → ¬ HasCause text definition clause)

  -- the text means the table
  pub record MeansTable (table : Table) : Type 0 where
    pub tokens : List Token
    pub are_tokens : AreTokens text tokens
    pub definition : TableText
    pub profiled : IsProfiled tokens definition
    pub names : first_start (wrong_tokens text definition) ≡ None
    pub is_table : IsTable definition table

  -- a statement is outside the profile, by the first cause
  abbrev pub IsOutside : TableStatement → Clause → Type 0
  IsOutside (TableStatementOf definition) clause = IsFirst clause_order (HasCause text definition) clause
  IsOutside Virtual clause = clause ≡ VirtualClause
  IsOutside View clause = clause ≡ ViewClause

  -- the fault of these tokens: the first one that does not fit, the first cause outside the profile, or else the first one that names a column wrongly
  abbrev pub TokensHaveFault : List Token → SqlFault → Type 0
  TokensHaveFault tokens (SqlSyntax offset) =
      ((rest : List Token) × (table_statement text tokens ≡ Stops rest) × (offset ≡ offset_of text rest))
      ⊎ ((definition : TableText) × IsProfiled tokens definition × (first_start (wrong_tokens text definition) ≡ Some offset))
  TokensHaveFault tokens (OutsideProfile clause) = (statement : TableStatement) × (table_statement text tokens ≡ Behind statement []) × IsOutside statement clause
  TokensHaveFault tokens (Memory error) = ⊥

  -- the text has the fault
  abbrev pub HasTableFault : SqlFault → Type 0
  HasTableFault fault = (tokens : List Token) × AreTokens text tokens × TokensHaveFault tokens fault

  -- an index's column: its place in the table, its collation, and whether it descends
  abbrev pub indexed : Table → ListedColumn → ℕ × Collation × Bool
  indexed table column =
      let own = listed (map (λ column. column.name) table.columns) (map (λ column. column.collation) table.columns) column in
      (own.0, own.1, column.descends)

  -- the columns of an index that are none of the table's
  abbrev pub unknown_columns : Table → IndexText → List Token
  unknown_columns table definition =
      unknown text (map (λ column. column.name) table.columns) (plain_columns definition.parts)

  abbrev pub IsProfiledIndex : List Token → IndexText → Type 0
  IsProfiledIndex tokens definition = (index_statement text tokens ≡ Behind definition []) × ((clause : Clause) → ¬ HasIndexCause text definition clause)

  -- the text means the index, over the columns of this table
  pub record MeansIndex (table : Table) (index : Index) : Type 0 where
    pub tokens : List Token
    pub are_tokens : AreTokens text tokens
    pub definition : IndexText
    pub profiled : IsProfiledIndex tokens definition
    pub names : unknown_columns table definition ≡ []
    pub name : index.name ≡ name_of text definition.name
    pub table_name : index.table ≡ name_of text definition.table
    pub unique : index.unique ≡ definition.unique
    pub columns : index.columns ≡ map (indexed table) (plain_columns definition.parts)

  abbrev pub IndexTokensHaveFault : Table → List Token → SqlFault → Type 0
  IndexTokensHaveFault table tokens (SqlSyntax offset) =
      ((rest : List Token) × (index_statement text tokens ≡ Stops rest) × (offset ≡ offset_of text rest))
      ⊎ ((definition : IndexText) × IsProfiledIndex tokens definition × (first_start (unknown_columns table definition) ≡ Some offset))
  IndexTokensHaveFault table tokens (OutsideProfile clause) =
      (definition : IndexText) × (index_statement text tokens ≡ Behind definition []) × IsFirst clause_order (HasIndexCause text definition) clause
  IndexTokensHaveFault table tokens (Memory error) = ⊥

  abbrev pub HasIndexFault : Table → SqlFault → Type 0
  HasIndexFault table fault = (tokens : List Token) × AreTokens text tokens × IndexTokensHaveFault table tokens fault
