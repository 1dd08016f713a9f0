-- What sets a text outside the profile: texts of the grammar that tell more than a reader of rows and indexes takes.
use Rattle.std.specs.Prelude.{◌≡◌, ℕ, ◌&&◌, ◌||◌, not, Bool, true, false, ◌⊎◌, IsTrue, List, [], ◌∷◌, map, flat_map, Any, Option, Some, None, is_none, codes}
use Rattle.std.specs.List.{list_any}
use Rattle.std.specs.Option.{option_to_list}
use Rattle.rbu_value.specs.declared.affinity.Affinity.TheVariants.{Real as RealAffinity}
use Rattle.rbu_value.specs.Affinity.{HasAffinity}
use Rattle.schema_spec.specs.declared.token.Token.{Token}
use Rattle.schema_spec.specs.declared.schema.Clause.{Clause}
use Rattle.schema_spec.specs.declared.schema.Clause.TheVariants.{Without, Strict, Generated, As, On, Desc, Collate, Real, Unique, Primary, Where, Expression, Virtual, View}
use Rattle.schema_spec.specs.declared.syntax.ColumnConstraint.{ColumnConstraint}
use Rattle.schema_spec.specs.declared.syntax.ColumnRule.{ColumnRule}
use Rattle.schema_spec.specs.declared.syntax.ColumnRule.TheVariants.{Generated as GeneratedRule}
use Rattle.schema_spec.specs.declared.syntax.ColumnText.{ColumnText}
use Rattle.schema_spec.specs.declared.syntax.ListedColumn.{ListedColumn}
use Rattle.schema_spec.specs.declared.syntax.TableOption.{TableOption}
use Rattle.schema_spec.specs.declared.syntax.TableOption.TheVariants.{WithoutRowid, Strict as StrictOption}
use Rattle.schema_spec.specs.declared.syntax.TableText.{TableText}
use Rattle.schema_spec.specs.declared.syntax.IndexedPart.{IndexedPart}
use Rattle.schema_spec.specs.declared.syntax.IndexedPart.TheVariants.{Column as ColumnPart, Expression as ExpressionPart}
use Rattle.schema_spec.specs.declared.syntax.IndexText.{IndexText}
use Rattle.schema_spec.specs.Words.{is_keyword}
use Rattle.schema_spec.specs.declared.syntax.Key.{Key}
use Rattle.schema_spec.specs.Names.{keys, listed_columns, repeated_key, rowid_name, is_rowid, collation_of, named_collations, declared_type}

-- the order of the causes; a text has but one of `Generated` and `As`
abbrev pub clause_order : Clause → ℕ
clause_order Without = 0
clause_order Strict = 1
clause_order Generated = 2
clause_order As = 3
clause_order On = 4
clause_order Desc = 5
clause_order Collate = 6
clause_order Real = 7
clause_order Unique = 8
clause_order Primary = 9
clause_order Where = 10
clause_order Expression = 11
clause_order Virtual = 12
clause_order View = 13

abbrev pub is_without : TableOption → Bool
is_without WithoutRowid = true
is_without StrictOption = false

abbrev pub is_strict : TableOption → Bool
is_strict WithoutRowid = false
is_strict StrictOption = true

abbrev pub is_generated : ColumnRule → Bool
is_generated GeneratedRule = true
is_generated _ = false

-- all constraints of columns, in the order of the text
abbrev pub column_constraints : List ColumnText → List ColumnConstraint
column_constraints columns = flat_map (λ column. column.constraints) columns

-- the names behind COLLATE in a list of columns
abbrev pub listed_collations : List ListedColumn → List Token
listed_collations columns = flat_map (λ column. option_to_list column.collation) columns

-- the columns of an index that are no expressions
abbrev pub plain_columns : List IndexedPart → List ListedColumn
plain_columns [] = []
plain_columns (ColumnPart column ∷ parts) = column ∷ plain_columns parts
plain_columns (ExpressionPart ∷ parts) = plain_columns parts

abbrev pub is_expression : IndexedPart → Bool
is_expression (ColumnPart column) = false
is_expression ExpressionPart = true

module _ (text : List ℕ) where
  -- the first word of a generated column, as it is answered
  abbrev pub generated_word : Token → Clause
  generated_word word = elim (is_keyword (codes "AS") text word) as (λ _. Clause) [ true ↦ As | false ↦ Generated ]

  -- the word of the first generated column, as it is answered
  abbrev pub generated_by : List ColumnConstraint → Option Clause
  generated_by [] = None
  generated_by (constraint ∷ constraints) =
      elim (is_generated constraint.rule) as (λ _. Option Clause) [
        | true ↦ Some (generated_word constraint.word)
        | false ↦ generated_by constraints
      ]

  -- a key has a column that descends, and is no constraint of the table on the rowid column alone
  abbrev pub descends : Option (List ℕ) → Key → Bool
  descends rowid key = list_any (λ column. column.descends) key.columns && (key.at_column || not (is_rowid text rowid key.columns))

  -- the first word of a key, as it is answered
  abbrev pub key_word : Token → Clause
  key_word word = elim (is_keyword (codes "PRIMARY") text word) as (λ _. Clause) [ true ↦ Primary | false ↦ Unique ]

  -- the word of a key is answered
  abbrev pub repeats_as : Clause → Option Token → Type 0
  repeats_as clause None = ⊥
  repeats_as clause (Some word) = clause ≡ key_word word

  -- another collation than SQLite's three
  abbrev pub is_other_collation : Token → Bool
  is_other_collation name = is_none (collation_of text name)

  -- the clause sets the text of a table outside the profile
  abbrev pub HasCause : TableText → Clause → Type 0
  HasCause table Without = IsTrue (list_any is_without table.options)
  HasCause table Strict = IsTrue (list_any is_strict table.options)
  HasCause table Generated = generated_by (column_constraints table.columns) ≡ Some Generated
  HasCause table As = generated_by (column_constraints table.columns) ≡ Some As
  HasCause table On = IsTrue (list_any (λ constraint. constraint.on_conflict) (column_constraints table.columns) || list_any (λ constraint. constraint.on_conflict) table.constraints)
  HasCause table Desc = IsTrue (list_any (descends (rowid_name text table)) (keys table))
  HasCause table Collate = IsTrue (list_any is_other_collation (named_collations (column_constraints table.columns)) || list_any is_other_collation (listed_collations (listed_columns table.constraints)))
  HasCause table Real = Any (λ type. HasAffinity type RealAffinity) (map (declared_type text) table.columns)
  HasCause table Unique =
      IsTrue (list_any (λ key. not key.primary && is_rowid text (rowid_name text table) key.columns) (keys table)) ⊎ repeats_as Unique (repeated_key text [] (keys table))
  HasCause table Primary = repeats_as Primary (repeated_key text [] (keys table))
  HasCause table _ = ⊥

  -- the clause sets the text of an index outside the profile
  abbrev pub HasIndexCause : IndexText → Clause → Type 0
  HasIndexCause index Collate = IsTrue (list_any is_other_collation (listed_collations (plain_columns index.parts)))
  HasIndexCause index Where = IsTrue index.partial
  HasIndexCause index Expression = IsTrue (list_any is_expression index.parts)
  HasIndexCause index _ = ⊥
