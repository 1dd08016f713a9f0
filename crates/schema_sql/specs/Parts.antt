-- What is known of a text between its grammar and its meaning.
use Rattle.std.specs.Prelude.{◌≡◌, ℕ, Bool, true, false, List, Option, Some, None, Result, Ok, Err, ⊤, map}
use Rattle.std.specs.List.{AllZip}
use Rattle.rbu_value.specs.declared.affinity.Affinity.{Affinity}
use Rattle.rbu_value.specs.declared.affinity.Affinity.TheVariants.{Integer, Text, Blob, Real, Numeric}
use Rattle.common_spec.specs.Reading.{IsFirst}
use Rattle.schema_spec.specs.declared.schema.Clause.{Clause}
use Rattle.schema_spec.specs.declared.schema.SqlFault.{SqlFault}
use Rattle.schema_spec.specs.declared.schema.SqlFault.TheVariants.{SqlSyntax, OutsideProfile, Memory}
use Rattle.schema_spec.specs.declared.schema.Table.{Table}
use Rattle.schema_spec.specs.declared.schema.Index.{Index}
use Rattle.schema_spec.specs.declared.syntax.TableText.{TableText}
use Rattle.schema_spec.specs.declared.schema.Clause.TheVariants.{Virtual as VirtualClause, View as ViewClause}
use Rattle.schema_spec.specs.declared.syntax.TableStatement.{TableStatement}
use Rattle.schema_spec.specs.declared.syntax.TableStatement.TheVariants.{Table as TableOf, Virtual as VirtualOf, View as ViewOf}
use Rattle.schema_spec.specs.declared.syntax.IndexText.{IndexText}
use Rattle.schema_spec.specs.Names.{keys, listed_columns, rowid_name, wrong_tokens, first_start}
use Rattle.schema_spec.specs.Causes.{column_constraints, clause_order, HasCause, HasIndexCause, plain_columns}
use Rattle.schema_spec.specs.Words.{name_of}
use Rattle.schema_spec.specs.Texts.{IsColumn, IsTable, indexed, unknown_columns}
use Rattle.schema_sql.specs.declared.parts.Parts.{Parts}

-- the affinity of a column is REAL
abbrev pub is_real : Affinity → Bool
is_real Integer = false
is_real Text = false
is_real Blob = false
is_real Real = true
is_real Numeric = false

-- what a table's text says, by its grammar
pub record AreParts (text : List ℕ) (table : TableText) (parts : Parts) : Type 0 where
  pub columns : AllZip (IsColumn text) table.columns parts.columns
  pub constraints : parts.constraints ≡ column_constraints table.columns
  pub listed : parts.listed ≡ listed_columns table.constraints
  pub keys : parts.keys ≡ keys table
  pub rowid : parts.rowid ≡ rowid_name text table
  pub wrong : parts.wrong ≡ wrong_tokens text table

-- the first clause that has F, or none where no clause has
abbrev pub IsFirstCause : (Clause → Type 0) → Option Clause → Type 0
IsFirstCause F (Some clause) = IsFirst clause_order F clause
IsFirstCause F None = (clause : Clause) → ¬ F clause

-- no clause sets the text of a table outside the profile
abbrev pub IsInside : List ℕ → TableText → Type 0
IsInside text table = (clause : Clause) → ¬ HasCause text table clause

-- the table that a text of the grammar means, or why it means none
abbrev pub IsTableAnswer : List ℕ → TableText → Result Table SqlFault → Type 0
IsTableAnswer text table (Ok found) = IsInside text table × (first_start (wrong_tokens text table) ≡ None) × IsTable text table found
IsTableAnswer text table (Err (SqlSyntax offset)) = IsInside text table × (first_start (wrong_tokens text table) ≡ Some offset)
IsTableAnswer text table (Err (OutsideProfile clause)) = IsFirst clause_order (HasCause text table) clause
IsTableAnswer text table (Err (Memory error)) = ⊤

-- what a statement means, or why it means no table
abbrev pub IsStatementAnswer : List ℕ → TableStatement → Result Table SqlFault → Type 0
IsStatementAnswer text (TableOf table) answer = IsTableAnswer text table answer
IsStatementAnswer text VirtualOf answer = answer ≡ Err (OutsideProfile VirtualClause)
IsStatementAnswer text ViewOf answer = answer ≡ Err (OutsideProfile ViewClause)

-- an index is as its text says
pub record IsIndex (text : List ℕ) (table : Table) (definition : IndexText) (index : Index) : Type 0 where
  pub name : index.name ≡ name_of text definition.name
  pub table_name : index.table ≡ name_of text definition.table
  pub unique : index.unique ≡ definition.unique
  pub columns : index.columns ≡ map (indexed text table) (plain_columns definition.parts)

abbrev pub IsIndexInside : List ℕ → IndexText → Type 0
IsIndexInside text definition = (clause : Clause) → ¬ HasIndexCause text definition clause

-- the index that a text of the grammar means, or why it means none
abbrev pub IsIndexAnswer : List ℕ → Table → IndexText → Result Index SqlFault → Type 0
IsIndexAnswer text table definition (Ok index) =
    IsIndexInside text definition × (first_start (unknown_columns text table definition) ≡ None) × IsIndex text table definition index
IsIndexAnswer text table definition (Err (SqlSyntax offset)) = IsIndexInside text definition × (first_start (unknown_columns text table definition) ≡ Some offset)
IsIndexAnswer text table definition (Err (OutsideProfile clause)) = IsFirst clause_order (HasIndexCause text definition) clause
IsIndexAnswer text table definition (Err (Memory error)) = ⊤
