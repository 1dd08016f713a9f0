-- Rows of the schema (Database File Format, section 2.6; The Schema Table, section 2).
use Rattle.std.specs.Prelude.{◌≡◌, ℕ, ℤ, pos, List, [], ◌∷◌, Option, Some, None, codes}
use Rattle.rbu_value.specs.declared.value.Value.{Value}
use Rattle.rbu_value.specs.declared.value.Value.TheVariants.{Null, Int, Text, Blob}
use Rattle.format_spec.specs.Record.{IsRecord}
use Rattle.tree_spec.specs.Trees.{Member}
use Rattle.database_spec.specs.declared.catalog.SchemaRow.{SchemaRow}
use Rattle.database_spec.specs.declared.catalog.SchemaKind.{SchemaKind}
use Rattle.database_spec.specs.declared.catalog.SchemaKind.TheVariants.{Table, Index, View, Trigger}

-- the word in the column `type`
abbrev pub kind_word : SchemaKind → List ℕ
kind_word Table = codes "table"
kind_word Index = codes "index"
kind_word View = codes "view"
kind_word Trigger = codes "trigger"

-- the value of the column `rootpage`: an integer that is not negative, or NULL for 0
abbrev pub IsRootValue : Value → ℕ → Type 0
IsRootValue Null root = root ≡ 0
IsRootValue (Int z) root = z ≡ pos root
IsRootValue (Text text) root = ⊥
IsRootValue (Blob blob) root = ⊥

-- the value of the column `sql`: a text, or NULL
abbrev pub IsSqlValue : Value → Option (List ℕ) → Type 0
IsSqlValue Null sql = sql ≡ None
IsSqlValue (Int z) sql = ⊥
IsSqlValue (Text text) sql = sql ≡ Some text
IsSqlValue (Blob blob) sql = ⊥

-- the five values of a row of the schema: type, name, tbl_name, rootpage, sql
abbrev pub row_values : SchemaRow → Value → Value → List Value
row_values row root sql = Text (kind_word row.kind) ∷ Text row.name ∷ Text row.table ∷ root ∷ sql ∷ []

-- a member of the schema's tree is this row
pub record IsSchemaRow (member : Member) (row : SchemaRow) : Type 0 where
  pub root_value : Value
  pub sql_value : Value
  pub is_record : IsRecord member.payload (row_values row root_value sql_value)
  pub root : IsRootValue root_value row.root
  pub sql : IsSqlValue sql_value row.sql
  pub rowid : row.rowid ≡ member.rowid
