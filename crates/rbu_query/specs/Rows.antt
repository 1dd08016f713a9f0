-- The lines of the rows of the schema table.
use Rattle.std.specs.Prelude.{◌≡◌, ℕ, ℤ, List, ◌++◌, Result, Ok, Err}
use Rattle.rbu_value.specs.declared.value.Value.{Value}
use Rattle.tree_walk.specs.declared.cursor.Row.{Row}
use Rattle.tree_rows.specs.Rows.{members_of}
use Rattle.dump_spec.specs.Printing.{row_line}
use Rattle.dump_spec.specs.SchemaRows.{IsSchemaRecord, AreLines, IsFirstBad}
use Rattle.rbu_query.specs.declared.schema.SchemaFault.{SchemaFault}
use Rattle.rbu_query.specs.declared.schema.SchemaFault.TheVariants.{SchemaRow, Memory}

-- the lines of rows
abbrev pub HasLines : List Row → List ℕ → Type 0
HasLines rows = AreLines (members_of rows)

-- one of the rows is the first that is none of a schema table
abbrev pub HasFault : List Row → SchemaFault → Type 0
HasFault rows (SchemaRow rowid) = IsFirstBad (members_of rows) rowid
HasFault rows (Memory error) = ⊥

-- there was no memory
abbrev pub IsMemory : SchemaFault → Type 0
IsMemory (SchemaRow rowid) = ⊥
IsMemory (Memory error) = Unit {0}

-- the line of a row of a schema table was appended to a text
abbrev pub HasLine : Row → List ℕ → List ℕ → Type 0
HasLine row before after = (values : List Value) × IsSchemaRecord row.payload values × (after ≡ before ++ row_line row.rowid values)

-- the row with this rowid is none of a schema table
abbrev pub IsNoRow : Row → ℤ → Type 0
IsNoRow row rowid = (rowid ≡ row.rowid) × ((values : List Value) → ¬ IsSchemaRecord row.payload values)

-- a row was printed, or refused
abbrev pub Appends : Row → List ℕ → List ℕ → Result Unit SchemaFault → Type 0
Appends row before after (Ok done) = HasLine row before after
Appends row before after (Err (SchemaRow rowid)) = IsNoRow row rowid
Appends row before after (Err (Memory error)) = Unit {0}
