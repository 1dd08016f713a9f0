-- What a prepared row writes into the tree of its table (The RBU Extension, section 2.1).
use Rattle.std.specs.Prelude.{◌≡◌, ℕ, ℤ, true, false, List, Option, Some, None}
use Rattle.format_spec.specs.Record.{canonical_record}
use Rattle.rbu_value.specs.declared.value.Value.{Value}
use Rattle.rbu_rows.specs.declared.prepared.Prepared.{Prepared}
use Rattle.schema_spec.specs.declared.schema.Table.{Table}
use Rattle.database_spec.specs.Rows.{TableRow, with_rowid}
use Rattle.prepared_spec.specs.Tables.{makes_row, met_row, same_values, stored_values}
use Rattle.row_steps.specs.RowSteps.{row_of}
use Rattle.row_writes.specs.declared.write.RowWrite.{RowWrite}
use Rattle.row_writes.specs.declared.write.RowWrite.TheVariants.{Nothing, Put, Delete}

-- the record of a row that is written, with these values
abbrev pub record_of : ℕ → Table → List Value → List ℕ
record_of format table values = canonical_record format (stored_values table.rowid_column values)

-- what is written of a row whose values become others
abbrev pub WritesValues : ℕ → Table → List Value → List Value → RowWrite → Type 0
WritesValues format table old values Nothing = same_values old values ≡ true
WritesValues format table old values (Put bytes) = (same_values old values ≡ false) × (bytes ≡ record_of format table values)
WritesValues format table old values Delete = ⊥

-- A row that is written: it keeps its rowid, which stands in the place of the INTEGER PRIMARY KEY, and has the canonical record of its values.
pub record IsWritten (format : ℕ) (table : Table) (rowid : ℤ) (bytes : List ℕ) (row : TableRow) : Type 0 where
  pub rowid_is : row.rowid ≡ rowid
  pub payload_is : row.payload ≡ bytes
  pub canonical : bytes ≡ record_of format table row.values
  pub valued : row.values ≡ with_rowid table.rowid_column row.rowid (stored_values table.rowid_column row.values)

-- what is written of a row that becomes another, or goes
abbrev pub WritesRow : ℕ → Table → TableRow → Option TableRow → RowWrite → Type 0
WritesRow format table old after Nothing = after ≡ Some old
WritesRow format table old after (Put bytes) = (row : TableRow) × (after ≡ Some row) × IsWritten format table old.rowid bytes row
WritesRow format table old after Delete = after ≡ None

-- what is written where a row is met, whatever record holds it
abbrev pub WritesMet : ℕ → Table → ℤ × List Value → Prepared → RowWrite → Type 0
WritesMet format table row prepared write = (payload : List ℕ) → WritesRow format table (row_of row payload) (met_row format table (row_of row payload) prepared.control prepared.values) write

-- what is written where none is met
abbrev pub WritesNew : ℕ → Table → Prepared → RowWrite → Type 0
WritesNew format table prepared Nothing = makes_row prepared.control ≡ false
WritesNew format table prepared (Put bytes) = (makes_row prepared.control ≡ true) × (bytes ≡ record_of format table prepared.values)
WritesNew format table prepared Delete = ⊥

-- what is written by the row that is met, if there is one
abbrev pub Writes : ℕ → Table → Option (ℤ × List Value) → Prepared → RowWrite → Type 0
Writes format table (Some row) prepared write = WritesMet format table row prepared write
Writes format table None prepared write = WritesNew format table prepared write
