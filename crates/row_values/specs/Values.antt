-- What is answered of a record that is read as a row.
use Rattle.std.specs.Prelude.{ℤ, ℕ, List, length}
use Rattle.rbu_value.specs.declared.value.Value.{Value}
use Rattle.record_codec.specs.declared.read.RecordFault.{RecordFault}
use Rattle.record_codec.specs.Faults.{IsMemory, HasFault}
use Rattle.schema_spec.specs.declared.schema.Table.{Table}
use Rattle.tree_spec.specs.Trees.{Member}
use Rattle.database_spec.specs.Rows.{TableRow, IsRow}
use Rattle.prepared_spec.specs.PreparedRows.{HasCause}
use Rattle.row_values.specs.declared.read.Unread.{Unread}
use Rattle.row_values.specs.declared.read.Unread.TheVariants.{Cause, Memory}

-- there was no memory
abbrev pub IsWant : Unread → Type 0
IsWant (Cause cause) = ⊥
IsWant (Memory error) = Unit {0}

-- a row with these values, and a member
abbrev pub row_with : ℤ → List ℕ → List Value → TableRow
row_with rowid payload values = record { rowid = rowid; values = values; payload = payload }

abbrev pub member_with : ℤ → List ℕ → Member
member_with rowid payload = record { rowid = rowid; payload = payload }

-- a record of a table is read as these values
abbrev pub HasValues : Table → ℤ → List ℕ → List Value → Type 0
HasValues table rowid payload values = IsRow table (member_with rowid payload) (row_with rowid payload values)

-- or it is not, for this cause
abbrev pub IsUnread : Table → List ℕ → Unread → Type 0
IsUnread table payload (Cause cause) = HasCause payload (length table.columns) cause
IsUnread table payload (Memory error) = ⊥

-- the cause that a record's fault is
abbrev pub IsCauseOf : RecordFault → Unread → Type 0
IsCauseOf fault (Cause cause) = (¬ IsMemory fault) × ((payload : List ℕ) (columns : ℕ) → HasFault payload fault → HasCause payload columns cause)
IsCauseOf fault (Memory error) = IsMemory fault
