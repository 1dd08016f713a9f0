-- What is answered of a row of a `data_` table: what it prepares, or why it is refused.
use Rattle.std.specs.Prelude.{ℤ, ℕ, ◌⊎◌, List, length}
use Rattle.rbu_value.specs.declared.value.Value.{Value}
use Rattle.record_codec.specs.declared.read.RecordFault.{RecordFault}
use Rattle.record_codec.specs.Faults.{IsMemory, HasFault}
use Rattle.schema_spec.specs.declared.schema.Table.{Table}
use Rattle.tree_spec.specs.Trees.{Member}
use Rattle.database_spec.specs.Rows.{TableRow, IsRow}
use Rattle.rbu_rows.specs.declared.prepared.Prepared.{Prepared}
use Rattle.prepared_spec.specs.declared.input_fault.InputFault.{InputFault}
use Rattle.prepared_spec.specs.PreparedRows.{HasCause, IsPrepared, IsUnprepared, IsWrongRow}
use Rattle.rbu_input.specs.declared.fault.InputError.{InputError}
use Rattle.rbu_input.specs.declared.fault.InputError.TheVariants.{Refused, Memory}
use Rattle.rbu_input.specs.declared.values.Unread.{Unread}
use Rattle.rbu_input.specs.declared.values.Unread.TheVariants as unread

-- there was no memory
abbrev pub IsWant : InputError → Type 0
IsWant (Refused fault) = ⊥
IsWant (Memory error) = Unit {0}

abbrev pub IsUnreadWant : Unread → Type 0
IsUnreadWant (unread.Cause cause) = ⊥
IsUnreadWant (unread.Memory error) = Unit {0}

-- what is refused, for a fault that has F
abbrev pub Refuses : (InputFault → Type 0) → InputError → Type 0
Refuses F (Refused fault) = F fault
Refuses F (Memory error) = ⊥

-- a row with these values
abbrev pub row_with : ℤ → List ℕ → List Value → TableRow
row_with rowid payload values = record { rowid = rowid; values = values; payload = payload }

abbrev pub member_with : ℤ → List ℕ → Member
member_with rowid payload = record { rowid = rowid; payload = payload }

-- a record of a table is read as these values
abbrev pub HasValues : Table → ℤ → List ℕ → List Value → Type 0
HasValues own rowid payload values = IsRow own (member_with rowid payload) (row_with rowid payload values)

-- or it is not, for this cause
abbrev pub IsUnread : Table → List ℕ → Unread → Type 0
IsUnread own payload (unread.Cause cause) = HasCause payload (length own.columns) cause
IsUnread own payload (unread.Memory error) = ⊥

-- what a member of a `data_` table's tree prepares, where nothing is wrong with it
pub record IsRightRow (source : List ℕ) (target own : Table) (member : Member) (prepared : Prepared) : Type 0 where
  pub prepares : IsPrepared target own member prepared
  pub right : (fault : InputFault) → ¬ IsWrongRow source target prepared fault

-- why it is refused: its record or control, or what is wrong with what it prepares
abbrev pub HasInputError : List ℕ → Table → Table → Member → InputFault → Type 0
HasInputError source target own member fault =
    IsUnprepared source target own member fault ⊎ ((prepared : Prepared) × IsPrepared target own member prepared × IsWrongRow source target prepared fault)

-- the cause that a record's fault is
abbrev pub IsCauseOf : RecordFault → Unread → Type 0
IsCauseOf fault (unread.Cause cause) = (¬ IsMemory fault) × ((payload : List ℕ) (columns : ℕ) → HasFault payload fault → HasCause payload columns cause)
IsCauseOf fault (unread.Memory error) = IsMemory fault

-- and that it is refused for that
abbrev pub IsRefused : List ℕ → Table → Table → Member → InputError → Type 0
IsRefused source target own member = Refuses (HasInputError source target own member)
