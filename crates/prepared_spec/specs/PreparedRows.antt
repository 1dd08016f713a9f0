-- What a row of a `data_` table says (The RBU Extension, section 2.1), and its first fault.
use Rattle.std.specs.Prelude.{◌≡◌, ◌≢◌, ℕ, suc, ◌==◌, ◌&&◌, ◌||◌, not, nat_lt, Bool, true, false, IsTrue, ◌⊎◌, if◌then◌else◌, List, ◌∷◌, length, map, filter, replicate, slice_index_or, Option, Some, None, codes}
use Rattle.std.specs.List.{list_any}
use Rattle.rbu_value.specs.declared.value.Value.{Value}
use Rattle.rbu_value.specs.declared.value.Value.TheVariants.{Null, Int, Text, Blob}
use Rattle.rbu_value.specs.Affinity.{ChangesClass}
use Rattle.format_spec.specs.Record.{IsRecord, canonical_record}
use Rattle.record_codec.specs.Faults.{HasFault as RecordHasFault}
use Rattle.record_codec.specs.declared.read.RecordFault.TheVariants as bad
use Rattle.rbu_rows.specs.declared.control.Control.{Control}
use Rattle.rbu_rows.specs.declared.control.Control.TheVariants.{Insert, Replace, Delete, Update}
use Rattle.rbu_rows.specs.declared.control.ControlFault.{ControlFault}
use Rattle.rbu_rows.specs.declared.prepared.Prepared.{Prepared}
use Rattle.rbu_rows.specs.Controls.{IsControl, HasFault as ControlHasFault}
use Rattle.schema_spec.specs.declared.schema.Column.{Column}
use Rattle.schema_spec.specs.declared.schema.Table.{Table}
use Rattle.schema_spec.specs.Names.{place_of}
use Rattle.tree_spec.specs.Trees.{Member}
use Rattle.database_spec.specs.Rows.{TableRow, IsRow}
use Rattle.database_spec.specs.Keys.{is_null}
use Rattle.refusal.specs.declared.Measure.TheVariants as measure
use Rattle.prepared_spec.specs.declared.input_fault.RecordCause.{RecordCause}
use Rattle.prepared_spec.specs.declared.input_fault.RecordCause.TheVariants.{SizeOverLimit, ShortHeader, ReservedType, RealValue, BodyLength, ShortRecord}
use Rattle.prepared_spec.specs.declared.input_fault.InputFault.{InputFault}
use Rattle.prepared_spec.specs.declared.input_fault.InputFault.TheVariants.{Control as ControlRefused, KeyNull, KeyMismatch, KeyChanged, ClassChange, TooMuch, DataRecord}
use Rattle.prepared_spec.specs.RowKeys.{key_at, has_rowid_key}
use Rattle.prepared_spec.specs.Tables.{stored_values}
use Rattle.prepared_spec.specs.DataTables.{column_names, has_column}

-- the value of a row of a `data_` table in the column of this name
abbrev pub value_named : Table → List ℕ → TableRow → Value
value_named own name row = slice_index_or row.values (place_of name (column_names own)) Null

-- the values of the target's columns, in the target's order
abbrev pub target_values : Table → Table → TableRow → List Value
target_values target own row = map (λ name. value_named own name row) (column_names target)

-- the target's columns in the order of the `data_` table, in which the letters of a control stand
abbrev pub lettered : Table → Table → List (List ℕ)
lettered target own = filter (λ name. has_column name target) (column_names own)

-- a control with its marks in the target's order
abbrev pub in_target_order : Table → Table → Control → Control
in_target_order target own Insert = Insert
in_target_order target own Replace = Replace
in_target_order target own Delete = Delete
in_target_order target own (Update marks) = Update (map (λ name. slice_index_or marks (place_of name (lettered target own)) false) (column_names target))

abbrev pub control_value : Table → TableRow → Value
control_value own row = value_named own (codes "rbu_control") row

-- what a row of a `data_` table prepares, where its control says something
pub record Prepares (target own : Table) (row : TableRow) (prepared : Prepared) : Type 0 where
  pub control : Control
  pub is_control : IsControl (control_value own row) (length target.columns) control
  pub control_is : prepared.control ≡ in_target_order target own control
  pub data_rowid : prepared.data_rowid ≡ row.rowid
  pub values : prepared.values ≡ target_values target own row
  pub key : prepared.key ≡ key_at target.key (value_named own (codes "rbu_rowid") row) prepared.values

-- a member of a `data_` table's tree is this prepared row
abbrev pub IsPrepared : Table → Table → Member → Prepared → Type 0
IsPrepared target own member prepared = (row : TableRow) × IsRow own member row × Prepares target own row prepared

-- why a record is not read as a row of so many columns; one that is read is never over the limit of what is written
abbrev pub HasCause : List ℕ → ℕ → RecordCause → Type 0
HasCause payload columns SizeOverLimit = ⊥
HasCause payload columns ShortHeader = RecordHasFault payload bad.ShortHeader
HasCause payload columns ReservedType = RecordHasFault payload bad.ReservedType
HasCause payload columns RealValue = RecordHasFault payload bad.RealValue
HasCause payload columns BodyLength = RecordHasFault payload bad.BodyLength
HasCause payload columns ShortRecord = (values : List Value) × IsRecord payload values × (length values ≢ columns)

-- why a member prepares nothing: its record, or else its control
abbrev pub IsUnprepared : List ℕ → Table → Table → Member → InputFault → Type 0
IsUnprepared source target own member fault =
    ((cause : RecordCause) × HasCause member.payload (length own.columns) cause × (fault ≡ DataRecord source member.rowid cause))
    ⊎ ((row : TableRow) × (wrong : ControlFault) × IsRow own member row × ControlHasFault (control_value own row) (length target.columns) wrong × (fault ≡ ControlRefused source member.rowid wrong))

-- the place stands in a key
abbrev pub is_key : ℕ → List ℕ → Bool
is_key at key = list_any (λ place. place == at) key

-- the first marked column, from this place on, that is one of the key
abbrev pub marked_key : List ℕ → ℕ → List Column → List Bool → Option (List ℕ)
marked_key key at (column ∷ columns) (mark ∷ marks) = if mark && is_key at key then Some column.name else marked_key key (suc at) columns marks
marked_key key at _ marks = None

abbrev pub key_changed : Table → Control → Option (List ℕ)
key_changed target (Update marks) = marked_key target.key 0 target.columns marks
key_changed target Insert = None
key_changed target Replace = None
key_changed target Delete = None

-- the columns whose values a control uses: all, the marked ones, or none; the key's are used always
abbrev pub uses : Control → ℕ → List Bool
uses Insert count = replicate count true
uses Replace count = replicate count true
uses Delete count = replicate count false
uses (Update marks) count = marks

-- the value at this place is used, and its column would store it in another class
abbrev pub IsChanged : List ℕ → ℕ → Column → Bool → Value → Type 0
IsChanged key at column used value = IsTrue (used || is_key at key) × ChangesClass value column.affinity

-- the first such column, from this place on, has this name
abbrev pub FirstChanged : List ℕ → ℕ → List Column → List Bool → List Value → List ℕ → Type 0
FirstChanged key at (column ∷ columns) (used ∷ marks) (value ∷ values) name =
    (IsChanged key at column used value × (name ≡ column.name)) ⊎ ((¬ IsChanged key at column used value) × FirstChanged key (suc at) columns marks values name)
FirstChanged key at _ marks values name = ⊥

-- the length of the record of a prepared row: the canonical one under schema format 4
abbrev pub record_length : Table → Prepared → ℕ
record_length target prepared = length (canonical_record 4 (stored_values target.rowid_column prepared.values))

abbrev pub is_integer : Value → Bool
is_integer Null = false
is_integer (Int z) = true
is_integer (Text text) = false
is_integer (Blob blob) = false

-- the key's fault: a NULL in it, a rowid that is no integer, or a column of it that is marked
abbrev pub key_fault : List ℕ → Table → Prepared → Option InputFault
key_fault source target prepared =
    if list_any is_null prepared.key then Some (KeyNull source prepared.data_rowid)
    else (if has_rowid_key target && not (is_integer (slice_index_or prepared.key 0 Null)) then Some (KeyMismatch source prepared.data_rowid)
    else (elim (key_changed target prepared.control) as (λ _. Option InputFault) [ Some column ↦ Some (KeyChanged source prepared.data_rowid column) | None ↦ None ]))

abbrev pub ChangesSome : Table → Prepared → List ℕ → Type 0
ChangesSome target prepared name = FirstChanged target.key 0 target.columns (uses prepared.control (length target.columns)) prepared.values name

-- The fault of a prepared row: that of its key, a value of another class, or a record over the limit.
abbrev pub IsWrongRow : List ℕ → Table → Prepared → InputFault → Type 0
IsWrongRow source target prepared fault =
    (key_fault source target prepared ≡ Some fault)
    ⊎ ((key_fault source target prepared ≡ None) × ((column : List ℕ) × ChangesSome target prepared column × (fault ≡ ClassChange source prepared.data_rowid column)))
    ⊎ ((key_fault source target prepared ≡ None) × ((column : List ℕ) → ¬ ChangesSome target prepared column)
    × IsTrue (nat_lt 1048576 (record_length target prepared)) × (fault ≡ TooMuch measure.Record (record_length target prepared) 1048576))
