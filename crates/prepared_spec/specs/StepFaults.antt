-- The constraint faults of steps (The RBU Extension, section 2; CREATE TABLE, section 3.7): of a prepared row, and of an entry that is added to a unique index.
use Rattle.std.specs.Prelude.{◌≡◌, ◌≢◌, ℕ, ℤ, suc, pos, ◌+ℤ◌, int_lt, ◌==◌, ◌&&◌, not, Bool, true, false, IsTrue, ◌⊎◌, if◌then◌else◌, List, ◌∷◌, length, map, replicate, AllPairs, Contains, Option, Some, None}
use Rattle.std.specs.Ordering.{nat_cmp, ordering_then}
use Rattle.std.specs.declared.cmp.Ordering.{Ordering}
use Rattle.std.specs.declared.cmp.Ordering.TheVariants.{Less, Equal}
use Rattle.rbu_value.specs.declared.order.Collation.TheVariants.{Binary}
use Rattle.rbu_value.specs.declared.value.Value.{Value}
use Rattle.rbu_value.specs.Order.{value_cmp}
use Rattle.rbu_rows.specs.declared.control.Control.{Control}
use Rattle.rbu_rows.specs.declared.control.Control.TheVariants.{Insert, Replace, Delete, Update}
use Rattle.rbu_rows.specs.declared.prepared.Prepared.{Prepared}
use Rattle.schema_spec.specs.declared.schema.Column.{Column}
use Rattle.schema_spec.specs.declared.schema.Table.{Table}
use Rattle.schema_spec.specs.declared.schema.Index.{Index}
use Rattle.tree_spec.specs.Bounds.{greatest_rowid}
use Rattle.database_spec.specs.Rows.{TableRow}
use Rattle.database_spec.specs.Keys.{columns_cmp, order_of, last_value, IsBefore, entry_of, Clash, is_null}
use Rattle.prepared_spec.specs.declared.violation.Violation.{Violation}
use Rattle.prepared_spec.specs.declared.violation.Violation.TheVariants.{NotNull, KeyPresent, NotUnique, RowidsSpent}
use Rattle.prepared_spec.specs.declared.violation.Change.{Change}
use Rattle.prepared_spec.specs.declared.violation.Change.TheVariants.{Remove, Add}
use Rattle.prepared_spec.specs.RowKeys.{is_met, has_rowid_key}
use Rattle.prepared_spec.specs.Tables.{is_new}

-- the columns that a prepared row writes: all for an insertion or a replacement, the marked ones for an update of a row that is there
abbrev pub written_columns : Control → Bool → ℕ → List Bool
written_columns Insert met count = replicate count true
written_columns Replace met count = replicate count true
written_columns Delete met count = replicate count false
written_columns (Update marks) met count = if met then marks else replicate count false

abbrev pub is_place : ℕ → Option ℕ → Bool
is_place at None = false
is_place at (Some place) = at == place

-- the first column, from this place on, that is written as NULL and may not be; the INTEGER PRIMARY KEY never counts as NULL
abbrev pub null_column : Option ℕ → ℕ → List Column → List Bool → List Value → Option (List ℕ)
null_column rowid at (column ∷ columns) (written ∷ marks) (value ∷ values) =
    if written && (column.not_null && (is_null value && not (is_place at rowid))) then Some column.name else null_column rowid (suc at) columns marks values
null_column rowid at _ marks values = None

abbrev pub is_insert : Control → Bool
is_insert Insert = true
is_insert Replace = false
is_insert Delete = false
is_insert (Update marks) = false

-- the rowid of the next new row would be over the greatest
abbrev pub is_spent : Table → ℤ → ℕ → Bool
is_spent table g number = not (has_rowid_key table) && int_lt greatest_rowid (g +ℤ pos number)

-- The fault of a prepared row for a table of this name, before which the rows of its batch stand as given and so many of its group are new: the first of a NULL, a key that is there, and a rowid too great.
abbrev pub row_fault : List ℕ → Table → ℤ → ℕ → List TableRow → Prepared → Option Violation
row_fault name table g taken before prepared =
    elim (null_column table.rowid_column 0 table.columns (written_columns prepared.control (is_met table before prepared) (length table.columns)) prepared.values) as (λ _. Option Violation) [
      | Some column ↦ Some (NotNull name prepared.data_rowid column)
      | None ↦
          if is_insert prepared.control && is_met table before prepared then Some (KeyPresent name prepared.data_rowid)
          else (if is_new table before prepared && is_spent table g (suc taken) then Some (RowidsSpent name) else None)
    ]

-- the entries of rows, in no order
abbrev pub entries_of : Index → List TableRow → List (List Value)
entries_of index rows = map (entry_of index) rows

-- an entry is removed where it stands in the old projection and not in the new one, and added in the reverse case
abbrev pub IsChange : Index → List TableRow → List TableRow → Change → Type 0
IsChange index old new (Remove entry) = Contains (entries_of index old) entry × ¬ Contains (entries_of index new) entry
IsChange index old new (Add entry) = Contains (entries_of index new) entry × ¬ Contains (entries_of index old) entry

abbrev pub changed_entry : Change → List Value
changed_entry (Remove entry) = entry
changed_entry (Add entry) = entry

abbrev pub change_rank : Change → ℕ
change_rank (Remove entry) = 0
change_rank (Add entry) = 1

-- changes go in order of the indexed columns, then removals before additions, then by rowid
abbrev pub change_cmp : Index → Change → Change → Ordering
change_cmp index a b =
    ordering_then (columns_cmp (order_of index) (changed_entry a) (changed_entry b))
    (ordering_then (nat_cmp (change_rank a) (change_rank b)) (value_cmp Binary (last_value (order_of index) (changed_entry a)) (last_value (order_of index) (changed_entry b))))

-- all changes of an index between old and new rows, in order
pub record AreChanges (index : Index) (old new : List TableRow) (changes : List Change) : Type 0 where
  pub only : (change : Change) → Contains changes change → IsChange index old new change
  pub all : (change : Change) → IsChange index old new change → Contains changes change
  pub sorted : AllPairs (λ (a b : Change). change_cmp index a b ≡ Less) changes

-- two entries of the new projection clash, and no two clash at lesser columns
pub record IsLeastClash (index : Index) (new : List TableRow) (entry other : List Value) : Type 0 where
  pub entry_stands : Contains (entries_of index new) entry
  pub other_stands : Contains (entries_of index new) other
  pub differ : entry ≢ other
  pub clash : Clash index entry other
  pub least : (a b : List Value) → Contains (entries_of index new) a → Contains (entries_of index new) b → a ≢ b → Clash index a b → columns_cmp (order_of index) a entry ≢ Less

-- an entry of the new projection with the columns of another
abbrev pub IsAlike : Index → List TableRow → List Value → List Value → Type 0
IsAlike index new entry other = Contains (entries_of index new) other × (columns_cmp (order_of index) entry other ≡ Equal)

-- One of the entries with these columns stood before, and this is the least that did not; or none did, and this is the second of them.
abbrev pub IsAtFault : Index → List TableRow → List TableRow → List Value → Type 0
IsAtFault index old new entry =
    (((kept : List Value) × IsAlike index new entry kept × Contains (entries_of index old) kept)
    × (¬ Contains (entries_of index old) entry) × ((other : List Value) → IsAlike index new entry other → IsBefore index other entry → Contains (entries_of index old) other))
    ⊎ (((other : List Value) → IsAlike index new entry other → ¬ Contains (entries_of index old) other)
    × ((first : List Value) × IsAlike index new entry first × IsBefore index first entry × ((other : List Value) → IsAlike index new entry other → IsBefore index other entry → other ≡ first)))

-- The fault of an addition to a unique index: two entries of the new projection share their columns, the least such.
abbrev pub AddsClash : Index → List TableRow → List TableRow → List Value → Type 0
AddsClash index old new entry = IsTrue index.unique × ((other : List Value) × IsLeastClash index new entry other) × IsAtFault index old new entry

-- the fault of a change of an index, or none
abbrev pub IsChangeFault : Index → List TableRow → List TableRow → Change → Option Violation → Type 0
IsChangeFault index old new (Remove entry) fault = fault ≡ None
IsChangeFault index old new (Add entry) fault = (AddsClash index old new entry × (fault ≡ Some (NotUnique index.name entry))) ⊎ ((¬ AddsClash index old new entry) × (fault ≡ None))
