-- The changes of an index that are due for pairs of rows, in no order.
use Rattle.std.specs.Prelude.{ℕ, ℤ, Bool, false, if◌then◌else◌, List, [], ◌∷◌, ◌++◌, flat_map, Option, Some, None}
use Rattle.rbu_value.specs.declared.value.Value.{Value}
use Rattle.schema_spec.specs.declared.schema.Table.{Table}
use Rattle.schema_spec.specs.declared.schema.Index.{Index}
use Rattle.database_spec.specs.Keys.{entry_of}
use Rattle.prepared_spec.specs.declared.violation.Change.{Change}
use Rattle.prepared_spec.specs.declared.violation.Change.TheVariants.{Remove, Add}
use Rattle.prepared_spec.specs.Tables.{same_values}
use Rattle.index_changes.specs.declared.due.Due.{Due}
use Rattle.index_changes.specs.declared.due.Due.TheVariants.{Goes, Comes}
use Rattle.index_changes.specs.declared.pairs.OldNew.{OldNew}
use Rattle.index_changes.specs.Pairs.{row_in}

abbrev pub due_row : Due → ℤ × List Value
due_row (Goes row) = row.now
due_row (Comes row) = row.now

abbrev pub due_rank : Due → ℕ
due_rank (Goes row) = 0
due_rank (Comes row) = 1

-- the entry of a row that is given by its rowid and its values
abbrev pub entry_in : Table → Index → ℤ × List Value → List Value
entry_in table index row = entry_of index (row_in table row)

abbrev pub change_of : Table → Index → Due → Change
change_of table index (Goes row) = Remove (entry_in table index row.now)
change_of table index (Comes row) = Add (entry_in table index row.now)

-- both rows are there and have one entry
abbrev pub is_kept : Table → Index → Option (ℤ × List Value) → Option (ℤ × List Value) → Bool
is_kept table index (Some old) (Some new) = same_values (entry_in table index old) (entry_in table index new)
is_kept table index (Some old) None = false
is_kept table index None new = false

abbrev pub removed : Table → Index → Option (ℤ × List Value) → List Change
removed table index (Some row) = Remove (entry_in table index row) ∷ []
removed table index None = []

abbrev pub added : Table → Index → Option (ℤ × List Value) → List Change
added table index (Some row) = Add (entry_in table index row) ∷ []
added table index None = []

-- the changes for the rows of one rowid
abbrev pub pair_changes : Table → Index → OldNew → List Change
pair_changes table index pair = if is_kept table index pair.old pair.new then [] else removed table index pair.old ++ added table index pair.new

abbrev pub all_changes : Table → Index → List OldNew → List Change
all_changes table index pairs = flat_map (pair_changes table index) pairs
