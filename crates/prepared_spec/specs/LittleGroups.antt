-- Small updates, worked out by hand: two values that are exchanged, a row that makes way for another, and rows without a declared key.
use Rattle.std.specs.Prelude.{ℕ, pos, true, false, List, [], ◌∷◌, codes}
use Rattle.rbu_value.specs.declared.value.Value.TheVariants.{Null, Int, Text}
use Rattle.rbu_rows.specs.declared.control.Control.TheVariants.{Insert, Delete, Update}
use Rattle.rbu_rows.specs.declared.prepared.Prepared.{Prepared}
use Rattle.database_spec.specs.Rows.{TableRow}
use Rattle.database_spec.specs.LittleTarget.{row_record, target_row}
use Rattle.prepared_spec.specs.declared.violation.Change.{Change}
use Rattle.prepared_spec.specs.declared.violation.Change.TheVariants.{Remove, Add}
use Rattle.prepared_spec.specs.LittleUpdate.{little_row, little_entry}
use Rattle.prepared_spec.specs.LittleRows.{rowid_prepared}

-- the first row's c becomes that of the second, and the other way round
abbrev pub exchange : List Prepared
exchange = little_row 1 1 Null (Int (pos 20)) (Update (false ∷ false ∷ true ∷ [])) ∷ little_row 2 2 Null (Int (pos 10)) (Update (false ∷ false ∷ true ∷ [])) ∷ []

abbrev pub exchanged_rows : List TableRow
exchanged_rows =
    target_row 1 (row_record 19 (codes "one") 20) (codes "one") 20 ∷ target_row 2 (row_record 19 (codes "two") 10) (codes "two") 10
    ∷ target_row 3 (row_record 23 (codes "three") 30) (codes "three") 30 ∷ []

abbrev pub exchange_changes : List Change
exchange_changes = Remove (little_entry 10 1) ∷ Add (little_entry 10 2) ∷ Remove (little_entry 20 2) ∷ Add (little_entry 20 1) ∷ []

-- a row with the first one's c is inserted, and by a second batch the first is deleted
abbrev pub freeing : List (List Prepared)
freeing = (little_row 1 4 (Text (codes "v")) (Int (pos 10)) Insert ∷ []) ∷ (little_row 1 1 Null Null Delete ∷ []) ∷ []

abbrev pub fourth_row : TableRow
fourth_row = target_row 4 (row_record 15 (codes "v") 10) (codes "v") 10

abbrev pub later_rows : List TableRow
later_rows = target_row 2 (row_record 19 (codes "two") 20) (codes "two") 20 ∷ target_row 3 (row_record 23 (codes "three") 30) (codes "three") 30 ∷ []

-- rows of a table without a PRIMARY KEY, by their rowids
abbrev pub keyless_row : ℕ → List ℕ → List ℕ → TableRow
keyless_row rowid text payload = record { rowid = pos rowid; values = Text text ∷ []; payload = payload }

abbrev pub keyless_batch : List Prepared
keyless_batch = rowid_prepared 2 1 Null Delete ∷ rowid_prepared 1 10 (Text (codes "y")) Insert ∷ []
