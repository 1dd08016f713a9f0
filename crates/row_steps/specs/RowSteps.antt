-- What a prepared row does with a row, by whether it meets one and by that row's values alone.
use Rattle.std.specs.Prelude.{ℕ, ℤ, suc, ◌&&◌, not, Bool, if◌then◌else◌, List, length, Option, Some, None}
use Rattle.rbu_value.specs.declared.value.Value.{Value}
use Rattle.rbu_rows.specs.declared.control.Control.{Control}
use Rattle.rbu_rows.specs.declared.control.Control.TheVariants.{Insert, Replace, Delete, Update}
use Rattle.rbu_rows.specs.declared.prepared.Prepared.{Prepared}
use Rattle.schema_spec.specs.declared.schema.Table.{Table}
use Rattle.database_spec.specs.Rows.{TableRow, with_rowid}
use Rattle.prepared_spec.specs.declared.violation.Violation.{Violation}
use Rattle.prepared_spec.specs.declared.violation.Violation.TheVariants.{NotNull, KeyPresent, RowidsSpent}
use Rattle.prepared_spec.specs.Tables.{makes_row, marked, new_rowid}
use Rattle.prepared_spec.specs.StepFaults.{null_column, written_columns, is_insert, is_spent}

-- the first column that is written as NULL and may not be
abbrev pub written_null : Table → Bool → Prepared → Option (List ℕ)
written_null table met prepared = null_column table.rowid_column 0 table.columns (written_columns prepared.control met (length table.columns)) prepared.values

-- its fault where it meets a row or not
abbrev pub fault_where : List ℕ → Table → ℤ → ℕ → Bool → Prepared → Option Violation
fault_where name table g taken met prepared =
    elim (written_null table met prepared) as (λ _. Option Violation) [
      | Some column ↦ Some (NotNull name prepared.data_rowid column)
      | None ↦
          if is_insert prepared.control && met then Some (KeyPresent name prepared.data_rowid)
          else (if (makes_row prepared.control && not met) && is_spent table g (suc taken) then Some (RowidsSpent name) else None)
    ]

-- the values of a row that it meets, behind it
abbrev pub values_where : Table → ℤ → List Value → Control → List Value → Option (List Value)
values_where table rowid old Insert values = Some old
values_where table rowid old Replace values = Some (with_rowid table.rowid_column rowid values)
values_where table rowid old Delete values = None
values_where table rowid old (Update marks) values = Some (with_rowid table.rowid_column rowid (marked marks values old))

-- a row by its rowid and values, and the record that holds it
abbrev pub row_of : ℤ × List Value → List ℕ → TableRow
row_of row payload = record { rowid = row.0; values = row.1; payload = payload }

-- the row that it makes, so many rows of its group being new before it
abbrev pub made_values : Table → ℤ → ℕ → Prepared → ℤ × List Value
made_values table g taken prepared =
    (new_rowid table g (suc taken) prepared, with_rowid table.rowid_column (new_rowid table g (suc taken) prepared) prepared.values)
