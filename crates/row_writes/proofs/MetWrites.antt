-- What becomes of the row that is met, by its values.
use Rattle.std.proofs.Common.{◌≡◌, ℕ, Bool, true, false, List, Some, if◌then◌else◌, refl, sym, ap, ◌∙◌, subst}
use Rattle.std.specs.Option.{option_map}
use Rattle.format_spec.specs.Record.{canonical_record}
use Rattle.rbu_value.specs.declared.value.Value.{Value}
use Rattle.rbu_rows.specs.declared.control.Control.{Control}
use Rattle.rbu_rows.specs.declared.control.Control.TheVariants.{Insert, Replace, Delete, Update}
use Rattle.schema_spec.specs.declared.schema.Table.{Table}
use Rattle.database_spec.specs.Rows.{TableRow, with_rowid}
use Rattle.prepared_spec.specs.MembersLaws.{values-itself, true-false}
use Rattle.prepared_spec.specs.Tables.{marked, met_row, same_values, with_values, written_row}
use Rattle.row_writes.specs.declared.write.RowWrite.{RowWrite}
use Rattle.row_writes.specs.declared.write.RowWrite.TheVariants.{Nothing, Put, Delete as Gone}
use Rattle.row_writes.specs.StoredLaws.{stored-rowid, stored-without}
use Rattle.row_writes.specs.RowWrites.{WritesRow, WritesValues}

module _ (format : ℕ) (table : Table) (row : TableRow) where
  -- a row with other values
  with-values : (values : List Value) (write : RowWrite) → WritesValues format table row.values (with_values format table row values).values write → WritesRow format table row (Some (with_values format table row values)) write
  with-values values write = by (same_values row.values (with_rowid table.rowid_column row.rowid values)) refl write
    where
      by : (t : Bool) → same_values row.values (with_rowid table.rowid_column row.rowid values) ≡ t → (write : RowWrite) → WritesValues format table row.values (if t then row else written_row format table row.rowid values).values write → WritesRow format table row (Some (if t then row else written_row format table row.rowid values)) write
      by true e Nothing is = refl
      by true e (Put bytes) is = absurd (true-false (same_values row.values row.values) (values-itself row.values) is.0)
      by true e Gone is = absurd is
      by false e Nothing is = absurd (true-false (same_values row.values (with_rowid table.rowid_column row.rowid values)) is e)
      by false e (Put bytes) is = (
        written_row format table row.rowid values,
        refl,
        record { rowid_is = refl; payload_is = sym (is.1 ∙ ap (canonical_record format) (stored-without table.rowid_column row.rowid values)); canonical = is.1; valued = stored-rowid table.rowid_column row.rowid values },
      )
      by false e Gone is = absurd is

  pub met-written : (control : Control) (values : List Value) (after : List Value) (write : RowWrite) → Some after ≡ option_map (λ (new : TableRow). new.values) (met_row format table row control values)
      → WritesValues format table row.values after write → WritesRow format table row (met_row format table row control values) write
  met-written Insert values after write e is = unchanged write (let same : after ≡ row.values = cc in subst (λ (v : List Value). WritesValues format table row.values v write) same is)
    where
      unchanged : (write : RowWrite) → WritesValues format table row.values row.values write → WritesRow format table row (Some row) write
      unchanged Nothing is = refl
      unchanged (Put bytes) is = absurd (true-false (same_values row.values row.values) (values-itself row.values) is.0)
      unchanged Gone is = absurd is
  met-written Replace values after write e is =
      let same : after ≡ (with_values format table row values).values = cc in with-values values write (subst (λ (v : List Value). WritesValues format table row.values v write) same is)
  met-written Delete values after write e is = absurd (let h : ⊥ = cc in h)
  met-written (Update marks) values after write e is =
      let same : after ≡ (with_values format table row (marked marks values row.values)).values = cc in
      with-values (marked marks values row.values) write (subst (λ (v : List Value). WritesValues format table row.values v write) same is)
