-- The rows that cells are.
use Rattle.std.proofs.Common.{◌≡◌, ℕ, ℤ, List, [], ◌∷◌, refl, sym, ◌∙◌, ap, ap₂, subst, FitsSigned, Some}
use Rattle.std.specs.Int.{w64}
use Rattle.common_spec.specs.Reading.{Reads, OrNone}
use Rattle.rbu_value.specs.declared.value.Value.{Value}
use Rattle.rbu_value.specs.declared.value.Value.TheVariants.{Null}
use Rattle.format_spec.specs.Record.{canonical_record}
use Rattle.small_spec.specs.declared.TargetRow.{TargetRow}
use Rattle.small_spec.specs.declared.PreparedRow.{PreparedRow}
use Rattle.small_spec.specs.SmallFile.{IsNullOrText, IsTargetRow, IsPreparedRow}
use Rattle.small_file.specs.declared.page.PlacedCell.{PlacedCell}
use Rattle.small_file.specs.Pages.{cell_of, IsPlaced}
use Rattle.small_file.specs.Files.{payload_of}
use Rattle.small_file.specs.Records.{prepared_values, IsTargetRecord}
use Rattle.small_file.proofs.Readings.{Reads-some}
use Rattle.small_file.proofs.Rows.{whole_cell-from_view, whole_cell-parts}

module _ (page : List ℕ) (cell : PlacedCell) (placed : IsPlaced page cell) where
  -- a row's payload is whole
  pub target_row-whole : (row : TargetRow) → IsTargetRow (cell_of page cell) row → cell.view.local ≡ cell.view.payload
  target_row-whole row is = (whole_cell-parts page cell row.rowid _ placed is.1.2).whole

  pub target_row-record : (row : TargetRow) → IsTargetRow (cell_of page cell) row → IsTargetRecord (payload_of page cell)
  target_row-record row is = (is.1.0, is.1.1, (whole_cell-parts page cell row.rowid _ placed is.1.2).payload_is)

  -- a cell with the record of a row is that row alone
  pub target_row-reads : cell.view.local ≡ cell.view.payload → IsTargetRecord (payload_of page cell)
      → Reads (OrNone (IsTargetRow (cell_of page cell))) (Some (record { rowid = cell.view.rowid; cell = cell_of page cell }))
  target_row-reads whole is =
      Reads-some (IsTargetRow (cell_of page cell)) (record { rowid = cell.view.rowid; cell = cell_of page cell })
      (refl, (is.0, is.1, whole_cell-from_view page cell (canonical_record 4 (Null ∷ is.0 ∷ [])) placed whole is.2))
      (λ other also. ap₂ (λ z s. record { rowid = z; cell = s }) (whole_cell-parts page cell other.rowid _ placed also.1.2).rowid_is also.0)

  pub prepared_row-whole : (row : PreparedRow) → IsPreparedRow (cell_of page cell) row → cell.view.local ≡ cell.view.payload
  prepared_row-whole row is = (whole_cell-parts page cell row.data_rowid _ placed is.1).whole

  pub prepared_row-record : (row : PreparedRow) → IsPreparedRow (cell_of page cell) row → payload_of page cell ≡ canonical_record 4 (prepared_values row.key row.value)
  prepared_row-record row is = (whole_cell-parts page cell row.data_rowid _ placed is.1).payload_is

  prepared_row-same : (row : PreparedRow) (rowid key : ℤ) (v : Value) → rowid ≡ row.data_rowid → key ≡ row.key → v ≡ row.value → record { data_rowid = rowid; key = key; value = v } ≡ row
  prepared_row-same row rowid key v a b c =
      ap (λ x. record { data_rowid = x; key = key; value = v }) a
      ∙ ap (λ x. record { data_rowid = row.data_rowid; key = x; value = v }) b
      ∙ ap (λ x. record { data_rowid = row.data_rowid; key = row.key; value = x }) c

  -- a cell with the record of an insert is that insert alone
  pub prepared_row-reads : (rowid key : ℤ) (v : Value) → rowid ≡ cell.view.rowid → cell.view.local ≡ cell.view.payload → FitsSigned w64 key → IsNullOrText v
      → payload_of page cell ≡ canonical_record 4 (prepared_values key v)
      → ((k : ℤ) (w : Value) → FitsSigned w64 k → IsNullOrText w → payload_of page cell ≡ canonical_record 4 (prepared_values k w) → (key ≡ k) × (v ≡ w))
      → Reads (OrNone (IsPreparedRow (cell_of page cell))) (Some (record { data_rowid = rowid; key = key; value = v }))
  prepared_row-reads rowid key v e whole fits p is only =
      subst (λ z. Reads (OrNone (IsPreparedRow (cell_of page cell))) (Some (record { data_rowid = z; key = key; value = v }))) (sym e)
      (Reads-some (IsPreparedRow (cell_of page cell)) (record { data_rowid = cell.view.rowid; key = key; value = v })
      (p, whole_cell-from_view page cell (canonical_record 4 (prepared_values key v)) placed whole is, fits)
      (λ other also.
      let parts = whole_cell-parts page cell other.data_rowid _ placed also.1 in
      let same = only other.key other.value also.2 also.0 parts.payload_is in
      prepared_row-same other cell.view.rowid key v parts.rowid_is same.0 same.1))
